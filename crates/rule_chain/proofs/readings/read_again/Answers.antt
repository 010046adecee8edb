use Rattle.std.proofs.Common.{◌∙◌, subst, sym, List}
use Rattle.c_lexer.specs.Pieces.{TextPiece}
use Rattle.rule_chain.specs.RuleEdits.Pages.{page_in}
use Rattle.rule_chain.specs.RuleRun.States.{IsCut}
use Rattle.rule_chain.proofs.readings.read_again.Goals as goal

pub returns-clause-cut : goal.returns-clause-cut
returns-clause-cut c =
    let own : IsCut (page_in c.args.text.now) c.in_ok-lexed.lexed = record {
      text = c.in_ok-lexed.ensures.text ∙ c.as_slice.ensures.value;
      cuts = c.in_ok-lexed.ensures.cuts;
      ids = c.in_ok-lexed.ensures.ids ∙ c.as_slice-2.ensures.value;
    } in
    subst (λ (p : List TextPiece). IsCut (page_in c.args.text.now) p) (sym c.in_ok-file.ensures.pieces) own

pub returns-clause-reads : goal.returns-clause-reads
returns-clause-reads c = c.in_ok-file.ensures.reads

pub returns-clause-shown : goal.returns-clause-shown
returns-clause-shown c = c.in_ok-file.ensures.shown
