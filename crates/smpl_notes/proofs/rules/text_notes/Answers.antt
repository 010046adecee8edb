use Rattle.std.proofs.Common.{◌++◌, sym, ap, ◌∙◌, subst, arith, List}
use Rattle.std.specs.Prelude.{All}
use Rattle.smpl_lexer.specs.declared.text.RuleText.{RuleText}
use Rattle.smpl_lexer.specs.Texts.{IsSmallRule}
use Rattle.smpl_notes.specs.Names.{declared_words}
use Rattle.smpl_notes.specs.Notes.{sign_notes, rule_notes, notes_from}
use Rattle.smpl_notes.proofs.LoopLemmas.{notes-step, notes-end, body-short}
use Rattle.smpl_notes.proofs.rules.text_notes.Goals as goal

pub rule_notes-requires : goal.rule_notes-requires
rule_notes-requires c =
    let small = subst (λ (xs : List RuleText). All IsSmallRule xs) (sym c.as_slice-texts.ensures) c.requires.each in
    body-short c.as_slice-texts.result.now c.loop-i.i c.index-texts-i.result small (omega arith) c.index-texts-i.is

pub loop-i-preserved : goal.loop-i-preserved
loop-i-preserved c =
    let bytes = c.args.bytes.now in
    let texts = c.as_slice-texts.result.now in
    record {
      same = c.in_ok-more.ensures.same ∙ c.loop-i.invariant.same;
      done = notes-step bytes (declared_words texts) texts c.args.rules.now c.loop-i.i c.index-texts-i.result c.index-rules-i.result
          c.loop-i.found c.in_ok-more.more c.append.new.self _ (omega arith) (omega arith) c.index-texts-i.is c.index-rules-i.is
          (c.in_ok-more.ensures.notes
          ∙ ap (λ z. rule_notes z c.in_ok-declared.declared c.loop-i.i c.index-texts-i.result c.index-rules-i.result) c.loop-i.invariant.same
          ∙ ap (λ z. rule_notes bytes z c.loop-i.i c.index-texts-i.result c.index-rules-i.result) c.in_ok-declared.ensures)
          c.in_ok-append.ensures c.loop-i.invariant.done;
    }

pub returns : goal.returns
returns c =
    let bytes = c.args.bytes.now in
    notes-end bytes (declared_words c.as_slice-texts.result.now) c.as_slice-texts.result.now c.args.rules.now c.loop-i.i c.loop-i.found _
    (omega arith) c.loop-i.invariant.done
    ∙ ap (λ xs. sign_notes xs ++ notes_from bytes (declared_words xs) 0 xs c.args.rules.now) c.as_slice-texts.ensures
