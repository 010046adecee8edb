use Rattle.std.proofs.Common.{length, arith}
use Rattle.std.proofs.lemmas.Option.{slice_get_within}
use Rattle.c_lexer.specs.Ids.{ids_of}
use Rattle.rule_chain.specs.RuleEdits.Faults.IsEditFault.{conflict}
use Rattle.rule_chain.proofs.RuleEdits.ClashLemmas.{clash_within}
use Rattle.rule_chain.proofs.rule_edits.texts.conflict.Goals as goal

pub id_of-id-requires : goal.id_of-id-requires
id_of-id-requires c = clash_within (length (ids_of c.args.lexed.now)) c.args.edits c.args.clash c.requires.fit c.requires.first.clash

pub take-first-requires : goal.take-first-requires
take-first-requires c =
    let first = c.requires.first.clash in
    record {
      differ = λ e. omega arith;
      first_within = slice_get_within c.args.edits c.args.clash.first first.first first.first_is;
      second_within = slice_get_within c.args.edits c.args.clash.second first.second first.second_is;
    }

pub returns : goal.returns
returns c = record {
  fault = λ next. conflict c.args.clash c.id_of-id.result c.take-first.result.0 c.take-first.result.1 c.requires.first c.id_of-id.ensures
      c.take-first.ensures.first c.take-first.ensures.second;
}
