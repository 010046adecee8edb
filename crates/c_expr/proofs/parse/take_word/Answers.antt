use Rattle.std.proofs.Common.{rules, ◌∙◌}
use Rattle.c_rows.specs.declared.symbol.Symbol.TheVariants.{Word}
use Rattle.c_rows.proofs.LengthLemmas.{fine_rest}
use Rattle.c_expr.proofs.OperandLemmas.{deep_word}
use Rattle.c_expr.proofs.CallLemmas.{word_taken, word_smaller}
use Rattle.c_expr.proofs.parse.take_word.Goals as goal

pub returns-clause-takes : goal.returns-clause-takes
returns-clause-takes c = record {
  leads = word_taken c.args.most c.args.word c.args.at.row.now c.args.at.rest.now c.args.at.children c.push.new.self
      c.seen-item.result c.in_ok-token-in-len1-up.token (search rules) c.in-len1-up.len_at_least c.seen-item.is
      (c.in_ok-token-in-len1-up.ensures.same ∙ c.token.ensures.value) (search rules);
  sound = record {
    fine = fine_rest (Word c.args.word) c.args.at.row.now c.requires.fine;
    deep = deep_word c.args.at.children c.push.new.self c.in_ok-token-in-len1-up.token c.args.at.deepest (search rules) c.requires.deep;
  };
  smaller = word_smaller c.args.word c.args.at.row.now c.args.at.rest.now c.in-len1-up.len_at_least;
}
