use Rattle.std.proofs.Common.{rules, arith, ap, ◌∙◌}
use Rattle.c_rows.specs.declared.symbol.Symbol.TheVariants.{Word}
use Rattle.c_rows.specs.Facts.{leaf_facts}
use Rattle.c_rows.proofs.LengthLemmas.{fine_rest}
use Rattle.c_expr.proofs.RecognizerLemmas.{word_steps, word_shorter}
use Rattle.c_expr.proofs.recognizer.pass_word.Goals as goal

pub returns-in_ok-push-in-len1-up-clause-steps : goal.returns-in_ok-push-in-len1-up-clause-steps
returns-in_ok-push-in-len1-up-clause-steps c = record {
  moves = record {
    leads = word_steps c.args.most c.args.seen.now c.args.word c.args.spot.row.now c.args.spot.at c.args.spot.deepest
        c.args.spot.parts.items c.push.new.self.items c.rest_at.result.now c.first-item.result c.leaf_facts.result
        c.requires c.rest_at.ensures c.in-len1-up.len_at_least c.first-item.is (search rules)
        (c.leaf_facts.ensures.value ∙ ap leaf_facts c.token.ensures.value) c.in_ok-push-in-len1-up.ensures.items;
    ahead = omega arith;
  };
  fine = fine_rest (Word c.args.word) c.args.spot.row.now c.requires;
  smaller = word_shorter c.args.most c.args.seen.now c.args.word c.args.spot.row.now c.args.spot.at c.rest_at.result.now
      c.rest_at.ensures c.in-len1-up.len_at_least;
}
