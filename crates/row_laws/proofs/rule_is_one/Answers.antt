use Rattle.std.specs.Prelude.{IsTrue, length}
use Rattle.c_rows.specs.Trees.{NoRival}
use Rattle.row_laws.proofs.RuleLemmas.{rule, trees_same, le_self}
use Rattle.row_laws.proofs.rule_is_one.Goals as goal

pub returns : goal.returns
returns c = record {
  rule = rule;
  same = λ names may kind xs ys t p d. trees_same names (NoRival names (length xs)) (λ us vs. IsTrue (may us vs)) (length xs)
      (rule names (length xs)) p kind xs ys t (le_self names (length xs)) d;
  back = λ names may kind xs ys t p d. trees_same names (λ us vs. IsTrue (may us vs)) (NoRival names (length xs)) (length xs) p
      (rule names (length xs)) kind xs ys t (le_self names (length xs)) d;
}
