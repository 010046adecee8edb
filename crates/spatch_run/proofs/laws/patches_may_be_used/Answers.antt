use Rattle.std.proofs.Common.{◌≡◌, ◌<◌, ◌^◌, ℕ, true, length, arith}
use Rattle.std.specs.Prelude.{nat_lt}
use Rattle.std.proofs.lemmas.Bool.Decides.{nat_tests}
use Rattle.spatch_run.proofs.laws.patches_may_be_used.Goals as goal

few_of : (n : ℕ) → nat_lt n 4294967296 ≡ true → n < 2 ^ 32
few_of n few = grind (arith, nat_tests)

pub returns : goal.returns
returns c = record {
  read = λ bytes patch read. record {
    few = few_of (length patch.rules) (c.patches_are_sound.ensures.count bytes patch read.spelled);
    formulas = λ f is. c.rules_have_formulas.ensures.fault patch f read.checked is;
    may = λ made are. c.rules_that_are_read_may_run.ensures.may bytes patch made read are;
  };
  expanded = λ bytes isos patch whole read expanded. record {
    few = c.rules_with_forms_may_run.ensures.count bytes isos patch whole read expanded;
    formulas = λ f is. c.rules_with_forms_may_run.ensures.fault bytes isos patch whole f read expanded is;
    may = λ made are. c.rules_with_forms_may_run.ensures.may bytes isos patch whole made read expanded are;
  };
}
