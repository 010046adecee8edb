use Rattle.std.proofs.Common.{arith, map}
use Rattle.std.proofs.lemmas.List.{length-map}
use Rattle.c_terms.specs.Same.{same_tree}
use Rattle.c_terms.proofs.SameLemmas.{all_pass-uneven}
use Rattle.c_terms.proofs.same.+same.Goals as goal

pub same_lists-returns-then-xs-ys : goal.same_lists-returns-then-xs-ys
same_lists-returns-then-xs-ys t c = all_pass-uneven (map same_tree c.args.xs.now) c.args.ys.now (λ e. omega (arith, e, length-map c.args.xs.now same_tree))
