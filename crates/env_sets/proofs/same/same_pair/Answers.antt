use Rattle.std.proofs.Common.{sym, ◌∙◌}
use Rattle.env_sets.proofs.SameLemmas.{pair_alike}
use Rattle.env_sets.proofs.same.same_pair.Goals as goal

pub returns-then-same_var : goal.returns-then-same_var
returns-then-same_var c = λ h. pair_alike c.args.a.now c.args.b.now (sym c.same_var.ensures.value ∙ c.if-same_var.true) (c.same_bound.ensures h)
