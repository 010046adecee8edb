use Rattle.std.proofs.Common.{rules}
use Rattle.env_sets.proofs.SameLemmas.{is_alike}
use Rattle.env_sets.proofs.same.same_bound.Goals as goal

pub returns-in-Is-Is : goal.returns-in-Is-Is
returns-in-Is-Is c = λ h. is_alike c.in-Is-Is.v c.in-Is-Is.w c.args.a.now c.args.b.now c.same_value.result (search rules) (search rules) (search rules) h
