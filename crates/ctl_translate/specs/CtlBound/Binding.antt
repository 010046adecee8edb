-- What a formula says about a variable.
use Rattle.smpl_terms.specs.declared.var.Var.{Var}
use Rattle.ctl_formula.specs.Plain.{Plain}
use Rattle.ctl_formula.specs.Bounds.{Surely, bound, bound_not, guarded_for}
use Rattle.ctl_translate.specs.declared.ctl_bound.masks.Binds.{Binds}

abbrev pub binds_at : Surely → Var → Plain → Binds
binds_at sure x f = record { holding = bound sure f x; failing = bound_not sure f x; guarded = guarded_for sure x f }
