-- A sequence, suffix by suffix: the formula of each is that of its first element before the next one's.
use Rattle.std.specs.Prelude.{Option, None, Some, List, [], ◌∷◌}
use Rattle.smpl_terms.specs.declared.var.Var.{Var}
use Rattle.smpl_patch.specs.declared.elem.Elem.{Elem}
use Rattle.smpl_patch.specs.Bodies.{Element, element}
use Rattle.ctl_formula.specs.Plain.{Plain, True}
use Rattle.ctl_table.specs.Table as table
use Rattle.pattern_vars.specs.declared.var_places.place.Place.{Place}
use Rattle.ctl_table.specs.Settings.{suffix_at, start_with}

abbrev pub first : List Elem → Option Element
first [] = None
first (e ∷ es) = Some (element e)

abbrev pub begins : List Elem → table.Start → table.Start
begins [] s = s
begins (e ∷ es) s = start_with (element e)

abbrev pub along : table.Setting → table.Follow → List Elem → List Place → Option Element → List Var → Plain
along m k [] ps before t = k.at t
along m k (e ∷ es) [] before t = True
along m k (e ∷ es) (p ∷ ps) before t =
    suffix_at m (first es) (element e) (record { start = begins es k.start; at = along m k es ps (Some (element e)) }) p before t
