-- Values that are places, or terms of tokens of C.
use Rattle.std.specs.Prelude.{List, [], ◌∷◌}
use Rattle.c_terms.specs.Trees.{leaves}
use Rattle.smpl_terms.specs.declared.value.Value.{Value}
use Rattle.smpl_terms.specs.declared.value.Value.TheVariants.{Term, Place}
use Rattle.edit_marks.specs.Plain.{AreCTokens}

-- a place, or a term of tokens of C that are no Strays
abbrev pub IsCValue : Value → Type 0
IsCValue (Term t) = AreCTokens (leaves t)
IsCValue (Place id) = Unit {0}

abbrev pub AreCValues : List Value → Type 0
AreCValues [] = Unit {0}
AreCValues (v ∷ values) = IsCValue v × AreCValues values
