-- For internal use: numbers of declarations by the names of their variables.
use Rattle.std.specs.Prelude.{◌≡◌, ℕ, cond, List, [], ◌∷◌, Option, None, Some, slice_get}
use Rattle.c_terms.specs.Same.{same_bytes}
use Rattle.smpl_patch.specs.declared.pattern.VarDecl.{VarDecl}
use Rattle.smpl_patch.specs.Patterns.{declared_as}

-- the number of a name
abbrev pub number_in : List (List ℕ × ℕ) → List ℕ → Option ℕ
number_in [] name = None
number_in (p ∷ ps) name = cond (same_bytes p.0 name) (Some p.1) (number_in ps name)

-- the declaration of this number
abbrev pub at : List VarDecl → Option ℕ → Option VarDecl
at decls None = None
at decls (Some i) = slice_get decls i

-- the declaration with a name's number is what the last of the declarations declare the name as
abbrev pub Finds : List (List ℕ × ℕ) → List VarDecl → List VarDecl → Type 0
Finds numbers decls last = (name : List ℕ) → at decls (number_in numbers name) ≡ declared_as last name
