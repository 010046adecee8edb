-- Names with numbers, as an index keeps them.
use Rattle.std.specs.Prelude.{ℕ, ◌+◌, ◌≡◌, if◌then◌else◌, List, [], ◌∷◌, map, Option, Some, None}
use Rattle.std.specs.Str.{bytes_eq}
use Rattle.smpl_patch.specs.declared.pattern.VarDecl.{VarDecl}

-- the number of a name
abbrev pub number_in : List (List ℕ × ℕ) → List ℕ → Option ℕ
number_in [] name = None
number_in (p ∷ ps) name = if bytes_eq p.0 name then Some p.1 else number_in ps name

-- the first of two numbers
abbrev pub or_else : Option ℕ → Option ℕ → Option ℕ
or_else None m = m
or_else (Some n) m = Some n

-- this name alone has a number
abbrev pub only : List ℕ → ℕ → List ℕ → Option ℕ
only name n other = if bytes_eq name other then Some n else None

-- the number of the first name that equals this one, if the names are numbered from n
abbrev pub place_from : ℕ → List (List ℕ) → List ℕ → Option ℕ
place_from n [] name = None
place_from n (x ∷ xs) name = if bytes_eq x name then Some n else place_from (n + 1) xs name

-- the index holds the first place of each of the names
abbrev pub Indexes : List (List ℕ × ℕ) → List (List ℕ) → Type 0
Indexes index names = (name : List ℕ) → number_in index name ≡ place_from 0 names name

abbrev pub names_of : List VarDecl → List (List ℕ)
names_of vars = map (λ d. d.var.name) vars
