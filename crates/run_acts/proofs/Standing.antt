-- What may be stored under a name, from what a load returned.
use Rattle.std.proofs.Common.{◌≡◌, ℕ, ◌<◌, ◌+◌, List, Option, Some, None, length, sym, refl, arith}
use Rattle.std.specs.Prelude.{IsSomeAnd, IfSome, replicate}
use Rattle.std.proofs.lemmas.List.{length-replicate}
use Rattle.std.specs.FinMap.{get}
use Rattle.outer_io.specs.Files.{Files}
use Rattle.run_acts.specs.Loaded.{Found}

pub found_bytes : (holds : Option Files) (name bytes : List ℕ) → IfSome holds (λ files. get files name ≡ Some bytes) → Found holds name (Some bytes)
found_bytes None name bytes is = refl
found_bytes (Some files) name bytes is = sym is

pub found_none : (holds : Option Files) (name : List ℕ) → IsSomeAnd holds (λ files. get files name ≡ None) → Found holds name None
found_none None name is = absurd is
found_none (Some files) name is = sym is

pub found_long : (holds : Option Files) (name : List ℕ) (limit : ℕ)
    → IfSome holds (λ files. IsSomeAnd (get files name) (λ bytes. limit < length bytes))
    → (under : Option (List ℕ)) × (Found holds name under × IsSomeAnd under (λ bytes. limit < length bytes))
found_long None name limit is = (Some (replicate (limit + 1) 0), (refl, rw length-replicate (omega arith)))
found_long (Some files) name limit is = (get files name, (refl, is))
