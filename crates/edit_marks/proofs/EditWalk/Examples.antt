-- The definitions on small cases.
use Rattle.std.proofs.Common.{◌≡◌, refl, List, [], ◌∷◌}
use Rattle.std.specs.Prelude.{None, Some}
use Rattle.edit_marks.specs.declared.removals.Aligned.{Aligned}
use Rattle.pat_match.specs.declared.pat_pairs.pairs.AlignedToken.{AlignedToken}
use Rattle.edit_marks.specs.EditWalk.Keys.{number_of}
use Rattle.edit_marks.specs.EditWalk.Named.{pairs_of}

-- a key's first number
first_key : number_of (5 ∷ 7 ∷ 5 ∷ []) 5 ≡ Some 0
first_key = refl

second_key : number_of (5 ∷ 7 ∷ 5 ∷ []) 7 ≡ Some 1
second_key = refl

no_key : number_of (5 ∷ 7 ∷ 5 ∷ []) 6 ≡ None
no_key = refl

-- ids of a file that was edited before: 9 is its second token, and no token has the id 4
by_numbers : pairs_of (3 ∷ 9 ∷ 12 ∷ []) (Some ((let p : AlignedToken = record { pattern = 2; files = 9 ∷ 4 ∷ 12 ∷ [] } in p) ∷ []))
    ≡ (let q : Aligned = record { pattern = 2; files = 1 ∷ 2 ∷ [] } in q) ∷ []
by_numbers = refl

nothing_aligned : pairs_of (3 ∷ 9 ∷ 12 ∷ []) None ≡ []
nothing_aligned = refl
