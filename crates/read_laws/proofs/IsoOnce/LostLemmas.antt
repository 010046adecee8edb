-- At most one place is the first at which a variable is lost: its pair of sides is the least, and a pair has one place.
use Rattle.std.proofs.Common.{◌≡◌, ℕ, ◌<◌, ◌⊎◌, Bool, List, Some, sym, ap, ◌∙◌, inl, inr, arith, slice_get}
use Rattle.smpl_patch.specs.declared.pattern.VarDecl.{VarDecl}
use Rattle.smpl_lexer.specs.declared.token.PatchToken.{PatchToken}
use Rattle.iso_file.specs.Lost.{lost_between, Loses, Before, FirstLost}

order : (a b : ℕ) → (a < b) ⊎ ((a ≡ b) ⊎ (b < a))
order a b = grind arith

-- of two pairs one is before the other, or they are one
pairs : (i j k l : ℕ) → Before i j k l ⊎ (((i ≡ k) × (j ≡ l)) ⊎ Before k l i j)
pairs i j k l = elim (order i k) [
  | inl less ↦ inl (inl less)
  | inr more ↦ elim more [
    | inl same ↦ elim (order j l) [
      | inl less ↦ inl (inr (same, less))
      | inr other ↦ elim other [
        | inl both ↦ inr (inl (same, both))
        | inr greater ↦ inr (inr (inr (sym same, greater)))
      ]
    ]
    | inr greater ↦ inr (inr (inl greater))
  ]
]

module _ (vars : List VarDecl) (sides : List (List PatchToken)) (arrows : List Bool) where
  -- between two sides one place is the first that is lost
  place-once : (i j k l at other : ℕ) → i ≡ k → j ≡ l → Loses vars sides arrows i j at → Loses vars sides arrows k l other → at ≡ other
  place-once i j k l at other e f a b =
      let from : Some a.from ≡ Some b.from = sym a.from_is ∙ ap (λ (n : ℕ). slice_get sides n) e ∙ b.from_is in
      let to : Some a.to ≡ Some b.to = sym a.to_is ∙ ap (λ (n : ℕ). slice_get sides n) f ∙ b.to_is in
      let one : a.from ≡ b.from = cc in
      let two : a.to ≡ b.to = cc in
      let both : Some at ≡ Some other = sym a.lost ∙ ap (λ (ts : List PatchToken). lost_between vars ts a.to) one
      ∙ ap (λ (ts : List PatchToken). lost_between vars b.from ts) two ∙ b.lost in
      cc

  pub lost-once : (at other : ℕ) → FirstLost vars sides arrows at → FirstLost vars sides arrows other → at ≡ other
  lost-once at other a b = elim (pairs a.i a.j b.i b.j) [
    | inl before ↦ absurd (b.least a.i a.j at before a.loses)
    | inr more ↦ elim more [
      | inl same ↦ place-once a.i a.j b.i b.j at other same.0 same.1 a.loses b.loses
      | inr behind ↦ absurd (a.least b.i b.j other behind b.loses)
    ]
  ]
