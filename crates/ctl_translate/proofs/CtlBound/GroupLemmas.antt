-- What the masks say about many variables.
use Rattle.std.proofs.Common.{◌≡◌, ℕ, zero, suc, min, ◌+◌, ◌*◌, ◌/◌, ◌%◌, ◌<◌, ◌≤◌, Bool, true, false, true≢false, ◌||◌, cond, nat_lt}
use Rattle.std.proofs.Common.{arith, refl, sym, ap, subst, ◌∙◌, inl, inr, List, [], ◌∷◌, ◌++◌, length, get_or, take, drop, None, Some}
use Rattle.std.specs.Prelude.{slice_get, Vec}
use Rattle.std.specs.Option.{option_map}
use Rattle.std.specs.List.{list_any, position_or_len}
use Rattle.std.proofs.lemmas.Bool.{cases_lt, cases_Bool, cond-true, lt-ltb, le-ltb}
use Rattle.std.proofs.lemmas.List.{get_or-map}
use Rattle.std.proofs.lemmas.Grind.{common_steps}
use Rattle.smpl_terms.specs.declared.var.Var.{Var}
use Rattle.smpl_terms.specs.Vars.{same_var}
use Rattle.pattern_vars.specs.Reads.{has, number_of}
use Rattle.ctl_formula.specs.Bounds.{Surely}
use Rattle.ctl_formula.specs.Tables.{at, plains}
use Rattle.ctl_formula.specs.declared.node.Node.{Node}
use Rattle.ctl_translate.specs.declared.ctl_bound.masks.Masks.{Masks}
use Rattle.ctl_translate.specs.declared.ctl_bound.naming.Mark.{Mark}
use Rattle.ctl_translate.specs.CtlBound.Binding.{binds_at}
use Rattle.ctl_translate.specs.CtlBound.Bits.{bit_binds}
use Rattle.ctl_translate.specs.CtlBound.Saying.{said_of}
use Rattle.ctl_translate.specs.CtlBound.Naming.{AreMarked, SaysOf, lists_of, group_of}

front : (xs : List Masks) (m : Masks) (i : ℕ) → i < length xs → slice_get (xs ++ m ∷ []) i ≡ slice_get xs i
front [] m i h = absurd (omega (arith, h))
front (x ∷ xs) m zero h = refl
front (x ∷ xs) m (suc i) h = front xs m i (omega (arith, h))

last : (xs : List Masks) (m : Masks) → slice_get (xs ++ m ∷ []) (length xs) ≡ Some m
last [] m = refl
last (x ∷ xs) m = last xs m

-- a list that is overwritten keeps its length
pub as-long : (new old : List ℕ) (n : ℕ) → n ≡ length old → length new ≡ length old
    → length (take n (new ++ drop (length new) old)) ≡ length old
as-long new old n h l = grind (arith, common_steps)

-- a list that has been read
pub own-list : {Z : Type 0} (groups : List (Vec Mark Z)) (group : ℕ) (v : Vec Mark Z) (own : List Mark) → group < length groups
    → v ≡ get_or groups group v → own ≡ v.items → own ≡ get_or (lists_of groups) group []
own-list {Z} groups group v own l e o =
    let items = λ (g : Vec Mark Z). g.items in
    o ∙ ap items e ∙ sym (get_or-map items groups group v [] l)

-- the masks of one more group
pub said-more : (ns : List Node) (lists : List (List Mark)) (root group : ℕ) (own : List Mark) (masks more : List Masks)
    (m : Masks) → length masks ≡ group → more ≡ masks ++ m ∷ [] → own ≡ get_or lists group [] → SaysOf ns own root group m
    → ((sure : Surely) (x : Var) (k : ℕ) → k / 64 < group → AreMarked sure x k ns (group_of lists k)
    → said_of masks (Some k) ≡ Some (binds_at sure x (at (plains ns) root)))
    → (sure : Surely) (x : Var) (k : ℕ) → k / 64 < group + 1 → AreMarked sure x k ns (group_of lists k)
    → said_of more (Some k) ≡ Some (binds_at sure x (at (plains ns) root))
said-more ns lists root group own masks more m l e o here before sure x k h marked = elim (cases_lt (k / 64) group) [
  | inl below ↦
      ap (λ z. said_of z (Some k)) e
      ∙ ap (option_map (λ z. bit_binds z (k % 64))) (front masks m (k / 64) (omega (arith, l, below)))
      ∙ before sure x k below marked
  | inr above ↦
      let place : k / 64 ≡ length masks = omega (arith, l, above, h) in
      let same : k / 64 ≡ group = omega (arith, above, h) in
      let number : 64 * group + k % 64 ≡ k = omega (arith, l, above, h) in
      let P : ℕ → Type 0 = λ z. AreMarked sure x z ns own in
      let Q : List Mark → Type 0 = λ z. AreMarked sure x k ns z in
      ap (λ z. said_of z (Some k)) e
      ∙ ap (λ z. option_map (λ z. bit_binds z (k % 64)) (slice_get (masks ++ m ∷ []) z)) place
      ∙ ap (option_map (λ z. bit_binds z (k % 64))) (last masks m)
      ∙ ap Some (here sure x (k % 64) (omega arith)
      (subst P (sym number) (subst Q (ap (λ z. get_or lists z []) same ∙ sym o) marked)))
]

place-within : (test : Var → Bool) (xs : List Var) → list_any test xs ≡ true → position_or_len test xs < length xs
place-within test [] h = absurd cc
place-within test (x ∷ xs) h = elim (cases_Bool (test x)) [
  | inl e ↦ rw e (omega arith)
  | inr e ↦ let later = place-within test xs (ap (λ (z : Bool). z || list_any test xs) (sym e) ∙ h) in rw e (omega (arith, later))
]

-- a variable that is in the list has a number
pub has-number : (vars : List Var) (x : Var) → has vars x ≡ true → (k : ℕ) × (number_of vars x ≡ Some k) × (k < length vars)
has-number vars x h =
    let test : Var → Bool = λ z. same_var z x in
    let within = place-within test vars h in (
      position_or_len test vars,
      cond-true (nat_lt (position_or_len test vars) (length vars)) (Some (position_or_len test vars)) None
          (lt-ltb (position_or_len test vars) (length vars) within),
      within,
    )

place-none : (test : Var → Bool) (xs : List Var) → list_any test xs ≡ false → position_or_len test xs ≡ length xs
place-none test [] h = refl
place-none test (x ∷ xs) h = elim (cases_Bool (test x)) [
  | inl e ↦ absurd (true≢false (ap (λ (z : Bool). z || list_any test xs) (sym e) ∙ h))
  | inr e ↦ let later = place-none test xs (ap (λ (z : Bool). z || list_any test xs) (sym e) ∙ h) in rw e (omega (arith, later))
]

-- and a variable that isn't has none
pub no-number : (vars : List Var) (x : Var) → has vars x ≡ false → number_of vars x ≡ None
no-number vars x h =
    let test : Var → Bool = λ z. same_var z x in
    let n = position_or_len test vars in
    let end : length vars ≤ n = omega (arith, place-none test vars h) in
    ap (λ (z : Bool). cond z (Some n) None) (le-ltb n (length vars) end)

-- there are enough groups
pub groups-cover : (k n : ℕ) → k < n → k / 64 < n / 64 + min 1 (n % 64)
groups-cover k n h = omega (arith, h)
