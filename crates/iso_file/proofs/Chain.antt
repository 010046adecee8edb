-- Sides up to the first one between which and the next a variable is lost: each has all variables of those after it, so
-- if one of them loses a variable, each later one does too.
use Rattle.std.proofs.Common.{◌≡◌, ℕ, zero, suc, ◌+◌, ◌-◌, ◌<◌, ◌≤◌, ◌⊎◌, inl, inr, Bool, true, false, ◌&&◌, ◌||◌, true≢false}
use Rattle.std.proofs.Common.{List, [], length, get_or, slice_get, Option, Some, None, is_some, refl, sym, ap, ◌∙◌, subst}
use Rattle.std.proofs.Common.{arith}
use Rattle.std.proofs.lemmas.List.{get_or_read}
use Rattle.std.proofs.lemmas.Option.{slice_get-get_or, get_or_from_slice_get, slice_get_within}
use Rattle.smpl_patch.specs.declared.pattern.VarDecl.{VarDecl}
use Rattle.smpl_lexer.specs.declared.token.PatchToken.{PatchToken}
use Rattle.iso_file.specs.Lost.{lost_between, BothWays, MayBecome, Loses, Before, FirstLost, KeepsAll}
use Rattle.iso_file.specs.Stepped.{IsLostAt, IsLostFrom, IsLost, IsStart, side_at, IsUnbroken, IsBreak}
use Rattle.iso_file.proofs.Keeping.{Keeps, keeps_itself, keeps_through, none_keeps, keeps_none, none_not_some}

either : (n m : ℕ) → (n ≤ m) ⊎ (m < n)
either n m = grind arith

whole_by : (a b : Option ℕ) (w : Bool) → (is_some a || (w && is_some b)) ≡ false → (a ≡ None) × (w ≡ true → b ≡ None)
whole_by (Some n) b w e = absurd (true≢false e)
whole_by None (Some n) true e = absurd (true≢false e)
whole_by None (Some n) false e = (refl, λ h. absurd (true≢false (sym h)))
whole_by None None w e = (refl, λ h. refl)

broken_by : (a b : Option ℕ) (w : Bool) → (is_some a || (w && is_some b)) ≡ true
    → ((n : ℕ) × (a ≡ Some n)) ⊎ ((n : ℕ) × (w ≡ true) × (b ≡ Some n))
broken_by (Some n) b w e = inl (n, refl)
broken_by None (Some n) true e = inr (n, refl, refl)
broken_by None (Some n) false e = absurd (true≢false (sym e))
broken_by None None true e = absurd (true≢false (sym e))
broken_by None None false e = absurd (true≢false (sym e))

module _ (vars : List VarDecl) (sides : List (List PatchToken)) (arrows : List Bool) where
  abbrev pub lost_at : ℕ → ℕ → Option ℕ
  lost_at i j = lost_between vars (side_at sides i) (side_at sides j)

  abbrev Kept : ℕ → ℕ → Type 0
  Kept i j = Keeps vars (side_at sides i) (side_at sides j)

  -- what is lost by a pair that loses a variable
  pub loses_at : (i j at : ℕ) → Loses vars sides arrows i j at → lost_at i j ≡ Some at
  loses_at i j at l =
      ap (λ s. lost_between vars s (side_at sides j)) (get_or_from_slice_get sides i l.from [] l.from_is)
      ∙ ap (λ s. lost_between vars l.from s) (get_or_from_slice_get sides j l.to [] l.to_is) ∙ l.lost

  pub loses_of : (i j at : ℕ) → MayBecome arrows i j → i < length sides → j < length sides → lost_at i j ≡ Some at → Loses vars sides arrows i j at
  loses_of i j at may i_in j_in e = record {
    may = may;
    from = side_at sides i;
    from_is = slice_get-get_or sides i [] i_in;
    to = side_at sides j;
    to_is = slice_get-get_or sides j [] j_in;
    lost = e;
  }

  pub first_within : (i j at : ℕ) → Loses vars sides arrows i j at → i < length sides
  first_within i j at l = slice_get_within sides i l.from l.from_is

  pub second_within : (i j at : ℕ) → Loses vars sides arrows i j at → j < length sides
  second_within i j at l = slice_get_within sides j l.to l.to_is

  pub not_itself : (i j at : ℕ) → j ≡ i → lost_at i j ≡ Some at → ⊥
  not_itself i j at same e =
      none_not_some (lost_at i j) at
      (ap (λ n. lost_at i n) same ∙ keeps_none vars (side_at sides i) (side_at sides i) (keeps_itself vars (side_at sides i))) e

  kept_loses : (i j at : ℕ) → Kept i j → Loses vars sides arrows i j at → ⊥
  kept_loses i j at k l = none_not_some (lost_at i j) at (keeps_none vars (side_at sides i) (side_at sides j) k) (loses_at i j at l)

  module _ (k : ℕ) (unbroken : IsUnbroken vars sides arrows k) where
    step_down : (n : ℕ) → n < k → Kept n (n + 1)
    step_down n h =
        none_keeps vars (side_at sides n) (side_at sides (n + 1)) (whole_by (lost_at n (n + 1)) (lost_at (n + 1) n) (get_or arrows n false) (unbroken n h)).0

    step_up : (n : ℕ) → n < k → slice_get arrows n ≡ Some true → Kept (n + 1) n
    step_up n h both =
        none_keeps vars (side_at sides (n + 1)) (side_at sides n)
        ((whole_by (lost_at n (n + 1)) (lost_at (n + 1) n) (get_or arrows n false) (unbroken n h)).1 (get_or_from_slice_get arrows n true false both))

    down : (d i j : ℕ) → j ≡ i + d → j ≤ k → Kept i j
    down zero i j e h =
        let same : i ≡ j = omega arith in
        subst (λ n. Kept i n) same (keeps_itself vars (side_at sides i))
    down (suc d) i j e h =
        let near : i + d < k = omega arith in
        let last : i + d + 1 ≡ j = omega arith in
        let one = down d i (i + d) refl (omega arith) in
        subst (λ n. Kept i n) last (keeps_through vars (side_at sides i) (side_at sides (i + d)) (side_at sides (i + d + 1)) one (step_down (i + d) near))

    up : (d i j : ℕ) → j ≡ i + d → j ≤ k → BothWays arrows i j → Kept j i
    up zero i j e h both =
        let same : i ≡ j = omega arith in
        subst (λ n. Kept n i) same (keeps_itself vars (side_at sides i))
    up (suc d) i j e h both =
        let near : i + d < k = omega arith in
        let last : i + d + 1 ≡ j = omega arith in
        let one = up d i (i + d) refl (omega arith) (λ n a b. both n a (omega arith)) in
        let back = step_up (i + d) near (both (i + d) (omega arith) (omega arith)) in
        subst (λ n. Kept n i) last (keeps_through vars (side_at sides (i + d + 1)) (side_at sides (i + d)) (side_at sides i) back one)

    within : (i j : ℕ) → i ≤ k → j ≤ k → MayBecome arrows i j → Kept i j
    within i j h l (inl before) = down (j - i) i j (omega arith) l
    within i j h l (inr (behind, both)) = up (i - j) j i (omega arith) h both

    -- a side before one that loses nothing loses nothing
    pub falls : (i m : ℕ) → i ≤ m → m ≤ k → IsLostFrom vars sides arrows m None → IsLostFrom vars sides arrows i None
    falls i m h l none j at loses = by (either j k)
      where
        behind : k < j → (o : Option ℕ) → lost_at m j ≡ o → ⊥
        behind far (Some n) e =
            let j_in = second_within i j at loses in
            none j n (loses_of m j n (inl (omega arith)) (omega arith) j_in e)
        behind far None e =
            let one = down (m - i) i m (omega arith) l in
            let two = none_keeps vars (side_at sides m) (side_at sides j) e in
            kept_loses i j at (keeps_through vars (side_at sides i) (side_at sides m) (side_at sides j) one two) loses

        by : (j ≤ k) ⊎ (k < j) → ⊥
        by (inl near) = kept_loses i j at (within i j (omega arith) near loses.may) loses
        by (inr far) = behind far (lost_at m j) refl

    pub keeps_all : length sides ≤ k + 1 → KeepsAll vars sides arrows
    keeps_all all i j at loses =
        let i_in = first_within i j at loses in
        let j_in = second_within i j at loses in
        kept_loses i j at (within i j (omega arith) (omega arith) loses.may) loses

  -- what is lost by the first of the sides that loses a variable
  pub first_lost : (i at : ℕ) → ((l : ℕ) → l < i → IsLostFrom vars sides arrows l None) → IsLostAt vars sides arrows i at → FirstLost vars sides arrows at
  first_lost i at before l = record { i = i; j = l.j; loses = l.loses; least = λ a b n sooner other. by a b n other sooner }
    where
      by : (a b n : ℕ) → Loses vars sides arrows a b n → Before a b i l.j → ⊥
      by a b n other (inl less) = before a less b n other
      by a b n other (inr (same, less)) = l.least b n less (subst (λ m. Loses vars sides arrows m b n) same other)

  -- after a side that loses nothing, if a variable is lost between it and the next, the next loses one
  pub next_lost : (k : ℕ) (found : Option ℕ) → length sides ≡ length arrows + 1 → IsBreak vars sides arrows k → IsLostFrom vars sides arrows k None
      → IsLostFrom vars sides arrows (k + 1) found → IsLost vars sides arrows found
  next_lost k (Some at) long broken none found =
      first_lost (k + 1) at (λ l less. falls k broken.before l k (omega arith) (omega arith) none) found
  next_lost k None long broken none found =
      let k_in = broken.within in
      absurd (by (broken_by (lost_at k (k + 1)) (lost_at (k + 1) k) (get_or arrows k false) broken.here))
    where
      by : ((n : ℕ) × (lost_at k (k + 1) ≡ Some n)) ⊎ ((n : ℕ) × (get_or arrows k false ≡ true) × (lost_at (k + 1) k ≡ Some n)) → ⊥
      by (inl (n, e)) =
          let k_in = broken.within in
          none (k + 1) n (loses_of k (k + 1) n (inl (omega arith)) (omega arith) (omega arith) e)
      by (inr (n, way, e)) =
          let k_in = broken.within in
          let here : slice_get arrows k ≡ Some true = slice_get-get_or arrows k false k_in ∙ ap (λ b. Some b) way in
          let both : BothWays arrows k (k + 1) = λ m a b. ap (slice_get arrows) (omega arith) ∙ here in
          found k n (loses_of (k + 1) k n (inr (omega arith, both)) (omega arith) (omega arith) e)

  -- ---- the sides that one may become, from the first on

  pub none_before : (i start j at : ℕ) → IsStart arrows i start → j < start → Loses vars sides arrows i j at → ⊥
  none_before i start j at s less loses = by loses.may
    where
      by : MayBecome arrows i j → ⊥
      by (inl before) =
          let w = s.within in
          absurd (omega arith)
      by (inr (behind, both)) = s.first j less both

  pub lost_here : (i start j at : ℕ) → IsStart arrows i start → start ≤ j → i < length sides → j < length sides → lost_at i j ≡ Some at
      → ((l n : ℕ) → l < j → Loses vars sides arrows i l n → ⊥) → IsLostAt vars sides arrows i at
  lost_here i start j at s near i_in j_in e before = record { j = j; loses = loses_of i j at (by (either j i)) i_in j_in e; least = before }
    where
      apart : (j ≡ i) ⊎ (j < i) → MayBecome arrows i j
      apart (inl same) = absurd (not_itself i j at same e)
      apart (inr less) = inr (less, λ n a b. s.leads n (omega arith) b)

      by : (j ≤ i) ⊎ (i < j) → MayBecome arrows i j
      by (inr less) = inl less
      by (inl most) = apart (grind arith)

  pub none_here : (i j at : ℕ) → lost_at i j ≡ None → Loses vars sides arrows i j at → ⊥
  none_here i j at e loses = none_not_some (lost_at i j) at e (loses_at i j at loses)

  -- ---- what a comparison of two sides says

  pub looked : (i j : ℕ) (one a two b : List PatchToken) (o : Option ℕ) → o ≡ lost_between vars one two → one ≡ a → a ≡ get_or sides i a → i < length sides
      → two ≡ b → b ≡ get_or sides j b → j < length sides → o ≡ lost_at i j
  looked i j one a two b o e one_is a_is i_in two_is b_is j_in =
      e ∙ ap (λ (s : List PatchToken). lost_between vars s two) (one_is ∙ get_or_read sides i a i_in a_is [])
      ∙ ap (λ (s : List PatchToken). lost_between vars (side_at sides i) s) (two_is ∙ get_or_read sides j b j_in b_is [])

  pub found_here : (i start j : ℕ) (o : Option ℕ) → IsStart arrows i start → start ≤ j → i < length sides → j < length sides
      → o ≡ lost_at i j → is_some o ≡ true
      → ((l n : ℕ) → l < j → Loses vars sides arrows i l n → ⊥) → IsLostFrom vars sides arrows i o
  found_here i start j (Some at) s near i_in j_in e some before = lost_here i start j at s near i_in j_in (sym e) before
  found_here i start j None s near i_in j_in e some before = absurd (true≢false (sym some))

  pub none_more : (i j : ℕ) (o : Option ℕ) → o ≡ lost_at i j → is_some o ≡ false → ((l n : ℕ) → l < j → Loses vars sides arrows i l n → ⊥)
      → (l n : ℕ) → l < j + 1 → Loses vars sides arrows i l n → ⊥
  none_more i j (Some at) e none before l n less loses = true≢false none
  none_more i j None e none before l n less loses = by (either j l)
    where
      by : (j ≤ l) ⊎ (l < j) → ⊥
      by (inr sooner) = before l n sooner loses
      by (inl most) =
          let same : l ≡ j = omega arith in
          none_here i j n (sym e) (subst (λ (m : ℕ). Loses vars sides arrows i m n) same loses)

  pub least_found : (h : ℕ) (o : Option ℕ) → ((l : ℕ) → l < h → IsLostFrom vars sides arrows l None) → IsLostFrom vars sides arrows h o → is_some o ≡ true
      → IsLost vars sides arrows o
  least_found h (Some at) before found some = first_lost h at before found
  least_found h None before found some = absurd (true≢false (sym some))

pub none_of : {A : Type 0} (o : Option A) → is_some o ≡ false → o ≡ None
none_of (Some a) h = absurd (true≢false h)
none_of None h = refl
