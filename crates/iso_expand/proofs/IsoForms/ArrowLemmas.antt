-- Arrows that all go both ways.
use Rattle.std.proofs.Common.{◌≡◌, ℕ, ◌+◌, ◌-◌, ◌≤◌, ◌<◌, ◌&&◌, Bool, true, false, List, [], take, drop, length, get_or, refl, sym, ap, ◌∙◌, arith}
use Rattle.std.specs.Prelude.{not, nat_lt, nat_eq}
use Rattle.std.specs.List.{list_all}
use Rattle.std.proofs.lemmas.List.{get_or-drop, drop_all, take_all, length-drop}
use Rattle.std.proofs.lemmas.List.Folds.{list_all_more}
use Rattle.std.proofs.lemmas.Bool.Decides.{nat_tests}
use Rattle.std.proofs.lemmas.Grind.{common_steps}
use Rattle.iso_expand.specs.IsoForms.Replacing.{may_become}
use Rattle.iso_expand.specs.IsoForms.Stepped.{IsLowest}

module _ (both : List Bool) where
  -- all arrows from one side up to another
  abbrev run : (j k : ℕ) → Bool
  run j k = list_all (λ b. b) (take (k - j) (drop j both))

  run_none : (j : ℕ) → run j j ≡ true
  run_none j = let n : j - j ≡ 0 = omega arith in ap (λ (x : ℕ). list_all (λ b. b) (take x (drop j both))) n

  run_more : (j k : ℕ) → j ≤ k → k < length both → run j (k + 1) ≡ (run j k && get_or both k false)
  run_more j k h w =
      let n : (k + 1) - j ≡ (k - j) + 1 = omega arith in
      let m : k - j < length (drop j both) = omega (arith, length-drop j both) in
      let at : j + (k - j) ≡ k = omega arith in
      ap (λ (x : ℕ). list_all (λ b. b) (take x (drop j both))) n
      ∙ list_all_more (λ b. b) (drop j both) (k - j) false m
      ∙ ap (λ (b : Bool). run j k && b) (get_or-drop j both (k - j) false ∙ ap (λ (x : ℕ). get_or both x false) at)

  -- the arrows up to side k that all go both ways begin at this side
  abbrev pub Leads : (k low : ℕ) → Type 0
  Leads k low = (j : ℕ) → j ≤ k → list_all (λ b. b) (take (k - j) (drop j both)) ≡ not (nat_lt j low)

  pub leads_within : (k low : ℕ) → Leads k low → low ≤ k
  leads_within k low h =
      let e : not (nat_lt k low) ≡ true = sym (h k (omega arith)) ∙ run_none k in
      grind (arith, nat_tests, common_steps)

  at_end : (k low : ℕ) → low ≤ k → (j : ℕ) → j ≡ k → run j k ≡ not (nat_lt j low)
  at_end k low h j e =
      let a : run j k ≡ true = ap (λ (x : ℕ). run x k) e ∙ run_none k in
      grind (arith, nat_tests, common_steps)

  by_place : (k low : ℕ) → low ≤ k + 1 → ((j : ℕ) → j ≤ k → run j (k + 1) ≡ not (nat_lt j low)) → Leads (k + 1) low
  by_place k low h before j w = by (nat_eq j (k + 1)) refl
    where
      by : (b : Bool) → nat_eq j (k + 1) ≡ b → run j (k + 1) ≡ not (nat_lt j low)
      by true e = at_end (k + 1) low h j (grind (arith, nat_tests))
      by false e = let n : j ≤ k = grind (arith, nat_tests) in before j n

  -- an arrow that goes both ways
  pub leads_more : (k low : ℕ) → k < length both → Leads k low → get_or both k false ≡ true → Leads (k + 1) low
  leads_more k low w h b =
      let l = leads_within k low h in
      by_place k low (omega arith) (λ j n.
      let e = run_more j k n w in
      let f = h j n in
      let g : (run j k && get_or both k false) ≡ run j k = ap (λ (x : Bool). run j k && x) b ∙ and_true (run j k) in
      e ∙ g ∙ f)
    where
      and_true : (b : Bool) → b && true ≡ b
      and_true true = refl
      and_true false = refl

  -- an arrow that doesn't
  pub leads_anew : (k low : ℕ) → k < length both → get_or both k false ≡ false → Leads (k + 1) (k + 1)
  leads_anew k low w b =
      by_place k (k + 1) (omega arith) (λ j n.
      let e : run j (k + 1) ≡ false = run_more j k n w ∙ ap (λ (x : Bool). run j k && x) b ∙ and_false (run j k) in
      grind (arith, nat_tests, common_steps))
    where
      and_false : (b : Bool) → b && false ≡ false
      and_false true = refl
      and_false false = refl

  -- after the last arrow there is none
  past : (i j : ℕ) → length both ≤ i → j ≤ length both → run j i ≡ run j (length both)
  past i j h w =
      let a : length (drop j both) ≤ i - j = omega (arith, length-drop j both) in
      let b : length (drop j both) ≤ length both - j = omega (arith, length-drop j both) in
      ap (list_all (λ b. b)) (take_all (i - j) (drop j both) a ∙ sym (take_all (length both - j) (drop j both) b))

  beyond : (i j : ℕ) → length both ≤ j → run j i ≡ true
  beyond i j h = ap (λ (xs : List Bool). list_all (λ b. b) (take (i - j) xs)) (drop_all j both h) ∙ none (i - j)
    where
      none : (n : ℕ) → list_all (λ (b : Bool). b) (take n []) ≡ true
      none n = ap (list_all (λ (b : Bool). b)) (take_all n [] (omega arith))

  -- the lowest side, given the arrows that exist
  pub is_lowest : (i k low : ℕ) → k ≤ i → (k < i → k ≡ length both) → k ≤ length both → Leads k low → IsLowest both i low
  is_lowest i k low w end fits h = record {
    within = let l = leads_within k low h in omega arith;
    leads = λ j b. by j b (nat_eq k i) refl (nat_lt j k) refl;
  }
    where
      by : (j : ℕ) → j < i → (c : Bool) → nat_eq k i ≡ c → (d : Bool) → nat_lt j k ≡ d → run j i ≡ not (nat_lt j low)
      by j b true e d f =
          let s : k ≡ i = grind (arith, nat_tests) in
          ap (λ (x : ℕ). run j x) (sym s) ∙ h j (omega arith)
      by j b false e true f =
          let m : k < i = grind (arith, nat_tests) in
          let n : j < k = grind (arith, nat_tests) in
          let l = end m in
          past i j (omega arith) (omega arith) ∙ ap (λ (x : ℕ). run j x) (sym l) ∙ h j (omega arith)
      by j b false e false f =
          let m : k < i = grind (arith, nat_tests) in
          let n : k ≤ j = grind (arith, nat_tests) in
          let l = end m in
          let o = leads_within k low h in
          let a = beyond i j (omega arith) in
          grind (arith, nat_tests, common_steps)

-- the sides that a side may become
pub becomes_by : (both : List Bool) (i low j : ℕ) → IsLowest both i low → (not (nat_lt j low) && not (nat_eq j i)) ≡ may_become both i j
becomes_by both i low j h = by (nat_lt j i) refl
  where
    by : (b : Bool) → nat_lt j i ≡ b → (not (nat_lt j low) && not (nat_eq j i)) ≡ may_become both i j
    by true e =
        let n : j < i = grind (arith, nat_tests) in
        let l = h.leads j n in
        grind (arith, nat_tests, common_steps)
    by false e =
        let w = h.within in
        grind (arith, nat_tests, common_steps)
