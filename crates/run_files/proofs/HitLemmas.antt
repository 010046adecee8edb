-- Whether a file is hit, and whether something was found in it: the returned witnesses say it as those of the state.
use Rattle.std.proofs.Common.{◌≡◌, ◌∙◌, ◌<◌, ◌≤◌, ◌⊎◌, ◌↔◌, ◌&&◌, ◌||◌, true, false, not, Bool}
use Rattle.std.proofs.Common.{ℕ, suc, List, [], ◌∷◌, length, map, refl, sym, ap, inl, inr, arith}
use Rattle.std.specs.Prelude.{Option, Some, None, IsTrue, nat_le, slice_get, unwrap_or, option_map}
use Rattle.std.specs.List.{list_any}
use Rattle.std.specs.Option.{option_map_or}
use Rattle.std.proofs.lemmas.Option.{slice_get-map}
use Rattle.std.proofs.lemmas.List.{length-map}
use Rattle.std.proofs.lemmas.Bool.Decides.{leb_tells}
use Rattle.c_terms.specs.Same.{same_bytes}
use Rattle.run_choices.specs.declared.unread.Unread.{Unread}
use Rattle.smpl_patch.specs.declared.rule.Rule.{Rule}
use Rattle.smpl_patch.specs.declared.rule.Patch.{Patch}
use Rattle.smpl_patch.specs.declared.witness.RuleWitness.{RuleWitness}
use Rattle.rule_chain.specs.RuleWitnesses.Bare.{bare_witness}
use Rattle.rule_chain.specs.RuleRun.States.{Chained}
use Rattle.rule_chain.specs.declared.state.Applied.{Applied}
use Rattle.rule_chain.specs.Results.{AnswersState}
use Rattle.run_files.specs.Treatment.{has_star, is_starred, is_hit}

-- ---- rules that have a star

mapped_or : (o : Option Rule) → unwrap_or (option_map has_star o) false ≡ option_map_or has_star o false
mapped_or None = refl
mapped_or (Some rule) = refl

starred_at : (rules : List Rule) (n : ℕ) → unwrap_or (slice_get (map has_star rules) n) false ≡ option_map_or has_star (slice_get rules n) false
starred_at rules n = ap (λ (o : Option Bool). unwrap_or o false) (slice_get-map has_star rules n) ∙ mapped_or (slice_get rules n)

-- which rules have a star is looked up in a list
pub any_starred : (patch : Patch) (starred : List Bool) (ws : List RuleWitness) → starred ≡ map has_star patch.rules
    → list_any (λ w. unwrap_or (slice_get starred w.rule) false) ws ≡ list_any (is_starred patch) ws
any_starred patch starred [] is = refl
any_starred patch starred (w ∷ ws) is =
    let first = ap (λ (table : List Bool). unwrap_or (slice_get table w.rule) false) is ∙ starred_at patch.rules w.rule in
    let rest = any_starred patch starred ws is in
    λ i. first i || rest i

-- ---- witnesses

any_bare : (patch : Patch) (ws : List RuleWitness) → list_any (is_starred patch) (map bare_witness ws) ≡ list_any (is_starred patch) ws
any_bare patch [] = refl
any_bare patch (w ∷ ws) = ap (λ (rest : Bool). is_starred patch w || rest) (any_bare patch ws)

module _ (check : Bool) (patch : Patch) (bytes : List ℕ) (applied : Applied) (choice : Unread) (s : Chained)
    (a : AnswersState choice applied s) where
  hit_by : (same : Bool) → check ≡ true → same_bytes bytes applied.bytes.items ≡ same
      → (check && is_hit patch bytes s) ≡ (not same || list_any (is_starred patch) s.found)
  hit_by same on is =
      ap (λ (b : Bool). b && is_hit patch bytes s) on
      ∙ ap (λ (b : Bool). not b || list_any (is_starred patch) s.found) (ap (same_bytes bytes) (sym a.bytes) ∙ is)

  pub hit_unasked : check ≡ false → false ≡ (check && is_hit patch bytes s)
  hit_unasked off = sym (ap (λ (b : Bool). b && is_hit patch bytes s) off)

  -- the text differs
  pub hit_changed : check ≡ true → same_bytes bytes applied.bytes.items ≡ false → true ≡ (check && is_hit patch bytes s)
  hit_changed on differs = sym (hit_by false on differs)

  -- the text came back, so the witnesses say it
  pub hit_found : check ≡ true → same_bytes bytes applied.bytes.items ≡ true
      → list_any (is_starred patch) applied.witnesses ≡ (check && is_hit patch bytes s)
  hit_found on same =
      sym (any_bare patch applied.witnesses) ∙ ap (list_any (is_starred patch)) a.witnesses ∙ sym (hit_by true on same)

-- ---- whether there are witnesses

one_of_more : (n : ℕ) → nat_le 1 (suc n) ≡ true
one_of_more n = by (leb_tells 1 (suc n))
  where
    by : ((nat_le 1 (suc n) ≡ true) × (1 ≤ suc n)) ⊎ ((nat_le 1 (suc n) ≡ false) × (suc n < 1)) → nat_le 1 (suc n) ≡ true
    by (inl (is, few)) = is
    by (inr (is, none)) = absurd (omega arith)

not_empty : (ws : List RuleWitness) (b : Bool) → IsTrue b ↔ (ws ≡ []) → not b ≡ nat_le 1 (length ws)
not_empty [] b is = ap not (is.1 refl)
not_empty (w ∷ ws) true is = let e : w ∷ ws ≡ [] = is.0 refl in absurd (cc)
not_empty (w ∷ ws) false is = sym (one_of_more (length ws))

pub has_some : (applied : Applied) (choice : Unread) (s : Chained) (b : Bool) → AnswersState choice applied s → IsTrue b ↔ (applied.witnesses ≡ [])
    → not b ≡ nat_le 1 (length s.found)
has_some applied choice s b a is =
    not_empty applied.witnesses b is ∙ ap (nat_le 1) (sym (length-map applied.witnesses bare_witness) ∙ ap length a.witnesses)
