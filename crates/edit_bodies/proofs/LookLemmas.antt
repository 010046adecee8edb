-- What changes in rows.
use Rattle.std.proofs.Common.{◌≡◌, ◌+◌, ◌||◌, ℕ, Bool, true, false, refl, sym, ap, ◌∙◌, arith, List, [], ◌∷◌, ◌++◌, take, length, get_or}
use Rattle.std.specs.List.{list_any}
use Rattle.std.proofs.lemmas.List.{take_all, take_more}
use Rattle.edit_unparse.specs.declared.tidy.plan.Placed.{Placed}
use Rattle.edit_bodies.specs.Rows.{NewText, changes_in, is_changed}

or_both : (a b c : Bool) → (a || (b || c)) ≡ ((a || b) || c)
or_both true b c = refl
or_both false b c = refl

module _ (text : NewText) (behind : List Placed) where
  last_first : (ns : List ℕ) (n : ℕ) → changes_in text behind (ns ++ n ∷ []) ≡ (list_any (is_changed text) ns || changes_in text behind (n ∷ []))
  last_first [] n = refl
  last_first (m ∷ []) n = or_both (is_changed text m) false (changes_in text behind (n ∷ []))
  last_first (m ∷ k ∷ ns) n =
      ap (λ (b : Bool). is_changed text m || b) (last_first (k ∷ ns) n)
      ∙ or_both (is_changed text m) (list_any (is_changed text) (k ∷ ns)) (changes_in text behind (n ∷ []))

  changes_both : (ns : List ℕ) (i : ℕ) → i + 1 ≡ length ns
      → changes_in text behind ns ≡ (list_any (is_changed text) (take i ns) || changes_in text behind (get_or ns i 0 ∷ []))
  changes_both ns i e =
      ap (changes_in text behind) (sym (take_all (i + 1) ns (omega (arith, e))) ∙ take_more ns i 0 (omega (arith, e)))
      ∙ last_first (take i ns) (get_or ns i 0)

  -- one of those before the last changes, or none
  pub changes_front : (ns : List ℕ) (i : ℕ) (some : Bool) → i + 1 ≡ length ns → some ≡ list_any (is_changed text) (take i ns) → some ≡ true
      → some ≡ changes_in text behind ns
  changes_front ns i some long is holds =
      holds ∙ sym (changes_both ns i long ∙ ap (λ (b : Bool). b || changes_in text behind (get_or ns i 0 ∷ [])) (sym is ∙ holds))

  pub changes_last : (ns : List ℕ) (i : ℕ) (some last : Bool) → i + 1 ≡ length ns → some ≡ list_any (is_changed text) (take i ns) → some ≡ false
      → last ≡ changes_in text behind (get_or ns i 0 ∷ []) → last ≡ changes_in text behind ns
  changes_last ns i some last long is fails own =
      own ∙ sym (changes_both ns i long ∙ ap (λ (b : Bool). b || changes_in text behind (get_or ns i 0 ∷ [])) (sym is ∙ fails))
