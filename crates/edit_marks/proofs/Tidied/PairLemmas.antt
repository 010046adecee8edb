-- Statements beside the numbers of their edits.
use Rattle.std.proofs.Common.{◌≡◌, ◌≤◌, ℕ, zero, suc, refl, sym, ap, ◌∙◌, arith, List, [], ◌∷◌, ◌++◌, length}
use Rattle.std.specs.Prelude.{slice_get, Option, None}
use Rattle.std.proofs.lemmas.List.{append-nil}
use Rattle.std.specs.List.{zip}
use Rattle.edit_marks.specs.declared.tidy.touch.PatternStatement.{PatternStatement}
use Rattle.edit_marks.specs.Tidy.Walk.{pair_if}

zip_none : (ns : List ℕ) → zip {K = ℕ} {X = PatternStatement} ns [] ≡ []
zip_none [] = refl
zip_none (n ∷ ns) = refl

zip_push : (ns : List ℕ) (ss : List PatternStatement) (s : PatternStatement) → zip ns (ss ++ s ∷ []) ≡ zip ns ss ++ pair_if (slice_get ns (length ss)) s
zip_push [] ss s = refl
zip_push (n ∷ ns) [] s = ap (λ r. (n, s) ∷ r) (zip_none ns)
zip_push (n ∷ ns) (t ∷ ss) s = ap (λ r. (n, t) ∷ r) (zip_push ns ss s)

pub first_pairs : (ns : List ℕ) (pairs : List (ℕ × PatternStatement)) → pairs ≡ [] → pairs ≡ zip ns []
first_pairs ns pairs is = is ∙ sym (zip_none ns)

pub more_pairs : (ns : List ℕ) (ss : List PatternStatement) (s : PatternStatement) (at : ℕ) (old new : List (ℕ × PatternStatement)) → at ≡ length ss
    → old ≡ zip ns ss → new ≡ old ++ pair_if (slice_get ns at) s → new ≡ zip ns (ss ++ s ∷ [])
more_pairs ns ss s at old new is_at is is_new =
    is_new ∙ (λ i. is i ++ pair_if (slice_get ns (is_at i)) s) ∙ sym (zip_push ns ss s)

none_at : (ns : List ℕ) (at : ℕ) → length ns ≤ at → slice_get ns at ≡ None
none_at [] at le = refl
none_at (n ∷ ns) zero le = absurd (omega (arith, le))
none_at (n ∷ ns) (suc at) le = none_at ns at (omega (arith, le))

pub no_pair : (pairs : List (ℕ × PatternStatement)) (ns : List ℕ) (at : ℕ) (s : PatternStatement) → length ns ≤ at
    → pairs ≡ pairs ++ pair_if (slice_get ns at) s
no_pair pairs ns at s le = sym (append-nil pairs) ∙ ap (λ (o : Option ℕ). pairs ++ pair_if o s) (sym (none_at ns at le))
