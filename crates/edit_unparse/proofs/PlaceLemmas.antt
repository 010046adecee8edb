-- The places in inserts from which pieces go, by the numbers of their edits.
use Rattle.std.proofs.Common.{◌≡◌, ◌<◌, ◌==◌, ◌&&◌, ◌||◌, ℕ, zero, suc, Bool, true, false, refl, sym, ap, ◌∙◌, arith, List, [], ◌∷◌, ◌++◌, length, get_or}
use Rattle.std.specs.Prelude.{Vec, slice_set}
use Rattle.std.specs.List.{list_any}
use Rattle.std.proofs.lemmas.Bool.Decides.{nat_tests}
use Rattle.edit_unparse.specs.declared.tidy.parts.Origin.{Origin}
use Rattle.edit_unparse.specs.Tidy.Fallen.{has_place, is_here}
use Rattle.edit_unparse.proofs.FallenLemmas.{or_end}

-- an empty list more
pub place_none : {Z : Type 0} (edit insert offset : ℕ) (old : List (Vec Origin Z)) (v : Vec Origin Z) → v.items ≡ []
    → has_place edit insert offset old ≡ false → has_place edit insert offset (old ++ v ∷ []) ≡ false
place_none zero insert offset [] v empty none = ap (list_any (is_here insert offset)) empty
place_none (suc edit) insert offset [] v empty none = refl
place_none zero insert offset (x ∷ old) v empty none = none
place_none (suc edit) insert offset (x ∷ old) v empty none = place_none edit insert offset old v empty none

any_last : (test : Origin → Bool) (own : List Origin) (o : Origin) → list_any test (own ++ o ∷ []) ≡ (list_any test own || test o)
any_last test [] o = or_end (test o)
any_last test (x ∷ own) o = ap (λ (b : Bool). test x || b) (any_last test own o) ∙ by (test x)
  where
    by : (b : Bool) → (b || (list_any test own || test o)) ≡ ((b || list_any test own) || test o)
    by true = refl
    by false = refl

next : (a b : ℕ) → (suc a == suc b) ≡ (a == b)
next a b = grind (arith, nat_tests)

not_first : (a : ℕ) → (suc a == zero) ≡ false
not_first a = grind (arith, nat_tests)

not_later : (a : ℕ) → (zero == suc a) ≡ false
not_later a = grind (arith, nat_tests)

none_more : (a b c : Bool) → b ≡ false → a ≡ (a || (b && c))
none_more a b c e = sym (or_end a) ∙ sym (ap (λ (x : Bool). a || (x && c)) e)

-- a place more of the edit with this number
pub place_put : {Z : Type 0} (edit insert offset at : ℕ) (old : List (Vec Origin Z)) (own v : Vec Origin Z) (o : Origin) → at < length old
    → own ≡ get_or old at own → v.items ≡ own.items ++ o ∷ []
    → has_place edit insert offset (slice_set old at v) ≡ (has_place edit insert offset old || (at == edit && is_here insert offset o))
place_put edit insert offset at [] own v o less is more = absurd (omega arith)
place_put {Z} zero insert offset zero (x ∷ old) own v o less is more =
    ap (list_any (is_here insert offset)) (more ∙ ap (λ (y : Vec Origin Z). y.items ++ o ∷ []) is) ∙ any_last (is_here insert offset) x.items o
place_put (suc edit) insert offset zero (x ∷ old) own v o less is more =
    none_more (has_place edit insert offset old) (zero == suc edit) (is_here insert offset o) (not_later edit)
place_put zero insert offset (suc at) (x ∷ old) own v o less is more =
    none_more (list_any (is_here insert offset) x.items) (suc at == zero) (is_here insert offset o) (not_first at)
place_put (suc edit) insert offset (suc at) (x ∷ old) own v o less is more =
    place_put edit insert offset at old own v o (omega arith) is more
    ∙ sym (ap (λ (b : Bool). has_place edit insert offset old || (b && is_here insert offset o)) (next at edit))
