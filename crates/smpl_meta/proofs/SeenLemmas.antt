-- Items that have been seen.
use Rattle.std.proofs.Common.{◌≡◌, ℕ, Bool, true, false, not, ◌&&◌, refl, sym, ap, ◌∙◌, List, [], ◌∷◌, ◌++◌, Option, Some, None, is_some, if◌then◌else◌}
use Rattle.std.specs.Str.{bytes_eq}
use Rattle.smpl_meta.specs.declared.item.Item.{Item}
use Rattle.smpl_meta.specs.declared.seen.Seen.{Seen}
use Rattle.smpl_meta.specs.Decls.{is_symbol, is_again, is_known}
use Rattle.smpl_meta.specs.Index.{number_in, or_else}
use Rattle.smpl_meta.specs.Seen.{name_of, is_seen, IsPut, Knows}

same_if : (b : Bool) → (if b then true else false) ≡ b
same_if true = refl
same_if false = refl

later : (b k m : Bool) (n : Bool) → n ≡ (if k then true else m) → (if b then true else n) ≡ (if (if b then true else k) then true else m)
later true k m n h = refl
later false k m n h = h

-- one more earlier item
pub known-append : (before : List Item) (j i : Item) → is_known (before ++ j ∷ []) i ≡ (if is_known before i then true else is_again i j)
known-append [] j i = same_if (is_again i j)
known-append (x ∷ xs) j i = later (is_again i x) (is_known xs i) (is_again i j) (is_known (xs ++ j ∷ []) i) (known-append xs j i)

pub knows-more : (s r : Seen) (before : List Item) (j : Item) → Knows s before
    → ((i : Item) → is_seen r i ≡ (if is_seen s i then true else is_again i j)) → Knows r (before ++ j ∷ [])
knows-more s r before j knows put i =
    put i ∙ ap (λ b. if b then true else is_again i j) (knows i) ∙ sym (known-append before j i)

some_by : (o : Option ℕ) (b : Bool) → is_some (or_else o (if b then Some 0 else None)) ≡ (if is_some o then true else (b && true))
some_by None true = refl
some_by None false = refl
some_by (Some m) b = refl

same_by : (o : Option ℕ) (b : Bool) → is_some o ≡ (if is_some o then true else (b && false))
same_by None true = refl
same_by None false = refl
same_by (Some m) b = refl

module _ (s r : Seen) (i j : Item) (all : IsPut false (name_of i) s.all r.all) where
  by : (bj bi : Bool) → IsPut bi (name_of i) s.variables r.variables
      → (if bj then is_some (number_in r.variables (name_of j)) else is_some (number_in r.all (name_of j)))
      ≡ (if (if bj then is_some (number_in s.variables (name_of j)) else is_some (number_in s.all (name_of j))) then true
      else (bytes_eq (name_of i) (name_of j) && not (bj && bi)))
  by false bi put = ap is_some (all (name_of j)) ∙ some_by (number_in s.all (name_of j)) (bytes_eq (name_of i) (name_of j))
  by true true put = ap is_some (put (name_of j)) ∙ same_by (number_in s.variables (name_of j)) (bytes_eq (name_of i) (name_of j))
  by true false put = ap is_some (put (name_of j)) ∙ some_by (number_in s.variables (name_of j)) (bytes_eq (name_of i) (name_of j))

  -- an item is added to those seen so far
  pub seen-put : IsPut (is_symbol i.kind) (name_of i) s.variables r.variables → is_seen r j ≡ (if is_seen s j then true else is_again j i)
  seen-put put = by (is_symbol j.kind) (is_symbol i.kind) put
