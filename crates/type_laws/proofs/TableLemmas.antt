-- What is found in a table that was made of a list, in which the first of the same counts.
use Rattle.std.proofs.Common.{◌≡◌, ℕ, zero, suc, Bool, true, false, ◌||◌, cond, nat_eq, refl, sym, ap, ◌∙◌, true≢false, eqb-true}
use Rattle.std.proofs.Common.{List, [], ◌∷◌, ◌++◌, map, Option, Some, None, is_some, slice_get}
use Rattle.std.specs.Option.{option_or}
use Rattle.std.specs.List.{list_any, flat_map}
use Rattle.std.proofs.lemmas.Option.{none-some, same_Some}
use Rattle.std.proofs.lemmas.List.Folds.{list_any-append}
use Rattle.c_types.specs.declared.ty.Ty.{Ty}
use Rattle.c_types.specs.declared.tree_key.TreeKey.{TreeKey}
use Rattle.c_types.specs.TreeKeys.{same_key}
use Rattle.c_types.specs.Tables.{TypedTree, type_at, with_typed, with_all, typed, has_id, with_id, with_ids}
use Rattle.c_types.proofs.KeyLemmas.{or_assoc, or_none}
use Rattle.type_laws.proofs.KeyLemmas.{key-same, key-refl}

-- ---- types

abbrev is_at : TreeKey → TypedTree → Bool
is_at k t = same_key k t.key

-- an expression that is there is found
found : (ts : List TypedTree) (k : TreeKey) → list_any (is_at k) ts ≡ is_some (type_at ts k)
found [] k = refl
found (t ∷ ts) k = by (same_key k t.key) (found ts k)
  where
    by : (b : Bool) → list_any (is_at k) ts ≡ is_some (type_at ts k) → (b || list_any (is_at k) ts) ≡ is_some (cond b (Some t.ty) (type_at ts k))
    by true h = refl
    by false h = h

type_at-append : (ts us : List TypedTree) (k : TreeKey) → type_at (ts ++ us) k ≡ option_or (type_at ts k) (type_at us k)
type_at-append [] us k = refl
type_at-append (t ∷ ts) us k = by (same_key k t.key) (type_at-append ts us k)
  where
    by : (b : Bool) → type_at (ts ++ us) k ≡ option_or (type_at ts k) (type_at us k)
        → cond b (Some t.ty) (type_at (ts ++ us) k) ≡ option_or (cond b (Some t.ty) (type_at ts k)) (type_at us k)
    by true h = refl
    by false h = h

first-stays : (a b : Option Ty) → is_some a ≡ true → a ≡ option_or a b
first-stays None b h = absurd (true≢false (sym h))
first-stays (Some x) b h = refl

one-more : (ts : List TypedTree) (u : TypedTree) (k : TreeKey) → type_at (with_typed ts u) k ≡ option_or (type_at ts k) (type_at (u ∷ []) k)
one-more ts u k = by (list_any (is_at u.key) ts) refl
  where
    here : (c : Bool) → same_key k u.key ≡ c → list_any (is_at u.key) ts ≡ true → type_at ts k ≡ option_or (type_at ts k) (cond c (Some u.ty) None)
    here true e h =
        let same : k ≡ u.key = key-same k u.key e in
        first-stays (type_at ts k) (Some u.ty) (sym (found ts k) ∙ ap (λ x. list_any (is_at x) ts) same ∙ h)
    here false e h = sym (or_none (type_at ts k))

    by : (b : Bool) → list_any (is_at u.key) ts ≡ b → type_at (cond b ts (ts ++ u ∷ [])) k ≡ option_or (type_at ts k) (type_at (u ∷ []) k)
    by true e = here (same_key k u.key) refl e
    by false e = type_at-append ts (u ∷ []) k

-- the earlier table, and then the list
pub all-types : (us ts : List TypedTree) (k : TreeKey) → type_at (with_all ts us) k ≡ option_or (type_at ts k) (type_at us k)
all-types [] ts k = sym (or_none (type_at ts k))
all-types (u ∷ us) ts k =
    all-types us (with_typed ts u) k ∙ ap (λ o. option_or o (type_at us k)) (one-more ts u k)
    ∙ or_assoc (type_at ts k) (type_at (u ∷ []) k) (type_at us k) ∙ ap (option_or (type_at ts k)) (by (same_key k u.key))
  where
    by : (b : Bool) → option_or (cond b (Some u.ty) None) (type_at us k) ≡ cond b (Some u.ty) (type_at us k)
    by true = refl
    by false = refl

module _ {A : Type 0} (key : A → TreeKey) (ty : A → Option Ty) where
  -- where all with the same key have the same type, it is found
  typed-at : (xs : List A) (k : TreeKey) (o : Option Ty) → ((j : ℕ) (x : A) → slice_get xs j ≡ Some x → k ≡ key x → ty x ≡ o)
      → type_at (typed (map key xs) (map ty xs)) k ≡ cond (list_any (λ x. same_key k (key x)) xs) o None
  typed-at [] k o h = refl
  typed-at (x ∷ xs) k o h = by (typed-at xs k o (λ j y e. h (suc j) y e)) (same_key k (key x)) refl (ty x) refl
    where
      none : (b : Bool) → None ≡ o → cond b o None ≡ o
      none true n = refl
      none false n = n

      by : type_at (typed (map key xs) (map ty xs)) k ≡ cond (list_any (λ y. same_key k (key y)) xs) o None
          → (b : Bool) → same_key k (key x) ≡ b → (t : Option Ty) → ty x ≡ t
          → type_at (typed (key x ∷ map key xs) (t ∷ map ty xs)) k ≡ cond (b || list_any (λ y. same_key k (key y)) xs) o None
      by rest true e None f =
          rest ∙ none (list_any (λ y. same_key k (key y)) xs) (sym f ∙ h 0 x refl (key-same k (key x) e))
      by rest true e (Some t) f =
          ap (λ c. cond c (Some t) (type_at (typed (map key xs) (map ty xs)) k)) e ∙ sym f ∙ h 0 x refl (key-same k (key x) e)
      by rest false e None f = rest
      by rest false e (Some t) f = ap (λ c. cond c (Some t) (type_at (typed (map key xs) (map ty xs)) k)) e ∙ rest

  listed : (xs : List A) (k : TreeKey) (j : ℕ) (x : A) → slice_get xs j ≡ Some x → k ≡ key x → list_any (λ y. same_key k (key y)) xs ≡ true
  listed [] k j x e f = absurd (none-some x e)
  listed (y ∷ xs) k zero x e f =
      let same : k ≡ key y = f ∙ ap key (sym (same_Some y x e)) in
      ap (λ b. b || list_any (λ z. same_key k (key z)) xs) (ap (same_key k) (sym same) ∙ key-refl k)
  listed (y ∷ xs) k (suc j) x e f = by (same_key k (key y)) (listed xs k j x e f)
    where
      by : (b : Bool) → list_any (λ z. same_key k (key z)) xs ≡ true → (b || list_any (λ z. same_key k (key z)) xs) ≡ true
      by true h = refl
      by false h = h

  -- what a table of these finds, where all with the same key have the same type
  pub table-at : (xs : List A) (k : TreeKey) (o : Option Ty) → ((j : ℕ) (x : A) → slice_get xs j ≡ Some x → k ≡ key x → ty x ≡ o)
      → (j : ℕ) (x : A) → slice_get xs j ≡ Some x → k ≡ key x → type_at (with_all [] (typed (map key xs) (map ty xs))) k ≡ o
  table-at xs k o h j x e f =
      all-types (typed (map key xs) (map ty xs)) [] k ∙ typed-at xs k o h ∙ ap (λ b. cond b o None) (listed xs k j x e f)

  -- an entry with the key and the type
  abbrev pub From : List A → TreeKey → Ty → Type 0
  From xs k t = (j : ℕ) × (x : A) × (slice_get xs j ≡ Some x) × (k ≡ key x) × (ty x ≡ Some t)

  from-later : (x : A) (xs : List A) (k : TreeKey) (t : Ty) → From xs k t → From (x ∷ xs) k t
  from-later x xs k t f = (suc f.0, f.1, f.2, f.3, f.4)

  found-from : (xs : List A) (k : TreeKey) (t : Ty) → type_at (typed (map key xs) (map ty xs)) k ≡ Some t → From xs k t
  found-from [] k t e = absurd (none-some t e)
  found-from (x ∷ xs) k t e = by (λ f. from-later x xs k t (found-from xs k t f)) (ty x) refl e
    where
      here : (type_at (typed (map key xs) (map ty xs)) k ≡ Some t → From (x ∷ xs) k t) → (b : Bool) → same_key k (key x) ≡ b → (u : Ty)
          → ty x ≡ Some u → cond b (Some u) (type_at (typed (map key xs) (map ty xs)) k) ≡ Some t → From (x ∷ xs) k t
      here rest true g u f e = (0, x, refl, key-same k (key x) g, f ∙ e)
      here rest false g u f e = rest e

      by : (type_at (typed (map key xs) (map ty xs)) k ≡ Some t → From (x ∷ xs) k t) → (o : Option Ty) → ty x ≡ o
          → type_at (typed (key x ∷ map key xs) (o ∷ map ty xs)) k ≡ Some t → From (x ∷ xs) k t
      by rest None f e = rest e
      by rest (Some u) f e = here rest (same_key k (key x)) refl u f e

  -- what a table of these finds comes from one of them
  pub table-from : (xs : List A) (k : TreeKey) (t : Ty) → type_at (with_all [] (typed (map key xs) (map ty xs))) k ≡ Some t → From xs k t
  table-from xs k t e = found-from xs k t (sym (all-types (typed (map key xs) (map ty xs)) [] k) ∙ e)

-- ---- ids

id-more : (xs : List ℕ) (y x : ℕ) → has_id (with_id xs y) x ≡ (has_id xs x || has_id (y ∷ []) x)
id-more xs y x = by (has_id xs y) refl
  where
    or-true : (a : Bool) → (a || true) ≡ true
    or-true true = refl
    or-true false = refl

    or-false : (a : Bool) → a ≡ (a || false)
    or-false true = refl
    or-false false = refl

    here : (c : Bool) → nat_eq x y ≡ c → has_id xs y ≡ true → has_id xs x ≡ (has_id xs x || (c || false))
    here true e h = ap (has_id xs) (eqb-true x y e) ∙ h ∙ sym (or-true (has_id xs x))
    here false e h = or-false (has_id xs x)

    by : (b : Bool) → has_id xs y ≡ b → has_id (cond b xs (xs ++ y ∷ [])) x ≡ (has_id xs x || has_id (y ∷ []) x)
    by true e = here (nat_eq x y) refl e
    by false e = list_any-append (nat_eq x) xs (y ∷ [])

-- the earlier ids and the list
ids-all : (ys xs : List ℕ) (x : ℕ) → has_id (with_ids xs ys) x ≡ (has_id xs x || has_id ys x)
ids-all [] xs x = by (has_id xs x)
  where
    by : (a : Bool) → a ≡ (a || false)
    by true = refl
    by false = refl
ids-all (y ∷ ys) xs x = ids-all ys (with_id xs y) x ∙ ap (λ b. b || has_id ys x) (id-more xs y x) ∙ by (has_id xs x) (nat_eq x y)
  where
    by : (a b : Bool) → ((a || (b || false)) || has_id ys x) ≡ (a || (b || has_id ys x))
    by true b = refl
    by false true = refl
    by false false = refl

pub ids-at : (ys : List ℕ) (x : ℕ) → has_id (with_ids [] ys) x ≡ has_id ys x
ids-at ys x = ids-all ys [] x

module _ {A : Type 0} (f : A → List ℕ) where
  -- an id that one of these gives
  pub id-of : (xs : List A) (j : ℕ) (x : A) (n : ℕ) → slice_get xs j ≡ Some x → has_id (f x) n ≡ true → has_id (flat_map f xs) n ≡ true
  id-of [] j x n e h = absurd (none-some x e)
  id-of (y ∷ xs) zero x n e h =
      let first : has_id (f y) n ≡ true = ap (λ z. has_id (f z) n) (same_Some y x e) ∙ h in
      list_any-append (nat_eq n) (f y) (flat_map f xs) ∙ ap (λ b. b || has_id (flat_map f xs) n) first
  id-of (y ∷ xs) (suc j) x n e h = list_any-append (nat_eq n) (f y) (flat_map f xs) ∙ by (has_id (f y) n) (id-of xs j x n e h)
    where
      by : (b : Bool) → has_id (flat_map f xs) n ≡ true → (b || has_id (flat_map f xs) n) ≡ true
      by true h = refl
      by false h = h

  -- each id is given by one of them
  pub id-from : (xs : List A) (n : ℕ) (P : Type 0) → has_id (flat_map f xs) n ≡ true
      → ((j : ℕ) (x : A) → slice_get xs j ≡ Some x → has_id (f x) n ≡ true → P) → P
  id-from [] n P h k = absurd (true≢false (sym h))
  id-from (y ∷ xs) n P h k =
      by (λ g. id-from xs n P g (λ j x. k (suc j) x)) (has_id (f y) n) refl (sym (list_any-append (nat_eq n) (f y) (flat_map f xs)) ∙ h)
    where
      by : (has_id (flat_map f xs) n ≡ true → P) → (b : Bool) → has_id (f y) n ≡ b → (b || has_id (flat_map f xs) n) ≡ true → P
      by later true e g = k 0 y refl e
      by later false e g = later g
