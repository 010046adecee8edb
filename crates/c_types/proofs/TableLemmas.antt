-- Expressions in a map, and lists of them that grow.
use Rattle.std.proofs.Common.{◌≡◌, ℕ, zero, suc, ◌+◌, ◌<◌, ◌≤◌, Bool, true, false, ◌||◌, cond, refl, sym, ap, ◌∙◌, arith}
use Rattle.std.proofs.Common.{List, [], ◌∷◌, ◌++◌, length, drop, get_or, Option, Some, None, is_some, slice_get}
use Rattle.std.specs.Option.{option_flatten}
use Rattle.std.specs.List.{list_any}
use Rattle.std.specs.Map.{lookup}
use Rattle.indexmap.specs.IndexMap.{insert_entry}
use Rattle.c_types.specs.declared.ty.Ty.{Ty}
use Rattle.c_types.specs.declared.tree_key.TreeKey.{TreeKey}
use Rattle.c_types.specs.TreeKeys.{same_key}
use Rattle.c_types.specs.Tables.{TypedTree, trees_of, type_at, with_typed, with_type, with_all, typed, with_id, with_ids}
use Rattle.c_types.proofs.JoinLemmas.{left-next, dropped}

abbrev pub is_at : TreeKey → TypedTree → Bool
is_at k t = same_key k t.key

-- what a look-up finds
pub looked : (k : TreeKey) (es : List (TreeKey × Ty)) → lookup (same_key k) es ≡ type_at (trees_of es) k
looked k [] = refl
looked k (e ∷ es) = let r = looked k es in λ i. cond (same_key k e.0) (Some e.1) (r i)

-- whether an expression is there
there : (k : TreeKey) (es : List (TreeKey × Ty)) → is_some (lookup (same_key k) es) ≡ list_any (is_at k) (trees_of es)
there k [] = refl
there k (e ∷ es) = by (same_key k e.0) (there k es)
  where
    by : (a : Bool) → is_some (lookup (same_key k) es) ≡ list_any (is_at k) (trees_of es)
        → is_some (cond a (Some e.1) (lookup (same_key k) es)) ≡ (a || list_any (is_at k) (trees_of es))
    by true h = refl
    by false h = h

-- a new expression is put last
put-last : (k : TreeKey) (ty : Ty) (es : List (TreeKey × Ty)) → is_some (lookup (same_key k) es) ≡ false
    → trees_of (insert_entry same_key es k ty) ≡ trees_of es ++ record { key = k; ty = ty } ∷ []
put-last k ty [] h = refl
put-last k ty (e ∷ es) h = by (same_key k e.0) h (put-last k ty es)
  where
    by : (a : Bool) → is_some (cond a (Some e.1) (lookup (same_key k) es)) ≡ false
        → (is_some (lookup (same_key k) es) ≡ false → trees_of (insert_entry same_key es k ty) ≡ trees_of es ++ record { key = k; ty = ty } ∷ [])
        → trees_of (cond a ((e.0, ty) ∷ es) (e ∷ insert_entry same_key es k ty))
        ≡ record { key = e.0; ty = e.1 } ∷ (trees_of es ++ record { key = k; ty = ty } ∷ [])
    by true q r = absurd (cc)
    by false q r = ap (λ ts. record { key = e.0; ty = e.1 } ∷ ts) (r q)

module _ (es : List (TreeKey × Ty)) (k : TreeKey) (ty : Ty) (b : Bool) (h : b ≡ is_some (lookup (same_key k) es)) where
  found : list_any (is_at k) (trees_of es) ≡ b
  found = sym (there k es) ∙ sym h

  -- an expression that is there changes nothing
  pub put-known : b ≡ true → trees_of es ≡ with_typed (trees_of es) (record { key = k; ty = ty })
  put-known e = sym (ap (λ t. cond t (trees_of es) (trees_of es ++ record { key = k; ty = ty } ∷ [])) (found ∙ e))

  -- and a new one is added
  pub put-new : b ≡ false → (after : List (TreeKey × Ty)) → after ≡ insert_entry same_key es k ty
      → trees_of after ≡ with_typed (trees_of es) (record { key = k; ty = ty })
  put-new e after g =
      ap trees_of g ∙ put-last k ty es (sym h ∙ e)
      ∙ sym (ap (λ t. cond t (trees_of es) (trees_of es ++ record { key = k; ty = ty } ∷ [])) (found ∙ e))

-- keys without types
typed-none : (keys : List TreeKey) → typed keys [] ≡ []
typed-none [] = refl
typed-none (key ∷ keys) = refl

typed-step : (old : List TypedTree) (keys : List TreeKey) (types : List (Option Ty)) (i : ℕ) (key d : TreeKey) → i < length keys → key ≡ get_or keys i d
    → with_all old (typed (drop i keys) (drop i types))
    ≡ with_all (with_type old key (option_flatten (slice_get types i))) (typed (drop (suc i) keys) (drop (suc i) types))
typed-step old [] types i key d lt e = absurd (omega (arith, lt))
typed-step old (k ∷ keys) [] zero key d lt e = ap (with_all old) (sym (typed-none keys))
typed-step old (k ∷ keys) (None ∷ types) zero key d lt e = refl
typed-step old (k ∷ keys) (Some ty ∷ types) zero key d lt e = ap (λ x. with_all (with_typed old (record { key = x; ty = ty })) (typed keys types)) (sym e)
typed-step old (k ∷ keys) [] (suc i) key d lt e = ap (with_all old) (typed-none (drop i keys) ∙ sym (typed-none (drop (suc i) keys)))
typed-step old (k ∷ keys) (t ∷ types) (suc i) key d lt e = typed-step old keys types i key d (omega (arith, lt)) e

-- one more key, with its type if it has one
pub typed-more : (old next all : List TypedTree) (keys : List TreeKey) (types : List (Option Ty)) (i : ℕ) (key d : TreeKey) (ty : Option Ty)
    → i < length keys → key ≡ get_or keys i d → ty ≡ option_flatten (slice_get types i) → next ≡ with_type old key ty
    → with_all old (typed (drop i keys) (drop i types)) ≡ all → with_all next (typed (drop (i + 1) keys) (drop (i + 1) types)) ≡ all
typed-more old next all keys types i key d ty lt e t n h =
    let one : i + 1 ≡ suc i = omega arith in
    (λ j. with_all (n j) (typed (drop (one j) keys) (drop (one j) types)))
    ∙ ap (λ o. with_all (with_type old key o) (typed (drop (suc i) keys) (drop (suc i) types))) t
    ∙ sym (typed-step old keys types i key d lt e) ∙ h

pub typed-end : (own all : List TypedTree) (keys : List TreeKey) (types : List (Option Ty)) (i : ℕ) → length keys ≤ i
    → with_all own (typed (drop i keys) (drop i types)) ≡ all → own ≡ all
typed-end own all keys types i past h = ap (λ ks. with_all own (typed ks (drop i types))) (sym (dropped keys i past)) ∙ h

-- one more id
pub ids-more : (old next all ids : List ℕ) (i id : ℕ) → i < length ids → id ≡ get_or ids i id → next ≡ with_id old id
    → with_ids old (drop i ids) ≡ all → with_ids next (drop (i + 1) ids) ≡ all
ids-more old next all ids i id lt e n h =
    ap (λ xs. with_ids xs (drop (i + 1) ids)) n ∙ ap (with_ids old) (sym (left-next ids i id lt e)) ∙ h

pub ids-end : (own all ids : List ℕ) (i : ℕ) → length ids ≤ i → with_ids own (drop i ids) ≡ all → own ≡ all
ids-end own all ids i past h = ap (with_ids own) (sym (dropped ids i past)) ∙ h
