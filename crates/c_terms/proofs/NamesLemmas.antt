-- Names in a set of byte lists.
use Rattle.std.proofs.Common.{◌≡◌, ◌↔◌, ℕ, ◌+◌, ◌<◌, true, false, ◌&&◌, cond, eqb, refl, sym, ap, ◌∙◌, List, [], ◌∷◌, ◌++◌, map}
use Rattle.std.proofs.Common.{length, get_or, take, fold, nat_eq, Bool}
use Rattle.std.specs.Prelude.{Contains}
use Rattle.std.proofs.lemmas.List.Sums.{fold_more}
use Rattle.std.specs.List.{list_any, IsDistinct}
use Rattle.std.proofs.lemmas.Map.Keys.{IsDistinct-push}
use Rattle.std.specs.Cmp.{IsEquivalence}
use Rattle.std.specs.Cmp.Lexicographic.{pointwise}
use Rattle.std.proofs.lemmas.Map.Views.{Contains-from_any, list_any-from_Contains}
use Rattle.c_terms.specs.Same.{same_bytes}
use Rattle.c_terms.specs.Names.{has_name, with_name, listed_names}
use Rattle.c_terms.proofs.SameLaws.{bytes-refl, bytes-sym, bytes-along}
use Rattle.c_terms.proofs.BareLaws.{same_bytes-equal}

pub pointwise-same : (xs ys : List ℕ) → pointwise nat_eq xs ys ≡ same_bytes xs ys
pointwise-same [] [] = refl
pointwise-same [] (y ∷ ys) = refl
pointwise-same (x ∷ xs) [] = refl
pointwise-same (x ∷ xs) (y ∷ ys) = ap (λ b. eqb x y && b) (pointwise-same xs ys)

pub any-items : {K : Type 0} (f : K → List ℕ) (name : List ℕ) (keys : List K) → list_any (λ k. pointwise nat_eq name (f k)) keys ≡ has_name (map f keys) name
any-items f name [] = refl
any-items f name (k ∷ keys) = let e = pointwise-same name (f k) in let r = any-items f name keys in cc

bytes-equivalence : IsEquivalence same_bytes
bytes-equivalence = record { refl = bytes-refl; symm = bytes-sym; congr = λ x y z h. bytes-along x y h z }

pub has_name-Contains : (names : List (List ℕ)) (name : List ℕ) → (has_name names name ≡ true) ↔ Contains names name
has_name-Contains names name = (λ h. Contains-from_any same_bytes-equal name names h, λ h. list_any-from_Contains bytes-equivalence name names h)

pub map-push : {K : Type 0} (f : K → List ℕ) (keys : List K) (k : K) → map f (keys ++ k ∷ []) ≡ map f keys ++ f k ∷ []
map-push f [] k = refl
map-push f (x ∷ keys) k = ap (λ ys. f x ∷ ys) (map-push f keys k)

-- a set that gains a new key gains its name
pub put-new : {K : Type 0} (f : K → List ℕ) (keys : List K) (k : K) (name : List ℕ) → f k ≡ name → has_name (map f keys) name ≡ false
    → map f (cond (list_any (λ x. pointwise nat_eq (f k) (f x)) keys) keys (keys ++ k ∷ [])) ≡ with_name (map f keys) name
put-new f keys k name e h =
    let a : list_any (λ x. pointwise nat_eq (f k) (f x)) keys ≡ false = any-items f (f k) keys ∙ ap (has_name (map f keys)) e ∙ h in
    rw (a, h) (map-push f keys k ∙ ap (λ n. map f keys ++ n ∷ []) e)

-- the names of a list, with one more of them added
pub added-more : (all names new : List (List ℕ)) (i : ℕ) (name text : List ℕ) → i < length all → names ≡ fold with_name [] (take i all)
    → name ≡ get_or all i [] → text ≡ name → new ≡ with_name names text → new ≡ fold with_name [] (take (i + 1) all)
added-more all names new i name text lt e f g h =
    h ∙ ap (with_name names) (g ∙ f) ∙ ap (λ ns. with_name ns (get_or all i [])) e ∙ sym (fold_more with_name [] all i [] lt)

abbrev Distinct : List (List ℕ) → Type 0
Distinct = IsDistinct same_bytes

pub distinct-added : (names : List (List ℕ)) (name : List ℕ) → Distinct names → Distinct (with_name names name)
distinct-added names name d = by (has_name names name) refl
  where
    by : (b : Bool) → has_name names name ≡ b → Distinct (cond b names (names ++ name ∷ []))
    by true h = d
    by false h = IsDistinct-push bytes-equivalence names name d h

distinct-all : (names more : List (List ℕ)) → Distinct names → Distinct (fold with_name names more)
distinct-all names [] d = d
distinct-all names (name ∷ more) d = distinct-all (with_name names name) more (distinct-added names name d)

distinct-none : Distinct []
unfolding IsDistinct
distinct-none = tt

pub listed-distinct : Distinct listed_names
listed-distinct = distinct-all [] listed_names distinct-none
