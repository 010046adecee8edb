-- Names in an index, and their places in a list.
use Rattle.std.proofs.Common.{◌≡◌, ℕ, suc, ◌+◌, Bool, true, false, refl, sym, ap, ◌∙◌, true≢false, List, [], ◌∷◌, ◌++◌, map}
use Rattle.std.proofs.Common.{Option, Some, None, is_some, option_map, if◌then◌else◌, arith, slice_get, length, ◌<◌}
use Rattle.std.specs.Prelude.{option_and_then}
use Rattle.std.specs.Str.{bytes_eq}
use Rattle.std.specs.Map.{lookup}
use Rattle.std.proofs.lemmas.Slice.Eq.{bytes_eq-Decides}
use Rattle.indexmap.specs.IndexMap.{insert_entry}
use Rattle.smpl_patch.specs.declared.pattern.VarDecl.{VarDecl}
use Rattle.smpl_meta.specs.declared.head.RuleHead.{RuleHead}
use Rattle.smpl_meta.specs.Known.{var_named, head_named, number_from}
use Rattle.smpl_meta.specs.Heads.{is_virtual}
use Rattle.smpl_meta.specs.Before.{head_names}
use Rattle.smpl_meta.specs.Index.{number_in, or_else, only, place_from, names_of, Indexes}

both_ways : (a b : List ℕ) (p q : Bool) → bytes_eq a b ≡ p → bytes_eq b a ≡ q → p ≡ q
both_ways a b true true h k = refl
both_ways a b false false h k = refl
both_ways a b true false h k = absurd (true≢false (sym ((bytes_eq-Decides b a).1 (sym ((bytes_eq-Decides a b).0 h))) ∙ k))
both_ways a b false true h k = absurd (true≢false (sym ((bytes_eq-Decides a b).1 (sym ((bytes_eq-Decides b a).0 k))) ∙ h))

pub bytes_eq-sym : (a b : List ℕ) → bytes_eq a b ≡ bytes_eq b a
bytes_eq-sym a b = both_ways a b (bytes_eq a b) (bytes_eq b a) refl refl

module _ {K : Type 0} (f : K → List ℕ) where
  abbrev pub pairs : List (K × ℕ) → List (List ℕ × ℕ)
  pairs = map (λ e. (f e.0, e.1))

  -- what a map finds by a name
  pub found : (name : List ℕ) (entries : List (K × ℕ)) → lookup (λ k. bytes_eq name (f k)) entries ≡ number_in (pairs entries) name
  found name [] = refl
  found name (e ∷ es) = let r = found name es in let s = bytes_eq-sym name (f e.0) in cc

  -- a key that is not equal, before the others
  step_by : (here there : Bool) (m : ℕ) (q r rest o : Option ℕ) → here ≡ false → (if here then Some m else q) ≡ None → (q ≡ None → rest ≡ or_else r o)
      → (if there then Some m else rest) ≡ or_else (if there then Some m else r) o
  step_by true there m q r rest o h none more = absurd (true≢false h)
  step_by false true m q r rest o h none more = refl
  step_by false false m q r rest o h none more = more none

  -- an inserted name that had no number has this one, and others keep theirs
  pub inserted : (k : K) (n : ℕ) (other : List ℕ) (entries : List (K × ℕ)) → number_in (pairs entries) (f k) ≡ None
      → number_in (pairs (insert_entry (λ a b. bytes_eq (f a) (f b)) entries k n)) other
      ≡ or_else (number_in (pairs entries) other) (only (f k) n other)
  inserted k n other [] none = refl
  inserted k n other (e ∷ es) none = by (bytes_eq (f k) (f e.0)) refl (inserted k n other es)
    where
      by : (b : Bool) → bytes_eq (f k) (f e.0) ≡ b
          → (number_in (pairs es) (f k) ≡ None → number_in (pairs (insert_entry (λ a b. bytes_eq (f a) (f b)) es k n)) other
          ≡ or_else (number_in (pairs es) other) (only (f k) n other))
          → number_in (pairs (if b then (e.0, n) ∷ es else e ∷ insert_entry (λ a b. bytes_eq (f a) (f b)) es k n)) other
          ≡ or_else (number_in (pairs (e ∷ es)) other) (only (f k) n other)
      by true h rest =
          let t : bytes_eq (f e.0) (f k) ≡ true = bytes_eq-sym (f e.0) (f k) ∙ h in
          let s : Some e.1 ≡ None = ap (λ x. if x then Some e.1 else number_in (pairs es) (f k)) (sym t) ∙ none in
          absurd (true≢false (ap is_some s))
      by false h rest =
          let t : bytes_eq (f e.0) (f k) ≡ false = bytes_eq-sym (f e.0) (f k) ∙ h in
          step_by (bytes_eq (f e.0) (f k)) (bytes_eq (f e.0) other) e.1 (number_in (pairs es) (f k)) (number_in (pairs es) other)
          (number_in (pairs (insert_entry (λ a b. bytes_eq (f a) (f b)) es k n)) other) (only (f k) n other) t none rest

known_by : (index : List (List ℕ × ℕ)) (name other : List ℕ) (n : ℕ) (o : Option ℕ) (b : Bool) → number_in index other ≡ o → bytes_eq name other ≡ b
    → is_some (number_in index name) ≡ true → o ≡ or_else o (if b then Some n else None)
known_by index name other n (Some m) b h e s = refl
known_by index name other n None false h e s = refl
known_by index name other n None true h e s =
    let same : name ≡ other = (bytes_eq-Decides name other).0 e in
    let none : number_in index name ≡ None = ap (number_in index) same ∙ h in
    absurd (true≢false (sym s ∙ ap is_some none))

-- a name that has a number keeps it
pub known_stays : (index : List (List ℕ × ℕ)) (name other : List ℕ) (n : ℕ) → is_some (number_in index name) ≡ true
    → number_in index other ≡ or_else (number_in index other) (only name n other)
known_stays index name other n s = known_by index name other n (number_in index other) (bytes_eq name other) refl refl s

pub none_of : (o : Option ℕ) → is_some o ≡ false → o ≡ None
none_of None h = refl
none_of (Some n) h = absurd (true≢false h)

-- ---- places

-- one more name at the end
append_by : (b : Bool) (n : ℕ) (q r o : Option ℕ) → q ≡ or_else r o → (if b then Some n else q) ≡ or_else (if b then Some n else r) o
append_by true n q r o h = refl
append_by false n q r o h = h

pub place-append : (n : ℕ) (xs : List (List ℕ)) (x name : List ℕ)
    → place_from n (xs ++ x ∷ []) name ≡ or_else (place_from n xs name) (only x (n + length xs) name)
place-append n [] x name = ap (λ k. if bytes_eq x name then Some k else None) (omega arith)
place-append n (y ∷ ys) x name =
    append_by (bytes_eq y name) n (place_from (n + 1) (ys ++ x ∷ []) name) (place_from (n + 1) ys name) (only x (n + length (y ∷ ys)) name)
    (place-append (n + 1) ys x name ∙ ap (λ k. or_else (place_from (n + 1) ys name) (only x k name)) (omega arith))

-- an index of names, and one more at the end
pub indexes-more : (old new : List (List ℕ × ℕ)) (xs : List (List ℕ)) (x : List ℕ) → Indexes old xs
    → ((other : List ℕ) → number_in new other ≡ or_else (number_in old other) (only x (length xs) other)) → Indexes new (xs ++ x ∷ [])
indexes-more old new xs x is put name =
    put name ∙ ap (λ o. or_else o (only x (length xs) name)) (is name)
    ∙ sym (place-append 0 xs x name ∙ ap (λ k. or_else (place_from 0 xs name) (only x k name)) (omega arith))

-- a place is one of the list
within_by : (b : Bool) (n m k : ℕ) (q : Option ℕ) → (q ≡ Some m → m < (n + 1) + k) → (if b then Some n else q) ≡ Some m → m < n + suc k
within_by true n m k q h e = let f : n ≡ m = cc in omega arith
within_by false n m k q h e = let f : m < (n + 1) + k = h e in omega arith

pub place_within : (n m : ℕ) (xs : List (List ℕ)) (name : List ℕ) → place_from n xs name ≡ Some m → m < n + length xs
place_within n m [] name e = cc
place_within n m (x ∷ xs) name e = within_by (bytes_eq x name) n m (length xs) (place_from (n + 1) xs name) (place_within (n + 1) m xs name) e

-- which of the names is the first that equals this one
abbrev pub place_of : List (List ℕ) → List ℕ → Option ℕ
place_of [] name = None
place_of (x ∷ xs) name = if bytes_eq x name then Some 0 else option_map (λ j. suc j) (place_of xs name)

shift_by : (n : ℕ) (b : Bool) (o : Option ℕ) (q : Option ℕ) → q ≡ option_map (λ j. (n + 1) + j) o
    → (if b then Some n else q) ≡ option_map (λ j. n + j) (if b then Some 0 else option_map (λ j. suc j) o)
shift_by n true o q h = ap (λ k. Some k) (omega arith)
shift_by n false None q h = h
shift_by n false (Some j) q h = h ∙ ap (λ k. Some k) (omega arith)

shift : (n : ℕ) (xs : List (List ℕ)) (name : List ℕ) → place_from n xs name ≡ option_map (λ j. n + j) (place_of xs name)
shift n [] name = refl
shift n (x ∷ xs) name = shift_by n (bytes_eq x name) (place_of xs name) (place_from (n + 1) xs name) (shift (n + 1) xs name)

from_zero : (o : Option ℕ) → option_map (λ j. 0 + j) o ≡ o
from_zero None = refl
from_zero (Some j) = ap (λ k. Some k) (omega arith)

place-from-zero : (xs : List (List ℕ)) (name : List ℕ) → place_from 0 xs name ≡ place_of xs name
place-from-zero xs name = shift 0 xs name ∙ from_zero (place_of xs name)

-- ---- what is at a place

here_by : {A : Type 0} (a : A) (rest : List A) (b : Bool) (o : Option ℕ) (v : Option A) → v ≡ option_and_then (slice_get rest) o
    → (if b then Some a else v) ≡ option_and_then (slice_get (a ∷ rest)) (if b then Some 0 else option_map (λ j. suc j) o)
here_by a rest true o v h = refl
here_by a rest false None v h = h
here_by a rest false (Some j) v h = h

var_at : (vars : List VarDecl) (name : List ℕ) → var_named name vars ≡ option_and_then (slice_get vars) (place_of (names_of vars) name)
var_at [] name = refl
var_at (d ∷ ds) name = here_by d ds (bytes_eq d.var.name name) (place_of (names_of ds) name) (var_named name ds) (var_at ds name)

-- the variable with a given name is at the name's place
pub var-at-place : (vars : List VarDecl) (names : List (List ℕ)) (name : List ℕ) (o : Option ℕ) → names ≡ names_of vars → o ≡ place_from 0 names name
    → option_and_then (slice_get vars) o ≡ var_named name vars
var-at-place vars names name o same e =
    ap (option_and_then (slice_get vars)) (e ∙ ap (λ xs. place_from 0 xs name) same ∙ place-from-zero (names_of vars) name) ∙ sym (var_at vars name)

head_at : (heads : List RuleHead) (name : List ℕ) → head_named name heads ≡ option_and_then (slice_get heads) (place_of (head_names heads) name)
head_at [] name = refl
head_at (h ∷ hs) name = here_by h hs (bytes_eq h.name name) (place_of (head_names hs) name) (head_named name hs) (head_at hs name)

-- the rule with a given name is at the name's place
pub head-at-place : (heads : List RuleHead) (names : List (List ℕ)) (name : List ℕ) (o : Option ℕ) → names ≡ head_names heads → o ≡ place_from 0 names name
    → option_and_then (slice_get heads) o ≡ head_named name heads
head-at-place heads names name o same e =
    ap (option_and_then (slice_get heads)) (e ∙ ap (λ xs. place_from 0 xs name) same ∙ place-from-zero (head_names heads) name) ∙ sym (head_at heads name)

number_by : (n : ℕ) (heads : List RuleHead) (name : List ℕ) → number_from n name heads ≡ place_from n (head_names heads) name
number_by n [] name = refl
number_by n (h ∷ hs) name = ap (λ o. if bytes_eq h.name name then Some n else o) (number_by (n + 1) hs name)

-- and its number is the place
pub number-is-place : (heads : List RuleHead) (names : List (List ℕ)) (name : List ℕ) → names ≡ head_names heads
    → number_from 0 name heads ≡ place_from 0 names name
number-is-place heads names name same = number_by 0 heads name ∙ sym (ap (λ xs. place_from 0 xs name) same)

names-length : (heads : List RuleHead) → length (head_names heads) ≡ length heads
names-length [] = refl
names-length (h ∷ hs) = ap (λ k. suc k) (names-length hs)

pub number_within : (heads : List RuleHead) (names : List (List ℕ)) (name : List ℕ) (i : ℕ) → names ≡ head_names heads
    → Some i ≡ place_from 0 names name → i < length heads
number_within heads names name i same e =
    let w : i < 0 + length names = place_within 0 i names name (sym e) in
    omega (arith, w, ap length same ∙ names-length heads)

virtual_by : (b : Bool) (n : ℕ) (q : Option ℕ) (r : Bool) → r ≡ is_some q → (if b then true else r) ≡ is_some (if b then Some n else q)
virtual_by true n q r h = refl
virtual_by false n q r h = h

virtual_from : (n : ℕ) (names : List (List ℕ)) (name : List ℕ) → is_virtual names name ≡ is_some (place_from n names name)
virtual_from n [] name = refl
virtual_from n (v ∷ vs) name = virtual_by (bytes_eq v name) n (place_from (n + 1) vs name) (is_virtual vs name) (virtual_from (n + 1) vs name)

pub virtual-has-place : (names : List (List ℕ)) (name : List ℕ) → is_virtual names name ≡ is_some (place_from 0 names name)
virtual-has-place names name = virtual_from 0 names name
