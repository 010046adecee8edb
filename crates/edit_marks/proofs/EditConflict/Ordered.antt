-- Acts sorted by token, and at each token by edit.
use Rattle.std.proofs.Common.{◌≡◌, ◌<◌, ◌≤◌, ◌+◌, ◌⊎◌, ℕ, zero, suc, Bool, true, false, refl, sym, ap, arith, inl, inr, List}
use Rattle.std.proofs.Common.{[], ◌∷◌, ◌++◌, filter, drop, length, get_or, subst, cond}
use Rattle.std.specs.List.Sorted.{IsNonDecreasingBy}
use Rattle.std.proofs.lemmas.Bool.Decides.{Decides-eqb}
use Rattle.edit_marks.specs.declared.edit_conflict.edit.Insert.{Insert}
use Rattle.edit_marks.specs.declared.edit_conflict.edit.Edit.{Edit}
use Rattle.edit_marks.specs.declared.edit_conflict.mark.Mark.{Mark}
use Rattle.edit_marks.specs.EditConflict.Marks.{is_at, removal_marks, insert_marks, marks_of, marks_from, AreMarks}
use Rattle.edit_marks.proofs.EditConflict.Members.{In, In-either, In-filter, In-kept}

abbrev pub NoLater : Mark → Mark → Type 0
NoLater a b = (a.token < b.token) ⊎ ((a.token ≡ b.token) × (a.edit ≤ b.edit))

-- each act is no later than those after it
abbrev pub Ordered : List Mark → Type 0
Ordered [] = Unit {0}
Ordered (m ∷ ms) = ((x : Mark) → In x ms → NoLater m x) × Ordered ms

abbrev pub Rising : List Mark → Type 0
Rising [] = Unit {0}
Rising (m ∷ ms) = ((x : Mark) → In x ms → m.edit ≤ x.edit) × Rising ms

pub Ordered-drop : (n : ℕ) (ms : List Mark) → Ordered ms → Ordered (drop n ms)
Ordered-drop zero ms o = o
Ordered-drop (suc n) [] o = o
Ordered-drop (suc n) (m ∷ ms) o = Ordered-drop n ms o.1

-- the acts of the edits are ascending by edit

Rising-append : (xs ys : List Mark) → Rising xs → Rising ys → ((x y : Mark) → In x xs → In y ys → x.edit ≤ y.edit) → Rising (xs ++ ys)
Rising-append [] ys r s below = s
Rising-append (x ∷ xs) ys r s below =
    ((λ y h. elim (In-either y xs ys h) [ inl k ↦ r.0 y k | inr k ↦ below x y (inl refl) k ]), Rising-append xs ys r.1 s (λ a b h k. below a b (inr h) k))

removal_edit : (edit : ℕ) (tokens : List ℕ) (m : Mark) → In m (removal_marks edit tokens) → m.edit ≡ edit
removal_edit edit [] m h = absurd h
removal_edit edit (t ∷ tokens) m h = elim h [ inl e ↦ ap (λ (x : Mark). x.edit) e | inr k ↦ removal_edit edit tokens m k ]

insert_edit : (edit n : ℕ) (is : List Insert) (m : Mark) → In m (insert_marks edit n is) → m.edit ≡ edit
insert_edit edit n [] m h = absurd h
insert_edit edit n (i ∷ is) m h = elim h [ inl e ↦ ap (λ (x : Mark). x.edit) e | inr k ↦ insert_edit edit (n + 1) is m k ]

pub own_edit : (edit : ℕ) (e : Edit) (m : Mark) → In m (marks_of edit e) → m.edit ≡ edit
own_edit edit e m h = elim (In-either m (removal_marks edit e.removed) (insert_marks edit 0 e.inserts) h) [
  | inl k ↦ removal_edit edit e.removed m k
  | inr k ↦ insert_edit edit 0 e.inserts m k
]

all_same : (edit : ℕ) (ms : List Mark) → ((m : Mark) → In m ms → m.edit ≡ edit) → Rising ms
all_same edit [] h = tt
all_same edit (m ∷ ms) h =
    ((λ x k. let a = h m (inl refl) in let b = h x (inr k) in omega arith), all_same edit ms (λ x k. h x (inr k)))

pub from_edit : (n : ℕ) (es : List Edit) (m : Mark) → In m (marks_from n es) → n ≤ m.edit
from_edit n [] m h = absurd h
from_edit n (e ∷ es) m h = elim (In-either m (marks_of n e) (marks_from (n + 1) es) h) [
  | inl k ↦ let a = own_edit n e m k in omega arith
  | inr k ↦ let a = from_edit (n + 1) es m k in omega arith
]

from_Rising : (n : ℕ) (es : List Edit) → Rising (marks_from n es)
from_Rising n [] = tt
from_Rising n (e ∷ es) = Rising-append (marks_of n e) (marks_from (n + 1) es) (all_same n (marks_of n e) (own_edit n e)) (from_Rising (n + 1) es)
    (λ x y h k. let a = own_edit n e x h in let b = from_edit (n + 1) es y k in omega arith)

Rising-filter : (p : Mark → Bool) (ms : List Mark) → Rising ms → Rising (filter p ms)
Rising-filter p [] r = r
Rising-filter p (m ∷ ms) r = elim (p m) as (λ b. Rising (cond b (m ∷ filter p ms) (filter p ms))) [
  | true ↦ ((λ x h. r.0 x (In-kept p x ms h)), Rising-filter p ms r.1)
  | false ↦ Rising-filter p ms r.1
]

-- sorted by token, and ascending by edit at each token

place_of : (x : Mark) (ms : List Mark) → In x ms → (k : ℕ) × ((k < length ms) × (get_or ms k x ≡ x))
place_of x [] h = absurd h
place_of x (m ∷ ms) h = elim h [
  | inl e ↦ (0, (omega arith, sym e))
  | inr k ↦ let p = place_of x ms k in (suc p.0, (omega (arith, p.1.0), p.1.1))
]

first_least : (m : Mark) (ms : List Mark) → IsNonDecreasingBy (λ a. a.token) (m ∷ ms) → (x : Mark) → In x ms → m.token ≤ x.token
first_least m ms up x h =
    let p = place_of x ms h in
    let le : m.token ≤ (get_or ms p.0 x).token = up 0 (suc p.0) x (omega arith) (omega (arith, p.1.0)) in
    subst (λ (y : Mark). m.token ≤ y.token) p.1.1 le

rest_up : (m : Mark) (ms : List Mark) → IsNonDecreasingBy (λ a. a.token) (m ∷ ms) → IsNonDecreasingBy (λ a. a.token) ms
rest_up m ms up = λ i j d le less. up (suc i) (suc j) d (omega arith) (omega arith)

rest_rising : (m : Mark) (ms : List Mark) (token : ℕ) → Rising (filter (is_at token) (m ∷ ms)) → Rising (filter (is_at token) ms)
rest_rising m ms token r = by (is_at token m) r
  where
    by : (b : Bool) → Rising (cond b (m ∷ filter (is_at token) ms) (filter (is_at token) ms)) → Rising (filter (is_at token) ms)
    by true g = g.1
    by false g = g

head_rising : (m : Mark) (ms : List Mark) → Rising (filter (is_at m.token) (m ∷ ms)) → (x : Mark) → In x ms → x.token ≡ m.token → m.edit ≤ x.edit
head_rising m ms r x h e =
    let own : is_at m.token m ≡ true = (Decides-eqb m.token m.token).1 refl in
    let both : Rising (m ∷ filter (is_at m.token) ms) = subst (λ b. Rising (cond b (m ∷ filter (is_at m.token) ms) (filter (is_at m.token) ms))) own r in
    both.0 x (In-filter (is_at m.token) x ms ((Decides-eqb x.token m.token).1 e) h)

order : (a b : ℕ) → a ≤ b → (a < b) ⊎ (a ≡ b)
order a b le = grind arith

Ordered-by : (ms : List Mark) → IsNonDecreasingBy (λ a. a.token) ms → ((token : ℕ) → Rising (filter (is_at token) ms)) → Ordered ms
Ordered-by [] up r = tt
Ordered-by (m ∷ ms) up r = (
  (λ x h. elim (order m.token x.token (first_least m ms up x h)) [
    | inl less ↦ inl less
    | inr same ↦ inr (same, head_rising m ms (r m.token) x h (sym same))
  ]),
  Ordered-by ms (rest_up m ms up) (λ token. rest_rising m ms token (r token)),
)

pub marks_ordered : (edits : List Edit) (marks : List Mark) → AreMarks edits marks → Ordered marks
marks_ordered edits marks are = Ordered-by marks are.rise
    (λ token. subst Rising (sym (are.all token)) (Rising-filter (is_at token) (marks_from 0 edits) (from_Rising 0 edits)))
