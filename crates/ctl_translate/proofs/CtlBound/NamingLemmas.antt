-- Marks of parts with the numbers of variables, and their bits.
use Rattle.std.proofs.Common.{◌≡◌, ℕ, ◌+◌, ◌*◌, ◌/◌, ◌%◌, ◌^◌, ◌<◌, ◌≤◌, Bool, true, false, ◌&&◌, ◌||◌, nat_lt}
use Rattle.std.proofs.Common.{arith, refl, sym, ap, ◌∙◌, inl, inr, List, length, take, get_or, Option, None, Some}
use Rattle.std.specs.Prelude.{bit_or, nat_eq, slice_get}
use Rattle.std.proofs.Math.ListN.{set}
use Rattle.std.proofs.lemmas.Bool.{cases_eq, cases_Bool, cases_lt, eq-eqb, ne_eqb, eqb-true, and_from, and_left, and_right, or_right, lt-ltb, le-ltb}
use Rattle.std.proofs.lemmas.Bool.{false_from_ne_true, both_ways}
use Rattle.std.proofs.lemmas.Grind.{get_or-set_at}
use Rattle.std.proofs.lemmas.List.{get_or-set_other}
use Rattle.std.proofs.lemmas.List.Folds.{list_any_more, list_any_at}
use Rattle.std.proofs.lemmas.List.Quantifiers.{position-Some}
use Rattle.std.proofs.lemmas.Option.{slice_get_within, get_or_from_slice_get}
use Rattle.smpl_terms.specs.declared.var.Var.{Var}
use Rattle.smpl_terms.specs.Vars.{same_var}
use Rattle.smpl_terms.proofs.VarLaws.{same_var-equal, same_var-refl}
use Rattle.pattern_vars.specs.Reads.{has, number_of, is_number}
use Rattle.pattern_vars.proofs.SetLemmas.{put-none}
use Rattle.ctl_formula.specs.declared.node.Node.{Node}
use Rattle.ctl_translate.specs.declared.ctl_bound.naming.Mark.{Mark}
use Rattle.ctl_translate.specs.CtlBound.Bits.{is_bit}
use Rattle.ctl_translate.specs.CtlBound.Naming.{is_marked}
use Rattle.ctl_translate.proofs.CtlBound.BitLemmas.{is_bit-set_same, is_bit-set_other}

-- a mark's bit is set
pub bit-put : (masks : List ℕ) (part variable group : ℕ) → variable / 64 ≡ group → part < length masks
    → (i k : ℕ) → i < length masks → k < 64
    → is_bit (get_or (set masks part (bit_or (get_or masks part 0) (1 * 2 ^ (variable % 64) % 2 ^ 64))) i 0) k
    ≡ (is_bit (get_or masks i 0) k || (nat_eq part i && nat_eq variable (64 * group + k)))
bit-put masks part variable group g p i k l h = elim (cases_eq part i) [
  | inl same ↦
      ap (λ z. is_bit z k) (get_or-set_at masks part i (with_bit part) 0 (sym same) p)
      ∙ ap (λ z. is_bit (with_bit z) k) same
      ∙ elim (cases_eq k (variable % 64)) [
        | inl equal ↦
            let named : (nat_eq part i && nat_eq variable (64 * group + k)) ≡ true
            = and_from (nat_eq part i) (nat_eq variable (64 * group + k)) (eq-eqb part i same)
            (eq-eqb variable (64 * group + k) (omega (arith, g, equal))) in
            ap (λ z. is_bit (with_bit i) z) equal ∙ is_bit-set_same (get_or masks i 0) (variable % 64) (omega arith)
            ∙ sym (or_right (is_bit (get_or masks i 0) k) (nat_eq part i && nat_eq variable (64 * group + k)) named)
        | inr apart ↦
            is_bit-set_other (get_or masks i 0) (variable % 64) k (omega arith) apart
            ∙ put-none (is_bit (get_or masks i 0) k) (nat_eq part i && nat_eq variable (64 * group + k))
            (and_right (nat_eq part i) (nat_eq variable (64 * group + k))
            (ne_eqb variable (64 * group + k) (λ e. apart (omega (arith, e, h)))))
      ]
  | inr other ↦
      ap (λ z. is_bit z k) (get_or-set_other masks part i (with_bit part) 0 (λ e. other (sym e)))
      ∙ put-none (is_bit (get_or masks i 0) k) (nat_eq part i && nat_eq variable (64 * group + k))
      (and_left (nat_eq part i) (nat_eq variable (64 * group + k)) (ne_eqb part i other))
]
  where
    with_bit : ℕ → ℕ
    with_bit j = bit_or (get_or masks j 0) (1 * 2 ^ (variable % 64) % 2 ^ 64)

-- one more mark
pub named-more : (marks : List Mark) (m : Mark) (j i k : ℕ) (old new : Bool) → j < length marks → m ≡ get_or marks j m
    → old ≡ is_marked (take j marks) i k → new ≡ (old || (nat_eq m.part i && nat_eq m.variable k))
    → new ≡ is_marked (take (j + 1) marks) i k
named-more marks m j i k old new l e o n =
    n ∙ ap (λ (z : Bool). z || (nat_eq m.part i && nat_eq m.variable k)) o
    ∙ ap (λ (z : Mark). is_marked (take j marks) i k || (nat_eq z.part i && nat_eq z.variable k)) e
    ∙ sym (list_any_more (λ (z : Mark). nat_eq z.part i && nat_eq z.variable k) marks j m l)

-- variables with the same number are equal
number-true : (o : Option ℕ) (k : ℕ) → is_number o k ≡ true → o ≡ Some k
number-true None k h = absurd cc
number-true (Some j) k h = ap Some (eqb-true j k h)

pub number-same : (vars : List Var) (x y : Var) (k : ℕ) → number_of vars x ≡ Some k
    → is_number (number_of vars y) k ≡ same_var y x
number-same vars x y k h = elim (cases_Bool (same_var y x)) [
  | inl e ↦ ap (λ (z : Var). is_number (number_of vars z) k) (same_var-equal y x e) ∙ ap (λ o. is_number o k) h
      ∙ eq-eqb k k refl ∙ sym e
  | inr e ↦ false_from_ne_true (is_number (number_of vars y) k) (λ t.
      let mine = (position-Some (λ (z : Var). same_var z y) vars k y (number-true (number_of vars y) k t)).1 in
      let its = (position-Some (λ (z : Var). same_var z x) vars k y h).1 in
      let one : y ≡ x = sym (same_var-equal (get_or vars k y) y mine) ∙ same_var-equal (get_or vars k y) x its in
      both_ways (same_var y x) e (ap (λ (z : Var). same_var z x) one ∙ same_var-refl x)) ∙ sym e
]

-- a variable that has a number is in the list
pub has-numbered : (vars : List Var) (x : Var) (k : ℕ) → number_of vars x ≡ Some k → has vars x ≡ true
has-numbered vars x k h =
    let found = position-Some (λ (z : Var). same_var z x) vars k x h in
    list_any_at (λ (z : Var). same_var z x) vars k x found.0 found.1

or-more : (m p a b : Bool) → ((m || (p && a)) || (p && b)) ≡ (m || (p && (a || b)))
or-more true p a b = refl
or-more false true a b = refl
or-more false false a b = refl

-- one more variable of the set
pub marks-more : (vars set : List Var) (j : ℕ) (y x : Var) (k : ℕ) (here first old new : Bool) → j < length set
    → slice_get set j ≡ Some y → number_of vars x ≡ Some k → old ≡ (first || (here && has (take j set) x))
    → new ≡ (old || (here && is_number (number_of vars y) k)) → new ≡ (first || (here && has (take (j + 1) set) x))
marks-more vars set j y x k here first old new l e h o n =
    let more : has (take (j + 1) set) x ≡ (has (take j set) x || same_var y x)
    = list_any_more (λ (z : Var). same_var z x) set j y l
    ∙ ap (λ (z : Var). has (take j set) x || same_var z x) (get_or_from_slice_get set j y y e) in
    n ∙ ap (λ (z : Bool). z || (here && is_number (number_of vars y) k)) o
    ∙ ap (λ (z : Bool). (first || (here && has (take j set) x)) || (here && z)) (number-same vars x y k h)
    ∙ or-more first here (has (take j set) x) (same_var y x)
    ∙ ap (λ (z : Bool). first || (here && z)) (sym more)

pub some-same : (n m : Node) (o : Option Node) → o ≡ Some n → o ≡ Some m → n ≡ m
some-same n m o h k = let both : ◌≡◌ {A = Option Node} (Some n) (Some m) = sym h ∙ k in cc

-- one more part
pub parts-more : (ns : List Node) (part i : ℕ) (n m : Node) (test : Node → Bool) (old new : Bool) → slice_get ns i ≡ Some n
    → slice_get ns part ≡ Some m → old ≡ (nat_lt i part && test n) → new ≡ (old || (nat_eq part i && test m))
    → new ≡ (nat_lt i (part + 1) && test n)
parts-more ns part i n m test old new e f o s = elim (cases_eq part i) [
  | inl same ↦
      let one : m ≡ n = some-same m n (slice_get ns part) f (ap (slice_get ns) same ∙ e) in
      s ∙ ap (λ (z : Bool). z || (nat_eq part i && test m))
      (o ∙ ap (λ (z : Bool). z && test n) (le-ltb i part (omega (arith, same))))
      ∙ ap (λ (z : Bool). z && test m) (eq-eqb part i same) ∙ ap test one
      ∙ ap (λ (z : Bool). z && test n) (sym (lt-ltb i (part + 1) (omega (arith, same))))
  | inr other ↦
      s ∙ sym (put-none old (nat_eq part i && test m) (and_left (nat_eq part i) (test m) (ne_eqb part i other)))
      ∙ o ∙ ap (λ (z : Bool). z && test n) (elim (cases_lt i part) [
        | inl below ↦ lt-ltb i part below ∙ sym (lt-ltb i (part + 1) (omega (arith, below)))
        | inr above ↦ le-ltb i part above ∙ sym (le-ltb i (part + 1) (omega (arith, above, other)))
      ])
]

pub parts-all : (ns : List Node) (part i : ℕ) (n : Node) (test : Node → Bool) (b : Bool) → length ns ≤ part
    → slice_get ns i ≡ Some n → b ≡ (nat_lt i part && test n) → b ≡ test n
parts-all ns part i n test b l e h =
    h ∙ ap (λ (z : Bool). z && test n) (lt-ltb i part (omega (arith, l, slice_get_within ns i n e)))
