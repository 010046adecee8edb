-- The choice of a way and of a rule: tests of the rows, each computed over every class.
use Rattle.std.proofs.Common.{◌≡◌, ℕ, zero, suc, List, [], ◌∷◌, refl, subst, ap, sym, ◌∙◌, eqb-true}
use Rattle.std.specs.Prelude.{Bool, true, false, not, ◌&&◌, ◌||◌, ◌==◌, IsTrue, Option, Some, None, is_none, slice_get, if◌then◌else◌}
use Rattle.std.specs.List.{list_all}
use Rattle.c_rows.specs.declared.class.Class.{Class}
use Rattle.c_rows.specs.declared.rule.Rule.{Rule}
use Rattle.c_rows.specs.declared.rule.Rule.TheVariants as rule
use Rattle.c_rows.specs.declared.kind.Kind.{Kind}
use Rattle.c_rows.specs.declared.kind.Kind.TheVariants as kind
use Rattle.c_rows.specs.declared.kind.Family.{Family}
use Rattle.c_rows.specs.declared.kind.Family.TheVariants as family
use Rattle.c_rows.specs.declared.symbol.Symbol.TheVariants as symbol
use Rattle.c_rows.specs.declared.symbol.Fork.{Fork}
use Rattle.c_rows.specs.declared.symbol.Fork.TheVariants as forks
use Rattle.c_rows.specs.Kinds.{family_of, within, has_leaf}
use Rattle.c_rows.specs.Rows.{Row, ways, row, kind_of}
use Rattle.c_rows.specs.Branches.{begins, may_go}
use Rattle.c_rows.specs.Choice.{head, tail, choose, pick_way, stops, stops_fork, ends, opens, leads, begins_way, every, implies}
use Rattle.c_rows.specs.Choice.{row_ok, steady, row_fine, weight, left, own, bottom}
use Rattle.c_rows.proofs.Numbers.{rules, rule_number, rule_listed}
pub use Rattle.c_rows.proofs.FirstChecks.{and_left, and_right, modus, both, implies_both, not_true, every_from, at, every_at}
pub use Rattle.c_rows.proofs.FirstChecks.{row_at, closes, joins_at, member_at, joins, joins_rule, joins_way, closes_rule}
pub use Rattle.c_rows.proofs.FirstChecks.{closes_way, opens_rule, leaf_first, member_after, member_stops, member_first, Passes}
pub use Rattle.c_rows.proofs.FirstChecks.{passes_at, one_is, set_test, word_at}

-- ---- the choice of a way

abbrev any_leads : Fork → List Row → Class → Bool
any_leads f [] c = false
any_leads f (ps ∷ more) c = leads f ps c || any_leads f more c

-- a row takes at most one way
abbrev apart : Fork → List Row → Class → Bool
apart f [] c = true
apart f (ps ∷ more) c = implies (leads f ps c) (not (any_leads f more c)) && apart f more c

abbrev apart_at : Fork → Class → Bool
apart_at f c = apart f (ways f) c

apart_test : (f : Fork) → Passes (apart_at f)
apart_test forks.FirstString = refl
apart_test _ = refl

any_here : (f : Fork) (rows : List Row) (i : ℕ) (ps : Row) (c : Class) → slice_get rows i ≡ Some ps → IsTrue (leads f ps c) → IsTrue (any_leads f rows c)
any_here f [] i ps c e l = let no : ⊥ = cc in absurd no
any_here f (x ∷ xs) zero ps c e l = let same : x ≡ ps = cc in or_left (leads f x c) (any_leads f xs c) (subst (λ (y : Row). IsTrue (leads f y c)) (sym same) l)
  where
    or_left : (a b : Bool) → IsTrue a → IsTrue (a || b)
    or_left true b h = refl
    or_left false b h = let no : ⊥ = cc in absurd no
any_here f (x ∷ xs) (suc i) ps c e l = or_right (leads f x c) (any_leads f xs c) (any_here f xs i ps c e l)
  where
    or_right : (a b : Bool) → IsTrue b → IsTrue (a || b)
    or_right true b h = refl
    or_right false b h = h

picked : (f : Fork) (rows : List Row) (i : ℕ) (ps : Row) (c : Class) → IsTrue (apart f rows c) → slice_get rows i ≡ Some ps
    → IsTrue (leads f ps c) → pick_way f rows c ≡ Some ps
picked f [] i ps c a e l = let no : ⊥ = cc in absurd no
picked f (x ∷ xs) zero ps c a e l = let same : x ≡ ps = cc in pick (leads f x c) (subst (λ (y : Row). IsTrue (leads f y c)) (sym same) l) same
  where
    pick : (b : Bool) → IsTrue b → x ≡ ps → (if b then Some x else pick_way f xs c) ≡ Some ps
    pick true h s = ap Some s
    pick false h s = let no : ⊥ = cc in absurd no
picked f (x ∷ xs) (suc i) ps c a e l =
    later (leads f x c) (and_left (implies (leads f x c) (not (any_leads f xs c))) (apart f xs c) a)
    (any_here f xs i ps c e l) (picked f xs i ps c (and_right (implies (leads f x c) (not (any_leads f xs c))) (apart f xs c) a) e l)
  where
    later : (b : Bool) → IsTrue (implies b (not (any_leads f xs c))) → IsTrue (any_leads f xs c) → pick_way f xs c ≡ Some ps
        → (if b then Some x else pick_way f xs c) ≡ Some ps
    later true h y p = let n : any_leads f xs c ≡ false = not_true (any_leads f xs c) h in let no : ⊥ = cc in absurd no
    later false h y p = p

pub leads_way : (f : Fork) (i : ℕ) (ps : Row) (c : Class) → slice_get (ways f) i ≡ Some ps → IsTrue (leads f ps c) → choose f c ≡ Some ps
leads_way f i ps c e l = picked f (ways f) i ps c (passes_at (apart_at f) (apart_test f) c) e l

-- no way begins with a fork
abbrev pub unforked : Row → Bool
unforked (symbol.Fork f ∷ ps) = false
unforked _ = true

unforked_ways : (f : Fork) → IsTrue (list_all unforked (ways f))
unforked_ways forks.FirstString = refl
unforked_ways _ = refl

pub unforked_way : (f : Fork) (i : ℕ) (ps : Row) → slice_get (ways f) i ≡ Some ps → IsTrue (unforked ps)
unforked_way f i ps e = row_at unforked (ways f) i ps (unforked_ways f) e

led_in : (f : Fork) (rows : List Row) (c : Class) (ps : Row) → pick_way f rows c ≡ Some ps → IsTrue (leads f ps c)
led_in f [] c ps e = let no : ⊥ = cc in absurd no
led_in f (x ∷ xs) c ps e = here (leads f x c) refl e (λ h. led_in f xs c ps h)
  where
    here : (b : Bool) → leads f x c ≡ b → (if b then Some x else pick_way f xs c) ≡ Some ps
        → (pick_way f xs c ≡ Some ps → IsTrue (leads f ps c)) → IsTrue (leads f ps c)
    here true q h more = let same : x ≡ ps = cc in subst (λ (y : Row). IsTrue (leads f y c)) same q
    here false q h more = more h

pub chosen_may : (f : Fork) (c : Class) (ps : Row) → choose f c ≡ Some ps → IsTrue (may_go f ps c)
chosen_may f c ps e = and_left (may_go f ps c) (begins_way f ps c) (led_in f (ways f) c ps e)

found_in : (f : Fork) (rows : List Row) (c : Class) (ps : Row) → pick_way f rows c ≡ Some ps → (i : ℕ) × (slice_get rows i ≡ Some ps)
found_in f [] c ps e = let no : ⊥ = cc in absurd no
found_in f (x ∷ xs) c ps e = here (leads f x c) e (λ h. found_in f xs c ps h)
  where
    here : (b : Bool) → (if b then Some x else pick_way f xs c) ≡ Some ps
        → (pick_way f xs c ≡ Some ps → (i : ℕ) × (slice_get xs i ≡ Some ps)) → (i : ℕ) × (slice_get (x ∷ xs) i ≡ Some ps)
    here true h more = (0, h)
    here false h more = let found = more h in (suc found.0, found.1)

pub chosen_way : (f : Fork) (c : Class) (ps : Row) → choose f c ≡ Some ps → (i : ℕ) × (slice_get (ways f) i ≡ Some ps)
chosen_way f c ps e = found_in f (ways f) c ps e

-- ---- what a row reads

pub own_ok : (r : Rule) → IsTrue (row_ok (own r))
own_ok rule.Paren = refl
own_ok _ = refl

ways_ok : (f : Fork) → IsTrue (list_all row_ok (ways f))
ways_ok forks.FirstString = refl
ways_ok _ = refl

pub way_ok : (f : Fork) (i : ℕ) (ps : Row) → slice_get (ways f) i ≡ Some ps → IsTrue (row_ok ps)
way_ok f i ps e = row_at row_ok (ways f) i ps (ways_ok f) e

steady_own : (r : Rule) → IsTrue (steady (own r))
steady_own rule.Paren = refl
steady_own _ = refl

steady_ways : (f : Fork) → IsTrue (list_all steady (ways f))
steady_ways forks.FirstString = refl
steady_ways _ = refl

abbrev light : Row → Bool
light ps = weight ps == 0

light_ways : (f : Fork) → IsTrue (list_all light (ways f))
light_ways forks.FirstString = refl
light_ways _ = refl

pub weight_way : (f : Fork) (i : ℕ) (ps : Row) → slice_get (ways f) i ≡ Some ps → weight ps ≡ 0
weight_way f i ps e = eqb-true (weight ps) 0 (row_at light (ways f) i ps (light_ways f) e)

pub own_fine : (r : Rule) → IsTrue (row_fine (own r))
own_fine r = both (row_ok (own r)) (steady (own r)) (own_ok r) (steady_own r)

pub way_fine : (f : Fork) (i : ℕ) (ps : Row) → slice_get (ways f) i ≡ Some ps → IsTrue (row_fine ps)
way_fine f i ps e = both (row_ok ps) (steady ps) (way_ok f i ps e) (row_at steady (ways f) i ps (steady_ways f) e)

-- what stops a rule's kind ends its row
abbrev ends_at : Rule → Class → Bool
ends_at r c = implies (stops (kind_of r) c) (ends (own r) c)

ends_test : (r : Rule) → Passes (ends_at r)
ends_test rule.Paren = refl
ends_test _ = refl

pub ends_rule : (r : Rule) (c : Class) → IsTrue (stops (kind_of r) c) → IsTrue (ends (own r) c)
ends_rule r c = modus (stops (kind_of r) c) (ends (own r) c) (passes_at (ends_at r) (ends_test r) c)

abbrev way_ends_at : Fork → Row → Class → Bool
way_ends_at f ps c = implies (stops_fork f c) (ends ps c)

abbrev ends_in : Fork → Row → Bool
ends_in f ps = every (way_ends_at f ps)

ends_ways : (f : Fork) → IsTrue (list_all (ends_in f) (ways f))
ends_ways forks.FirstString = refl
ends_ways _ = refl

pub way_ends : (f : Fork) (i : ℕ) (ps : Row) (c : Class) → slice_get (ways f) i ≡ Some ps → IsTrue (stops_fork f c) → IsTrue (ends ps c)
way_ends f i ps c e = modus (stops_fork f c) (ends ps c) (every_at (way_ends_at f ps) (row_at (ends_in f) (ways f) i ps (ends_ways f) e) c)

-- ---- kinds

pub bottom_within : (k : Kind) → IsTrue (within (bottom (family_of k)) k)
bottom_within kind.Post = refl
bottom_within _ = refl

abbrev left_ok : Rule → Option Kind → Bool
left_ok r None = true
left_ok r (Some l) = within l (kind_of r)

left_test : (r : Rule) → IsTrue (left_ok r (left r))
left_test rule.Paren = refl
left_test _ = refl

pub left_within : (r : Rule) (l : Kind) → left r ≡ Some l → IsTrue (within l (kind_of r))
left_within r l e = subst (λ (o : Option Kind). IsTrue (left_ok r o)) e (left_test r)

-- ---- rules

abbrev is_rule : Rule → Option Rule → Bool
is_rule r None = false
is_rule r (Some q) = rule_number r == rule_number q

rule_is : (r : Rule) (o : Option Rule) → IsTrue (is_rule r o) → o ≡ Some r
rule_is r None h = let no : ⊥ = cc in absurd no
rule_is r (Some q) h = sym (rule_listed q) ∙ ap (slice_get rules) (sym (eqb-true _ _ h)) ∙ rule_listed r

rule_at : (p : Rule → Bool) (qs : List Rule) (i : ℕ) (r : Rule) → IsTrue (list_all p qs) → slice_get qs i ≡ Some r → IsTrue (p r)
rule_at p [] i r h e = let no : ⊥ = cc in absurd no
rule_at p (x ∷ xs) zero r h e = let same : x ≡ r = cc in subst (λ (y : Rule). IsTrue (p y)) same (and_left (p x) (list_all p xs) h)
rule_at p (x ∷ xs) (suc i) r h e = rule_at p xs i r (and_right (p x) (list_all p xs) h) e

-- ---- the first operand

pub family_bottom : (f : Family) → family_of (bottom f) ≡ f
family_bottom family.Expression = refl
family_bottom _ = refl

abbrev heads : Rule → Option Kind → Class → Bool
heads r (Some l) c = true
heads r None c = implies (begins r c && opens (row r) c) (is_rule r (head (family_of (kind_of r)) c) && not (has_leaf (family_of (kind_of r)) c))

abbrev heads_at : Rule → Class → Bool
heads_at r c = heads r (left r) c

heads_test : (r : Rule) → Passes (heads_at r)
heads_test rule.Paren = refl
heads_test _ = refl

heads_here : (r : Rule) (c : Class) → left r ≡ None → IsTrue (begins r c) → IsTrue (opens (row r) c)
    → IsTrue (is_rule r (head (family_of (kind_of r)) c) && not (has_leaf (family_of (kind_of r)) c))
heads_here r c e b o = modus (begins r c && opens (row r) c) _
    (subst (λ (k : Option Kind). IsTrue (heads r k c)) e (passes_at (heads_at r) (heads_test r) c)) (both (begins r c) (opens (row r) c) b o)

pub head_is : (r : Rule) (c : Class) → left r ≡ None → IsTrue (begins r c) → IsTrue (opens (row r) c) → head (family_of (kind_of r)) c ≡ Some r
head_is r c e b o = rule_is r (head (family_of (kind_of r)) c) (and_left (is_rule r (head (family_of (kind_of r)) c)) _ (heads_here r c e b o))

pub head_no_leaf : (r : Rule) (c : Class) → left r ≡ None → IsTrue (begins r c) → IsTrue (opens (row r) c) → has_leaf (family_of (kind_of r)) c ≡ false
head_no_leaf r c e b o = not_true _ (and_right (is_rule r (head (family_of (kind_of r)) c)) (not (has_leaf (family_of (kind_of r)) c)) (heads_here r c e b o))

-- ---- continuing

abbrev pub word_led : Row → Bool
word_led (symbol.Word w ∷ ps) = true
word_led _ = false

abbrev tails : Rule → Option Kind → Bool
tails r None = true
tails r (Some l) = word_led (own r)

tails_test : (r : Rule) → IsTrue (tails r (left r))
tails_test rule.Paren = refl
tails_test _ = refl

pub tail_word : (r : Rule) (l : Kind) → left r ≡ Some l → IsTrue (word_led (own r))
tail_word r l e = subst (λ (k : Option Kind). IsTrue (tails r k)) e (tails_test r)

abbrev goes : Rule → Option Kind → Class → Bool
goes r None c = true
goes r (Some l) c = implies (opens (own r) c) (is_rule r (tail (family_of (kind_of r)) c))

abbrev goes_at : Rule → Class → Bool
goes_at r c = goes r (left r) c

goes_test : (r : Rule) → Passes (goes_at r)
goes_test rule.Paren = refl
goes_test _ = refl

pub tail_is : (r : Rule) (l : Kind) (c : Class) → left r ≡ Some l → IsTrue (opens (own r) c) → tail (family_of (kind_of r)) c ≡ Some r
tail_is r l c e o =
    rule_is r _ (modus (opens (own r) c) _ (subst (λ (k : Option Kind). IsTrue (goes r k c)) e (passes_at (goes_at r) (goes_test r) c)) o)

-- a left part ends where its rule continues
abbrev pairs : Rule → Option Kind → Rule → Class → Bool
pairs r None q c = true
pairs r (Some l) q c = implies (within (kind_of q) l) (implies (opens (own r) c) (ends (own q) c))

abbrev pair_at : Rule → Rule → Class → Bool
pair_at r q c = pairs r (left r) q c

abbrev pairs_at : Rule → Rule → Bool
pairs_at r q = every (pair_at r q)

pair_test : (r : Rule) → IsTrue (list_all (pairs_at r) rules)
pair_test rule.Paren = refl
pair_test _ = refl

pub left_ends : (r : Rule) (l : Kind) (q : Rule) (c : Class) → left r ≡ Some l → IsTrue (within (kind_of q) l)
    → IsTrue (opens (own r) c) → IsTrue (ends (own q) c)
left_ends r l q c e w o =
    modus (opens (own r) c) (ends (own q) c) (modus (within (kind_of q) l) _ (subst (λ (k : Option Kind). IsTrue (pairs r k q c)) e
    (every_at (pair_at r q) (rule_at (pairs_at r) rules (rule_number q) q (pair_test r) (rule_listed q)) c)) w) o

abbrev no_left : Class → Option Rule → Bool
no_left c None = true
no_left c (Some r) = is_none (left r) && begins r c

abbrev no_left_at : Family → Class → Bool
no_left_at f c = no_left c (head f c)

no_left_test : (f : Family) → Passes (no_left_at f)
no_left_test family.Expression = refl
no_left_test _ = refl

is_none_is : (o : Option Kind) → IsTrue (is_none o) → o ≡ None
is_none_is None h = refl
is_none_is (Some k) h = let never : ⊥ = cc in absurd never

pub head_left : (f : Family) (c : Class) (r : Rule) → head f c ≡ Some r → left r ≡ None
head_left f c r e = is_none_is (left r) (and_left (is_none (left r)) (begins r c)
    (subst (λ (o : Option Rule). IsTrue (no_left c o)) e (passes_at (no_left_at f) (no_left_test f) c)))

pub head_begins : (f : Family) (c : Class) (r : Rule) → head f c ≡ Some r → IsTrue (begins r c)
head_begins f c r e = and_right (is_none (left r)) (begins r c)
    (subst (λ (o : Option Rule). IsTrue (no_left c o)) e (passes_at (no_left_at f) (no_left_test f) c))

-- a rule that continues from a tree may begin anywhere
abbrev tail_begins_at : Rule → Class → Bool
tail_begins_at r c = is_none (left r) || begins r c

tail_begins_test : (r : Rule) → Passes (tail_begins_at r)
tail_begins_test rule.Paren = refl
tail_begins_test _ = refl

pub tail_begins : (r : Rule) (l : Kind) (c : Class) → left r ≡ Some l → IsTrue (begins r c)
tail_begins r l c e = subst (λ (k : Option Kind). IsTrue (is_none k || begins r c)) e (passes_at (tail_begins_at r) (tail_begins_test r) c)
