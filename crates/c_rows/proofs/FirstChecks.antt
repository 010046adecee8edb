-- What may come first: tests of the rows, each computed over every class.
use Rattle.std.proofs.Common.{◌≡◌, ℕ, zero, suc, List, [], ◌∷◌, refl, subst, ap, sym, ◌∙◌, eqb-true}
use Rattle.std.specs.Prelude.{Bool, true, false, not, ◌&&◌, ◌||◌, IsTrue, Some, slice_get}
use Rattle.std.specs.List.{list_all}
use Rattle.c_rows.specs.declared.class.Class.{Class}
use Rattle.c_rows.specs.declared.word.Word.{Word}
use Rattle.c_rows.specs.declared.word.Word.TheVariants as words
use Rattle.c_rows.specs.declared.rule.Rule.{Rule}
use Rattle.c_rows.specs.declared.rule.Rule.TheVariants as rule
use Rattle.c_rows.specs.declared.kind.Kind.{Kind}
use Rattle.c_rows.specs.declared.kind.Family.{Family}
use Rattle.c_rows.specs.declared.kind.Family.TheVariants as family
use Rattle.c_rows.specs.declared.symbol.Symbol.TheVariants as symbol
use Rattle.c_rows.specs.declared.symbol.Fork.{Fork}
use Rattle.c_rows.specs.declared.symbol.Fork.TheVariants as forks
use Rattle.c_rows.specs.Words.{number, same_class, fits, begins_specs, ends_member}
use Rattle.c_rows.specs.Kinds.{family_of, has_leaf}
use Rattle.c_rows.specs.Rows.{Row, ways, row, kind_of}
use Rattle.c_rows.specs.Branches.{begins}
use Rattle.c_rows.specs.Spells.{member_kind}
use Rattle.c_rows.specs.Choice.{after, stops, stops_fork, first, opens, classes, every, implies, begins_expression}
use Rattle.c_rows.proofs.Numbers.{listed}

-- ---- on Bool

pub and_left : (a b : Bool) → IsTrue (a && b) → IsTrue a
and_left true b h = refl
and_left false b h = h

pub and_right : (a b : Bool) → IsTrue (a && b) → IsTrue b
and_right true b h = h
and_right false b h = absurd (let no : ⊥ = cc in no)

pub modus : (a b : Bool) → IsTrue (implies a b) → IsTrue a → IsTrue b
modus true b h g = h
modus false b h g = absurd (let no : ⊥ = cc in no)

pub both : (a b : Bool) → IsTrue a → IsTrue b → IsTrue (a && b)
both true b h g = g
both false b h g = let no : ⊥ = cc in absurd no

pub implies_both : (a b c : Bool) → IsTrue (implies a b) → (IsTrue b → IsTrue c) → IsTrue (implies a c)
implies_both true b c h f = f h
implies_both false b c h f = refl

pub not_true : (b : Bool) → IsTrue (not b) → b ≡ false
not_true true h = let no : ⊥ = cc in absurd no
not_true false h = refl

some_is : {A : Type 0} {a b : A} → Some a ≡ Some b → a ≡ b
some_is e = cc

-- ---- over every class

all_from : (p q : Class → Bool) (xs : List Class) → ((c : Class) → IsTrue (p c) → IsTrue (q c)) → IsTrue (list_all p xs) → IsTrue (list_all q xs)
all_from p q [] f h = refl
all_from p q (x ∷ xs) f h = both (q x) (list_all q xs) (f x (and_left (p x) (list_all p xs) h)) (all_from p q xs f (and_right (p x) (list_all p xs) h))

pub every_from : (p q : Class → Bool) → ((c : Class) → IsTrue (p c) → IsTrue (q c)) → IsTrue (every p) → IsTrue (every q)
every_from p q f h = all_from p q classes f h

pub at : (p : Class → Bool) (xs : List Class) (i : ℕ) (c : Class) → IsTrue (list_all p xs) → slice_get xs i ≡ Some c → IsTrue (p c)
at p [] i c h e = let no : ⊥ = cc in absurd no
at p (x ∷ xs) zero c h e = let same : x ≡ c = cc in subst (λ (y : Class). IsTrue (p y)) same (and_left (p x) (list_all p xs) h)
at p (x ∷ xs) (suc i) c h e = at p xs i c (and_right (p x) (list_all p xs) h) e

pub every_at : (p : Class → Bool) → IsTrue (every p) → (c : Class) → IsTrue (p c)
every_at p h c = at p classes (number c) c h (listed c)

-- two classes with the same number are the same
pub one_is : (c d : Class) → IsTrue (same_class c d) → c ≡ d
one_is c d h = some_is (sym (listed c) ∙ ap (λ (n : ℕ). slice_get classes n) (eqb-true (number c) (number d) h) ∙ listed d)

-- The classes at which a test fails. A test of the rows says that there are none, so its error names them.
abbrev pub keep : Bool → Class → List Class → List Class
keep true c cs = cs
keep false c cs = c ∷ cs

abbrev pub failing : (Class → Bool) → List Class → List Class
failing p [] = []
failing p (c ∷ cs) = keep (p c) c (failing p cs)

abbrev pub Passes : (Class → Bool) → Type 0
Passes p = failing p classes ≡ []

none_fails : (p : Class → Bool) (xs : List Class) → failing p xs ≡ [] → IsTrue (list_all p xs)
none_fails p [] e = refl
none_fails p (x ∷ xs) e = here (p x) e (λ f. none_fails p xs f)
  where
    here : (b : Bool) → keep b x (failing p xs) ≡ [] → (failing p xs ≡ [] → IsTrue (list_all p xs)) → IsTrue (b && list_all p xs)
    here true f rest = rest f
    here false f rest = let no : ⊥ = cc in absurd no

pub passes_at : (p : Class → Bool) → Passes p → (c : Class) → IsTrue (p c)
passes_at p h c = every_at p (none_fails p classes h) c

-- ---- over the classes of a word

-- A set of classes is tested over all of them, and a class by itself needs no test.
abbrev pub set_test : (Word → Class → Bool) → Word → Class → Bool
set_test p (words.One c) d = true
set_test p w d = implies (fits w d) (p w d)

pub word_at : (p : Word → Class → Bool) → ((c : Class) → IsTrue (p (words.One c) c))
    → ((w : Word) → Passes (set_test p w)) → (w : Word) (c : Class) → IsTrue (fits w c) → IsTrue (p w c)
word_at p one sets (words.One c) d f = subst (λ (e : Class). IsTrue (p (words.One c) e)) (one_is c d f) (one c)
word_at p one sets w d f = modus (fits w d) (p w d) (passes_at (set_test p w) (sets w) d) f

-- ---- over every way of a fork

pub row_at : (p : Row → Bool) (rows : List Row) (i : ℕ) (ps : Row) → IsTrue (list_all p rows) → slice_get rows i ≡ Some ps → IsTrue (p ps)
row_at p [] i ps h e = let no : ⊥ = cc in absurd no
row_at p (x ∷ xs) zero ps h e = let same : x ≡ ps = cc in subst (λ (y : Row). IsTrue (p y)) same (and_left (p x) (list_all p xs) h)
row_at p (x ∷ xs) (suc i) ps h e = row_at p xs i ps (and_right (p x) (list_all p xs) h) e

-- ---- what comes first

abbrev pub closes : Row → Class → Bool
closes [] c = true
closes (symbol.Word w ∷ ps) c = closes ps c
closes (symbol.Child k ∷ []) c = after k c
closes (symbol.Child k ∷ p ∷ ps) c = closes (p ∷ ps) c
closes (symbol.Argument ∷ []) c = ends_member c
closes (symbol.Argument ∷ p ∷ ps) c = closes (p ∷ ps) c
closes (symbol.Fork f ∷ ps) c = stops_fork f c

abbrev pub joins_at : Kind → Row → Class → Bool
joins_at k ps c = implies (opens ps c) (after k c)

abbrev pub member_at : Row → Class → Bool
member_at ps c = implies (opens ps c) (ends_member c)

abbrev pub joins : Row → Bool
joins [] = true
joins (symbol.Word w ∷ ps) = joins ps
joins (symbol.Child k ∷ []) = true
joins (symbol.Child k ∷ p ∷ ps) = every (joins_at k (p ∷ ps)) && joins (p ∷ ps)
joins (symbol.Argument ∷ []) = true
joins (symbol.Argument ∷ p ∷ ps) = every (member_at (p ∷ ps)) && joins (p ∷ ps)
joins (symbol.Fork f ∷ []) = true
joins (symbol.Fork f ∷ p ∷ ps) = false

pub joins_rule : (r : Rule) → IsTrue (joins (row r))
joins_rule rule.Paren = refl
joins_rule _ = refl

joins_ways : (f : Fork) → IsTrue (list_all joins (ways f))
joins_ways forks.FirstString = refl
joins_ways _ = refl

pub joins_way : (f : Fork) (i : ℕ) (ps : Row) → slice_get (ways f) i ≡ Some ps → IsTrue (joins ps)
joins_way f i ps e = row_at joins (ways f) i ps (joins_ways f) e

abbrev closes_at : Rule → Class → Bool
closes_at r c = implies (after (kind_of r) c) (closes (row r) c)

closes_test : (r : Rule) → Passes (closes_at r)
closes_test rule.Paren = refl
closes_test _ = refl

pub closes_rule : (r : Rule) (c : Class) → IsTrue (after (kind_of r) c) → IsTrue (closes (row r) c)
closes_rule r c = modus (after (kind_of r) c) (closes (row r) c) (passes_at (closes_at r) (closes_test r) c)

abbrev closes_way_at : Fork → Row → Class → Bool
closes_way_at f ps c = implies (stops_fork f c) (closes ps c)

abbrev closes_in : Fork → Row → Bool
closes_in f ps = every (closes_way_at f ps)

closes_ways : (f : Fork) → IsTrue (list_all (closes_in f) (ways f))
closes_ways forks.FirstString = refl
closes_ways _ = refl

pub closes_way : (f : Fork) (i : ℕ) (ps : Row) (c : Class) → slice_get (ways f) i ≡ Some ps → IsTrue (stops_fork f c) → IsTrue (closes ps c)
closes_way f i ps c e = modus (stops_fork f c) (closes ps c) (every_at (closes_way_at f ps) (row_at (closes_in f) (ways f) i ps (closes_ways f) e) c)

abbrev opens_at : Rule → Class → Bool
opens_at r c = implies (begins r c && opens (row r) c) (first (family_of (kind_of r)) c)

opens_test : (r : Rule) → Passes (opens_at r)
opens_test rule.Paren = refl
opens_test _ = refl

pub opens_rule : (r : Rule) (c : Class) → IsTrue (begins r c) → IsTrue (opens (row r) c) → IsTrue (first (family_of (kind_of r)) c)
opens_rule r c b o = modus (begins r c && opens (row r) c) (first (family_of (kind_of r)) c)
    (passes_at (opens_at r) (opens_test r) c) (both (begins r c) (opens (row r) c) b o)

abbrev leaf_at : Family → Class → Bool
leaf_at f c = implies (has_leaf f c) (first f c)

leaf_test : (f : Family) → Passes (leaf_at f)
leaf_test family.Expression = refl
leaf_test _ = refl

pub leaf_first : (f : Family) (c : Class) → IsTrue (has_leaf f c) → IsTrue (first f c)
leaf_first f c = modus (has_leaf f c) (first f c) (passes_at (leaf_at f) (leaf_test f) c)

abbrev member_after_at : Bool → Class → Bool
member_after_at b c = implies (ends_member c) (after (member_kind b) c)

member_after_test : (b : Bool) → Passes (member_after_at b)
member_after_test true = refl
member_after_test false = refl

pub member_after : (b : Bool) (c : Class) → IsTrue (ends_member c) → IsTrue (after (member_kind b) c)
member_after b c = modus (ends_member c) (after (member_kind b) c) (passes_at (member_after_at b) (member_after_test b) c)

abbrev member_stops_at : Bool → Class → Bool
member_stops_at b c = implies (ends_member c) (stops (member_kind b) c)

member_stops_test : (b : Bool) → Passes (member_stops_at b)
member_stops_test true = refl
member_stops_test false = refl

pub member_stops : (b : Bool) (c : Class) → IsTrue (ends_member c) → IsTrue (stops (member_kind b) c)
member_stops b c = modus (ends_member c) (stops (member_kind b) c) (passes_at (member_stops_at b) (member_stops_test b) c)

pub member_first : (b : Bool) (c : Class) → IsTrue (first (family_of (member_kind b)) c) → IsTrue (begins_expression c || begins_specs c)
member_first true c h = or_right (begins_expression c) (begins_specs c) h
  where
    or_right : (a b : Bool) → IsTrue b → IsTrue (a || b)
    or_right true b h = refl
    or_right false b h = h
member_first false c h = or_left (begins_expression c) (begins_specs c) h
  where
    or_left : (a b : Bool) → IsTrue a → IsTrue (a || b)
    or_left true b h = refl
    or_left false b h = let no : ⊥ = cc in absurd no
