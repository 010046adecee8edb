-- How the rows open and close brackets, and where a tree has a `?` or a comma outside them.
use Rattle.std.proofs.Common.{◌≡◌, ℕ, zero, suc, List, [], ◌∷◌, refl}
use Rattle.std.specs.Prelude.{Bool, true, false, ◌&&◌, ◌||◌, ◌==◌, IsTrue, Some, slice_get}
use Rattle.std.specs.List.{list_all}
use Rattle.c_rows.specs.declared.class.Class.{Class}
use Rattle.c_rows.specs.declared.word.Word.{Word}
use Rattle.c_rows.specs.declared.word.Word.TheVariants as words
use Rattle.c_rows.specs.declared.kind.Kind.{Kind}
use Rattle.c_rows.specs.declared.kind.Kind.TheVariants as kind
use Rattle.c_rows.specs.declared.kind.Family.{Family}
use Rattle.c_rows.specs.declared.kind.Family.TheVariants as family
use Rattle.c_rows.specs.declared.rule.Rule.{Rule}
use Rattle.c_rows.specs.declared.rule.Rule.TheVariants as rule
use Rattle.c_rows.specs.declared.symbol.Symbol.TheVariants as symbol
use Rattle.c_rows.specs.declared.symbol.Fork.{Fork}
use Rattle.c_rows.specs.declared.symbol.Fork.TheVariants as forks
use Rattle.c_rows.specs.declared.turn.Turn.{Turn}
use Rattle.c_rows.specs.declared.turn.Turn.TheVariants as turns
use Rattle.c_rows.specs.Words.{fits}
use Rattle.c_rows.specs.Scan.{turn}
use Rattle.c_rows.specs.Kinds.{within, has_leaf}
use Rattle.c_rows.specs.Rows.{Row, ways, row, kind_of}
use Rattle.c_rows.specs.Choice.{implies}
use Rattle.c_rows.proofs.Checks.{modus, row_at, Passes, passes_at, set_test, word_at}
use Rattle.c_rows.proofs.FirstLemmas.{within_trans}

abbrev same_turn : Turn → Turn → Bool
same_turn turns.Opening turns.Opening = true
same_turn turns.Closing turns.Closing = true
same_turn turns.Asking turns.Asking = true
same_turn turns.Parting turns.Parting = true
same_turn turns.Plain turns.Plain = true
same_turn _ _ = false

turn_is : (a b : Turn) → IsTrue (same_turn a b) → a ≡ b
turn_is turns.Opening turns.Opening h = refl
turn_is turns.Closing turns.Closing h = refl
turn_is turns.Asking turns.Asking h = refl
turn_is turns.Parting turns.Parting h = refl
turn_is turns.Plain turns.Plain h = refl
turn_is _ _ h = let never : ⊥ = cc in absurd never

abbrev pub word_turn : Word → Turn
word_turn (words.One c) = turn c
word_turn words.ParenOpen = turns.Opening
word_turn words.CastOpen = turns.Opening
word_turn words.LiteralOpen = turns.Opening
word_turn words.NestOpen = turns.Opening
word_turn words.ListOpen = turns.Opening
word_turn words.AnyOpen = turns.Opening
word_turn _ = turns.Plain

abbrev word_turns : Word → Class → Bool
word_turns w c = same_turn (turn c) (word_turn w)

self_turn : (a : Turn) → IsTrue (same_turn a a)
self_turn turns.Opening = refl
self_turn _ = refl

word_turn_test : (w : Word) → Passes (set_test word_turns w)
word_turn_test words.ParenOpen = refl
word_turn_test _ = refl

pub turn_of : (w : Word) (c : Class) → IsTrue (fits w c) → turn c ≡ word_turn w
turn_of w c f = turn_is (turn c) (word_turn w) (word_at word_turns (λ d. self_turn (turn d)) word_turn_test w c f)

abbrev leaf_turn_at : Family → Class → Bool
leaf_turn_at f c = implies (has_leaf f c) (same_turn (turn c) turns.Plain)

leaf_turn_test : (f : Family) → Passes (leaf_turn_at f)
leaf_turn_test family.Expression = refl
leaf_turn_test _ = refl

pub leaf_turn : (f : Family) (c : Class) → IsTrue (has_leaf f c) → turn c ≡ turns.Plain
leaf_turn f c h = turn_is (turn c) turns.Plain (modus (has_leaf f c) (same_turn (turn c) turns.Plain) (passes_at (leaf_turn_at f) (leaf_turn_test f) c) h)

-- ---- where a tree is

-- in brackets; as an expression without commas; as a type
pub data Place : Type 0 where
  inside : Place
  expression : Place
  typed : Place

abbrev pub any_within : Kind → List Kind → Bool
any_within k [] = false
any_within k (m ∷ ms) = within k m || any_within k ms

abbrev pub expressions : List Kind
expressions = kind.AssignLevel ∷ kind.InitList ∷ []

abbrev pub types : List Kind
types = kind.TypeArg ∷ kind.TypeName ∷ kind.Specs ∷ kind.Tag ∷ kind.Declarator ∷ []

abbrev pub suits : Place → Kind → Bool
suits inside k = true
suits expression k = any_within k expressions
suits typed k = any_within k types

any_trans : (j k : Kind) (ms : List Kind) → IsTrue (within j k) → IsTrue (any_within k ms) → IsTrue (any_within j ms)
any_trans j k [] w h = h
any_trans j k (m ∷ ms) w h = pick (within k m) (any_within k ms) h (λ a. within_trans j k m w a) (λ a. any_trans j k ms w a)
  where
    or_right : (a b : Bool) → IsTrue b → IsTrue (a || b)
    or_right true b g = refl
    or_right false b g = g

    or_left : (a b : Bool) → IsTrue a → IsTrue (a || b)
    or_left true b g = refl
    or_left false b g = let never : ⊥ = cc in absurd never

    pick : (a b : Bool) → IsTrue (a || b) → (IsTrue a → IsTrue (within j m)) → (IsTrue b → IsTrue (any_within j ms)) → IsTrue (within j m || any_within j ms)
    pick true b g l r = or_left (within j m) (any_within j ms) (l refl)
    pick false b g l r = or_right (within j m) (any_within j ms) (r g)

pub suits_within : (p : Place) (j k : Kind) → IsTrue (within j k) → IsTrue (suits p k) → IsTrue (suits p j)
suits_within inside j k w h = refl
suits_within expression j k w h = any_trans j k expressions w h
suits_within typed j k w h = any_trans j k types w h

abbrev pub type_fork : Fork → Bool
type_fork forks.Nameless = true
type_fork forks.NoType = true
type_fork forks.BasicType = true
type_fork forks.OneType = true
type_fork forks.StructName = true
type_fork forks.Members = true
type_fork forks.EnumName = true
type_fork forks.MoreEnumerators = true
type_fork forks.NextEnumerator = true
type_fork forks.Pointee = true
type_fork forks.Size = true
type_fork _ = false

abbrev pub expression_fork : Fork → Bool
expression_fork forks.FirstString = true
expression_fork forks.SecondString = true
expression_fork forks.AfterString = true
expression_fork forks.AfterName = true
expression_fork forks.FirstBranch = true
expression_fork forks.MoreOr = true
expression_fork forks.MoreAnd = true
expression_fork forks.FirstInit = true
expression_fork forks.MoreInits = true
expression_fork forks.NextInit = true
expression_fork _ = false

abbrev pub suits_fork : Place → Fork → Bool
suits_fork inside f = true
suits_fork expression f = expression_fork f
suits_fork typed f = type_fork f

-- the brackets that a row has opened before its fork
abbrev pub depth : Fork → ℕ
depth forks.FirstBranch = 1
depth forks.MoreOr = 1
depth forks.MoreAnd = 1
depth forks.Members = 1
depth forks.MoreEnumerators = 1
depth forks.NextEnumerator = 1
depth forks.Size = 1
depth forks.FirstInit = 1
depth forks.MoreInits = 1
depth forks.NextInit = 1
depth forks.AtEnd = 1
depth forks.BlockStatements = 1
depth forks.BlockBehindDots = 1
depth forks.ForInit = 1
depth forks.ForTest = 1
depth forks.ForStep = 1
depth forks.FirstList = 1
depth forks.MoreListsOr = 1
depth forks.MoreListsAnd = 1
depth _ = 0

abbrev pub deep : ℕ → Bool
deep zero = false
deep (suc e) = true

abbrev pub is_inside : Place → Bool
is_inside inside = true
is_inside expression = false
is_inside typed = false

abbrev pub may_ask : Place → Bool
may_ask inside = false
may_ask expression = true
may_ask typed = false

abbrev pub fine_ask : Place → Bool → Bool
fine_ask inside b = b
fine_ask expression b = true
fine_ask typed b = false

abbrev pub fine_word : Turn → ℕ → Place → (ℕ → Bool) → Bool
fine_word turns.Opening e p go = go (suc e)
fine_word turns.Closing zero p go = false
fine_word turns.Closing (suc e) p go = go e
fine_word turns.Asking zero p go = fine_ask p (go 0)
fine_word turns.Asking (suc e) p go = go (suc e)
fine_word turns.Parting zero p go = is_inside p && go 0
fine_word turns.Parting (suc e) p go = go (suc e)
fine_word turns.Plain e p go = go e

-- The rest of a row closes the brackets that are open in it, and no more.
abbrev pub fine : Place → Row → ℕ → Bool
fine p [] e = e == 0
fine p (symbol.Word w ∷ ps) e = fine_word (word_turn w) e p (fine p ps)
fine p (symbol.Child k ∷ ps) e = (deep e || suits p k) && fine p ps e
fine p (symbol.Argument ∷ ps) e = (deep e || is_inside p) && fine p ps e
fine p (symbol.Fork f ∷ ps) e = (depth f == e) && suits_fork p f

abbrev rule_fine_at : Place → Rule → Bool
rule_fine_at p r = implies (suits p (kind_of r)) (fine p (row r) 0)

rule_fine_test : (p : Place) (r : Rule) → IsTrue (rule_fine_at p r)
rule_fine_test inside rule.Paren = refl
rule_fine_test inside _ = refl
rule_fine_test expression rule.Paren = refl
rule_fine_test expression _ = refl
rule_fine_test typed rule.Paren = refl
rule_fine_test typed _ = refl

pub rule_fine : (p : Place) (r : Rule) → IsTrue (suits p (kind_of r)) → IsTrue (fine p (row r) 0)
rule_fine p r = modus (suits p (kind_of r)) (fine p (row r) 0) (rule_fine_test p r)

abbrev way_fine_at : Place → Fork → Row → Bool
way_fine_at p f ps = fine p ps (depth f)

abbrev ways_fine_at : Place → Fork → Bool
ways_fine_at p f = implies (suits_fork p f) (list_all (way_fine_at p f) (ways f))

ways_fine_test : (p : Place) (f : Fork) → IsTrue (ways_fine_at p f)
ways_fine_test inside forks.FirstString = refl
ways_fine_test inside _ = refl
ways_fine_test expression forks.FirstString = refl
ways_fine_test expression _ = refl
ways_fine_test typed forks.FirstString = refl
ways_fine_test typed _ = refl

pub way_fine : (p : Place) (f : Fork) (i : ℕ) (ps : Row) → slice_get (ways f) i ≡ Some ps → IsTrue (suits_fork p f) → IsTrue (fine p ps (depth f))
way_fine p f i ps e s =
    row_at (way_fine_at p f) (ways f) i ps (modus (suits_fork p f) (list_all (way_fine_at p f) (ways f)) (ways_fine_test p f) s) e
