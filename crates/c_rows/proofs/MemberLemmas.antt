-- Where a member of an argument list may begin.
use Rattle.std.proofs.Common.{◌≡◌, ℕ, [], ◌∷◌, refl}
use Rattle.std.specs.Prelude.{Bool, true, false, not, ◌&&◌, IsTrue, Some, slice_get}
use Rattle.std.specs.List.{list_all}
use Rattle.c_rows.specs.declared.class.Class.{Class}
use Rattle.c_rows.specs.declared.word.Word.{Word}
use Rattle.c_rows.specs.declared.word.Word.TheVariants as words
use Rattle.c_rows.specs.declared.kind.Family.{Family}
use Rattle.c_rows.specs.declared.kind.Family.TheVariants as family
use Rattle.c_rows.specs.declared.rule.Rule.{Rule}
use Rattle.c_rows.specs.declared.rule.Rule.TheVariants as rule
use Rattle.c_rows.specs.declared.symbol.Symbol.TheVariants as symbol
use Rattle.c_rows.specs.declared.symbol.Fork.{Fork}
use Rattle.c_rows.specs.declared.symbol.Fork.TheVariants as forks
use Rattle.c_rows.specs.Words.{fits}
use Rattle.c_rows.specs.Kinds.{family_of}
use Rattle.c_rows.specs.Rows.{Row, ways, row, kind_of}
use Rattle.c_rows.proofs.LeadLemmas.{leads_class}
use Rattle.c_rows.specs.Choice.{implies}
use Rattle.c_rows.proofs.Checks.{modus, row_at, Passes, set_test, word_at}

abbrev pub is_args : Family → Bool
is_args family.Args = true
is_args _ = false

abbrev pub args_fork : Fork → Bool
args_fork forks.FirstArg = true
args_fork forks.NextArg = true
args_fork _ = false

-- a member of an argument list may come first in the row
abbrev pub needs : Row → Bool
needs [] = false
needs (symbol.Word w ∷ ps) = false
needs (symbol.Child k ∷ ps) = is_args (family_of k)
needs (symbol.Argument ∷ ps) = true
needs (symbol.Fork f ∷ ps) = args_fork f

abbrev pub lead_word : Word → Bool
lead_word (words.One c) = leads_class c
lead_word words.AnyOpen = true
lead_word _ = false

abbrev leads_at : Word → Class → Bool
leads_at w c = implies (lead_word w) (leads_class c)

implies_self : (b : Bool) → IsTrue (implies b b)
implies_self true = refl
implies_self false = refl

lead_test : (w : Word) → Passes (set_test leads_at w)
lead_test words.AnyOpen = refl
lead_test _ = refl

pub word_leads : (w : Word) (c : Class) → IsTrue (lead_word w) → IsTrue (fits w c) → IsTrue (leads_class c)
word_leads w c l f = modus (lead_word w) (leads_class c) (word_at leads_at (λ d. implies_self (leads_class d)) lead_test w c f) l

-- After the first part, a member comes only after a comma or an opening bracket.
abbrev pub led : Row → Bool
led [] = true
led (symbol.Word w ∷ ps) = implies (needs ps) (lead_word w) && led ps
led (symbol.Child k ∷ ps) = not (needs ps) && led ps
led (symbol.Argument ∷ ps) = not (needs ps) && led ps
led (symbol.Fork f ∷ ps) = true

pub led_rule : (r : Rule) → IsTrue (led (row r))
led_rule rule.Paren = refl
led_rule _ = refl

abbrev pub needs_at : Rule → Bool
needs_at r = implies (needs (row r)) (is_args (family_of (kind_of r)))

pub needs_test : (r : Rule) → IsTrue (needs_at r)
needs_test rule.Paren = refl
needs_test _ = refl

led_ways : (f : Fork) → IsTrue (list_all led (ways f))
led_ways forks.FirstString = refl
led_ways _ = refl

abbrev needs_way_at : Fork → Row → Bool
needs_way_at f ps = implies (needs ps) (args_fork f)

needs_ways : (f : Fork) → IsTrue (list_all (needs_way_at f) (ways f))
needs_ways forks.FirstString = refl
needs_ways _ = refl

pub led_way : (f : Fork) (i : ℕ) (ps : Row) → slice_get (ways f) i ≡ Some ps → IsTrue (led ps)
led_way f i ps e = row_at led (ways f) i ps (led_ways f) e

pub needs_way : (f : Fork) (i : ℕ) (ps : Row) → slice_get (ways f) i ≡ Some ps → IsTrue (needs ps) → IsTrue (args_fork f)
needs_way f i ps e n = modus (needs ps) (args_fork f) (row_at (needs_way_at f) (ways f) i ps (needs_ways f) e) n

pub never_needs : (b : Bool) {A : Type 0} → IsTrue (not b) → IsTrue b → A
never_needs true h g = let no : ⊥ = cc in absurd no
never_needs false h g = let no : ⊥ = cc in absurd no
