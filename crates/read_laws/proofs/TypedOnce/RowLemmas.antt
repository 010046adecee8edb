-- Rows that go on with specifiers.
use Rattle.std.proofs.Common.{◌≡◌, ℕ, zero, suc, List, [], ◌∷◌, refl, sym, ap, ◌∙◌}
use Rattle.std.specs.Prelude.{Bool, true, false, not, ◌&&◌, Option, Some, None, slice_get}
use Rattle.std.specs.Option.{option_map_or}
use Rattle.std.specs.List.{list_all}
use Rattle.std.proofs.lemmas.Bool.{false≢true}
use Rattle.std.proofs.lemmas.Option.{none-some, same_Some}
use Rattle.c_rows.specs.declared.class.Class.TheVariants as class
use Rattle.c_rows.specs.declared.word.Word.{Word}
use Rattle.c_rows.specs.declared.word.Word.TheVariants as words
use Rattle.c_rows.specs.declared.kind.Kind.{Kind}
use Rattle.c_rows.specs.declared.kind.Kind.TheVariants as kind
use Rattle.c_rows.specs.declared.symbol.Fork.{Fork}
use Rattle.c_rows.specs.declared.symbol.Fork.TheVariants as forks
use Rattle.c_rows.specs.declared.symbol.Symbol.TheVariants as symbol
use Rattle.c_rows.specs.Rows.{Row, ways}
use Rattle.c_rows.proofs.FirstChecks.{and_left, and_right}

-- what a word in specifiers leads to, given whether a type is named
abbrev pub word_next : Bool → Word → Option Bool
word_next named words.Modifier = Some named
word_next true words.BasicOrModifier = Some true
word_next false words.Name = Some true
word_next named (words.One class.Basic) = Some true
word_next _ _ = None

abbrev pub is_tag_kind : Kind → Bool
is_tag_kind kind.Tag = true
is_tag_kind _ = false

abbrev fork_state : Fork → Bool → Bool
fork_state forks.NoType named = not named
fork_state forks.BasicType named = named
fork_state forks.OneType named = named
fork_state _ named = false

-- a row that goes on with specifiers, given whether a type is named
abbrev pub in_state : Row → Bool → Bool
in_state [] named = named
in_state (symbol.Word w ∷ ps) named = option_map_or (in_state ps) (word_next named w) false
in_state (symbol.Child k ∷ ps) named = is_tag_kind k && (not named && in_state ps true)
in_state (symbol.Argument ∷ ps) named = false
in_state (symbol.Fork f ∷ ps) named = fork_state f named

pub ways-state : (f : Fork) (named : Bool) → fork_state f named ≡ true → list_all (λ ps. in_state ps named) (ways f) ≡ true
ways-state forks.NoType false e = refl
ways-state forks.NoType true e = absurd (false≢true e)
ways-state forks.BasicType true e = refl
ways-state forks.BasicType false e = absurd (false≢true e)
ways-state forks.OneType true e = refl
ways-state forks.OneType false e = absurd (false≢true e)
ways-state _ named e = absurd (false≢true e)

pub all-at : (q : Row → Bool) (rows : List Row) (i : ℕ) (ps : Row) → list_all q rows ≡ true → slice_get rows i ≡ Some ps → q ps ≡ true
all-at q [] i ps h e = absurd (none-some ps e)
all-at q (r ∷ rows) zero ps h e = ap q (sym (same_Some r ps e)) ∙ and_left (q r) (list_all q rows) h
all-at q (r ∷ rows) (suc i) ps h e = all-at q rows i ps (and_right (q r) (list_all q rows) h) e

pub not-true : (b : Bool) → not b ≡ true → b ≡ false
not-true true h = absurd (false≢true h)
not-true false h = refl
