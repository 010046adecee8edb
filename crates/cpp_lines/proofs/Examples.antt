-- Examples of lines, shown tokens and items, above all those on which another reading would differ.
use Rattle.std.specs.Prelude.{ℕ, ◌≡◌, Bool, true, false, List, [], ◌∷◌, refl, codes}
use Rattle.std.specs.List.{list_all}
use Rattle.c_terms.specs.declared.token.TokenKind.TheVariants.{Name}
use Rattle.c_lexer.specs.declared.piece.PieceKind.TheVariants.{Word, Blank}
use Rattle.c_lexer.specs.Pieces.{TextPiece}
use Rattle.cpp_lines.specs.declared.directive.Directive.TheVariants as line
use Rattle.cpp_lines.specs.declared.sign.Bracket.TheVariants.{Paren, Brace}
use Rattle.cpp_lines.specs.declared.sign.Sign.{Sign}
use Rattle.cpp_lines.specs.declared.sign.Sign.TheVariants as sign
use Rattle.cpp_lines.specs.declared.span.ItemSpan.{ItemSpan}
use Rattle.cpp_lines.specs.Directives.{directive_of}
use Rattle.cpp_lines.specs.Groups.{is_hidden}
use Rattle.cpp_lines.specs.Signs.{sign_of}
use Rattle.cpp_lines.specs.Shown.{is_enclosed, shown_from}
use Rattle.cpp_lines.specs.Items.{items_of}

-- only `if` and `0` alone
if_zero : directive_of (codes "if" ∷ codes "0" ∷ []) ≡ line.OpenZero
if_zero = refl

if_zero_long : directive_of (codes "if" ∷ codes "0L" ∷ []) ≡ line.Open
if_zero_long = refl

if_zero_and_more : directive_of (codes "if" ∷ codes "0" ∷ codes "x" ∷ []) ≡ line.Open
if_zero_and_more = refl

ifdef_zero : directive_of (codes "ifdef" ∷ codes "0" ∷ []) ≡ line.Open
ifdef_zero = refl

-- the nearest line first
second_arm : is_hidden 0 0 (line.Next ∷ line.Open ∷ []) ≡ true
second_arm = refl

second_arm_of_zero : is_hidden 0 0 (line.Next ∷ line.OpenZero ∷ []) ≡ false
second_arm_of_zero = refl

-- an `else` after an `else` begins another arm
third_arm_of_zero : is_hidden 0 0 (line.Next ∷ line.Next ∷ line.OpenZero ∷ []) ≡ true
third_arm_of_zero = refl

-- a group that has ended hides nothing, and an unmatched closing line has no effect
past_group : is_hidden 0 0 (line.Close ∷ line.OpenZero ∷ []) ≡ false
past_group = refl

past_close : is_hidden 0 0 (line.OpenZero ∷ line.Close ∷ []) ≡ true
past_close = refl

inner_of_hidden : is_hidden 0 0 (line.Open ∷ line.OpenZero ∷ []) ≡ true
inner_of_hidden = refl

abbrev is_marker : Sign → Bool
is_marker sign.Marker = true
is_marker _ = false

abbrev is_marker_text : List ℕ → Bool
is_marker_text text = is_marker (sign_of text)

attribute : sign_of (codes "__attribute__") ≡ sign.Attribute
attribute = refl

every_marker : list_all is_marker_text
    (codes "__init" ∷ codes "__exit" ∷ codes "__initdata" ∷ codes "__exitdata" ∷ codes "__user" ∷ codes "__iomem" ∷ codes "__kernel" ∷ codes "__force"
    ∷ codes "__percpu" ∷ codes "__rcu" ∷ codes "__must_check" ∷ codes "__maybe_unused" ∷ codes "__always_inline" ∷ codes "__read_mostly" ∷ codes "__packed"
    ∷ codes "__cold" ∷ codes "__weak" ∷ codes "noinline" ∷ codes "asmlinkage" ∷ codes "__inline" ∷ codes "__inline__" ∷ codes "__extension__"
    ∷ codes "__restrict" ∷ codes "__restrict__" ∷ []) ≡ true
every_marker = refl

-- `__attribute__ ( (`, the nearest first; and the same with a marker in between
inside_attribute : is_enclosed 0 (sign.Opening Paren ∷ sign.Opening Paren ∷ sign.Attribute ∷ []) ≡ true
inside_attribute = refl

past_attribute : is_enclosed 0 (sign.Closing Paren ∷ sign.Opening Paren ∷ sign.Attribute ∷ []) ≡ false
past_attribute = refl

parted_attribute : is_enclosed 0 (sign.Opening Paren ∷ sign.Marker ∷ sign.Attribute ∷ []) ≡ false
parted_attribute = refl

abbrev piece : List ℕ → TextPiece
piece text = record { kind = Word Name 0; text = text }

abbrev blank : TextPiece
blank = record { kind = Blank; text = codes " " }

-- `a __init b` shows the pieces 0 and 4
markers_are_hidden : shown_from [] [] 0 (piece (codes "a") ∷ blank ∷ piece (codes "__init") ∷ blank ∷ piece (codes "b") ∷ [])
    (line.Other ∷ line.Other ∷ line.Other ∷ line.Other ∷ line.Other ∷ []) ≡ 0 ∷ 4 ∷ []
markers_are_hidden = refl

abbrev span : ℕ → ℕ → ItemSpan
span first last = record { first = first; last = last }

-- `int x; f ( ) { g ; } struct s { a ; } ;`
three_items : items_of (sign.Other ∷ sign.Other ∷ sign.Semicolon ∷ sign.Other ∷ sign.Opening Paren ∷ sign.Closing Paren
    ∷ sign.Opening Brace ∷ sign.Other ∷ sign.Semicolon ∷ sign.Closing Brace ∷ sign.Other ∷ sign.Other ∷ sign.Opening Brace
    ∷ sign.Other ∷ sign.Semicolon ∷ sign.Closing Brace ∷ sign.Semicolon ∷ []) ≡ span 0 3 ∷ span 3 10 ∷ span 10 17 ∷ []
three_items = refl

-- an unmatched closing bracket doesn't count, and what is left is an item
too_many : items_of (sign.Closing Brace ∷ sign.Semicolon ∷ sign.Other ∷ []) ≡ span 0 2 ∷ span 2 3 ∷ []
too_many = refl
