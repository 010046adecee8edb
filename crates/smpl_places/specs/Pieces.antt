-- The pieces of code that are spelled each by itself. A piece ends
--   after a `;` outside of all brackets;
--   after the `}` of a block, whose `{` is outside of all brackets and is the piece's first token or follows `)` or `else`;
--   at dots, a sign of a nest or a sign of branches outside of all brackets, which belong to no piece.
-- A `{` that follows `)` in a value begins a compound literal and no block; a value extends from an `=` or `return` outside of
-- all brackets to the end of the piece, or to an `else`. `else` goes on with the piece before it. A `when` directly after dots,
-- a nest or a clause, and what follows it in its line, are left out.
use Rattle.std.specs.Prelude.{ℕ, ◌==◌, ◌+◌, ◌-◌, ◌||◌, ◌&&◌, not, Bool, true, false, if◌then◌else◌, List, [], ◌∷◌, ◌++◌, fold}
use Rattle.smpl_meta.specs.declared.patterns.Placed.{Placed}
use Rattle.smpl_meta.specs.Patterns.{is_host_of}
use Rattle.smpl_places.specs.declared.sign.Sign.{Sign}
use Rattle.smpl_places.specs.declared.sign.Sign.TheVariants.{Open, OpenBrace, Close, CloseParen, CloseBrace, Semicolon, Else, Value, Mark, Plain}
use Rattle.smpl_places.specs.declared.pieces.Piece.{Piece}
use Rattle.smpl_places.specs.declared.shape.Shape.{Shape}
use Rattle.smpl_places.specs.declared.pieces.Parting.{Parting}
use Rattle.smpl_places.specs.declared.pieces.Spot.{Spot}
use Rattle.smpl_places.specs.declared.pieces.Spot.TheVariants as spot
use Rattle.smpl_places.specs.Signs.{sign_of, is_when}

-- ---- what is known of a piece

-- without tokens
abbrev pub empty_shape : Shape
empty_shape = record { depth = 0; leads = true; value = false; block = false; ended = false }

abbrev pub is_outside : Shape → Bool
is_outside shape = shape.depth == 0

-- whether the last `{` outside of all brackets begins a block, with one more `{`
abbrev pub block_at : Shape → Bool
block_at s = if s.depth == 0 then s.leads else s.block

-- whether a value has begun, with one more `=` or `return`
abbrev pub value_at : Shape → Bool
value_at s = s.depth == 0 || s.value

-- with one more token
abbrev pub shape_with : Shape → Sign → Shape
shape_with s Open = record { depth = s.depth + 1; leads = false; value = s.value; block = s.block; ended = false }
shape_with s OpenBrace = record { depth = s.depth + 1; leads = false; value = s.value; block = block_at s; ended = false }
shape_with s Close = record { depth = s.depth - 1; leads = false; value = s.value; block = s.block; ended = false }
shape_with s CloseParen = record { depth = s.depth - 1; leads = not s.value; value = s.value; block = s.block; ended = false }
shape_with s CloseBrace = record { depth = s.depth - 1; leads = false; value = s.value; block = s.block; ended = s.depth == 1 && s.block }
shape_with s Semicolon = record { depth = s.depth; leads = false; value = s.value; block = s.block; ended = s.depth == 0 }
shape_with s Else = record { depth = s.depth; leads = true; value = false; block = s.block; ended = false }
shape_with s Value = record { depth = s.depth; leads = false; value = value_at s; block = s.block; ended = false }
shape_with s Mark = record { depth = s.depth; leads = false; value = s.value; block = s.block; ended = false }
shape_with s Plain = record { depth = s.depth; leads = false; value = s.value; block = s.block; ended = false }

-- ---- pieces, token by token

abbrev pub no_piece : Piece
no_piece = record { at = 0; tokens = [] }

abbrev pub begun : Parting
begun = record { done = []; last = no_piece; shape = empty_shape; spot = spot.Code }

-- the piece has a token
abbrev pub is_whole : Piece → Bool
is_whole piece = elim piece.tokens as (λ _. Bool) [ [] ↦ false | t ∷ ts ↦ true ]

abbrev pub closed : Parting → Parting
closed s = record { done = (if is_whole s.last then s.done ++ s.last ∷ [] else s.done); last = no_piece; shape = empty_shape; spot = s.spot }

-- where the piece begins, with a token at this place
abbrev pub start_of : Piece → ℕ → ℕ
start_of piece at = elim piece.tokens as (λ _. ℕ) [ [] ↦ at | t ∷ ts ↦ piece.at ]

abbrev pub spot_after : Placed → Spot
spot_after p = if is_host_of p.token.kind p.token.text then spot.Host else spot.Code

abbrev pub with_token : Parting → Placed → Parting
with_token s p = record {
  done = s.done;
  last = record { at = start_of s.last p.at; tokens = s.last.tokens ++ p.token ∷ [] };
  shape = shape_with s.shape (sign_of p);
  spot = spot_after p;
}

abbrev pub with_spot : Parting → Spot → Parting
with_spot s spot = record { done = s.done; last = s.last; shape = s.shape; spot = spot }

abbrev pub is_mark_sign : Sign → Bool
is_mark_sign Mark = true
is_mark_sign sign = false

abbrev pub is_else_sign : Sign → Bool
is_else_sign Else = true
is_else_sign sign = false

abbrev pub is_mark : Parting → Placed → Bool
is_mark s p = is_outside s.shape && is_mark_sign (sign_of p)

abbrev pub with_code : Parting → Placed → Parting
with_code s p = if is_mark s p then with_spot (closed s) (spot_after p) else with_token s p

abbrev pub turned : Parting → Placed → Parting
turned s p = if s.shape.ended && not (is_else_sign (sign_of p)) then closed s else s

abbrev pub is_in_clause : Spot → Placed → Bool
is_in_clause spot.Code p = false
is_in_clause spot.Host p = is_when p
is_in_clause (spot.Clause line) p = p.line == line || is_when p

abbrev pub step : Parting → Placed → Parting
step s p = if is_in_clause s.spot p then with_spot s (spot.Clause p.line) else with_code (turned s p) p

abbrev pub pieces_of : List Placed → List Piece
pieces_of ps = (closed (fold step begun ps)).done
