-- Parts that look alike for lists.
use Rattle.std.proofs.Common.{◌≡◌, ◌<◌, ◌≤◌, ◌+◌, ◌&&◌, ℕ, zero, suc, Bool, false, not, refl, sym, ap, ◌∙◌, arith, cond, map}
use Rattle.std.proofs.Common.{List, [], ◌∷◌, ◌++◌, length, get_or, drop}
use Rattle.std.specs.Prelude.{Option, None, Some, if◌then◌else◌}
use Rattle.std.specs.List.{position_or_len}
use Rattle.std.proofs.lemmas.List.{drop-map, length-map}
use Rattle.c_lexer.specs.declared.piece.PieceKind.{PieceKind}
use Rattle.c_lexer.specs.declared.piece.PieceKind.TheVariants.{Word, Blank, Comment, Line}
use Rattle.c_lexer.specs.Pieces.{TextPiece}
use Rattle.tidy_flags.specs.declared.signs.Sign.{Sign}
use Rattle.edit_unparse.specs.Output.{Part}
use Rattle.edit_unparse.specs.Tidy.Clearing.{place_of}
use Rattle.edit_unparse.specs.Tidy.Commas.{is_from, sign_of}
use Rattle.edit_unparse.specs.Tidy.Fallen.{LooksAs, StandAlike, numbered, part_number}
use Rattle.edit_unparse.specs.Tidy.Text.{token_piece, token_pieces}
use Rattle.edit_unparse.proofs.NumberLemmas.{other}

abbrev head_of : List Bool → Bool
head_of [] = false
head_of (b ∷ flags) = b

abbrev tail_of : List Bool → List Bool
tail_of [] = []
tail_of (b ∷ flags) = flags

pub alike_length : (n : ℕ) (a b : List Part) → StandAlike n a b → length a ≡ length b
alike_length n a b e = sym (length-map a (λ p. is_from n p.from)) ∙ ap length e ∙ length-map b (λ p. is_from n p.from)

pub drop_alike : (n k : ℕ) (a b : List Part) → StandAlike n a b → StandAlike n (drop k a) (drop k b)
drop_alike n k a b e = sym (drop-map (λ (p : Part). is_from n p.from) k a) ∙ ap (drop k) e ∙ drop-map (λ (p : Part). is_from n p.from) k b

pub place_alike : (n : ℕ) (flags : List Bool) (a b : List Part) → StandAlike n a b → place_of n flags a ≡ place_of n flags b
place_alike n [] [] [] e = refl
place_alike n (f ∷ flags) [] [] e = refl
place_alike n [] [] (q ∷ b) e = let none : 0 ≡ length (q ∷ b) = alike_length n [] (q ∷ b) e in absurd (omega arith)
place_alike n (f ∷ flags) [] (q ∷ b) e = let none : 0 ≡ length (q ∷ b) = alike_length n [] (q ∷ b) e in absurd (omega arith)
place_alike n [] (p ∷ a) [] e = let none : length (p ∷ a) ≡ 0 = alike_length n (p ∷ a) [] e in absurd (omega arith)
place_alike n (f ∷ flags) (p ∷ a) [] e = let none : length (p ∷ a) ≡ 0 = alike_length n (p ∷ a) [] e in absurd (omega arith)
place_alike n [] (p ∷ a) (q ∷ b) e = alike_length n (p ∷ a) (q ∷ b) e
place_alike n (f ∷ flags) (p ∷ a) (q ∷ b) e =
    λ i. if f && ap head_of e i then 0 else place_alike n flags a b (ap tail_of e) i + 1

pub position_alike : (n : ℕ) (a b : List Part) → StandAlike n a b → position_or_len (λ p. is_from n p.from) a ≡ position_or_len (λ p. is_from n p.from) b
position_alike n [] [] e = refl
position_alike n [] (q ∷ b) e = let none : 0 ≡ length (q ∷ b) = alike_length n [] (q ∷ b) e in absurd (omega arith)
position_alike n (p ∷ a) [] e = let none : length (p ∷ a) ≡ 0 = alike_length n (p ∷ a) [] e in absurd (omega arith)
position_alike n (p ∷ a) (q ∷ b) e = λ i. cond (not (ap head_of e i)) (1 + position_alike n a b (ap tail_of e) i) 0

pub looks_length : (tokens : List ℕ) (a b : List Part) → LooksAs tokens a b → length a ≡ length b
looks_length tokens a b looks = sym (length-map a sign_of) ∙ ap length looks.signs ∙ length-map b sign_of

-- parts look as themselves
pub looks_same : (tokens : List ℕ) (a : List Part) → LooksAs tokens a a
looks_same tokens a = record { signs = refl; pieces = λ token. refl }

-- and as themselves with numbers
same_signs : (next : ℕ) (a : List Part) → map sign_of (numbered next a) ≡ map sign_of a
same_signs next [] = refl
same_signs next (p ∷ a) = ap (λ (l : List Sign). sign_of p ∷ l) (same_signs (next + 1) a)

same_stand : (n next : ℕ) (a : List Part) → n < next → StandAlike n (numbered next a) a
same_stand n next [] less = refl
same_stand n next (p ∷ a) less = λ i. by p.from i ∷ same_stand n (next + 1) a (omega arith) i
  where
    by : (o : Option ℕ) → is_from n (Some (part_number next o)) ≡ is_from n o
    by None = other next n less
    by (Some m) = refl

token_most : (i : ℕ) (pieces : List TextPiece) (token : ℕ) → get_or (token_pieces i pieces) token 0 ≤ i + length pieces
token_most i [] token = omega arith
token_most i (p ∷ pieces) token = by p.kind token (token_most (i + 1) pieces)
  where
    by : (k : PieceKind) (t : ℕ) → ((u : ℕ) → get_or (token_pieces (i + 1) pieces) u 0 ≤ i + 1 + length pieces)
        → get_or (token_piece k i ++ token_pieces (i + 1) pieces) t 0 ≤ i + suc (length pieces)
    by (Word kind id) zero more = omega arith
    by (Word kind id) (suc t) more = omega (arith, more t)
    by Blank t more = omega (arith, more t)
    by Comment t more = omega (arith, more t)
    by Line t more = omega (arith, more t)

pub looks_numbered : (pieces : List TextPiece) (tokens : List ℕ) (a : List Part) → tokens ≡ token_pieces 0 pieces
    → LooksAs tokens (numbered (length pieces + 1) a) a
looks_numbered pieces tokens a are = record {
  signs = same_signs (length pieces + 1) a;
  pieces = λ token.
      let most : get_or (token_pieces 0 pieces) token 0 ≤ 0 + length pieces = token_most 0 pieces token in
      let same : get_or tokens token 0 ≡ get_or (token_pieces 0 pieces) token 0 = ap (λ (l : List ℕ). get_or l token 0) are in
      same_stand (get_or tokens token 0) (length pieces + 1) a (omega arith);
}
