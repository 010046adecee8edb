-- The blanks that begin lines are spaces, so the texts of all inserts consist of blanks and tokens of C.
use Rattle.std.proofs.Common.{◌≡◌, ◌+◌, ◌==◌, ◌&&◌, ◌||◌, ℕ, zero, suc, Bool, true, false, cond, refl, ap, subst, arith, List}
use Rattle.std.proofs.Common.{[], ◌∷◌, ◌++◌, length, take, drop}
use Rattle.std.specs.Prelude.{Option, IfSome, slice_get, nat_le}
use Rattle.std.specs.List.{list_all, prefix_len}
use Rattle.std.proofs.lemmas.Bool.Decides.{Decides-eqb}
use Rattle.c_lexer.specs.declared.piece.PieceKind.{PieceKind}
use Rattle.c_lexer.specs.declared.piece.PieceKind.TheVariants.{Word, Blank, Comment, Line}
use Rattle.c_lexer.specs.Pieces.{TextPiece, text_of}
use Rattle.c_lexer.specs.Words.{is_space}
use Rattle.edit_marks.specs.declared.file_tokens.FileToken.{FileToken}
use Rattle.edit_marks.specs.Inserts.{is_blank, line_start, indent_at, returns_at}
use Rattle.edit_marks.specs.Plain.{AreSpaces}
use Rattle.edit_marks.specs.Edits.{HaveBlankIndents}
use Rattle.edit_marks.specs.Tokens.{token_of, tokens_from, file_tokens}

space_by : (b : ℕ) (x : Bool) → (x || (b == 9)) ≡ true → (x || (nat_le 9 b && nat_le b 13)) ≡ true
space_by b true e = refl
space_by b false e = let nine : b ≡ 9 = (Decides-eqb b 9).0 e in ap (λ (n : ℕ). nat_le 9 n && nat_le n 13) nine

blank_space : (b : ℕ) → is_blank b ≡ true → is_space b ≡ true
blank_space b e = space_by b (b == 32) e

both : (x y : Bool) → x ≡ true → y ≡ true → (x && y) ≡ true
both true y a c = c
both false y a c = absurd cc

front_by : (b : ℕ) (bs : List ℕ) (x : Bool) → is_blank b ≡ x → AreSpaces (take (prefix_len is_blank bs) bs)
    → AreSpaces (take (cond x (1 + prefix_len is_blank bs) 0) (b ∷ bs))
front_by b bs true e h =
    let n = prefix_len is_blank bs in
    let one : suc n ≡ 1 + n = omega arith in
    subst (λ (m : ℕ). AreSpaces (take m (b ∷ bs))) one (both (is_space b) (list_all is_space (take n bs)) (blank_space b e) h)
front_by b bs false e h = refl

front_spaces : (text : List ℕ) → AreSpaces (take (prefix_len is_blank text) text)
front_spaces [] = refl
front_spaces (b ∷ bs) = front_by b bs (is_blank b) refl (front_spaces bs)

abbrev IsSpaced : Option FileToken → Type 0
IsSpaced o = IfSome o (λ f. AreSpaces f.indent)

one_more : (k : PieceKind) (text indent : List ℕ) (returns : Bool) (rest : List FileToken) (n : ℕ) → AreSpaces indent → ((m : ℕ) → IsSpaced (slice_get rest m))
    → IsSpaced (slice_get (token_of k text indent returns ++ rest) n)
one_more (Word a id) text indent returns rest zero own h = own
one_more (Word a id) text indent returns rest (suc n) own h = h n
one_more Blank text indent returns rest n own h = h n
one_more Comment text indent returns rest n own h = h n
one_more Line text indent returns rest n own h = h n

all_spaced : (bytes : List ℕ) (at : ℕ) (pieces : List TextPiece) (n : ℕ) → IsSpaced (slice_get (tokens_from bytes at pieces) n)
all_spaced bytes at [] n = tt
all_spaced bytes at (p ∷ pieces) n =
    one_more p.kind p.text (indent_at bytes at) (returns_at bytes at) (tokens_from bytes (at + length p.text) pieces) n (front_spaces (drop (line_start bytes at) bytes))
    (λ m. all_spaced bytes (at + length p.text) pieces m)

pub blank_indents : (pieces : List TextPiece) → HaveBlankIndents (file_tokens pieces)
blank_indents pieces = λ n. all_spaced (text_of pieces) 0 pieces n
