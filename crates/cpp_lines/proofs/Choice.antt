-- The definitions determine what is shown, and items are end to end.
use Rattle.std.proofs.Common.{◌≡◌, ℕ, suc, ◌+◌, ◌<◌, Bool, true, false, if◌then◌else◌, List, [], ◌∷◌, length, drop, refl, sym, ap, ◌∙◌, arith}
use Rattle.c_lexer.specs.declared.piece.PieceKind.{PieceKind}
use Rattle.c_lexer.specs.declared.piece.PieceKind.TheVariants.{Word, Blank, Comment, Line}
use Rattle.c_lexer.specs.Ids.{without_ids, without_id}
use Rattle.c_lexer.specs.Pieces.{TextPiece}
use Rattle.c_lexer.proofs.Once.{once}
use Rattle.cpp_lines.specs.declared.directive.Directive.{Directive}
use Rattle.cpp_lines.specs.declared.sign.Sign.{Sign}
use Rattle.cpp_lines.specs.declared.span.ItemSpan.{ItemSpan}
use Rattle.cpp_lines.specs.Directives.{word_before, words_of, directive_of, IsDirective, Directs, AreDirectives}
use Rattle.cpp_lines.specs.Shown.{shown_from, AreShown}
use Rattle.cpp_lines.specs.Items.{ends_item, last_item, items_from, items_of, StandEndToEnd}

word-without_id : (k : PieceKind) (text : List ℕ) (words : List (List ℕ)) (p : TextPiece) → p.kind ≡ k → p.text ≡ text
    → word_before p.kind p.text words ≡ word_before (without_id p).kind (without_id p).text words
word-without_id (Word kind id) text words p k e = rw k refl
word-without_id Blank text words p k e = rw k refl
word-without_id Comment text words p k e = rw k refl
word-without_id Line text words p k e = rw k refl

-- the words of pieces don't depend on their ids
words-without_ids : (pieces : List TextPiece) → words_of pieces ≡ words_of (without_ids pieces)
words-without_ids [] = refl
words-without_ids (p ∷ pieces) = ap (word_before p.kind p.text) (words-without_ids pieces) ∙ word-without_id p.kind p.text _ p refl refl

directive_once : (line : List ℕ) (d e : Directive) → IsDirective line d → IsDirective line e → d ≡ e
directive_once line d e left right =
    let same = once left.0 right.0 left.1.0 right.1.0 (left.1.1.0 ∙ sym right.1.1.0) in
    let words : words_of left.0 ≡ words_of right.0 = words-without_ids left.0 ∙ ap words_of same ∙ sym (words-without_ids right.0) in
    sym left.1.1.1 ∙ ap directive_of words ∙ right.1.1.1

directs_once : (k : PieceKind) (text : List ℕ) (d e : Directive) → Directs k text d → Directs k text e → d ≡ e
directs_once Line text d e left right = directive_once text d e left right
directs_once (Word kind id) text d e left right = left ∙ sym right
directs_once Blank text d e left right = left ∙ sym right
directs_once Comment text d e left right = left ∙ sym right

directives_once : (pieces : List TextPiece) (ds es : List Directive) → AreDirectives pieces ds → AreDirectives pieces es → ds ≡ es
directives_once [] [] [] left right = refl
directives_once [] [] (e ∷ es) left right = absurd right
directives_once [] (d ∷ ds) es left right = absurd left
directives_once (p ∷ pieces) [] es left right = absurd left
directives_once (p ∷ pieces) (d ∷ ds) [] left right = absurd right
directives_once (p ∷ pieces) (d ∷ ds) (e ∷ es) left right =
    ap (λ x. x ∷ ds) (directs_once p.kind p.text d e left.0 right.0) ∙ ap (λ xs. e ∷ xs) (directives_once pieces ds es left.1 right.1)

pub shown_once : (pieces : List TextPiece) (a b : List ℕ) → AreShown pieces a → AreShown pieces b → a ≡ b
shown_once pieces a b left right =
    left.1.1 ∙ ap (shown_from [] [] 0 pieces) (directives_once pieces left.0 right.0 left.1.0 right.1.0) ∙ sym right.1.1

end : (number more : ℕ) → number + suc more ≡ number + 1 + more
end number more = omega arith

stand_from : (first : ℕ) (before : List Sign) (number : ℕ) (tokens : List Sign) → number ≡ first + length before
    → StandEndToEnd first (items_from first before number tokens) (number + length tokens)
stand_from first [] number [] e = omega arith
stand_from first (sign ∷ before) number [] e = (refl, omega arith, omega arith)
stand_from first before number (sign ∷ tokens) e =
    elim (ends_item sign before) as (λ b. StandEndToEnd first
    (if b then record { first = first; last = number + 1 }
    ∷ items_from (number + 1) [] (number + 1) tokens else items_from first (sign ∷ before) (number + 1) tokens) (number + suc (length tokens))) [
      | true ↦ (refl, omega arith, rw (end number (length tokens)) (stand_from (number + 1) [] (number + 1) tokens (omega arith)))
      | false ↦ rw (end number (length tokens)) (stand_from first (sign ∷ before) (number + 1) tokens (omega arith))
    ]

none_before : (n : ℕ) → n ≡ 0 + n
none_before n = omega arith

pub stand : (tokens : List Sign) → StandEndToEnd 0 (items_of tokens) (length tokens)
stand tokens = rw (none_before (length tokens)) (stand_from 0 [] 0 tokens refl)
