-- The words of a text, piece by piece.
use Rattle.std.proofs.Common.{◌≡◌, ℕ, ◌+◌, ◌-◌, ◌≤◌, true, false, List, [], ◌∷◌, length, take, drop, refl, sym, ap, ◌∙◌, arith}
use Rattle.std.specs.Prelude.{Some}
use Rattle.std.proofs.lemmas.Bool.{false≢true}
use Rattle.std.proofs.lemmas.List.{take-append-drop, drop-drop, drop_all}
use Rattle.c_terms.specs.declared.token.TokenKind.TheVariants.{Name, Keyword, Number, Char, Str, Punct, Stray, Meta, Dots, Pat}
use Rattle.c_lexer.specs.declared.state.Kind.{Kind}
use Rattle.c_lexer.specs.declared.state.Kind.TheVariants as kind
use Rattle.c_lexer.specs.declared.piece.PieceKind.{PieceKind}
use Rattle.c_lexer.specs.declared.piece.PieceKind.TheVariants.{Word, Blank, Comment, Line}
use Rattle.c_lexer.specs.First.{IsFirst}
use Rattle.c_lexer.specs.Pieces.{TextPiece, text_of, kind_of_piece}
use Rattle.c_lexer.specs.Lexes.{Cuts}
use Rattle.c_lexer.proofs.Once.{some_text}
use Rattle.c_lexer.proofs.Splits.{split_first}
use Rattle.c_lexer.proofs.Exists.{lexes_some}
use Rattle.cpp_lines.specs.declared.directive.Directive.{Directive}
use Rattle.cpp_lines.specs.Directives.{word_before, words_of, IsDirective}
use Rattle.cpp_lines.specs.Words.{is_token_kind, NoWord, IsNextWord, DoesAll}

-- pieces of what is left of a text, with the words of all pieces
pub record Left (pieces : List TextPiece) (rest : List ℕ) : Type 0 where
  pub more : List TextPiece
  pub cuts : Cuts more
  pub text : text_of more ≡ rest
  pub words : words_of pieces ≡ words_of more

-- there is no word before a place
abbrev pub NoWordTo : List ℕ → ℕ → Type 0
NoWordTo text at = (pieces : List TextPiece) → Cuts pieces → text_of pieces ≡ text → Left pieces (drop at text)

pub none_yet : (text : List ℕ) → NoWordTo text 0
none_yet text pieces cuts is = record { more = pieces; cuts = cuts; text = is; words = refl }

clash : (i j : Kind) → Some i ≡ Some j → is_token_kind i ≡ true → is_token_kind j ≡ false → ⊥
clash i j e true_is false_is = let same : i ≡ j = cc in false≢true (sym false_is ∙ (ap is_token_kind (sym same) ∙ true_is))

no_word : (k : PieceKind) (j : Kind) (text : List ℕ) (words : List (List ℕ)) → kind_of_piece k ≡ Some j
    → is_token_kind j ≡ false → word_before k text words ≡ words
no_word Blank j text words e false_is = refl
no_word Comment j text words e false_is = refl
no_word Line j text words e false_is = refl
no_word (Word Name id) j text words e false_is = absurd (clash kind.Name j e refl false_is)
no_word (Word Keyword id) j text words e false_is = absurd (clash kind.Keyword j e refl false_is)
no_word (Word Number id) j text words e false_is = absurd (clash kind.Number j e refl false_is)
no_word (Word Char id) j text words e false_is = absurd (clash kind.Char j e refl false_is)
no_word (Word Str id) j text words e false_is = absurd (clash kind.Str j e refl false_is)
no_word (Word Punct id) j text words e false_is = absurd (clash kind.Punct j e refl false_is)
no_word (Word Stray id) j text words e false_is = absurd (clash kind.Stray j e refl false_is)
no_word (Word (Meta meta) id) j text words e false_is = absurd cc
no_word (Word Dots id) j text words e false_is = absurd cc
no_word (Word Pat id) j text words e false_is = absurd cc

clash_back : (i j : Kind) → Some i ≡ Some j → is_token_kind i ≡ false → is_token_kind j ≡ true → ⊥
clash_back i j e false_is true_is = let same : i ≡ j = cc in false≢true (sym false_is ∙ (ap is_token_kind same ∙ true_is))

a_word : (k : PieceKind) (j : Kind) (text : List ℕ) (words : List (List ℕ)) → kind_of_piece k ≡ Some j → is_token_kind j ≡ true
    → word_before k text words ≡ text ∷ words
a_word Blank j text words e true_is = absurd (clash_back kind.Blank j e refl true_is)
a_word Comment j text words e true_is = absurd (clash_back kind.Comment j e refl true_is)
a_word Line j text words e true_is = absurd (clash_back kind.Line j e refl true_is)
a_word (Word k id) j text words e true_is = refl

-- a piece that is not a token is passed
pub pass : (text : List ℕ) (at len : ℕ) (kind : Kind) → NoWordTo text at
    → IsFirst kind (take len (drop at text)) (drop len (drop at text)) → is_token_kind kind ≡ false → NoWordTo text (at + len)
pass text at len kind before first false_is pieces cuts is =
    let left = before pieces cuts is in
    let b = split_first left.more kind (take len (drop at text)) (drop len (drop at text)) left.cuts
    (left.text ∙ sym (take-append-drop len (drop at text))) first in
    record {
      more = b.more;
      cuts = b.cuts;
      text = b.rest_is ∙ drop-drop len at text;
      words = left.words ∙ (ap words_of b.is ∙ no_word b.piece.kind kind b.piece.text (words_of b.more) b.of_kind false_is);
    }

-- a token is the next word
pub find : (text : List ℕ) (at len : ℕ) (kind : Kind) → NoWordTo text at
    → IsFirst kind (take len (drop at text)) (drop len (drop at text)) → is_token_kind kind ≡ true → IsNextWord text at (at + len)
find text at len kind before first true_is pieces cuts is =
    let left = before pieces cuts is in
    let b = split_first left.more kind (take len (drop at text)) (drop len (drop at text)) left.cuts
    (left.text ∙ sym (take-append-drop len (drop at text))) first in
    let same : at + len - at ≡ len = omega arith in
    record {
      more = b.more;
      cuts = b.cuts;
      text = b.rest_is ∙ drop-drop len at text;
      words = left.words ∙ (ap words_of b.is ∙
          (a_word b.piece.kind kind b.piece.text (words_of b.more) b.of_kind true_is
          ∙ ap (λ (t : List ℕ). t ∷ words_of b.more) (b.text_is ∙ ap (λ (n : ℕ). take n (drop at text)) (sym same))));
    }

no_pieces : (pieces : List TextPiece) → Cuts pieces → text_of pieces ≡ [] → words_of pieces ≡ []
no_pieces [] cuts is = refl
no_pieces (p ∷ pieces) cuts is = absurd (some_text p (text_of pieces) cuts.0 (sym is))

pub no_more : (text : List ℕ) (at : ℕ) → NoWordTo text at → length text ≤ at → NoWord text
no_more text at before end pieces cuts is =
    let left = before pieces cuts is in
    left.words ∙ no_pieces left.more left.cuts (left.text ∙ drop_all at text end)

-- a text is cut into pieces, so what every such cutting does is done
pub does : (line : List ℕ) (d : Directive) → DoesAll (drop 1 line) d → IsDirective line d
does line d all =
    let c = lexes_some (drop 1 line) in
    (c.0, (c.1.1.0, (c.1.0, all c.0 c.1.1.0 c.1.0)))
