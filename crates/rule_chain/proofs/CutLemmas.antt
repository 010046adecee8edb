-- Pieces that differ only in ids.
use Rattle.std.proofs.Common.{◌≡◌, ℕ, refl, sym, ap, ◌∙◌, subst, List, [], ◌∷◌, ◌++◌}
use Rattle.std.specs.Prelude.{IsSomeAnd}
use Rattle.c_terms.specs.declared.token.TokenKind.TheVariants.{Name, Keyword, Number, Char, Str, Punct, Stray, Meta, Dots, Pat}
use Rattle.c_lexer.specs.declared.piece.PieceKind.{PieceKind}
use Rattle.c_lexer.specs.declared.piece.PieceKind.TheVariants.{Word, Blank, Comment, Line}
use Rattle.c_lexer.specs.Pieces.{TextPiece, text_of, kind_of_piece}
use Rattle.c_lexer.specs.First.{IsFirst}
use Rattle.c_lexer.specs.Lexes.{Cuts, IsFirstPiece}
use Rattle.c_lexer.specs.Ids.{id_before, ids_of, without_id, without_ids, kind_without_id}

text_bare : (ps : List TextPiece) → text_of (without_ids ps) ≡ text_of ps
text_bare [] = refl
text_bare (p ∷ ps) = ap (λ (r : List ℕ). p.text ++ r) (text_bare ps)

kind_bare : (k : PieceKind) → kind_of_piece (kind_without_id k) ≡ kind_of_piece k
kind_bare Blank = refl
kind_bare Comment = refl
kind_bare Line = refl
kind_bare (Word Name id) = refl
kind_bare (Word Keyword id) = refl
kind_bare (Word Number id) = refl
kind_bare (Word Char id) = refl
kind_bare (Word Str id) = refl
kind_bare (Word Punct id) = refl
kind_bare (Word Stray id) = refl
kind_bare (Word (Meta meta) id) = refl
kind_bare (Word Dots id) = refl
kind_bare (Word Pat id) = refl

cuts_bare : (ps : List TextPiece) → Cuts ps → Cuts (without_ids ps)
cuts_bare [] h = tt
cuts_bare (p ∷ ps) h = (
  subst (λ o. IsSomeAnd o (λ kind. IsFirst kind p.text (text_of (without_ids ps)))) (sym (kind_bare p.kind))
      (subst (λ (r : List ℕ). IsFirstPiece p r) (sym (text_bare ps)) h.0),
  cuts_bare ps h.1,
)

bare_cuts : (ps : List TextPiece) → Cuts (without_ids ps) → Cuts ps
bare_cuts [] h = tt
bare_cuts (p ∷ ps) h = (
  subst (λ (r : List ℕ). IsFirstPiece p r) (text_bare ps)
      (subst (λ o. IsSomeAnd o (λ kind. IsFirst kind p.text (text_of (without_ids ps)))) (kind_bare p.kind) h.0),
  bare_cuts ps h.1,
)

pub same_text : (ps qs : List TextPiece) → without_ids ps ≡ without_ids qs → text_of ps ≡ text_of qs
same_text ps qs e = sym (text_bare ps) ∙ ap text_of e ∙ text_bare qs

pub same_cuts : (ps qs : List TextPiece) → without_ids ps ≡ without_ids qs → Cuts qs → Cuts ps
same_cuts ps qs e h = bare_cuts ps (subst Cuts (sym e) (cuts_bare qs h))

-- ---- pieces with the same ids

kind_is : (j k : PieceKind) → kind_without_id j ≡ kind_without_id k → (m n : List ℕ) → id_before j m ≡ id_before k n → j ≡ k
kind_is (Word a x) (Word b y) e m n i = cc
kind_is (Word a x) Blank e m n i = absurd cc
kind_is (Word a x) Comment e m n i = absurd cc
kind_is (Word a x) Line e m n i = absurd cc
kind_is Blank (Word b y) e m n i = absurd cc
kind_is Blank Blank e m n i = refl
kind_is Blank Comment e m n i = absurd cc
kind_is Blank Line e m n i = absurd cc
kind_is Comment (Word b y) e m n i = absurd cc
kind_is Comment Blank e m n i = absurd cc
kind_is Comment Comment e m n i = refl
kind_is Comment Line e m n i = absurd cc
kind_is Line (Word b y) e m n i = absurd cc
kind_is Line Blank e m n i = absurd cc
kind_is Line Comment e m n i = absurd cc
kind_is Line Line e m n i = refl

rest_is : (j k : PieceKind) → kind_without_id j ≡ kind_without_id k → (m n : List ℕ) → id_before j m ≡ id_before k n → m ≡ n
rest_is (Word a x) (Word b y) e m n i = cc
rest_is (Word a x) Blank e m n i = absurd cc
rest_is (Word a x) Comment e m n i = absurd cc
rest_is (Word a x) Line e m n i = absurd cc
rest_is Blank (Word b y) e m n i = absurd cc
rest_is Blank Blank e m n i = i
rest_is Blank Comment e m n i = absurd cc
rest_is Blank Line e m n i = absurd cc
rest_is Comment (Word b y) e m n i = absurd cc
rest_is Comment Blank e m n i = absurd cc
rest_is Comment Comment e m n i = i
rest_is Comment Line e m n i = absurd cc
rest_is Line (Word b y) e m n i = absurd cc
rest_is Line Blank e m n i = absurd cc
rest_is Line Comment e m n i = absurd cc
rest_is Line Line e m n i = i

pub same_pieces : (ps qs : List TextPiece) → without_ids ps ≡ without_ids qs → ids_of ps ≡ ids_of qs → ps ≡ qs
same_pieces [] [] e i = refl
same_pieces [] (q ∷ qs) e i = absurd cc
same_pieces (p ∷ ps) [] e i = absurd cc
same_pieces (p ∷ ps) (q ∷ qs) e i =
    let first : without_id p ≡ without_id q = cc in
    let later : without_ids ps ≡ without_ids qs = cc in
    let bare : kind_without_id p.kind ≡ kind_without_id q.kind = ap (λ (r : TextPiece). r.kind) first in
    let kind : p.kind ≡ q.kind = kind_is p.kind q.kind bare (ids_of ps) (ids_of qs) i in
    let text : p.text ≡ q.text = ap (λ (r : TextPiece). r.text) first in
    let rest : ps ≡ qs = same_pieces ps qs later (rest_is p.kind q.kind bare (ids_of ps) (ids_of qs) i) in
    λ n. let here : TextPiece = record { kind = kind n; text = text n } in here ∷ rest n
