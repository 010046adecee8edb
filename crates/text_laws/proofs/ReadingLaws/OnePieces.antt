-- Pieces are determined by the pieces without ids and the list of ids.
use Rattle.std.proofs.Common.{◌≡◌, ℕ, refl, ap, List, [], ◌∷◌}
use Rattle.c_lexer.specs.declared.piece.PieceKind.{PieceKind}
use Rattle.c_lexer.specs.declared.piece.PieceKind.TheVariants.{Word, Blank, Comment, Line}
use Rattle.c_lexer.specs.Pieces.{TextPiece}
use Rattle.c_lexer.specs.Ids.{ids_of, id_before, kind_without_id, without_id, without_ids}

kinds_by : (k l : PieceKind) (is js : List ℕ) → kind_without_id k ≡ kind_without_id l → id_before k is ≡ id_before l js → (k ≡ l) × (is ≡ js)
kinds_by (Word a i) (Word b j) is js e f = (cc, cc)
kinds_by (Word a i) Blank is js e f = absurd cc
kinds_by (Word a i) Comment is js e f = absurd cc
kinds_by (Word a i) Line is js e f = absurd cc
kinds_by Blank (Word b j) is js e f = absurd cc
kinds_by Blank Blank is js e f = (refl, f)
kinds_by Blank Comment is js e f = absurd cc
kinds_by Blank Line is js e f = absurd cc
kinds_by Comment (Word b j) is js e f = absurd cc
kinds_by Comment Blank is js e f = absurd cc
kinds_by Comment Comment is js e f = (refl, f)
kinds_by Comment Line is js e f = absurd cc
kinds_by Line (Word b j) is js e f = absurd cc
kinds_by Line Blank is js e f = absurd cc
kinds_by Line Comment is js e f = absurd cc
kinds_by Line Line is js e f = (refl, f)

pub one_pieces : (left right : List TextPiece) → without_ids left ≡ without_ids right → ids_of left ≡ ids_of right → left ≡ right
one_pieces [] [] e f = refl
one_pieces [] (q ∷ qs) e f = absurd cc
one_pieces (p ∷ ps) [] e f = absurd cc
one_pieces (p ∷ ps) (q ∷ qs) e f =
    let first : without_id p ≡ without_id q = cc in
    let rest : without_ids ps ≡ without_ids qs = cc in
    let kind : kind_without_id p.kind ≡ kind_without_id q.kind = ap (λ (x : TextPiece). x.kind) first in
    let text : p.text ≡ q.text = ap (λ (x : TextPiece). x.text) first in
    let both = kinds_by p.kind q.kind (ids_of ps) (ids_of qs) kind f in
    let same : ps ≡ qs = one_pieces ps qs rest both.1 in
    λ i. (let r : TextPiece = record { kind = both.0 i; text = text i } in r) ∷ same i
