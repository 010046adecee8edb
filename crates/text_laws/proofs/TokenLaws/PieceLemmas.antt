-- Pieces with other ids have the same text.
use Rattle.std.proofs.Common.{◌≡◌, ℕ, refl, ap, ◌∙◌, arith, List, [], ◌∷◌, length}
use Rattle.c_lexer.specs.declared.piece.PieceKind.{PieceKind}
use Rattle.c_lexer.specs.declared.piece.PieceKind.TheVariants.{Word, Blank, Comment, Line}
use Rattle.c_lexer.specs.Pieces.{TextPiece}
use Rattle.c_lexer.specs.Lexes.{Lexes}
use Rattle.c_lexer.specs.Ids.{id_before, ids_of, kind_without_id, without_ids}
use Rattle.rule_chain.specs.RuleEdits.Pages.{Page}
use Rattle.rule_chain.specs.RuleRun.States.{IsCut}
use Rattle.rule_chain.proofs.CutLemmas.{same_text, same_cuts}

-- the kind with the first of the ids, and the ids that are left
abbrev kind_with : PieceKind → List ℕ → PieceKind
kind_with (Word kind id) [] = Word kind id
kind_with (Word kind id) (i ∷ ids) = Word kind i
kind_with Blank ids = Blank
kind_with Comment ids = Comment
kind_with Line ids = Line

abbrev ids_left : PieceKind → List ℕ → List ℕ
ids_left (Word kind id) [] = []
ids_left (Word kind id) (i ∷ ids) = ids
ids_left Blank ids = ids
ids_left Comment ids = ids
ids_left Line ids = ids

abbrev with_ids : List TextPiece → List ℕ → List TextPiece
with_ids [] ids = []
with_ids (p ∷ pieces) ids = record { kind = kind_with p.kind ids; text = p.text } ∷ with_ids pieces (ids_left p.kind ids)

bare_kind : (k : PieceKind) (ids : List ℕ) → kind_without_id (kind_with k ids) ≡ kind_without_id k
bare_kind (Word kind id) [] = refl
bare_kind (Word kind id) (i ∷ ids) = refl
bare_kind Blank ids = refl
bare_kind Comment ids = refl
bare_kind Line ids = refl

bare_with : (pieces : List TextPiece) (ids : List ℕ) → without_ids (with_ids pieces ids) ≡ without_ids pieces
bare_with [] ids = refl
bare_with (p ∷ pieces) ids =
    λ i. (let q : TextPiece = record { kind = bare_kind p.kind ids i; text = p.text } in q) ∷ bare_with pieces (ids_left p.kind ids) i

fewer : (k : PieceKind) (ids more : List ℕ) → length (id_before k more) ≡ length ids → length more ≡ length (ids_left k ids)
fewer (Word kind id) [] more e = absurd (omega (arith, e))
fewer (Word kind id) (i ∷ ids) more e = omega (arith, e)
fewer Blank ids more e = e
fewer Comment ids more e = e
fewer Line ids more e = e

one_with : (k : PieceKind) (ids more : List ℕ) → length (id_before k more) ≡ length ids → (now : List ℕ) → now ≡ ids_left k ids
    → id_before (kind_with k ids) now ≡ ids
one_with (Word kind id) [] more e now same = absurd (omega (arith, e))
one_with (Word kind id) (i ∷ ids) more e now same = ap (λ (l : List ℕ). i ∷ l) same
one_with Blank ids more e now same = same
one_with Comment ids more e now same = same
one_with Line ids more e now same = same

no-ids : (ids : List ℕ) → 0 ≡ length ids → [] ≡ ids
no-ids [] e = refl
no-ids (i ∷ ids) e = absurd (omega (arith, e))

ids_with : (pieces : List TextPiece) (ids : List ℕ) → length (ids_of pieces) ≡ length ids → ids_of (with_ids pieces ids) ≡ ids
ids_with [] ids e = no-ids ids e
ids_with (p ∷ pieces) ids e =
    one_with p.kind ids (ids_of pieces) e (ids_of (with_ids pieces (ids_left p.kind ids)))
    (ids_with pieces (ids_left p.kind ids) (fewer p.kind ids (ids_of pieces) e))

pub cut_again : (page : Page) (again : List TextPiece) → Lexes page.bytes again → length (ids_of again) ≡ length page.ids
    → (pieces : List TextPiece) × IsCut page pieces
cut_again page again lexes counted = (
  with_ids again page.ids,
  record {
    text = same_text (with_ids again page.ids) again (bare_with again page.ids) ∙ lexes.0;
    cuts = same_cuts (with_ids again page.ids) again (bare_with again page.ids) lexes.1.0;
    ids = ids_with again page.ids counted;
  },
)
