-- A text that fair edits produce is cut into the tokens that they leave.
use Rattle.std.proofs.Common.{◌≡◌, ℕ, Bool, true, false, cond, List, [], ◌∷◌, refl, sym, ap, ◌∙◌}
use Rattle.c_terms.specs.declared.token.TokenKind.{TokenKind}
use Rattle.c_lexer.specs.declared.piece.PieceKind.{PieceKind}
use Rattle.c_lexer.specs.declared.piece.PieceKind.TheVariants.{Word, Blank, Comment, Line}
use Rattle.c_lexer.specs.Pieces.{TextPiece, text_of}
use Rattle.c_lexer.specs.Lexes.{Cuts, Lexes}
use Rattle.c_lexer.specs.Ids.{id_before, ids_of, kind_without_id, without_id, without_ids}
use Rattle.c_lexer.proofs.Once.{once}
use Rattle.edit_marks.specs.declared.edit_conflict.edit.Edit.{Edit}
use Rattle.edit_unparse.specs.Fair.{Fair}
use Rattle.edit_unparse.specs.Output.{output_of}
use Rattle.edit_unparse.specs.Words.{unless_blank, solid}
use Rattle.edit_unparse.proofs.Again.{reads_again}
use Rattle.rule_chain.specs.RuleEdits.Pages as pages
use Rattle.rule_chain.specs.RuleRun.States.{IsCut}
use Rattle.text_laws.specs.AgainLaws.Tokens.{where_token, tokens_of, left_pieces}

abbrev piece : PieceKind → List ℕ → TextPiece
piece kind text = record { kind = kind; text = text }

-- ---- pieces that are one but for ids

solid_by : (k : PieceKind) (text : List ℕ) (left right : List TextPiece) → left ≡ right
    → unless_blank (kind_without_id k) (without_id (piece (kind_without_id k) text)) left ≡ unless_blank k (without_id (piece k text)) right
solid_by (Word kind id) text left right e = ap (λ (l : List TextPiece). piece (Word kind 0) text ∷ l) e
solid_by Blank text left right e = e
solid_by Comment text left right e = ap (λ (l : List TextPiece). piece Comment text ∷ l) e
solid_by Line text left right e = ap (λ (l : List TextPiece). piece Line text ∷ l) e

bare_solid : (pieces : List TextPiece) → solid (without_ids pieces) ≡ solid pieces
bare_solid [] = refl
bare_solid (p ∷ pieces) = solid_by p.kind p.text (solid (without_ids pieces)) (solid pieces) (bare_solid pieces)

-- of the same text
same_solid : (ps qs : List TextPiece) → Cuts ps → Cuts qs → text_of ps ≡ text_of qs → solid ps ≡ solid qs
same_solid ps qs left right e = sym (bare_solid ps) ∙ ap solid (once ps qs left right e) ∙ bare_solid qs

-- ---- the tokens, by what is solid and by the ids

abbrev next_token : TokenKind → List ℕ → List ℕ → (List ℕ → List TextPiece) → List TextPiece
next_token kind text [] more = []
next_token kind text (id ∷ ids) more = piece (Word kind id) text ∷ more ids

abbrev tagged_by : PieceKind → List ℕ → List ℕ → (List ℕ → List TextPiece) → List TextPiece
tagged_by (Word kind id) text ids more = next_token kind text ids more
tagged_by Blank text ids more = more ids
tagged_by Comment text ids more = more ids
tagged_by Line text ids more = more ids

abbrev tagged : List TextPiece → List ℕ → List TextPiece
tagged [] ids = []
tagged (p ∷ pieces) ids = tagged_by p.kind p.text ids (tagged pieces)

tokens_by : (k : PieceKind) (text : List ℕ) (pieces : List TextPiece) → tokens_of pieces ≡ tagged (solid pieces) (ids_of pieces)
    → where_token k (piece k text) (tokens_of pieces) ≡ tagged (unless_blank k (without_id (piece k text)) (solid pieces)) (id_before k (ids_of pieces))
tokens_by (Word kind id) text pieces e = ap (λ (l : List TextPiece). piece (Word kind id) text ∷ l) e
tokens_by Blank text pieces e = e
tokens_by Comment text pieces e = e
tokens_by Line text pieces e = e

tokens_tagged : (pieces : List TextPiece) → tokens_of pieces ≡ tagged (solid pieces) (ids_of pieces)
tokens_tagged [] = refl
tokens_tagged (p ∷ pieces) = tokens_by p.kind p.text pieces (tokens_tagged pieces)

same_tokens : (ps qs : List TextPiece) → solid ps ≡ solid qs → ids_of ps ≡ ids_of qs → tokens_of ps ≡ tokens_of qs
same_tokens ps qs e f =
    tokens_tagged ps ∙ ap (λ (l : List TextPiece). tagged l (ids_of ps)) e ∙ ap (λ (ids : List ℕ). tagged (solid qs) ids) f ∙ sym (tokens_tagged qs)

-- ---- the page that edits leave

page_solid : (b : Bool) (next : ℕ) (pieces : List TextPiece) (edits : List Edit) (again : List TextPiece) → Cuts pieces → Fair pieces edits
    → Lexes (cond b (pages.page_of next (output_of pieces edits next)) (pages.old_page next pieces)).bytes again
    → solid again ≡ solid (cond b (output_of pieces edits next) pieces)
page_solid true next pieces edits again cuts fair lexes =
    (reads_again pieces edits next (text_of (output_of pieces edits next)) (ids_of (output_of pieces edits next)) cuts fair refl refl).same again lexes
page_solid false next pieces edits again cuts fair lexes = same_solid again pieces lexes.1.0 cuts lexes.0

page_ids : (b : Bool) (next : ℕ) (pieces : List TextPiece) (edits : List Edit)
    → (cond b (pages.page_of next (output_of pieces edits next)) (pages.old_page next pieces)).ids ≡ ids_of (cond b (output_of pieces edits next) pieces)
page_ids true next pieces edits = refl
page_ids false next pieces edits = refl

pub again_solid : (next : ℕ) (pieces : List TextPiece) (edits : List Edit) (again : List TextPiece) → Cuts pieces → Fair pieces edits
    → Lexes (pages.page_after next pieces edits).bytes again → solid again ≡ solid (left_pieces next pieces edits)
again_solid next pieces edits again cuts fair lexes = page_solid (pages.is_edited edits) next pieces edits again cuts fair lexes

abbrev CutLaw : Type 0
CutLaw = (bytes : List ℕ) → (pieces : List TextPiece) × Lexes bytes pieces

pub cut_tokens : CutLaw → (next : ℕ) (pieces : List TextPiece) (edits : List Edit) (again : List TextPiece) → Cuts pieces → Fair pieces edits
    → IsCut (pages.page_after next pieces edits) again → tokens_of again ≡ tokens_of (left_pieces next pieces edits)
cut_tokens law next pieces edits again cuts fair is =
    let other = law (pages.page_after next pieces edits).bytes in
    let one : solid again ≡ solid other.0 = same_solid again other.0 is.cuts other.1.1.0 (is.text ∙ sym other.1.0) in
    same_tokens again (left_pieces next pieces edits) (one ∙ again_solid next pieces edits other.0 cuts fair other.1)
    (is.ids ∙ page_ids (pages.is_edited edits) next pieces edits)
