-- A patch is read in one way: it has one text or one fault, and not both.
use Rattle.std.proofs.Common.{◌≡◌, ℕ, zero, suc, ◌+◌, ◌<◌, ◌⊎◌, Bool, List, [], ◌∷◌, ◌++◌, length, take, drop, Some, None, refl}
use Rattle.std.proofs.Common.{sym, ap, ◌∙◌, subst, inl, inr, arith, add-one}
use Rattle.std.proofs.lemmas.List.{take_at}
use Rattle.c_lexer.specs.declared.state.Kind.{Kind}
use Rattle.c_lexer.specs.Kinds.{kind_of}
use Rattle.c_lexer.specs.First.{IsFirst}
use Rattle.smpl_patch.specs.declared.fault.PatchFault.{PatchFault}
use Rattle.smpl_patch.specs.Faults.{first_of}
use Rattle.smpl_lexer.specs.declared.section.Section.{Section}
use Rattle.smpl_lexer.specs.declared.section.Section.TheVariants as section
use Rattle.smpl_lexer.specs.declared.section.Role.{Role}
use Rattle.smpl_lexer.specs.declared.piece.LineKind.{LineKind}
use Rattle.smpl_lexer.specs.declared.piece.LineKind.TheVariants.{Plain, Dots, Sign}
use Rattle.smpl_lexer.specs.declared.text.PatchText.{PatchText}
use Rattle.smpl_lexer.specs.Lines.{Line, lines_from}
use Rattle.smpl_lexer.specs.Sections.{section_after, skipped, has_signs}
use Rattle.smpl_lexer.specs.Pieces.{LinePiece, joined, Cut, IsFirstBy, IsFirstPiece, sign_at}
use Rattle.smpl_lexer.specs.CutLines.{CutLine, IsCutLine, AreCutLines}
use Rattle.smpl_lexer.specs.Texts.{AreLinesOf, IsTextOf, IsTextFault, text_of, text_faults}
use Rattle.smpl_lexer.specs.Texts.IsTextFault.{too_long, first}

-- ---- two fronts of one text

length-front : (xs ys : List ℕ) → length xs < length (xs ++ ys) + 1
length-front [] ys = omega arith
length-front (x ∷ xs) ys = omega (arith, length-front xs ys)

longer : (xs ys A B : List ℕ) → xs ++ A ≡ ys ++ B → length xs < length ys
    → (n : ℕ) × ((n < length A) × (ys ≡ xs ++ take (n + 1) A))
longer [] [] A B e less = absurd (omega arith)
longer [] (y ∷ ys) A B e less = (length ys, (rw e (omega (arith, length-front ys B)), rw (e, add-one, take_at ys B (length ys) refl) refl))
longer (x ∷ xs) [] A B e less = absurd (omega arith)
longer (x ∷ xs) (y ∷ ys) A B e less =
    let head : x ≡ y = cc in
    let rest : xs ++ A ≡ ys ++ B = cc in
    let more = longer xs ys A B rest (omega arith) in
    (more.0, (more.1.0, rw head (ap (λ (l : List ℕ). y ∷ l) more.1.1)))

same_front : (xs ys A B : List ℕ) → xs ++ A ≡ ys ++ B → length xs ≡ length ys → (xs ≡ ys) × (A ≡ B)
same_front [] [] A B e same = (refl, e)
same_front [] (y ∷ ys) A B e same = absurd (omega (arith, same))
same_front (x ∷ xs) [] A B e same = absurd (omega (arith, same))
same_front (x ∷ xs) (y ∷ ys) A B e same =
    let head : x ≡ y = cc in
    let rest : xs ++ A ≡ ys ++ B = cc in
    let more = same_front xs ys A B rest (omega (arith, same)) in
    (rw (head, more.0) refl, more.1)

no_longer : (j k : Kind) (xs ys A B : List ℕ) → xs ++ A ≡ ys ++ B → length xs < length ys → IsFirst j xs A
    → IsFirst k ys B → ⊥
no_longer j k xs ys A B e less one other =
    let more = longer xs ys A B e less in
    let none : kind_of ys ≡ None = ap kind_of more.1.1 ∙ one.longest more.0 more.1.0 in
    let some : Some k ≡ None = sym other.of_kind ∙ none in
    cc

order : (a b : ℕ) → (a < b) ⊎ ((a ≡ b) ⊎ (b < a))
order a b = grind arith

-- ---- one piece

-- a text begins with one piece
pub first_once : (j k : Kind) (xs ys A B : List ℕ) → xs ++ A ≡ ys ++ B → IsFirst j xs A → IsFirst k ys B
    → (j ≡ k) × ((xs ≡ ys) × (A ≡ B))
first_once j k xs ys A B e one other = elim (order (length xs) (length ys)) [
  | inl less ↦ absurd (no_longer j k xs ys A B e less one other)
  | inr more ↦ elim more [
    | inl same ↦
        let front = same_front xs ys A B e same in
        let kinds : Some j ≡ Some k = sym one.of_kind ∙ (ap kind_of front.0 ∙ other.of_kind) in
        let alike : j ≡ k = cc in
        (alike, front)
    | inr greater ↦ absurd (no_longer k j ys xs B A (sym e) greater other one)
  ]
]

-- no piece is empty
pub none_empty : (k : Kind) (A : List ℕ) → IsFirst k [] A → ⊥
none_empty k A one = let none : None ≡ Some k = one.of_kind in absurd (cc)

by_once : (n : ℕ) (j k : LineKind) (xs ys A B : List ℕ) → xs ++ A ≡ ys ++ B → IsFirstBy n j xs A → IsFirstBy n k ys B
    → (j ≡ k) × ((xs ≡ ys) × (A ≡ B))
by_once zero (Plain j) (Plain k) xs ys A B e one other = let same = first_once j k xs ys A B e one other in
    (ap (λ (x : Kind). Plain x) same.0, same.1)
by_once zero (Plain j) Dots xs ys A B e one other = absurd other
by_once zero (Plain j) Sign xs ys A B e one other = absurd other
by_once zero Dots k xs ys A B e one other = absurd one
by_once zero Sign k xs ys A B e one other = absurd one
by_once (suc n) j k xs ys A B e one other = (one.0 ∙ sym other.0, same_front xs ys A B e (one.1 ∙ sym other.1))

piece_once : (signs : Bool) (j k : LineKind) (xs ys A B : List ℕ) → xs ++ A ≡ ys ++ B → IsFirstPiece signs j xs A
    → IsFirstPiece signs k ys B → (j ≡ k) × ((xs ≡ ys) × (A ≡ B))
piece_once signs j k xs ys A B e one other =
    by_once (sign_at signs (ys ++ B)) j k xs ys A B e (subst (λ (l : List ℕ). IsFirstBy (sign_at signs l) j xs A) e one) other

not_empty : (n : ℕ) (k : LineKind) (xs A : List ℕ) → IsFirstBy n k xs A → [] ≡ xs ++ A → ⊥
not_empty n k (x ∷ xs) A one e = absurd (cc)
not_empty zero (Plain k) [] A one e = none_empty k A one
not_empty zero Dots [] A one e = one
not_empty zero Sign [] A one e = one
not_empty (suc n) k [] A one e = absurd (omega (arith, one.1))

-- ---- pieces, lines, texts

pieces_once : (signs : Bool) (ps qs : List LinePiece) → Cut signs ps → Cut signs qs → joined ps ≡ joined qs → ps ≡ qs
pieces_once signs [] [] one other e = refl
pieces_once signs [] (q ∷ qs) one other e = absurd (not_empty (sign_at signs (q.text ++ joined qs)) q.kind q.text (joined qs) other.0 e)
pieces_once signs (p ∷ ps) [] one other e = absurd (not_empty (sign_at signs (p.text ++ joined ps)) p.kind p.text (joined ps) one.0 (sym e))
pieces_once signs (p ∷ ps) (q ∷ qs) one other e =
    let same = piece_once signs p.kind q.kind p.text q.text (joined ps) (joined qs) e one.0 other.0 in
    let rest = pieces_once signs ps qs one.1 other.1 same.1.1 in
    let piece : p ≡ q = ap (λ (k : LineKind). record { kind = k; text = p.text }) same.0
    ∙ ap (λ (t : List ℕ). record { kind = q.kind; text = t }) same.1.0 in
    ap (λ (x : LinePiece). x ∷ ps) piece ∙ ap (λ (l : List LinePiece). q ∷ l) rest

abbrev made : Role → Line → List LinePiece → CutLine
made role line pieces = record { role = role; line = line; pieces = pieces }

line_once : (c d : CutLine) → c.role ≡ d.role → c.line ≡ d.line → IsCutLine c → IsCutLine d → c ≡ d
line_once c d role line one other =
    let text : joined c.pieces ≡ joined d.pieces = one.text
    ∙ (ap (λ (r : Role). drop (skipped r c.line.bytes) c.line.bytes) role
    ∙ (ap (λ (l : Line). drop (skipped d.role l.bytes) l.bytes) line ∙ sym other.text)) in
    let signs : has_signs c.role c.line.bytes ≡ has_signs d.role d.line.bytes = ap (λ (r : Role). has_signs r c.line.bytes) role
    ∙ ap (λ (l : Line). has_signs d.role l.bytes) line in
    let pieces = pieces_once (has_signs d.role d.line.bytes) c.pieces d.pieces (subst (λ (b : Bool). Cut b c.pieces) signs one.cut) other.cut text in
    ap (λ (r : Role). made r c.line c.pieces) role
    ∙ (ap (λ (l : Line). made d.role l c.pieces) line ∙ ap (made d.role d.line) pieces)

lines_once : (s : Section) (ls : List Line) (cs ds : List CutLine) → AreCutLines s ls cs → AreCutLines s ls ds → cs ≡ ds
lines_once s [] [] [] one other = refl
lines_once s [] [] (d ∷ ds) one other = absurd other
lines_once s [] (c ∷ cs) ds one other = absurd one
lines_once s (l ∷ ls) [] ds one other = absurd one
lines_once s (l ∷ ls) (c ∷ cs) [] one other = absurd other
lines_once s (l ∷ ls) (c ∷ cs) (d ∷ ds) one other =
    let role : c.role ≡ d.role = one.1.0 ∙ sym other.1.0 in
    let same = line_once c d role (one.0 ∙ sym other.0) one.1.1.0 other.1.1.0 in
    let rest = lines_once (section_after d.role) ls cs ds (subst (λ (r : Role). AreCutLines (section_after r) ls cs) role one.1.1.1) other.1.1.1 in
    ap (λ (x : CutLine). x ∷ cs) same ∙ ap (λ (x : List CutLine). d ∷ x) rest

of_once : (bytes : List ℕ) (cs ds : List CutLine) → AreLinesOf bytes cs → AreLinesOf bytes ds → cs ≡ ds
of_once bytes cs ds one other = lines_once section.Before (lines_from 0 bytes) cs ds one.cut other.cut

pub text_once : (bytes : List ℕ) (t u : PatchText) → IsTextOf bytes t → IsTextOf bytes u → t ≡ u
text_once bytes t u one other = one.is
    ∙ (ap (text_of (length bytes)) (of_once bytes one.lines other.lines one.are other.are) ∙ sym other.is)

pub fault_once : (bytes : List ℕ) (f g : PatchFault) → IsTextFault bytes f → IsTextFault bytes g → f ≡ g
fault_once bytes _ _ (too_long long) (too_long other) = refl
fault_once bytes _ g (too_long long) (first ds are is) = absurd (omega (arith, long, are.short))
fault_once bytes f _ (first cs are is) (too_long long) = absurd (omega (arith, long, are.short))
fault_once bytes f g (first cs one is) (first ds other also) =
    let same = of_once bytes cs ds one other in
    let both : Some f ≡ Some g = sym is
    ∙ (ap (λ (x : List CutLine). first_of (text_faults (length bytes) x)) same ∙ also) in
    cc

pub not_both : (bytes : List ℕ) (t : PatchText) (f : PatchFault) → IsTextOf bytes t → IsTextFault bytes f → ⊥
not_both bytes t _ text (too_long long) = absurd (omega (arith, long, text.are.short))
not_both bytes t f text (first ds other is) =
    let same = of_once bytes text.lines ds text.are other in
    let none : None ≡ Some f = sym (ap first_of (text.faultless))
    ∙ (ap (λ (x : List CutLine). first_of (text_faults (length bytes) x)) same ∙ is) in
    absurd (cc)
