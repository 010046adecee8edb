-- A file has at most one list of lines.
use Rattle.std.proofs.Common.{◌≡◌, ℕ, List, [], ◌∷◌, ◌++◌, refl, sym, ap, ◌∙◌}
use Rattle.c_lexer.specs.declared.state.Kind.{Kind}
use Rattle.c_lexer.specs.First.{IsFirst}
use Rattle.smpl_lexer.specs.declared.token.PatchToken.{PatchToken}
use Rattle.smpl_lexer.proofs.Once.{first_once, none_empty}
use Rattle.iso_file.specs.Lines.{Piece, joined, Cut, groups, filled, AreLinesOf}

not-empty : (k : Kind) (xs A : List ℕ) → IsFirst k xs A → [] ≡ xs ++ A → ⊥
not-empty k [] A one e = none_empty k A one
not-empty k (x ∷ xs) A one e = absurd (cc)

pieces-once : (ps qs : List Piece) → Cut ps → Cut qs → joined ps ≡ joined qs → ps ≡ qs
pieces-once [] [] one other e = refl
pieces-once [] (q ∷ qs) one other e = absurd (not-empty q.kind q.text (joined qs) other.0 e)
pieces-once (p ∷ ps) [] one other e = absurd (not-empty p.kind p.text (joined ps) one.0 (sym e))
pieces-once (p ∷ ps) (q ∷ qs) one other e =
    let same = first_once p.kind q.kind p.text q.text (joined ps) (joined qs) e one.0 other.0 in
    let rest = pieces-once ps qs one.1 other.1 same.1.1 in
    let piece : p ≡ q = ap (λ (k : Kind). record { kind = k; text = p.text }) same.0
    ∙ ap (λ (t : List ℕ). record { kind = q.kind; text = t }) same.1.0 in
    ap (λ (x : Piece). x ∷ ps) piece ∙ ap (λ (l : List Piece). q ∷ l) rest

pub lines-once : (bytes : List ℕ) (one other : List (List PatchToken)) → AreLinesOf bytes one → AreLinesOf bytes other → one ≡ other
lines-once bytes one other a b =
    let same : a.pieces ≡ b.pieces = pieces-once a.pieces b.pieces a.cut b.cut (a.text ∙ sym b.text) in
    a.lines_are ∙ ap (λ (ps : List Piece). filled (groups 0 ps)) same ∙ sym b.lines_are
