-- A file that is cut up to some place.
use Rattle.std.proofs.Common.{◌≡◌, ℕ, ◌+◌, ◌≤◌, Bool, true, false, List, [], ◌∷◌, ◌++◌, length, take, drop, Option, Some, None}
use Rattle.std.proofs.Common.{refl, sym, ap, ◌∙◌, append_assoc, arith}
use Rattle.std.proofs.lemmas.List.{length-drop, drop-drop, take-append-drop, length-take-le, append-nil}
use Rattle.c_terms.specs.declared.token.TokenKind.{TokenKind}
use Rattle.c_lexer.specs.declared.state.Kind.{Kind}
use Rattle.c_lexer.specs.First.{IsFirst}
use Rattle.smpl_lexer.specs.Pieces.{has_newline}
use Rattle.smpl_lexer.specs.Tokens.{made}
use Rattle.smpl_lexer.specs.declared.token.PatchToken.{PatchToken}
use Rattle.iso_file.specs.declared.cut.Cutting.{Cutting}
use Rattle.iso_file.specs.Lines.{Piece, joined, Cut, token_kind, part, put_piece, groups, filled, AreLinesOf}
use Rattle.iso_file.proofs.Groups.{join_put, filled_join, filled_more}
use Rattle.iso_file.specs.Stepped.{ended_by, with_piece, lines_with}

-- however the rest is cut, the result is how the whole is cut
pub record Leads (bytes : List ℕ) (start : ℕ) (c : Cutting) : Type 0 where
  pub within : start ≤ length bytes
  pub leads : (ps : List Piece) → joined ps ≡ drop start bytes → Cut ps → AreLinesOf bytes (lines_with c (groups start ps))

pub leads_first : (bytes : List ℕ) → Leads bytes 0 (record { lines = []; tokens = [] })
leads_first bytes = record {
  within = omega arith;
  leads = λ ps text cut. record { pieces = ps; text = text; cut = cut; lines_are = filled_join (groups 0 ps) };
}

newline_more : (c : Cutting) (b : Bool) (gs : List (List PatchToken)) → lines_with (ended_by b c) gs ≡ lines_with c (part b gs)
newline_more c false gs = refl
newline_more c true gs =
    ap (λ (l : List (List PatchToken)). (c.lines ++ filled (c.tokens ∷ [])) ++ l) (filled_join gs)
    ∙ append_assoc c.lines (filled (c.tokens ∷ [])) (filled gs)
    ∙ ap (λ (l : List (List PatchToken)). c.lines ++ l) (sym (filled_more c.tokens gs))
    ∙ ap (λ (l : List PatchToken). c.lines ++ filled (l ∷ gs)) (sym (append-nil c.tokens))

piece_more : (c : Cutting) (k : Option TokenKind) (text : List ℕ) (at : ℕ) (gs : List (List PatchToken))
    → lines_with (with_piece k text at c) gs ≡ lines_with c (put_piece k text at gs)
piece_more c (Some k) text at gs = ap (λ (l : List (List PatchToken)). c.lines ++ filled l) (join_put c.tokens (made k text at) gs)
piece_more c None text at gs = newline_more c (has_newline text) gs

pub leads_more : (bytes : List ℕ) (start : ℕ) (c after : Cutting) (k : Kind) (len : ℕ) (text : List ℕ) → Leads bytes start c
    → len ≤ length (drop start bytes) → text ≡ take len (drop start bytes) → IsFirst k (take len (drop start bytes)) (drop len (drop start bytes))
    → after ≡ with_piece (token_kind k) text start c → Leads bytes (start + len) after
leads_more bytes start c after k len text l within is piece e = record {
  within = omega (arith, l.within, within, length-drop start bytes);
  leads = λ ps rest cut.
      let left : joined ps ≡ drop len (drop start bytes) = rest ∙ sym (drop-drop len start bytes) in
      let p : Piece = record { kind = k; text = text } in
      let whole : text ++ joined ps ≡ drop start bytes = rw (is, left) (take-append-drop len (drop start bytes)) in
      let placed : IsFirst k text (joined ps) = rw (is, left) piece in
      let len_is : length text ≡ len = ap length is ∙ length-take-le len (drop start bytes) within in
      let place : start + length text ≡ start + len = omega (arith, len_is) in
      let done = l.leads (p ∷ ps) whole (placed, cut) in
      let here : lines_with c (put_piece (token_kind k) text start (groups (start + length text) ps)) ≡ lines_with after (groups (start + len) ps)
      = ap (λ (n : ℕ). lines_with c (put_piece (token_kind k) text start (groups n ps))) place
      ∙ sym (piece_more c (token_kind k) text start (groups (start + len) ps))
      ∙ ap (λ (x : Cutting). lines_with x (groups (start + len) ps)) (sym e) in
      record { pieces = done.pieces; text = done.text; cut = done.cut; lines_are = sym here ∙ done.lines_are };
}

pub leads_last : (bytes : List ℕ) (start : ℕ) (c : Cutting) (lines : List (List PatchToken)) → Leads bytes start c → drop start bytes ≡ []
    → lines ≡ c.lines ++ filled (c.tokens ∷ []) → AreLinesOf bytes lines
leads_last bytes start c lines l none e =
    let done = l.leads [] (sym none) tt in
    let here : lines ≡ lines_with c ([] ∷ []) = e ∙ ap (λ (ts : List PatchToken). c.lines ++ filled (ts ∷ [])) (sym (append-nil c.tokens)) in
    record { pieces = done.pieces; text = done.text; cut = done.cut; lines_are = here ∙ done.lines_are }
