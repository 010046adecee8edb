-- A line that is cut up to some place.
use Rattle.std.proofs.Common.{◌≡◌, ℕ, ◌+◌, ◌≤◌, Bool, true, false, List, [], ◌∷◌, ◌++◌, length, take, drop, Option, Some, None}
use Rattle.std.proofs.Common.{refl, sym, ap, ◌∙◌, append_assoc, arith}
use Rattle.std.proofs.lemmas.List.{length-drop, drop-drop, take-append-drop, length-take-le, append-nil}
use Rattle.c_terms.specs.declared.token.TokenKind.{TokenKind}
use Rattle.smpl_patch.specs.declared.fault.PatchFault.{PatchFault}
use Rattle.smpl_patch.specs.Faults.{first_from}
use Rattle.smpl_lexer.specs.declared.piece.LineKind.{LineKind}
use Rattle.smpl_lexer.specs.declared.token.PatchToken.{PatchToken}
use Rattle.smpl_lexer.specs.Pieces.{LinePiece, joined, Cut, IsFirstPiece, is_bad}
use Rattle.smpl_lexer.specs.Tokens.{tokens_from, bad_from, token_kind, put_token, put_bad}
use Rattle.smpl_lexer.specs.Cutting.{IsCutTo}

-- however the rest is cut, the whole is cut so
pub record Leads (signs plus : Bool) (at : ℕ) (bytes : List ℕ) (first : Option PatchFault) (start : ℕ)
    (tokens : List PatchToken) (so_far : Option PatchFault) : Type 0 where
  pub within : start ≤ length bytes
  pub leads : (ps : List LinePiece) → joined ps ≡ drop start bytes → Cut signs ps
      → IsCutTo signs plus at bytes first (record { tokens = tokens ++ tokens_from (at + start) ps; first = first_from so_far (bad_from plus (at + start) ps) })

put_token-append : (k : Option TokenKind) (text : List ℕ) (at : ℕ) (ts : List PatchToken)
    → put_token k text at ts ≡ put_token k text at [] ++ ts
put_token-append None text at ts = refl
put_token-append (Some k) text at ts = refl

pub first_from-put_bad : (bad : Bool) (o : Option PatchFault) (at : ℕ) (fs : List PatchFault)
    → first_from o (put_bad bad at fs) ≡ first_from (first_from o (put_bad bad at [])) fs
first_from-put_bad false o at fs = refl
first_from-put_bad true o at fs = refl

zero_more : (n : ℕ) → n ≡ n + 0
zero_more n = omega arith

pub leads_first : (signs plus : Bool) (at : ℕ) (bytes : List ℕ) (first : Option PatchFault)
    → Leads signs plus at bytes first 0 [] first
leads_first signs plus at bytes first = record {
  within = omega arith;
  leads = λ ps text cuts. record {
    pieces = ps;
    text = text;
    cuts = cuts;
    tokens = ap (λ (n : ℕ). tokens_from n ps) (sym (zero_more at));
    faults = ap (λ (n : ℕ). first_from first (bad_from plus n ps)) (sym (zero_more at));
  };
}

pub leads_more : (signs plus : Bool) (at : ℕ) (bytes : List ℕ) (first : Option PatchFault) (start : ℕ) (tokens : List PatchToken) (so_far : Option PatchFault)
    → Leads signs plus at bytes first start tokens so_far → (k : LineKind) (len : ℕ) (text : List ℕ) → len ≤ length (drop start bytes)
    → text ≡ take len (drop start bytes) → IsFirstPiece signs k (take len (drop start bytes)) (drop len (drop start bytes))
    → Leads signs plus at bytes first (start + len) (tokens ++ put_token (token_kind k) text (at + start) [])
    (first_from so_far (put_bad (is_bad plus k text) (at + start) []))
leads_more signs plus at bytes first start tokens so_far l k len text within is piece = record {
  within = omega (arith, l.within, within, length-drop start bytes);
  leads = λ ps rest cuts.
      let left : joined ps ≡ drop len (drop start bytes) = rest ∙ sym (drop-drop len start bytes) in
      let p : LinePiece = record { kind = k; text = text } in
      let whole : text ++ joined ps ≡ drop start bytes = rw (is, left) (take-append-drop len (drop start bytes)) in
      let placed : IsFirstPiece signs k text (joined ps) = rw (is, left) piece in
      let len_is : length text ≡ len = ap length is ∙ length-take-le len (drop start bytes) within in
      let place : at + start + length text ≡ at + (start + len) = omega (arith, len_is) in
      let done = l.leads (p ∷ ps) whole (placed, cuts) in
      let same : tokens ++ put_token (token_kind k) text (at + start) (tokens_from (at + start + length text) ps)
      ≡ (tokens ++ put_token (token_kind k) text (at + start) []) ++ tokens_from (at + (start + len)) ps
      = rw (place, put_token-append) (sym (append_assoc tokens (put_token (token_kind k) text (at + start) []) (tokens_from (at + (start + len)) ps))) in
      let faults : first_from so_far (put_bad (is_bad plus k text) (at + start) (bad_from plus (at + start + length text) ps))
      ≡ first_from (first_from so_far (put_bad (is_bad plus k text) (at + start) [])) (bad_from plus (at + (start + len)) ps)
      = rw place (first_from-put_bad (is_bad plus k text) so_far (at + start) (bad_from plus (at + (start + len)) ps)) in
      record { pieces = done.pieces; text = done.text; cuts = done.cuts; tokens = sym same ∙ done.tokens; faults = sym faults ∙ done.faults };
}

pub leads_last : (signs plus : Bool) (at : ℕ) (bytes : List ℕ) (first : Option PatchFault) (start : ℕ) (tokens : List PatchToken) (so_far : Option PatchFault)
    → Leads signs plus at bytes first start tokens so_far → drop start bytes ≡ []
    → IsCutTo signs plus at bytes first (record { tokens = tokens; first = so_far })
leads_last signs plus at bytes first start tokens so_far l none =
    let done = l.leads [] (sym none) tt in
    record { pieces = done.pieces; text = done.text; cuts = done.cuts; tokens = sym (append-nil tokens) ∙ done.tokens; faults = done.faults }
