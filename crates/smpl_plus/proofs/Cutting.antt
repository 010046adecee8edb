-- A line of plus code that is cut up to some place.
use Rattle.std.proofs.Common.{◌≡◌, ℕ, ◌+◌, ◌-◌, ◌≤◌, List, [], ◌∷◌, ◌++◌, length, take, drop, refl, sym, ap, ◌∙◌, arith}
use Rattle.std.proofs.lemmas.List.{length-drop, drop-drop, take-append-drop, append-nil, length-append}
use Rattle.c_lexer.specs.declared.state.Kind.{Kind}
use Rattle.c_lexer.specs.declared.state.Kind.TheVariants as kind
use Rattle.c_lexer.specs.First.{IsFirst}
use Rattle.smpl_plus.specs.Blocks.{Piece, joined, Cut, gaps_by, gaps_from, lead_of, AreGaps}

-- however the rest is cut, the whole is cut so
pub record Leads (bytes : List ℕ) (start : ℕ) (gaps : List (List ℕ)) (blank : List ℕ) : Type 0 where
  pub within : start ≤ length bytes
  pub leads : (ps : List Piece) → joined ps ≡ drop start bytes → Cut ps → AreGaps bytes (gaps ++ gaps_from blank ps)

pub leads_first : (bytes : List ℕ) → Leads bytes 0 [] []
leads_first bytes = record {
  within = omega arith;
  leads = λ ps joins cut. record { pieces = ps; joins = joins; cut = cut; are = refl };
}

pub leads_more : (bytes : List ℕ) (start : ℕ) (gaps : List (List ℕ)) (blank : List ℕ) (k : Kind) (len : ℕ) (text : List ℕ)
    (more_gaps : List (List ℕ)) (more_blank : List ℕ)
    → Leads bytes start gaps blank → len ≤ length (drop start bytes) → text ≡ take len (drop start bytes)
    → IsFirst k (take len (drop start bytes)) (drop len (drop start bytes))
    → ((more : List ℕ → List (List ℕ)) → gaps ++ gaps_by k text blank more ≡ more_gaps ++ more more_blank)
    → Leads bytes (start + len) more_gaps more_blank
leads_more bytes start gaps blank k len text more_gaps more_blank l within is piece more =
    let rest_is : length (drop start bytes) ≡ length bytes - start = length-drop start bytes in
    record {
      within = omega (arith, l.within, within, rest_is);
      leads = λ ps rest cut.
          let left : joined ps ≡ drop len (drop start bytes) = rest ∙ sym (drop-drop len start bytes) in
          let p : Piece = record { kind = k; text = text } in
          let whole : text ++ joined ps ≡ drop start bytes = rw (is, left) (take-append-drop len (drop start bytes)) in
          let placed : IsFirst k text (joined ps) = rw (is, left) piece in
          let done = l.leads (p ∷ ps) whole (placed, cut) in
          record { pieces = done.pieces; joins = done.joins; cut = done.cut; are = sym (more (λ b. gaps_from b ps)) ∙ done.are };
    }

pub leads_last : (bytes : List ℕ) (start : ℕ) (gaps : List (List ℕ)) (blank : List ℕ) → Leads bytes start gaps blank
    → drop start bytes ≡ [] → AreGaps bytes gaps
leads_last bytes start gaps blank l none =
    let done = l.leads [] (sym none) tt in
    record { pieces = done.pieces; joins = done.joins; cut = done.cut; are = sym (append-nil gaps) ∙ done.are }

-- ---- the first blanks are no longer than the text

gaps_short : (k : Kind) (text blank : List ℕ) (ps : List Piece) → lead_of (gaps_from (blank ++ text) ps) ≤ length (blank ++ text) + length (joined ps)
    → lead_of (gaps_from blank ps) ≤ length blank + length (joined ps)
    → lead_of (gaps_by k text blank (λ b. gaps_from b ps)) ≤ length blank + length (text ++ joined ps)
gaps_short kind.Blank text blank ps more same = omega (arith, more, length-append blank text, length-append text (joined ps))
gaps_short kind.Comment text blank ps more same = omega (arith, same, length-append text (joined ps))
gaps_short kind.Line text blank ps more same = omega (arith, same, length-append text (joined ps))
gaps_short kind.Name text blank ps more same = omega arith
gaps_short kind.Keyword text blank ps more same = omega arith
gaps_short kind.Number text blank ps more same = omega arith
gaps_short kind.Char text blank ps more same = omega arith
gaps_short kind.Str text blank ps more same = omega arith
gaps_short kind.Punct text blank ps more same = omega arith
gaps_short kind.Stray text blank ps more same = omega arith

lead-short : (ps : List Piece) (blank : List ℕ) → lead_of (gaps_from blank ps) ≤ length blank + length (joined ps)
lead-short [] blank = omega arith
lead-short (p ∷ ps) blank = gaps_short p.kind p.text blank ps (lead-short ps (blank ++ p.text)) (lead-short ps blank)

pub lead_within : (text : List ℕ) (gaps : List (List ℕ)) → AreGaps text gaps → lead_of gaps ≤ length text
lead_within text gaps g = omega (arith, ap lead_of g.are, lead-short g.pieces [], ap length g.joins)
