-- A patch that is read up to some line.
use Rattle.std.proofs.Common.{◌≡◌, ℕ, ◌+◌, ◌≤◌, ◌<◌, Bool, List, [], ◌∷◌, ◌++◌, length, take, drop, Option, Some, None, refl, sym, ap, ◌∙◌, subst, arith}
use Rattle.std.proofs.lemmas.List.{drop-drop}
use Rattle.smpl_patch.specs.declared.fault.PatchFault.{PatchFault}
use Rattle.smpl_patch.specs.Faults.{earlier, first_from, first_of}
use Rattle.smpl_lexer.specs.declared.section.Section.{Section}
use Rattle.smpl_lexer.specs.declared.section.Section.TheVariants as section
use Rattle.smpl_lexer.specs.declared.section.Role.{Role}
use Rattle.smpl_lexer.specs.declared.cut.LineTokens.{LineTokens}
use Rattle.smpl_lexer.specs.declared.reading.Reading.{Reading}
use Rattle.smpl_lexer.specs.declared.gather.Gathered.{Gathered}
use Rattle.smpl_lexer.specs.Lines.{lines_from, line_length, content, begins_with}
use Rattle.smpl_lexer.specs.Sections.{role_in, section_after, skipped, is_plus, has_signs}
use Rattle.smpl_lexer.specs.Pieces.{joined, Cut}
use Rattle.smpl_lexer.specs.Tokens.{tokens_from, bad_from}
use Rattle.smpl_lexer.specs.CutLines.{CutLine, AreCutLines, faults_of, plain_tokens, role_faults}
use Rattle.smpl_lexer.specs.Texts.{gather_line, gather, section_of, line_faults, end_faults, text_faults, finished, IsTextOf, IsTextFault}
use Rattle.smpl_lexer.specs.Texts.IsTextFault.{first}
use Rattle.smpl_lexer.specs.Cutting.{IsCutTo, after_line, after_lines, unread, IsReadTo, AreReadTo}
use Rattle.smpl_lexer.proofs.LineLemmas.{split_lines}

-- however the other lines are cut, the whole patch is read to what follows from r and them
pub record LeadsOn (bytes : List ℕ) (start : ℕ) (r : Reading) : Type 0 where
  pub within : start ≤ length bytes
  pub leads : (cs : List CutLine) → AreCutLines r.section (lines_from start (drop start bytes)) cs
      → AreReadTo bytes (after_lines r cs)

pub leads_on_first : (bytes : List ℕ) → LeadsOn bytes 0 unread
leads_on_first bytes = record { within = omega arith; leads = λ cs cut. record { lines = cs; cut = cut; after_is = refl } }

-- the first of some bytes
pub record Begins (bs : List ℕ) : Type 0 where
  pub byte : ℕ
  pub rest : List ℕ
  pub are : bs ≡ byte ∷ rest

pub begins_some : (bs : List ℕ) → 0 < length bs → Begins bs
begins_some [] some = absurd (omega arith)
begins_some (b ∷ bs) some = record { byte = b; rest = bs; are = refl }

-- the lines that are left are the first of them and those after it
pub lines_left : (start : ℕ) (bs : List ℕ) → 0 < length bs
    → lines_from start bs ≡ record { start = start; bytes = take (line_length bs) bs } ∷ lines_from (start + line_length bs) (drop (line_length bs) bs)
lines_left start bs some = let b = begins_some bs some in
    subst (λ (x : List ℕ). lines_from start x ≡ record { start = start; bytes = take (line_length x) x }
    ∷ lines_from (start + line_length x) (drop (line_length x) x)) (sym b.are) (split_lines start b.byte b.rest)

pub leads_on_more : (bytes : List ℕ) (start : ℕ) (r after : Reading) (text : List ℕ) → LeadsOn bytes start r
    → 0 < length (drop start bytes)
    → line_length (drop start bytes) ≤ length (drop start bytes) → text ≡ take (line_length (drop start bytes)) (drop start bytes)
    → start + line_length (drop start bytes) ≤ length bytes → IsReadTo r start text after
    → LeadsOn bytes (start + line_length (drop start bytes)) after
leads_on_more bytes start r after text l some fits text_is within read = record {
  within = within;
  leads = λ cs cut.
      let n = line_length (drop start bytes) in
      let c = read.line in
      let rest = lines_from (start + line_length (drop start bytes)) (drop (start + line_length (drop start bytes)) bytes) in
      let left : lines_from start (drop start bytes) ≡ record { start = start; bytes = text } ∷ rest
      = rw (text_is, ← drop-drop (line_length (drop start bytes)) start bytes) (lines_left start (drop start bytes) some) in
      let role_is : c.role ≡ role_in r.section (begins_with 64 text) = read.role in
      let section_is : after.section ≡ section_after c.role = ap (λ (x : Reading). x.section) read.after_is in
      let rest_cut : AreCutLines (section_after c.role) rest cs = rw (← section_is) cut in
      let cut' : AreCutLines r.section (lines_from start (drop start bytes)) (c ∷ cs) = rw left (read.line_is, (role_is, (read.cut, rest_cut))) in
      let done = l.leads (c ∷ cs) cut' in
      rw read.after_is done;
}

pub leads_on_last : (bytes : List ℕ) (start : ℕ) (r : Reading) → LeadsOn bytes start r → drop start bytes ≡ []
    → AreReadTo bytes r
leads_on_last bytes start r l none = l.leads [] (rw none tt)

-- ---- one line

pub first_from-append : (o : Option PatchFault) (fs gs : List PatchFault)
    → first_from o (fs ++ gs) ≡ first_from (first_from o fs) gs
first_from-append o [] gs = refl
first_from-append o (f ∷ fs) gs = first_from-append (Some (earlier o f)) fs gs

pub line_read : (r : Reading) (start : ℕ) (bytes : List ℕ) (role : Role)
    → role ≡ role_in r.section (begins_with 64 bytes)
    → (skip : ℕ) → skip ≡ skipped role bytes → (signs : Bool) → signs ≡ has_signs role bytes → (plus : Bool) → plus ≡ is_plus role bytes
    → (cut : LineTokens) → IsCutTo signs plus (start + skip) (drop skip bytes) r.first cut
    → (end : ℕ) → end ≡ start + length (content bytes) → (new : Option PatchFault) → new ≡ first_from cut.first (role_faults role start cut.tokens end)
    → (g : Gathered) → g ≡ gather_line role start bytes cut.tokens r.gathered → (s : Section) → s ≡ section_after role
    → IsReadTo r start bytes (record { section = s; first = new; gathered = g })
line_read r start bytes role role_is skip skip_is signs signs_is plus plus_is cut is_cut end end_is new new_is g g_is s s_is =
    let c : CutLine = record { role = role; line = record { start = start; bytes = bytes }; pieces = is_cut.pieces } in
    let text : joined is_cut.pieces ≡ drop (skipped role bytes) bytes = rw (← skip_is) is_cut.text in
    let cuts : Cut (has_signs role bytes) is_cut.pieces = rw (← signs_is) is_cut.cuts in
    let tokens : cut.tokens ≡ tokens_from (start + skipped role bytes) is_cut.pieces = rw (← skip_is) is_cut.tokens in
    let bad : cut.first ≡ first_from r.first (bad_from (is_plus role bytes) (start + skipped role bytes) is_cut.pieces) =
    rw (← skip_is, ← plus_is) is_cut.faults in
    let firsts : new ≡ first_from r.first (faults_of c) = new_is
    ∙ (rw (end_is, tokens, bad) (sym (first_from-append r.first
    (bad_from (is_plus role bytes) (start + skipped role bytes) is_cut.pieces)
    (role_faults role start (tokens_from (start + skipped role bytes) is_cut.pieces) (start + length (content bytes)))))) in
    let gathered : g ≡ gather_line role start bytes (plain_tokens c) r.gathered = rw (← tokens) g_is in
    record {
      line = c;
      line_is = refl;
      role = role_is;
      cut = record { text = text; cut = cuts };
      after_is = rw (s_is, firsts, gathered) refl;
    }

-- ---- all of them

pub after_lines-section : (r : Reading) (cs : List CutLine) → (after_lines r cs).section ≡ section_of r.section cs
after_lines-section r [] = refl
after_lines-section r (c ∷ cs) = after_lines-section (after_line r c) cs

pub after_lines-gathered : (r : Reading) (cs : List CutLine) → (after_lines r cs).gathered ≡ gather r.gathered cs
after_lines-gathered r [] = refl
after_lines-gathered r (c ∷ cs) = after_lines-gathered (after_line r c) cs

pub after_lines-first : (r : Reading) (cs : List CutLine)
    → (after_lines r cs).first ≡ first_from r.first (line_faults cs)
after_lines-first r [] = refl
after_lines-first r (c ∷ cs) = after_lines-first (after_line r c) cs
    ∙ sym (first_from-append r.first (faults_of c) (line_faults cs))

-- a first fault stays one
first_from-some : (f : PatchFault) (fs : List PatchFault) → first_from (Some f) fs ≡ None → ⊥
first_from-some f [] e = absurd (cc)
first_from-some f (g ∷ fs) e = first_from-some (earlier (Some f) g) fs e

pub no_first : (fs : List PatchFault) → first_of fs ≡ None → fs ≡ []
no_first [] e = refl
no_first (f ∷ fs) e = absurd (first_from-some f fs e)

pub all_first : (bytes : List ℕ) (r : Reading) (read : AreReadTo bytes r)
    → first_from r.first (end_faults r.section (length bytes)) ≡ first_of (text_faults (length bytes) read.lines)
all_first bytes r read =
    let cs = read.lines in
    let so_far : r.first ≡ first_from None (line_faults cs) = ap (λ (x : Reading). x.first) read.after_is
    ∙ after_lines-first unread cs in
    let behind : r.section ≡ section_of section.Before cs = ap (λ (x : Reading). x.section) read.after_is
    ∙ after_lines-section unread cs in
    rw (so_far, behind) (sym (first_from-append None (line_faults cs) (end_faults (section_of section.Before cs) (length bytes))))

pub text_read : (bytes : List ℕ) (r : Reading) → AreReadTo bytes r → length bytes ≤ 1048576
    → first_from r.first (end_faults r.section (length bytes)) ≡ None
    → IsTextOf bytes (finished (length bytes) r.gathered)
text_read bytes r read short none = record {
  lines = read.lines;
  are = record { short = short; cut = read.cut };
  faultless = no_first (text_faults (length bytes) read.lines) (sym (all_first bytes r read) ∙ none);
  is = ap (finished (length bytes)) (ap (λ (x : Reading). x.gathered) read.after_is ∙ after_lines-gathered unread read.lines);
}

pub fault_read : (bytes : List ℕ) (r : Reading) (f : PatchFault) → AreReadTo bytes r → length bytes ≤ 1048576
    → first_from r.first (end_faults r.section (length bytes)) ≡ Some f
    → IsTextFault bytes f
fault_read bytes r f read short some = first read.lines (record { short = short; cut = read.cut }) (sym (all_first bytes r read) ∙ some)
