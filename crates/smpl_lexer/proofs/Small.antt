-- A text is small.
--
-- Proof: each line has at least one byte, so there are no more lines than bytes; each rule has a line of its own, its header.
use Rattle.std.proofs.Common.{◌≡◌, ℕ, suc, ◌+◌, ◌≤◌, ◌==◌, Bool, true, false, List, [], ◌∷◌, length, drop, All, Option, Some}
use Rattle.std.proofs.Common.{None, refl, sym, subst, arith, if◌then◌else◌}
use Rattle.std.proofs.lemmas.List.Elements.{All-nil, All-cons, All-head, All-tail, All-append, All-push, All-weaker}
use Rattle.std.proofs.lemmas.List.{length-append, length-drop}
use Rattle.smpl_lexer.specs.declared.section.Section.{Section}
use Rattle.smpl_lexer.specs.declared.section.Section.TheVariants as section
use Rattle.smpl_lexer.specs.declared.section.Role.{Role}
use Rattle.smpl_lexer.specs.declared.section.Role.TheVariants as role
use Rattle.smpl_lexer.specs.declared.token.PatchToken.{PatchToken}
use Rattle.smpl_lexer.specs.declared.text.BodyLine.{BodyLine}
use Rattle.smpl_lexer.specs.declared.text.RuleText.{RuleText}
use Rattle.smpl_lexer.specs.declared.text.PatchText.{PatchText}
use Rattle.smpl_lexer.specs.declared.gather.Gathered.{Gathered}
use Rattle.smpl_lexer.specs.Lines.{Line, lines_from, begun, content, newline}
use Rattle.smpl_lexer.specs.Sections.{section_after, skipped}
use Rattle.smpl_lexer.specs.CutLines.{CutLine, AreCutLines, plain_tokens}
use Rattle.smpl_lexer.specs.Texts.{most_bytes, ended, with_decls, with_line, body_line, gather_line, gather, nothing, finished}
use Rattle.smpl_lexer.specs.Texts.{text_of, IsTextOf, IsSmallRule, IsSmall}

-- ---- lines

content_shorter : (bytes : List ℕ) → length (content bytes) ≤ length bytes
content_shorter [] = omega arith
content_shorter (b ∷ bs) = by (b == newline) (content_shorter bs)
  where
    by : (is : Bool) → length (content bs) ≤ length bs → length (if is then [] else b ∷ content bs) ≤ length (b ∷ bs)
    by true rest = omega arith
    by false rest = omega (arith, rest)

record AreShort (ls : List Line) (n : ℕ) : Type 0 where
  count : length ls ≤ n
  bytes : All (λ (l : Line). length l.bytes ≤ n) ls

longer : (ls : List Line) (n : ℕ) → All (λ (l : Line). length l.bytes ≤ n) ls → All (λ (l : Line). length l.bytes ≤ suc n) ls
longer ls n all = All-weaker (λ (l : Line). length l.bytes ≤ n) (λ (l : Line). length l.bytes ≤ suc n) (λ l h. omega (arith, h)) ls all

begun_short : (start b : ℕ) (ls : List Line) (n : ℕ) → AreShort ls n → AreShort (begun start b ls) (suc n)
begun_short start b [] n short = record {
  count = omega arith;
  bytes = All-cons (λ (l : Line). length l.bytes ≤ suc n) (record { start = start; bytes = b ∷ [] }) [] (omega arith)
      (All-nil (λ (l : Line). length l.bytes ≤ suc n));
}
begun_short start b (l ∷ ls) n short = record {
  count = omega (arith, short.count);
  bytes = All-cons (λ (l : Line). length l.bytes ≤ suc n) (record { start = start; bytes = b ∷ l.bytes }) ls
      (omega (arith, All-head (λ (l : Line). length l.bytes ≤ n) l ls short.bytes))
      (longer ls n (All-tail (λ (l : Line). length l.bytes ≤ n) l ls short.bytes));
}

lines_short : (start : ℕ) (bytes : List ℕ) → AreShort (lines_from start bytes) (length bytes)
lines_short start [] = record { count = omega arith; bytes = All-nil (λ (l : Line). length l.bytes ≤ 0) }
lines_short start (b ∷ bs) = by (b == newline) (lines_short (start + 1) bs)
  where
    by : (is : Bool) → AreShort (lines_from (start + 1) bs) (length bs)
        → AreShort (if is then record { start = start; bytes = b ∷ [] }
        ∷ lines_from (start + 1) bs else begun start b (lines_from (start + 1) bs)) (suc (length bs))
    by true short = record {
      count = omega (arith, short.count);
      bytes = All-cons (λ (l : Line). length l.bytes ≤ suc (length bs)) (record { start = start; bytes = b ∷ [] })
          (lines_from (start + 1) bs) (omega arith) (longer (lines_from (start + 1) bs) (length bs) short.bytes);
    }
    by false short = begun_short start b (lines_from (start + 1) bs) (length bs) short

-- ---- what is gathered when `left` lines are left, with at most `most` lines, rules and bytes

module _ (most : ℕ) where
  record RuleFits (r : RuleText) : Type 0 where
    lines : length r.body ≤ most
    texts : All (λ (l : BodyLine). length l.text ≤ most) r.body

  abbrev LastFits : ℕ → Option RuleText → Type 0
  LastFits left None = Unit {0}
  LastFits left (Some r) = (length r.body + left ≤ most) × All (λ (l : BodyLine). length l.text ≤ most) r.body

  abbrev rules_in : Option RuleText → ℕ
  rules_in None = 0
  rules_in (Some r) = 1

  record Fits (left : ℕ) (g : Gathered) : Type 0 where
    rules : length g.rules + rules_in g.last + left ≤ most
    each : All RuleFits g.rules
    last : LastFits left g.last

  ended_count : (o : Option RuleText) (end : ℕ) → length (ended o end) ≡ rules_in o
  ended_count None end = refl
  ended_count (Some r) end = refl

  ended_small : (left : ℕ) (o : Option RuleText) (end : ℕ) → LastFits left o → All RuleFits (ended o end)
  ended_small left None end fits = All-nil RuleFits
  ended_small left (Some r) end fits = All-cons RuleFits (record r { end = end }) []
      (record { lines = omega (arith, fits.0); texts = fits.1 }) (All-nil RuleFits)

  last_less : (left : ℕ) (o : Option RuleText) → LastFits (suc left) o → LastFits left o
  last_less left None fits = tt
  last_less left (Some r) fits = (omega (arith, fits.0), fits.1)

  decls_count : (o : Option RuleText) (ts : List PatchToken) → rules_in (with_decls o ts) ≡ rules_in o
  decls_count None ts = refl
  decls_count (Some r) ts = refl

  decls_fit : (left : ℕ) (o : Option RuleText) (ts : List PatchToken) → LastFits (suc left) o → LastFits left (with_decls o ts)
  decls_fit left None ts fits = tt
  decls_fit left (Some r) ts fits = (omega (arith, fits.0), fits.1)

  line_count : (o : Option RuleText) (l : BodyLine) → rules_in (with_line o l) ≡ rules_in o
  line_count None l = refl
  line_count (Some r) l = refl

  line_fits : (left : ℕ) (o : Option RuleText) (l : BodyLine) → length l.text ≤ most → LastFits (suc left) o
      → LastFits left (with_line o l)
  line_fits left None l short fits = tt
  line_fits left (Some r) l short fits = (
    omega (arith, fits.0, length-append r.body (l ∷ [])),
    All-push (λ (x : BodyLine). length x.text ≤ most) r.body l fits.1 short,
  )

  text_short : (start : ℕ) (bytes : List ℕ) (ts : List PatchToken) → length bytes ≤ most
      → length (body_line start bytes ts).text ≤ most
  text_short start bytes ts short =
      let rest = drop (skipped role.Body bytes) bytes in
      omega (arith, short, content_shorter (drop (skipped role.Body bytes) bytes), length-drop (skipped role.Body bytes) bytes)

  gathered_fits : (r : Role) (start : ℕ) (bytes : List ℕ) (ts : List PatchToken) (left : ℕ) (g : Gathered)
      → length bytes ≤ most → Fits (suc left) g → Fits left (gather_line r start bytes ts g)
  gathered_fits role.Virtual start bytes ts left g short fits =
      record { rules = omega (arith, fits.rules); each = fits.each; last = last_less left g.last fits.last }
  gathered_fits role.Header start bytes ts left g short fits = record {
    rules = omega (arith, fits.rules, length-append g.rules (ended g.last start), ended_count g.last start);
    each = All-append RuleFits g.rules (ended g.last start) fits.each (ended_small (suc left) g.last start fits.last);
    last = (omega (arith, fits.rules), All-nil (λ (l : BodyLine). length l.text ≤ most));
  }
  gathered_fits role.Declaration start bytes ts left g short fits = record {
    rules = omega (arith, fits.rules, decls_count g.last ts);
    each = fits.each;
    last = decls_fit left g.last ts fits.last;
  }
  gathered_fits role.Second start bytes ts left g short fits =
      record { rules = omega (arith, fits.rules); each = fits.each; last = last_less left g.last fits.last }
  gathered_fits role.Body start bytes ts left g short fits = record {
    rules = omega (arith, fits.rules, line_count g.last (body_line start bytes ts));
    each = fits.each;
    last = line_fits left g.last (body_line start bytes ts) (text_short start bytes ts short) fits.last;
  }

  all_fit : (s : Section) (ls : List Line) (cs : List CutLine) (g : Gathered) → AreCutLines s ls cs
      → All (λ (l : Line). length l.bytes ≤ most) ls → Fits (length ls) g → Fits 0 (gather g cs)
  all_fit s [] [] g cut short fits = fits
  all_fit s [] (c ∷ cs) g cut short fits = absurd cut
  all_fit s (l ∷ ls) [] g cut short fits = absurd cut
  all_fit s (l ∷ ls) (c ∷ cs) g cut short fits =
      let here : length c.line.bytes ≤ most = subst (λ (x : Line). length x.bytes ≤ most) (sym cut.0)
      (All-head (λ (l : Line). length l.bytes ≤ most) l ls short) in
      all_fit (section_after c.role) ls cs (gather_line c.role c.line.start c.line.bytes (plain_tokens c) g) cut.1.1.1
      (All-tail (λ (l : Line). length l.bytes ≤ most) l ls short)
      (gathered_fits c.role c.line.start c.line.bytes (plain_tokens c) (length ls) g here fits)

  nothing_fits : (n : ℕ) → n ≤ most → Fits n nothing
  nothing_fits n fits = record { rules = omega (arith, fits); each = All-nil RuleFits; last = tt }

  record TextFits (text : PatchText) : Type 0 where
    rules : length text.rules ≤ most
    each : All RuleFits text.rules

  finished_small : (end : ℕ) (g : Gathered) → Fits 0 g → TextFits (finished end g)
  finished_small end g fits = record {
    rules = omega (arith, fits.rules, length-append g.rules (ended g.last end), ended_count g.last end);
    each = All-append RuleFits g.rules (ended g.last end) fits.each (ended_small 0 g.last end fits.last);
  }

rule_is_small : (r : RuleText) → RuleFits most_bytes r → IsSmallRule r
rule_is_small r fits = record { lines = fits.lines; texts = fits.texts }

small_of : (t : PatchText) → TextFits most_bytes t → IsSmall t
small_of t fits = record { rules = fits.rules; each = All-weaker (RuleFits most_bytes) IsSmallRule rule_is_small t.rules fits.each }

lines_fit : (most : ℕ) (bytes : List ℕ) → length bytes ≤ most
    → All (λ (l : Line). length l.bytes ≤ most) (lines_from 0 bytes)
lines_fit most bytes short =
    All-weaker (λ (l : Line). length l.bytes ≤ length bytes) (λ (l : Line). length l.bytes ≤ most)
    (λ l h. omega (arith, h, short)) (lines_from 0 bytes) (lines_short 0 bytes).bytes

text_fits : (most : ℕ) (bytes : List ℕ) (cs : List CutLine) → length bytes ≤ most
    → AreCutLines section.Before (lines_from 0 bytes) cs → TextFits most (text_of (length bytes) cs)
text_fits most bytes cs short cut =
    let count : length (lines_from 0 bytes) ≤ most = omega (arith, (lines_short 0 bytes).count, short) in
    finished_small most (length bytes) (gather nothing cs)
    (all_fit most section.Before (lines_from 0 bytes) cs nothing cut (lines_fit most bytes short) (nothing_fits most (length (lines_from 0 bytes)) count))

pub text_is_small : (bytes : List ℕ) (t : PatchText) → IsTextOf bytes t → IsSmall t
text_is_small bytes t text =
    small_of t (subst (λ (x : PatchText). TextFits most_bytes x) (sym text.is) (text_fits most_bytes bytes text.lines text.are.short text.are.cut))
