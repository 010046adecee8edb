-- The words among the tokens of a rule's declarations don't begin with `{`.
use Rattle.std.proofs.Common.{◌≡◌, ℕ, zero, suc, ◌+◌, ◌==◌, Bool, true, false, not, refl, sym, subst, eqb, List, [], ◌∷◌, ◌++◌, length, Option, Some}
use Rattle.std.proofs.Common.{None, if◌then◌else◌}
use Rattle.std.specs.Prelude.{◌↔◌, IsTrue}
use Rattle.std.proofs.lemmas.Bool.{eqb-true}
use Rattle.c_lexer.specs.declared.state.Kind.{Kind}
use Rattle.c_lexer.specs.declared.state.Kind.TheVariants as kind
use Rattle.c_lexer.specs.Kinds.{kind_of}
use Rattle.c_lexer.specs.Words.{is_letter, keywords}
use Rattle.c_lexer.specs.Names.{IsName, IsKeyword}
use Rattle.smpl_lexer.specs.declared.piece.LineKind.{LineKind}
use Rattle.smpl_lexer.specs.declared.piece.LineKind.TheVariants.{Plain, Dots, Sign}
use Rattle.smpl_lexer.specs.declared.section.Section.{Section}
use Rattle.smpl_lexer.specs.declared.section.Section.TheVariants as section
use Rattle.smpl_lexer.specs.declared.section.Role.{Role}
use Rattle.smpl_lexer.specs.declared.section.Role.TheVariants as role
use Rattle.smpl_lexer.specs.declared.token.PatchToken.{PatchToken}
use Rattle.smpl_lexer.specs.declared.text.BodyLine.{BodyLine}
use Rattle.smpl_lexer.specs.declared.text.RuleText.{RuleText}
use Rattle.smpl_lexer.specs.declared.text.PatchText.{PatchText}
use Rattle.smpl_lexer.specs.declared.gather.Gathered.{Gathered}
use Rattle.smpl_lexer.specs.Lines.{Line, lines_from}
use Rattle.smpl_lexer.specs.Pieces.{LinePiece, joined, sign_at, Cut, IsFirstBy}
use Rattle.smpl_lexer.specs.Tokens.{token_kind, tokens_from, put_token}
use Rattle.smpl_lexer.specs.Sections.{section_after, has_signs}
use Rattle.smpl_lexer.specs.CutLines.{CutLine, IsCutLine, AreCutLines, place_in, plain_tokens}
use Rattle.smpl_lexer.specs.Texts.{ended, with_decls, with_line, body_line, gather_line, gather, nothing, finished, IsTextOf}
use Rattle.smpl_meta.specs.Forms.{is_wordish}
use Rattle.ctl_fixpoint.proofs.CtlHolds.TestLemmas.{not_both, not_true, all_has}
use Rattle.wit_forest.specs.WitTrees.Forest.{is_hidden_name}

-- ---- texts

abbrev pub NameLaw : Type 0
NameLaw = (text : List ℕ) → (kind_of text ≡ Some kind.Name) ↔ IsName text

abbrev pub KeywordLaw : Type 0
KeywordLaw = (text : List ℕ) → (kind_of text ≡ Some kind.Keyword) ↔ IsKeyword text

no_letter : IsTrue (is_letter 123) → ⊥
no_letter h = not_both false h refl

letter_first : (b : ℕ) → IsTrue (is_letter b) → (x : Bool) → eqb b 123 ≡ x → x ≡ false
letter_first b h true e = absurd (no_letter (subst (λ (n : ℕ). IsTrue (is_letter n)) (eqb-true b 123 e) h))
letter_first b h false e = refl

name_open : (text : List ℕ) → IsName text → is_hidden_name text ≡ false
name_open [] h = refl
name_open (b ∷ bytes) h = letter_first b h.0.0 (eqb b 123) refl

keyword_open : (text : List ℕ) → IsKeyword text → is_hidden_name text ≡ false
keyword_open text h = not_true (is_hidden_name text) (all_has (λ (k : List ℕ). not (is_hidden_name k)) text keywords h refl)

-- ---- tokens

-- a word doesn't begin with `{`
abbrev pub IsOpen : PatchToken → Type 0
IsOpen t = is_wordish t ≡ true → is_hidden_name t.token.text ≡ false

abbrev pub AreOpen : List PatchToken → Type 0
AreOpen [] = Unit {0}
AreOpen (t ∷ ts) = IsOpen t × AreOpen ts

pub open-append : (xs ys : List PatchToken) → AreOpen xs → AreOpen ys → AreOpen (xs ++ ys)
open-append [] ys h k = k
open-append (x ∷ xs) ys h k = (h.0, open-append xs ys h.1 k)

-- a piece that is no sign of patches is of its kind
plain_kind : (n : ℕ) (k : Kind) (text rest : List ℕ) → IsFirstBy n (Plain k) text rest → kind_of text ≡ Some k
plain_kind zero k text rest h = h.of_kind
plain_kind (suc n) k text rest h = by (suc n == 3) h.0
  where
    by : (b : Bool) → Plain k ≡ (if b then Dots else Sign) → kind_of text ≡ Some k
    by true e = absurd (cc)
    by false e = absurd (cc)

module _ (names : NameLaw) (words : KeywordLaw) where
  put_open : (n : ℕ) (k : LineKind) (text rest : List ℕ) (at : ℕ) (ts : List PatchToken) → IsFirstBy n k text rest → AreOpen ts
      → AreOpen (put_token (token_kind k) text at ts)
  put_open n (Plain kind.Name) text rest at ts f r = (λ h. name_open text ((names text).0 (plain_kind n kind.Name text rest f)), r)
  put_open n (Plain kind.Keyword) text rest at ts f r = (λ h. keyword_open text ((words text).0 (plain_kind n kind.Keyword text rest f)), r)
  put_open n (Plain kind.Number) text rest at ts f r = (λ h. not_both false h refl, r)
  put_open n (Plain kind.Char) text rest at ts f r = (λ h. not_both false h refl, r)
  put_open n (Plain kind.Str) text rest at ts f r = (λ h. not_both false h refl, r)
  put_open n (Plain kind.Punct) text rest at ts f r = (λ h. not_both false h refl, r)
  put_open n (Plain kind.Stray) text rest at ts f r = (λ h. not_both false h refl, r)
  put_open n (Plain kind.Blank) text rest at ts f r = r
  put_open n (Plain kind.Comment) text rest at ts f r = r
  put_open n (Plain kind.Line) text rest at ts f r = r
  put_open n Dots text rest at ts f r = (λ h. not_both false h refl, r)
  put_open n Sign text rest at ts f r = (λ h. not_both false h refl, r)

  pieces_open : (signs : Bool) (at : ℕ) (ps : List LinePiece) → Cut signs ps → AreOpen (tokens_from at ps)
  pieces_open signs at [] cut = tt
  pieces_open signs at (p ∷ ps) cut =
      put_open (sign_at signs (p.text ++ joined ps)) p.kind p.text (joined ps) at (tokens_from (at + length p.text) ps) cut.0
      (pieces_open signs (at + length p.text) ps cut.1)

  line_open : (c : CutLine) → IsCutLine c → AreOpen (plain_tokens c)
  line_open c h = pieces_open (has_signs c.role c.line.bytes) (place_in c) c.pieces h.cut

  -- ---- rules

  abbrev pub AllRules : List RuleText → Type 0
  AllRules [] = Unit {0}
  AllRules (r ∷ rs) = AreOpen r.decls × AllRules rs

  abbrev LastRule : Option RuleText → Type 0
  LastRule None = Unit {0}
  LastRule (Some r) = AreOpen r.decls

  abbrev Whole : Gathered → Type 0
  Whole g = AllRules g.rules × LastRule g.last

  ended_open : (end : ℕ) (rs : List RuleText) (o : Option RuleText) → AllRules rs → LastRule o → AllRules (rs ++ ended o end)
  ended_open end [] None a h = tt
  ended_open end [] (Some r) a h = (h, tt)
  ended_open end (r ∷ rs) o a h = (a.0, ended_open end rs o a.1 h)

  decls_open : (o : Option RuleText) (ts : List PatchToken) → AreOpen ts → LastRule o → LastRule (with_decls o ts)
  decls_open None ts h a = tt
  decls_open (Some r) ts h a = open-append r.decls ts a h

  body_open : (o : Option RuleText) (l : BodyLine) → LastRule o → LastRule (with_line o l)
  body_open None l a = tt
  body_open (Some r) l a = a

  gathered_open : (r : Role) (start : ℕ) (bytes : List ℕ) (ts : List PatchToken) (g : Gathered) → AreOpen ts → Whole g
      → Whole (gather_line r start bytes ts g)
  gathered_open role.Virtual start bytes ts g h a = a
  gathered_open role.Header start bytes ts g h a = (ended_open start g.rules g.last a.0 a.1, tt)
  gathered_open role.Declaration start bytes ts g h a = (a.0, decls_open g.last ts h a.1)
  gathered_open role.Second start bytes ts g h a = a
  gathered_open role.Body start bytes ts g h a = (a.0, body_open g.last (body_line start bytes ts) a.1)

  all_open : (s : Section) (ls : List Line) (cs : List CutLine) (g : Gathered) → AreCutLines s ls cs → Whole g → Whole (gather g cs)
  all_open s [] [] g cut a = a
  all_open s [] (c ∷ cs) g cut a = absurd cut
  all_open s (l ∷ ls) [] g cut a = absurd cut
  all_open s (l ∷ ls) (c ∷ cs) g cut a =
      all_open (section_after c.role) ls cs (gather_line c.role c.line.start c.line.bytes (plain_tokens c) g) cut.1.1.1
      (gathered_open c.role c.line.start c.line.bytes (plain_tokens c) g (line_open c cut.1.1.0) a)

  finished_open : (end : ℕ) (g : Gathered) → Whole g → AllRules (finished end g).rules
  finished_open end g a = ended_open end g.rules g.last a.0 a.1

  pub rules_open : (bytes : List ℕ) (t : PatchText) → IsTextOf bytes t → AllRules t.rules
  rules_open bytes t h =
      subst (λ (x : PatchText). AllRules x.rules) (sym h.is)
      (finished_open (length bytes) (gather nothing h.lines) (all_open section.Before (lines_from 0 bytes) h.lines nothing h.are.cut (tt, tt)))
