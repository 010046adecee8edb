-- What each line of a body has in a text without faults.
use Rattle.std.proofs.Common.{◌≡◌, ℕ, ◌+◌, Bool, true, false, List, [], ◌∷◌, ◌++◌, length, Option, Some, None, refl, sym, subst, if◌then◌else◌}
use Rattle.std.specs.Prelude.{not, ◌&&◌}
use Rattle.std.specs.List.{list_all}
use Rattle.c_terms.specs.declared.token.TokenKind.{TokenKind}
use Rattle.c_terms.specs.declared.token.TokenKind.TheVariants as token
use Rattle.c_lexer.specs.declared.state.Kind.TheVariants as kind
use Rattle.smpl_lexer.specs.declared.piece.LineKind.{LineKind}
use Rattle.smpl_lexer.specs.declared.piece.LineKind.TheVariants.{Plain, Dots, Sign}
use Rattle.smpl_lexer.specs.declared.section.Section.{Section}
use Rattle.smpl_lexer.specs.declared.section.Section.TheVariants as section
use Rattle.smpl_lexer.specs.declared.section.Role.{Role}
use Rattle.smpl_lexer.specs.declared.section.Role.TheVariants as role
use Rattle.smpl_lexer.specs.declared.token.PatchToken.{PatchToken}
use Rattle.smpl_lexer.specs.declared.text.BodyLine.{BodyLine}
use Rattle.smpl_lexer.specs.declared.text.RuleText.{RuleText}
use Rattle.smpl_lexer.specs.declared.text.PatchText.{PatchText}
use Rattle.smpl_lexer.specs.declared.gather.Gathered.{Gathered}
use Rattle.smpl_lexer.specs.Lines.{Line, lines_from}
use Rattle.smpl_lexer.specs.Pieces.{LinePiece}
use Rattle.smpl_lexer.specs.Tokens.{token_kind, tokens_from, put_token, is_branch, branch_tokens}
use Rattle.smpl_lexer.specs.Sections.{section_after}
use Rattle.smpl_lexer.specs.CutLines.{CutLine, IsCutLine, AreCutLines, place_in, plain_tokens, faults_of}
use Rattle.smpl_lexer.specs.Texts.{ended, with_decls, with_line, body_line, gather_line, gather, nothing, line_faults, end_faults, section_of, IsTextOf}

pub front_empty : {A : Type 0} (xs ys : List A) → xs ++ ys ≡ [] → xs ≡ []
front_empty [] ys h = refl
front_empty (x ∷ xs) ys h = let k : x ∷ (xs ++ ys) ≡ [] = h in absurd (cc)

pub back_empty : {A : Type 0} (xs ys : List A) → xs ++ ys ≡ [] → ys ≡ []
back_empty [] ys h = h
back_empty (x ∷ xs) ys h = let k : x ∷ (xs ++ ys) ≡ [] = h in absurd (cc)

module _ (P : BodyLine → Type 0) where
  abbrev pub AllLines : List BodyLine → Type 0
  AllLines [] = Unit {0}
  AllLines (l ∷ ls) = P l × AllLines ls

  abbrev pub AllBodies : List RuleText → Type 0
  AllBodies [] = Unit {0}
  AllBodies (r ∷ rs) = AllLines r.body × AllBodies rs

  abbrev LastBody : Option RuleText → Type 0
  LastBody None = Unit {0}
  LastBody (Some r) = AllLines r.body

  line_last : (ls : List BodyLine) (l : BodyLine) → AllLines ls → P l → AllLines (ls ++ l ∷ [])
  line_last [] l a h = (h, tt)
  line_last (k ∷ ls) l a h = (a.0, line_last ls l a.1 h)

  body_last : (end : ℕ) (rs : List RuleText) (o : Option RuleText) → AllBodies rs → LastBody o → AllBodies (rs ++ ended o end)
  body_last end [] None a h = tt
  body_last end [] (Some r) a h = (h, tt)
  body_last end (r ∷ rs) o a h = (a.0, body_last end rs o a.1 h)

  decls_keep : (o : Option RuleText) (ts : List PatchToken) → LastBody o → LastBody (with_decls o ts)
  decls_keep None ts a = tt
  decls_keep (Some r) ts a = a

  line_more : (o : Option RuleText) (l : BodyLine) → P l → LastBody o → LastBody (with_line o l)
  line_more None l h a = tt
  line_more (Some r) l h a = line_last r.body l a h

  abbrev Holds : Gathered → Type 0
  Holds g = AllBodies g.rules × LastBody g.last

  gathered_holds : (r : Role) (start : ℕ) (bytes : List ℕ) (ts : List PatchToken) (g : Gathered)
      → (r ≡ role.Body → P (body_line start bytes ts)) → Holds g → Holds (gather_line r start bytes ts g)
  gathered_holds role.Virtual start bytes ts g h a = a
  gathered_holds role.Header start bytes ts g h a = (body_last start g.rules g.last a.0 a.1, tt)
  gathered_holds role.Declaration start bytes ts g h a = (a.0, decls_keep g.last ts a.1)
  gathered_holds role.Second start bytes ts g h a = a
  gathered_holds role.Body start bytes ts g h a = (a.0, line_more g.last (body_line start bytes ts) (h refl) a.1)

  abbrev pub Gives : Type 0
  Gives = (c : CutLine) → c.role ≡ role.Body → IsCutLine c → faults_of c ≡ [] → P (body_line c.line.start c.line.bytes (plain_tokens c))

  all_hold : Gives → (s : Section) (ls : List Line) (cs : List CutLine) (g : Gathered) → AreCutLines s ls cs
      → line_faults cs ≡ [] → Holds g → Holds (gather g cs)
  all_hold gives s [] [] g cut none a = a
  all_hold gives s [] (c ∷ cs) g cut none a = absurd cut
  all_hold gives s (l ∷ ls) [] g cut none a = absurd cut
  all_hold gives s (l ∷ ls) (c ∷ cs) g cut none a =
      all_hold gives (section_after c.role) ls cs (gather_line c.role c.line.start c.line.bytes (plain_tokens c) g) cut.1.1.1
      (back_empty (faults_of c) (line_faults cs) none)
      (gathered_holds c.role c.line.start c.line.bytes (plain_tokens c) g (λ e. gives c e cut.1.1.0 (front_empty (faults_of c) (line_faults cs) none)) a)

  pub text_holds : Gives → (bytes : List ℕ) (t : PatchText) → IsTextOf bytes t → AllBodies t.rules
  text_holds gives bytes t text =
      let faultless = front_empty (line_faults text.lines) (end_faults (section_of section.Before text.lines) (length bytes)) text.faultless in
      let h = all_hold gives section.Before (lines_from 0 bytes) text.lines nothing text.are.cut faultless (tt, tt) in
      subst (λ (x : PatchText). AllBodies x.rules) (sym text.is)
      (body_last (length bytes) (gather nothing text.lines).rules (gather nothing text.lines).last h.0 h.1)

-- ---- kinds of tokens

abbrev pub is_meta : TokenKind → Bool
is_meta (token.Meta k) = true
is_meta _ = false

abbrev pub unmarked : List PatchToken → Bool
unmarked ts = list_all (λ (t : PatchToken). not (is_meta t.token.kind)) ts

and_both : (a b : Bool) → a ≡ true → b ≡ true → (a && b) ≡ true
and_both true b h g = g
and_both false b h g = let no : ⊥ = cc in absurd no

put_unmarked : (k : LineKind) (text : List ℕ) (at : ℕ) (ts : List PatchToken) → unmarked ts ≡ true → unmarked (put_token (token_kind k) text at ts) ≡ true
put_unmarked (Plain kind.Name) text at ts h = h
put_unmarked (Plain kind.Keyword) text at ts h = h
put_unmarked (Plain kind.Number) text at ts h = h
put_unmarked (Plain kind.Char) text at ts h = h
put_unmarked (Plain kind.Str) text at ts h = h
put_unmarked (Plain kind.Punct) text at ts h = h
put_unmarked (Plain kind.Stray) text at ts h = h
put_unmarked (Plain kind.Blank) text at ts h = h
put_unmarked (Plain kind.Comment) text at ts h = h
put_unmarked (Plain kind.Line) text at ts h = h
put_unmarked Dots text at ts h = h
put_unmarked Sign text at ts h = h

pieces_unmarked : (at : ℕ) (ps : List LinePiece) → unmarked (tokens_from at ps) ≡ true
pieces_unmarked at [] = refl
pieces_unmarked at (p ∷ ps) = put_unmarked p.kind p.text at (tokens_from (at + length p.text) ps) (pieces_unmarked (at + length p.text) ps)

branches_unmarked : (ts : List PatchToken) → unmarked (branch_tokens ts) ≡ true
branches_unmarked [] = refl
branches_unmarked (t ∷ ts) = branches_unmarked ts

-- no token of a line is a metavariable yet
abbrev pub Unmarked : BodyLine → Type 0
Unmarked l = unmarked l.tokens ≡ true

pub gives_unmarked : Gives Unmarked
gives_unmarked c e is none = by (is_branch c.line.start (plain_tokens c))
  where
    by : (b : Bool) → unmarked (if b then branch_tokens (plain_tokens c) else plain_tokens c) ≡ true
    by true = branches_unmarked (plain_tokens c)
    by false = pieces_unmarked (place_in c) c.pieces
