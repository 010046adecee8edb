-- A text has no more tokens than it has bytes: in its `virtual` lines, in the declarations of a rule, and in the lines of a
-- body.
-- Proof: each token has at least one byte, and each byte is in one line.
use Rattle.std.proofs.Common.{◌≡◌, ℕ, zero, suc, ◌+◌, ◌≤◌, ◌==◌, Bool, true, false, List, [], ◌∷◌, ◌++◌, length, Option, Some}
use Rattle.std.proofs.Common.{None, refl, sym, subst, ap, arith, if◌then◌else◌}
use Rattle.std.proofs.lemmas.List.{length-append, length-drop}
use Rattle.c_terms.specs.declared.token.TokenKind.{TokenKind}
use Rattle.smpl_lexer.specs.declared.piece.LineKind.{LineKind}
use Rattle.smpl_lexer.specs.declared.piece.LineKind.TheVariants.{Plain, Dots, Sign}
use Rattle.smpl_lexer.specs.declared.section.Section.{Section}
use Rattle.smpl_lexer.specs.declared.section.Section.TheVariants as section
use Rattle.smpl_lexer.specs.declared.section.Role.{Role}
use Rattle.smpl_lexer.specs.declared.section.Role.TheVariants as role
use Rattle.smpl_lexer.specs.declared.token.PatchToken.{PatchToken}
use Rattle.smpl_lexer.specs.declared.text.BodyLine.{BodyLine}
use Rattle.smpl_lexer.specs.declared.text.RuleText.{RuleText}
use Rattle.smpl_lexer.specs.declared.text.PatchText.{PatchText}
use Rattle.smpl_lexer.specs.declared.gather.Gathered.{Gathered}
use Rattle.smpl_lexer.specs.Lines.{Line, lines_from, begun, newline}
use Rattle.smpl_lexer.specs.Pieces.{LinePiece, joined, Cut, sign_at, IsFirstBy}
use Rattle.smpl_lexer.specs.Tokens.{token_kind, tokens_from, put_token, is_name, is_branch, branch_tokens, as_branch}
use Rattle.smpl_lexer.specs.Headers.{texts_of_names, virtual_names}
use Rattle.smpl_lexer.specs.Sections.{section_after, skipped, has_signs}
use Rattle.smpl_lexer.specs.CutLines.{CutLine, IsCutLine, AreCutLines, place_in, plain_tokens}
use Rattle.smpl_lexer.specs.Texts.{most_bytes, ended, with_decls, with_line, body_line, gather_line, gather, nothing, finished, IsTextOf}

-- ---- lines

-- each piece has a byte
some_bytes : (n : ℕ) (k : LineKind) (text rest : List ℕ) → IsFirstBy n k text rest → 1 ≤ length text
some_bytes zero (Plain k) [] rest is = let none : None ≡ Some k = is.of_kind in let no : ⊥ = cc in absurd no
some_bytes zero (Plain k) (b ∷ bs) rest is = omega arith
some_bytes zero Dots text rest is = absurd is
some_bytes zero Sign text rest is = absurd is
some_bytes (suc n) k text rest is = omega (arith, is.1)

put_short : (o : Option TokenKind) (text : List ℕ) (at : ℕ) (ts : List PatchToken) → length (put_token o text at ts) ≤ 1 + length ts
put_short None text at ts = omega arith
put_short (Some k) text at ts = omega arith

pieces_short : (signs : Bool) (at : ℕ) (ps : List LinePiece) → Cut signs ps → length (tokens_from at ps) ≤ length (joined ps)
pieces_short signs at [] cut = omega arith
pieces_short signs at (p ∷ ps) cut =
    omega (
      arith,
      put_short (token_kind p.kind) p.text at (tokens_from (at + length p.text) ps),
      length-append p.text (joined ps),
      some_bytes (sign_at signs (p.text ++ joined ps)) p.kind p.text (joined ps) cut.0,
      pieces_short signs (at + length p.text) ps cut.1,
    )

line_short : (c : CutLine) → IsCutLine c → length (plain_tokens c) ≤ length c.line.bytes
line_short c is =
    omega (
      arith,
      pieces_short (has_signs c.role c.line.bytes) (place_in c) c.pieces is.cut,
      ap length is.text,
      length-drop (skipped c.role c.line.bytes) c.line.bytes,
    )

abbrev total : List Line → ℕ
total [] = 0
total (l ∷ ls) = length l.bytes + total ls

begun_total : (start b : ℕ) (ls : List Line) → total (begun start b ls) ≡ suc (total ls)
begun_total start b [] = refl
begun_total start b (l ∷ ls) = omega arith

lines_total : (start : ℕ) (bytes : List ℕ) → total (lines_from start bytes) ≡ length bytes
lines_total start [] = refl
lines_total start (b ∷ bs) = by (b == newline) (lines_total (start + 1) bs)
  where
    by : (is : Bool) → total (lines_from (start + 1) bs) ≡ length bs
        → total (if is then record { start = start; bytes = b ∷ [] }
        ∷ lines_from (start + 1) bs else begun start b (lines_from (start + 1) bs)) ≡ suc (length bs)
    by true e = omega (arith, e)
    by false e = omega (arith, begun_total start b (lines_from (start + 1) bs), e)

-- ---- what is gathered of so many bytes

abbrev pub tokens_in : List BodyLine → ℕ
tokens_in [] = 0
tokens_in (l ∷ ls) = length l.tokens + tokens_in ls

tokens_last : (ls : List BodyLine) (l : BodyLine) → tokens_in (ls ++ l ∷ []) ≡ tokens_in ls + length l.tokens
tokens_last [] l = omega arith
tokens_last (k ∷ ls) l = omega (arith, tokens_last ls l)

-- a rule has at most so many tokens
pub record HasFew (n : ℕ) (r : RuleText) : Type 0 where
  pub decls : length r.decls ≤ n
  pub body : tokens_in r.body ≤ n

abbrev pub AllFew : ℕ → List RuleText → Type 0
AllFew n [] = Unit {0}
AllFew n (r ∷ rs) = HasFew n r × AllFew n rs

abbrev LastFew : ℕ → Option RuleText → Type 0
LastFew n None = Unit {0}
LastFew n (Some r) = HasFew n r

record Few (n : ℕ) (g : Gathered) : Type 0 where
  virtuals : length g.virtuals ≤ n
  rules : AllFew n g.rules
  last : LastFew n g.last

more_few : (n m : ℕ) (r : RuleText) → n ≤ m → HasFew n r → HasFew m r
more_few n m r h few = record { decls = omega (arith, few.decls, h); body = omega (arith, few.body, h) }

more_all : (n m : ℕ) (rs : List RuleText) → n ≤ m → AllFew n rs → AllFew m rs
more_all n m [] h few = tt
more_all n m (r ∷ rs) h few = (more_few n m r h few.0, more_all n m rs h few.1)

more_last : (n m : ℕ) (o : Option RuleText) → n ≤ m → LastFew n o → LastFew m o
more_last n m None h few = tt
more_last n m (Some r) h few = more_few n m r h few

-- a rule that ends
ended_few : (n end : ℕ) (rs : List RuleText) (o : Option RuleText) → AllFew n rs → LastFew n o → AllFew n (rs ++ ended o end)
ended_few n end [] None few last = tt
ended_few n end [] (Some r) few last = (record { decls = last.decls; body = last.body }, tt)
ended_few n end (r ∷ rs) o few last = (few.0, ended_few n end rs o few.1 last)

names_short : (ts : List PatchToken) → length (texts_of_names ts) ≤ length ts
names_short [] = omega arith
names_short (t ∷ ts) = by (is_name t) (names_short ts)
  where
    by : (b : Bool) → length (texts_of_names ts) ≤ length ts → length (if b then t.token.text ∷ texts_of_names ts else texts_of_names ts) ≤ suc (length ts)
    by true h = omega (arith, h)
    by false h = omega (arith, h)

virtuals_short : (ts : List PatchToken) → length (virtual_names ts) ≤ length ts
virtuals_short [] = omega arith
virtuals_short (t ∷ ts) = omega (arith, names_short ts)

branches_long : (ts : List PatchToken) → length (branch_tokens ts) ≡ length ts
branches_long [] = refl
branches_long (t ∷ ts) = ap suc (branches_long ts)

branch_long : (start : ℕ) (ts : List PatchToken) → length (as_branch start ts) ≡ length ts
branch_long start ts = by (is_branch start ts)
  where
    by : (b : Bool) → length (if b then branch_tokens ts else ts) ≡ length ts
    by true = branches_long ts
    by false = refl

decls_few : (n k : ℕ) (o : Option RuleText) (ts : List PatchToken) → length ts ≤ k → LastFew n o → LastFew (n + k) (with_decls o ts)
decls_few n k None ts h few = tt
decls_few n k (Some r) ts h few = record { decls = omega (arith, few.decls, h, length-append r.decls ts); body = omega (arith, few.body) }

line_few : (n k : ℕ) (o : Option RuleText) (l : BodyLine) → length l.tokens ≤ k → LastFew n o → LastFew (n + k) (with_line o l)
line_few n k None l h few = tt
line_few n k (Some r) l h few = record { decls = omega (arith, few.decls); body = omega (arith, few.body, h, tokens_last r.body l) }

gathered_few : (r : Role) (start : ℕ) (bytes : List ℕ) (ts : List PatchToken) (n k : ℕ) (g : Gathered) → length ts ≤ k → Few n g
    → Few (n + k) (gather_line r start bytes ts g)
gathered_few role.Virtual start bytes ts n k g h few = record {
  virtuals = omega (arith, few.virtuals, h, virtuals_short ts, length-append g.virtuals (virtual_names ts));
  rules = more_all n (n + k) g.rules (omega arith) few.rules;
  last = more_last n (n + k) g.last (omega arith) few.last;
}
gathered_few role.Header start bytes ts n k g h few = record {
  virtuals = omega (arith, few.virtuals);
  rules = more_all n (n + k) (g.rules ++ ended g.last start) (omega arith) (ended_few n start g.rules g.last few.rules few.last);
  last = record { decls = omega arith; body = omega arith };
}
gathered_few role.Declaration start bytes ts n k g h few = record {
  virtuals = omega (arith, few.virtuals);
  rules = more_all n (n + k) g.rules (omega arith) few.rules;
  last = decls_few n k g.last ts h few.last;
}
gathered_few role.Second start bytes ts n k g h few = record {
  virtuals = omega (arith, few.virtuals);
  rules = more_all n (n + k) g.rules (omega arith) few.rules;
  last = more_last n (n + k) g.last (omega arith) few.last;
}
gathered_few role.Body start bytes ts n k g h few = record {
  virtuals = omega (arith, few.virtuals);
  rules = more_all n (n + k) g.rules (omega arith) few.rules;
  last = line_few n k g.last (body_line start bytes ts) (omega (arith, h, branch_long start ts)) few.last;
}

all_few : (s : Section) (ls : List Line) (cs : List CutLine) (n : ℕ) (g : Gathered) → AreCutLines s ls cs → Few n g → Few (n + total ls) (gather g cs)
all_few s [] [] n g cut few = subst (λ (m : ℕ). Few m g) (omega arith) few
all_few s [] (c ∷ cs) n g cut few = absurd cut
all_few s (l ∷ ls) [] n g cut few = absurd cut
all_few s (l ∷ ls) (c ∷ cs) n g cut few =
    let same : length c.line.bytes ≡ length l.bytes = ap (λ (x : Line). length x.bytes) cut.0 in
    let short : length (plain_tokens c) ≤ length l.bytes = omega (arith, line_short c cut.1.1.0, same) in
    let after = gather_line c.role c.line.start c.line.bytes (plain_tokens c) g in
    let one : Few (n + length l.bytes) after = gathered_few c.role c.line.start c.line.bytes (plain_tokens c) n (length l.bytes) g short few in
    let rest : Few (n + length l.bytes + total ls) (gather after cs) = all_few (section_after c.role) ls cs (n + length l.bytes) after cut.1.1.1 one in
    subst (λ (m : ℕ). Few m (gather after cs)) (omega arith) rest

-- ---- texts

pub record HasFewTokens (text : PatchText) : Type 0 where
  pub virtuals : length text.virtuals ≤ most_bytes
  pub rules : AllFew most_bytes text.rules

finished_few : (n end : ℕ) (g : Gathered) → n ≤ most_bytes → Few n g → HasFewTokens (finished end g)
finished_few n end g h few = record {
  virtuals = omega (arith, few.virtuals, h);
  rules = more_all n most_bytes (g.rules ++ ended g.last end) h (ended_few n end g.rules g.last few.rules few.last);
}

pub text_few : (bytes : List ℕ) (t : PatchText) → IsTextOf bytes t → HasFewTokens t
text_few bytes t text =
    let all : Few (0 + total (lines_from 0 bytes)) (gather nothing text.lines) =
    all_few section.Before (lines_from 0 bytes) text.lines 0 nothing text.are.cut (record { virtuals = omega arith; rules = tt; last = tt }) in
    subst HasFewTokens (sym text.is) (finished_few (0 + total (lines_from 0 bytes)) (length bytes) (gather nothing text.lines)
    (omega (arith, lines_total 0 bytes, text.are.short)) all)
