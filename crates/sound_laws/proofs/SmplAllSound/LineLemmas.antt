-- A plus line of a text without faults has as many gaps as tokens.
-- Proof: its pieces are those of the line as it is in the text, with its newline or, at the text's end, without one.
use Rattle.std.proofs.Common.{◌≡◌, ℕ, suc, ◌+◌, ◌==◌, ◌⊎◌, inl, inr, Bool, true, false, ◌&&◌, refl, sym, ap, ◌∙◌, subst, arith}
use Rattle.std.proofs.Common.{true≢false, List, [], ◌∷◌, ◌++◌, drop, length, Option, Some, None, if◌then◌else◌}
use Rattle.std.specs.Cmp.{second_so}
use Rattle.std.proofs.lemmas.Bool.{eqb-true}
use Rattle.c_lexer.specs.declared.state.Kind.{Kind}
use Rattle.c_lexer.specs.declared.state.Kind.TheVariants as kind
use Rattle.smpl_lexer.specs.declared.piece.LineKind.{LineKind}
use Rattle.smpl_lexer.specs.declared.piece.LineKind.TheVariants.{Plain, Dots, Sign}
use Rattle.smpl_lexer.specs.declared.section.Section.{Section}
use Rattle.smpl_lexer.specs.declared.section.Section.TheVariants as section
use Rattle.smpl_lexer.specs.declared.section.Role.{Role}
use Rattle.smpl_lexer.specs.declared.section.Role.TheVariants as role
use Rattle.smpl_lexer.specs.declared.token.PatchToken.{PatchToken}
use Rattle.smpl_lexer.specs.declared.text.BodyLine.{BodyLine}
use Rattle.smpl_lexer.specs.declared.text.RuleText.{RuleText}
use Rattle.smpl_lexer.specs.declared.text.PatchText.{PatchText}
use Rattle.smpl_lexer.specs.declared.gather.Gathered.{Gathered}
use Rattle.smpl_lexer.specs.Lines.{Line, begun, lines_from, content}
use Rattle.smpl_lexer.specs.Sections.{section_after, is_sign_byte, sign_of, skipped}
use Rattle.smpl_lexer.specs.Pieces.{LinePiece, IsFirstBy, is_bad}
use Rattle.smpl_lexer.specs.Pieces.{joined as joined_line, Cut as CutOf}
use Rattle.smpl_lexer.specs.Tokens.{token_kind, tokens_from, put_token, put_bad, bad_from}
use Rattle.smpl_lexer.specs.CutLines.{CutLine, IsCutLine, AreCutLines, place_in, plain_tokens, faults_of}
use Rattle.smpl_lexer.specs.Texts.{ended, with_decls, with_line, body_line, gather_line, gather, nothing, line_faults, end_faults, section_of, IsTextOf}
use Rattle.smpl_patch.specs.declared.fault.PatchFault.{PatchFault}
use Rattle.smpl_plus.specs.Blocks.{Piece, joined, Cut, AreGaps}
use Rattle.sound_laws.proofs.SmplSound.LineLemmas.{front_empty, back_empty, AllLines, AllBodies}
use Rattle.sound_laws.proofs.SmplSound.PlusLemmas.{WhenPlus}
use Rattle.sound_laws.proofs.SmplSound.KindLemmas.{plus_tokens}
use Rattle.sound_laws.proofs.SmplSound.GapLemmas.{BlankLaw}
use Rattle.sound_laws.proofs.SmplAllSound.StepLemmas.{bad}
use Rattle.sound_laws.proofs.SmplAllSound.CutLemmas.{count_by, count, NoneBad, gaps-count, count-once, count-newline}

-- ---- pieces of a plus line are pieces of C

record Pieces (at : ℕ) (ps : List LinePiece) : Type 0 where
  pub pieces : List Piece
  pub joins : joined pieces ≡ joined_line ps
  pub cut : Cut pieces
  pub good : NoneBad pieces
  pub count : length (tokens_from at ps) ≡ count pieces

some-bad : (b : Bool) (at : ℕ) (fs : List PatchFault) → put_bad b at fs ≡ [] → (b ≡ false) × (fs ≡ [])
some-bad true at fs h = let no : ⊥ = cc in absurd no
some-bad false at fs h = (refl, h)

not-bad : (k : Kind) (text : List ℕ) → is_bad true (Plain k) text ≡ false → bad k ≡ false
not-bad kind.Name text h = refl
not-bad kind.Keyword text h = refl
not-bad kind.Number text h = refl
not-bad kind.Char text h = refl
not-bad kind.Str text h = refl
not-bad kind.Punct text h = refl
not-bad kind.Blank text h = refl
not-bad kind.Comment text h = refl
not-bad kind.Line text h = absurd (true≢false h)
not-bad kind.Stray text h = absurd (true≢false h)

put-count : (k : Kind) (text : List ℕ) (at n : ℕ) (ts : List PatchToken) → bad k ≡ false → length ts ≡ n
    → length (put_token (token_kind (Plain k)) text at ts) ≡ count_by k n
put-count kind.Name text at n ts b h = ap suc h
put-count kind.Keyword text at n ts b h = ap suc h
put-count kind.Number text at n ts b h = ap suc h
put-count kind.Char text at n ts b h = ap suc h
put-count kind.Str text at n ts b h = ap suc h
put-count kind.Punct text at n ts b h = ap suc h
put-count kind.Blank text at n ts b h = h
put-count kind.Comment text at n ts b h = h
put-count kind.Line text at n ts b h = absurd (true≢false b)
put-count kind.Stray text at n ts b h = absurd (true≢false b)

piece-of : (at : ℕ) (p : LinePiece) (ps : List LinePiece) (k : LineKind) → p.kind ≡ k → IsFirstBy 0 k p.text (joined_line ps)
    → is_bad true p.kind p.text ≡ false
    → Pieces (at + length p.text) ps → Pieces at (p ∷ ps)
piece-of at p ps Dots e first b rest = absurd first
piece-of at p ps Sign e first b rest = absurd first
piece-of at p ps (Plain k) e first b rest =
    let good : bad k ≡ false = not-bad k p.text (ap (λ (x : LineKind). is_bad true x p.text) (sym e) ∙ b) in
    record {
      pieces = record { kind = k; text = p.text } ∷ rest.pieces;
      joins = ap (λ (l : List ℕ). p.text ++ l) rest.joins;
      cut = (subst (λ (l : List ℕ). IsFirstBy 0 (Plain k) p.text l) (sym rest.joins) first, rest.cut);
      good = (good, rest.good);
      count = ap (λ (x : LineKind). length (put_token (token_kind x) p.text at (tokens_from (at + length p.text) ps))) e
          ∙ put-count k p.text at (count rest.pieces) (tokens_from (at + length p.text) ps) good rest.count;
    }

pieces-of : (at : ℕ) (ps : List LinePiece) → CutOf false ps → bad_from true at ps ≡ [] → Pieces at ps
pieces-of at [] cut b = record { pieces = []; joins = refl; cut = tt; good = tt; count = refl }
pieces-of at (p ∷ ps) cut b =
    let split = some-bad (is_bad true p.kind p.text) at (bad_from true (at + length p.text) ps) b in
    piece-of at p ps p.kind refl cut.0 split.0 (pieces-of (at + length p.text) ps cut.1 split.1)

-- ---- a line has a newline at its end, or none

abbrev pub Ends : List ℕ → Type 0
Ends bytes = (content bytes ++ 10 ∷ [] ≡ bytes) ⊎ (content bytes ≡ bytes)

abbrev pub AllEnd : List Line → Type 0
AllEnd [] = Unit {0}
AllEnd (l ∷ ls) = Ends l.bytes × AllEnd ls

put-byte : (b : ℕ) (bs : List ℕ) → (b == 10) ≡ false → Ends bs → Ends (b ∷ bs)
put-byte b bs e (inl h) = inl (ap (λ (c : Bool). (if c then [] else b ∷ content bs) ++ 10 ∷ []) e ∙ ap (λ (l : List ℕ). b ∷ l) h)
put-byte b bs e (inr h) = inr (ap (λ (c : Bool). if c then [] else b ∷ content bs) e ∙ ap (λ (l : List ℕ). b ∷ l) h)

begun-end : (start b : ℕ) (ls : List Line) → (b == 10) ≡ false → AllEnd ls → AllEnd (begun start b ls)
begun-end start b [] e a = (put-byte b [] e (inr refl), tt)
begun-end start b (l ∷ ls) e a = (put-byte b l.bytes e a.0, a.1)

newline-ends : (x : ℕ) → 10 ≡ x → Ends (x ∷ [])
newline-ends x e = subst (λ (y : ℕ). Ends (y ∷ [])) e (inl refl)

byte-ends : (start b : ℕ) (ls : List Line) (c : Bool) → (b == 10) ≡ c → AllEnd ls
    → AllEnd (if c then record { start = start; bytes = b ∷ [] } ∷ ls else begun start b ls)
byte-ends start b ls true h a = (newline-ends b (sym (eqb-true b 10 h)), a)
byte-ends start b ls false h a = begun-end start b ls h a

lines-end : (start : ℕ) (bytes : List ℕ) → AllEnd (lines_from start bytes)
lines-end start [] = tt
lines-end start (b ∷ bs) = byte-ends start b (lines_from (start + 1) bs) (b == 10) refl (lines-end (start + 1) bs)

-- behind a byte that is no newline
one-behind : (b : ℕ) (bs : List ℕ) → (b == 10) ≡ false → Ends (b ∷ bs) → Ends bs
one-behind b bs h e = rest (b == 10) h e
  where
    rest : (c : Bool) → c ≡ false → (((if c then [] else b ∷ content bs) ++ 10 ∷ [] ≡ b ∷ bs) ⊎ ((if c then [] else b ∷ content bs) ≡ b ∷ bs)) → Ends bs
    rest true h x = absurd cc
    rest false h (inl x) = let k : content bs ++ 10 ∷ [] ≡ bs = cc in inl k
    rest false h (inr x) = let k : content bs ≡ bs = cc in inr k

plus-is-no-newline : (b : ℕ) (bs : List ℕ) → sign_of (b ∷ bs) ≡ 43 → (b == 10) ≡ false
plus-is-no-newline b bs s = by (b == 10) refl
  where
    by : (c : Bool) → (b == 10) ≡ c → c ≡ false
    by false h = refl
    by true h =
        let there : 32 ≡ 43 = ap (λ (y : ℕ). if is_sign_byte y then y else 32) (sym (eqb-true b 10 h)) ∙ s in
        absurd (omega (arith, there))

-- behind the sign
behind-sign : (bytes : List ℕ) → sign_of bytes ≡ 43 → Ends bytes → Ends (drop (skipped role.Body bytes) bytes)
behind-sign [] s e = e
behind-sign (b ∷ []) s e =
    subst (λ (n : ℕ). Ends (drop n (b ∷ []))) (λ i. if sym s i == 32 then 0 else 1) (one-behind b [] (plus-is-no-newline b [] s) e)
behind-sign (b ∷ c ∷ cs) s e =
    subst (λ (n : ℕ). Ends (drop n (b ∷ c ∷ cs))) (λ i. if sym s i == 32 then 0 else (if b == 43 && c == 43 then 2 else 1)) (by (b == 43 && c == 43) refl)
  where
    one : Ends (c ∷ cs)
    one = one-behind b (c ∷ cs) (plus-is-no-newline b (c ∷ cs) s) e

    by : (t : Bool) → (b == 43 && c == 43) ≡ t → Ends (drop (if t then 2 else 1) (b ∷ c ∷ cs))
    by false h = one
    by true h = one-behind c cs (ap (λ (y : ℕ). y == 10) (eqb-true c 43 (second_so (b == 43) (c == 43) h))) one

-- ---- lines

abbrev pub Even : BodyLine → Type 0
Even l = (gaps : List (List ℕ)) → AreGaps (l.text ++ 10 ∷ []) gaps → length gaps ≡ length l.tokens

module _ (law : BlankLaw) where
  even-pieces : (at : ℕ) (ps : List LinePiece) (bytes : List ℕ) → joined_line ps ≡ bytes → Pieces at ps → Ends bytes
      → (gaps : List (List ℕ)) → AreGaps (content bytes ++ 10 ∷ []) gaps
      → length gaps ≡ length (tokens_from at ps)
  even-pieces at ps bytes e q (inl h) gaps g =
      let same : joined g.pieces ≡ joined q.pieces = g.joins ∙ (h ∙ (sym e ∙ sym q.joins)) in
      ap length g.are ∙ (gaps-count [] g.pieces ∙ (count-once g.pieces q.pieces g.cut q.cut same ∙ sym q.count))
  even-pieces at ps bytes e q (inr h) gaps g =
      let same : joined g.pieces ≡ joined q.pieces ++ 10 ∷ [] = g.joins ∙ ap (λ (l : List ℕ). l ++ 10 ∷ []) (h ∙ (sym e ∙ sym q.joins)) in
      ap length g.are ∙ (gaps-count [] g.pieces ∙ (count-newline law q.pieces g.pieces q.cut q.good g.cut same ∙ sym q.count))

  gives-even : (c : CutLine) → c.role ≡ role.Body → IsCutLine c → faults_of c ≡ [] → Ends c.line.bytes
      → WhenPlus Even (body_line c.line.start c.line.bytes (plain_tokens c))
  gives-even c e is none ends s gaps g =
      let sign : sign_of c.line.bytes ≡ 43 = eqb-true (sign_of c.line.bytes) 43 s in
      let p = plus_tokens c e is none s in
      let bytes : List ℕ = drop (skipped role.Body c.line.bytes) c.line.bytes in
      let text : joined_line c.pieces ≡ bytes = is.text ∙ ap (λ (r : Role). drop (skipped r c.line.bytes) c.line.bytes) e in
      let q = pieces-of (place_in c) c.pieces p.1.0 p.1.1 in
      even-pieces (place_in c) c.pieces bytes text q (behind-sign c.line.bytes sign ends) gaps g ∙ sym (ap length p.0)

-- ---- what each line of a text has

module _ (P : BodyLine → Type 0) where
  abbrev LastBody : Option RuleText → Type 0
  LastBody None = Unit {0}
  LastBody (Some r) = AllLines P r.body

  line-last : (ls : List BodyLine) (l : BodyLine) → AllLines P ls → P l → AllLines P (ls ++ l ∷ [])
  line-last [] l a h = (h, tt)
  line-last (k ∷ ls) l a h = (a.0, line-last ls l a.1 h)

  body-last : (end : ℕ) (rs : List RuleText) (o : Option RuleText) → AllBodies P rs → LastBody o → AllBodies P (rs ++ ended o end)
  body-last end [] None a h = tt
  body-last end [] (Some r) a h = (h, tt)
  body-last end (r ∷ rs) o a h = (a.0, body-last end rs o a.1 h)

  decls-keep : (o : Option RuleText) (ts : List PatchToken) → LastBody o → LastBody (with_decls o ts)
  decls-keep None ts a = tt
  decls-keep (Some r) ts a = a

  line-more : (o : Option RuleText) (l : BodyLine) → P l → LastBody o → LastBody (with_line o l)
  line-more None l h a = tt
  line-more (Some r) l h a = line-last r.body l a h

  abbrev Holds : Gathered → Type 0
  Holds g = AllBodies P g.rules × LastBody g.last

  gathered-holds : (r : Role) (start : ℕ) (bytes : List ℕ) (ts : List PatchToken) (g : Gathered)
      → (r ≡ role.Body → P (body_line start bytes ts)) → Holds g → Holds (gather_line r start bytes ts g)
  gathered-holds role.Virtual start bytes ts g h a = a
  gathered-holds role.Header start bytes ts g h a = (body-last start g.rules g.last a.0 a.1, tt)
  gathered-holds role.Declaration start bytes ts g h a = (a.0, decls-keep g.last ts a.1)
  gathered-holds role.Second start bytes ts g h a = a
  gathered-holds role.Body start bytes ts g h a = (a.0, line-more g.last (body_line start bytes ts) (h refl) a.1)

  abbrev Gives : Type 0
  Gives = (c : CutLine) → c.role ≡ role.Body → IsCutLine c → faults_of c ≡ [] → Ends c.line.bytes → P (body_line c.line.start c.line.bytes (plain_tokens c))

  all-hold : Gives → (s : Section) (ls : List Line) (cs : List CutLine) (g : Gathered) → AllEnd ls → AreCutLines s ls cs
      → line_faults cs ≡ [] → Holds g → Holds (gather g cs)
  all-hold gives s [] [] g ends cut none a = a
  all-hold gives s [] (c ∷ cs) g ends cut none a = absurd cut
  all-hold gives s (l ∷ ls) [] g ends cut none a = absurd cut
  all-hold gives s (l ∷ ls) (c ∷ cs) g ends cut none a =
      let here : Ends c.line.bytes = subst (λ (x : Line). Ends x.bytes) (sym cut.0) ends.0 in
      all-hold gives (section_after c.role) ls cs
      (gather_line c.role c.line.start c.line.bytes (plain_tokens c) g) ends.1 cut.1.1.1 (back_empty (faults_of c) (line_faults cs) none)
      (gathered-holds c.role c.line.start c.line.bytes (plain_tokens c) g (λ e. gives c e cut.1.1.0 (front_empty (faults_of c) (line_faults cs) none) here) a)

  text-holds : Gives → (bytes : List ℕ) (t : PatchText) → IsTextOf bytes t → AllBodies P t.rules
  text-holds gives bytes t text =
      let faultless = front_empty (line_faults text.lines) (end_faults (section_of section.Before text.lines) (length bytes)) text.faultless in
      let h = all-hold gives section.Before (lines_from 0 bytes) text.lines nothing (lines-end 0 bytes) text.are.cut faultless (tt, tt) in
      subst (λ (x : PatchText). AllBodies P x.rules) (sym text.is)
      (body-last (length bytes) (gather nothing text.lines).rules (gather nothing text.lines).last h.0 h.1)

pub text-even : BlankLaw → (bytes : List ℕ) (t : PatchText) → IsTextOf bytes t → AllBodies (WhenPlus Even) t.rules
text-even law = text-holds (WhenPlus Even) (gives-even law)
