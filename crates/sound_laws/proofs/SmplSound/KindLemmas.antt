-- The tokens of plus lines are whole tokens of C, or declared metavariables.
-- Proof: a plus line has no signs of patches, so each of its pieces is one that C has there, and no Stray.
use Rattle.std.proofs.Common.{◌≡◌, ℕ, ◌+◌, ◌≤◌, ◌==◌, Bool, true, false, ◌&&◌, not, refl, sym, ap, ◌∙◌, subst, arith}
use Rattle.std.proofs.Common.{true≢false, List, [], ◌∷◌, map, length, Option, Some, None, if◌then◌else◌}
use Rattle.std.specs.List.{list_all}
use Rattle.std.proofs.lemmas.Bool.{eqb-true}
use Rattle.c_terms.specs.declared.token.Token.{Token}
use Rattle.c_terms.specs.declared.token.TokenKind.{TokenKind}
use Rattle.c_terms.specs.declared.token.TokenKind.TheVariants as token
use Rattle.c_terms.specs.declared.token.MetaKind.{MetaKind}
use Rattle.c_lexer.specs.declared.state.Kind.{Kind}
use Rattle.c_lexer.specs.declared.state.Kind.TheVariants as kind
use Rattle.c_lexer.specs.Kinds.{kind_of}
use Rattle.smpl_patch.specs.declared.fault.PatchFault.{PatchFault}
use Rattle.smpl_patch.specs.declared.pattern.VarDecl.{VarDecl}
use Rattle.smpl_patch.specs.declared.pattern.PlusLine.{PlusLine}
use Rattle.smpl_patch.specs.declared.pattern.PlusBlock.{PlusBlock}
use Rattle.smpl_patch.specs.Sound.{is_of_kind, is_plus_token}
use Rattle.smpl_lexer.specs.declared.piece.LineKind.{LineKind}
use Rattle.smpl_lexer.specs.declared.piece.LineKind.TheVariants.{Plain, Dots, Sign}
use Rattle.smpl_lexer.specs.declared.section.Role.{Role}
use Rattle.smpl_lexer.specs.declared.section.Role.TheVariants as role
use Rattle.smpl_lexer.specs.declared.token.PatchToken.{PatchToken}
use Rattle.smpl_lexer.specs.declared.text.BodyLine.{BodyLine}
use Rattle.smpl_lexer.specs.Lines.{end_of}
use Rattle.smpl_lexer.specs.Sections.{sign_of, is_many, skipped, is_plus, has_signs}
use Rattle.smpl_lexer.specs.Pieces.{LinePiece, joined, Cut, is_bad, IsFirstBy}
use Rattle.smpl_lexer.specs.Tokens.{token_kind, tokens_from, put_token, put_bad, bad_from, is_name, is_branch_sign, is_branch, branch_tokens, as_branch}
use Rattle.smpl_lexer.specs.CutLines.{CutLine, IsCutLine, place_in, plain_tokens, role_faults, faults_of}
use Rattle.smpl_meta.specs.Patterns.{declared_meta, kind_by, made}
use Rattle.smpl_plus.specs.Blocks.{Block, ArePlusLines}
use Rattle.sound_laws.proofs.SmplSound.BoolLemmas.{both-true, front-true, back-true}
use Rattle.sound_laws.proofs.SmplSound.LineLemmas.{front_empty, AllLines, Gives}
use Rattle.sound_laws.proofs.SmplSound.PlacedLemmas.{meta_by}
use Rattle.sound_laws.proofs.SmplSound.PlusLemmas.{WhenPlus}

-- ---- pieces that C has

abbrev pub of_kinds : List PatchToken → Bool
of_kinds ts = list_all (λ (t : PatchToken). is_of_kind t.token.kind (kind_of t.token.text)) ts

some_bad : (b : Bool) (at : ℕ) (fs : List PatchFault) → put_bad b at fs ≡ [] → b ≡ false
some_bad true at fs h = let no : ⊥ = cc in absurd no
some_bad false at fs h = refl

rest_bad : (b : Bool) (at : ℕ) (fs : List PatchFault) → put_bad b at fs ≡ [] → fs ≡ []
rest_bad true at fs h = let no : ⊥ = cc in absurd no
rest_bad false at fs h = h

-- a piece of C that is not bad is of its kind
put_of : (k : Kind) (text : List ℕ) (at : ℕ) (ts : List PatchToken) → kind_of text ≡ Some k → is_bad true (Plain k) text ≡ false
    → of_kinds ts ≡ true → of_kinds (put_token (token_kind (Plain k)) text at ts) ≡ true
put_of kind.Name text at ts is b h = both-true (is_of_kind token.Name (kind_of text)) (of_kinds ts) (ap (is_of_kind token.Name) is) h
put_of kind.Keyword text at ts is b h = both-true (is_of_kind token.Keyword (kind_of text)) (of_kinds ts) (ap (is_of_kind token.Keyword) is) h
put_of kind.Number text at ts is b h = both-true (is_of_kind token.Number (kind_of text)) (of_kinds ts) (ap (is_of_kind token.Number) is) h
put_of kind.Char text at ts is b h = both-true (is_of_kind token.Char (kind_of text)) (of_kinds ts) (ap (is_of_kind token.Char) is) h
put_of kind.Str text at ts is b h = both-true (is_of_kind token.Str (kind_of text)) (of_kinds ts) (ap (is_of_kind token.Str) is) h
put_of kind.Punct text at ts is b h = both-true (is_of_kind token.Punct (kind_of text)) (of_kinds ts) (ap (is_of_kind token.Punct) is) h
put_of kind.Blank text at ts is b h = h
put_of kind.Comment text at ts is b h = h
put_of kind.Line text at ts is b h = absurd (true≢false b)
put_of kind.Stray text at ts is b h = absurd (true≢false b)

pieces_of : (at : ℕ) (ps : List LinePiece) → Cut false ps → bad_from true at ps ≡ [] → of_kinds (tokens_from at ps) ≡ true
pieces_of at [] cut b = refl
pieces_of at (p ∷ ps) cut b = by p.kind cut.0
    (some_bad (is_bad true p.kind p.text) at (bad_from true (at + length p.text) ps) b)
    (pieces_of (at + length p.text) ps cut.1 (rest_bad (is_bad true p.kind p.text) at (bad_from true (at + length p.text) ps) b))
  where
    by : (k : LineKind) → IsFirstBy 0 k p.text (joined ps) → is_bad true k p.text ≡ false → of_kinds (tokens_from (at + length p.text) ps) ≡ true
        → of_kinds (put_token (token_kind k) p.text at (tokens_from (at + length p.text) ps)) ≡ true
    by (Plain k) f g h = put_of k p.text at (tokens_from (at + length p.text) ps) f.of_kind g h
    by Dots f g h = absurd f
    by Sign f g h = absurd f

-- ---- a plus line has no branch sign alone in column 1

abbrev AllFrom : ℕ → List PatchToken → Type 0
AllFrom low [] = Unit {0}
AllFrom low (t ∷ ts) = (low ≤ t.at) × AllFrom low ts

put_low : (low at : ℕ) (o : Option TokenKind) (text : List ℕ) (ts : List PatchToken) → low ≤ at → AllFrom low ts → AllFrom low (put_token o text at ts)
put_low low at None text ts le h = h
put_low low at (Some k) text ts le h = (le, h)

pieces_low : (low at : ℕ) (ps : List LinePiece) → low ≤ at → AllFrom low (tokens_from at ps)
pieces_low low at [] le = tt
pieces_low low at (p ∷ ps) le = put_low low at (token_kind p.kind) p.text (tokens_from (at + length p.text) ps) le
    (pieces_low low (at + length p.text) ps (omega (arith, le)))

no_branch : (start : ℕ) (ts : List PatchToken) → AllFrom (start + 1) ts → is_branch start ts ≡ false
no_branch start [] h = refl
no_branch start (t ∷ []) h = ap (λ (b : Bool). b && is_branch_sign t) (other t.at start h.0)
  where
    other : (a s : ℕ) → s + 1 ≤ a → (a == s) ≡ false
    other a s le = grind (arith, le)
no_branch start (t ∷ u ∷ ts) h = refl

-- ---- lines

-- each token of a plus line is a token of C
abbrev pub Whole : BodyLine → Type 0
Whole l = of_kinds l.tokens ≡ true

some_skipped : (sign : ℕ) (many : Bool) → sign ≡ 43 → 1 ≤ (if sign == 32 then 0 else (if many then 2 else 1))
some_skipped sign many s = subst (λ (n : ℕ). 1 ≤ (if n == 32 then 0 else (if many then 2 else 1))) (sym s) (by many)
  where
    by : (t : Bool) → 1 ≤ (if t then 2 else 1)
    by true = omega arith
    by false = omega arith

body_signs : (r : Role) (bytes : List ℕ) → r ≡ role.Body → sign_of bytes ≡ 43 → (has_signs r bytes ≡ false) × ((is_plus r bytes ≡ true) × (1 ≤ skipped r bytes))
body_signs role.Body bytes e s =
    ((λ i. not (s i == 43)), ((λ i. s i == 43), some_skipped (sign_of bytes) (is_many bytes) s))
body_signs role.Virtual bytes e s = let no : ⊥ = cc in absurd no
body_signs role.Header bytes e s = let no : ⊥ = cc in absurd no
body_signs role.Declaration bytes e s = let no : ⊥ = cc in absurd no
body_signs role.Second bytes e s = let no : ⊥ = cc in absurd no

pub plus_tokens : (c : CutLine) → c.role ≡ role.Body → IsCutLine c → faults_of c ≡ [] → (sign_of c.line.bytes == 43) ≡ true
    → (as_branch c.line.start (plain_tokens c) ≡ plain_tokens c) × (Cut false c.pieces × (bad_from true (place_in c) c.pieces ≡ []))
plus_tokens c e is none s =
    let signs = body_signs c.role c.line.bytes e (eqb-true (sign_of c.line.bytes) 43 s) in
    let cut : Cut false c.pieces = subst (λ (b : Bool). Cut b c.pieces) signs.0 is.cut in
    let bad : bad_from (is_plus c.role c.line.bytes) (place_in c) c.pieces ≡ [] =
    front_empty (bad_from (is_plus c.role c.line.bytes) (place_in c) c.pieces) (role_faults c.role c.line.start (plain_tokens c) (end_of c.line)) none in
    let low : AllFrom (c.line.start + 1) (plain_tokens c) = pieces_low (c.line.start + 1) (place_in c) c.pieces (omega (arith, signs.1.1)) in (
      ap (λ (b : Bool). if b then branch_tokens (plain_tokens c) else plain_tokens c) (no_branch c.line.start (plain_tokens c) low),
      (cut, ap (λ (b : Bool). bad_from b (place_in c) c.pieces) (sym signs.1.0) ∙ bad),
    )

pub gives_whole : Gives (WhenPlus Whole)
gives_whole c e is none s =
    let p = plus_tokens c e is none s in
    ap of_kinds p.0 ∙ pieces_of (place_in c) c.pieces p.1.0 p.1.1

-- ---- blocks

module _ (vars : List VarDecl) where
  abbrev pub line_whole : PlusLine → Bool
  line_whole p = list_all (λ (t : Token). is_plus_token vars t.kind t.text) p.tokens

  abbrev pub block_whole : PlusBlock → Bool
  block_whole c = list_all line_whole c.lines

  raw_plus : (k : TokenKind) (text : List ℕ) → is_of_kind k (kind_of text) ≡ true → is_plus_token vars k text ≡ true
  raw_plus (token.Meta k) text h = absurd (true≢false (sym h))
  raw_plus token.Name text h = h
  raw_plus token.Keyword text h = h
  raw_plus token.Number text h = h
  raw_plus token.Char text h = h
  raw_plus token.Str text h = h
  raw_plus token.Punct text h = h
  raw_plus token.Stray text h = h
  raw_plus token.Dots text h = h
  raw_plus token.Pat text h = h

  made_by : (t : PatchToken) (o : Option MetaKind) → declared_meta vars t ≡ o
      → is_of_kind t.token.kind (kind_of t.token.text) ≡ true → is_plus_token vars (kind_by o t.token.kind) t.token.text ≡ true
  made_by t None e h = raw_plus t.token.kind t.token.text h
  made_by t (Some k) e h = meta_by vars t k (is_name t) e

  tokens_plus : (ts : List PatchToken) → of_kinds ts ≡ true → list_all (λ (t : Token). is_plus_token vars t.kind t.text) (map (made vars 0) ts) ≡ true
  tokens_plus [] h = refl
  tokens_plus (t ∷ ts) h =
      both-true (is_plus_token vars (made vars 0 t).kind t.token.text) (list_all (λ (u : Token). is_plus_token vars u.kind u.text) (map (made vars 0) ts))
      (made_by t (declared_meta vars t) refl (front-true (is_of_kind t.token.kind (kind_of t.token.text)) (of_kinds ts) h))
      (tokens_plus ts (back-true (is_of_kind t.token.kind (kind_of t.token.text)) (of_kinds ts) h))

  lines_whole : (ls : List BodyLine) (ps : List PlusLine) → ArePlusLines vars ls ps → AllLines Whole ls → list_all line_whole ps ≡ true
  lines_whole [] [] a h = refl
  lines_whole [] (p ∷ ps) a h = absurd a
  lines_whole (l ∷ ls) [] a h = absurd a
  lines_whole (l ∷ ls) (p ∷ ps) a h =
      both-true (line_whole p) (list_all line_whole ps)
      (ap (λ (ts : List Token). list_all (λ (t : Token). is_plus_token vars t.kind t.text) ts) a.0.tokens
      ∙ tokens_plus l.tokens h.0) (lines_whole ls ps a.1 h.1)

  pub block_is_whole : (n : ℕ) (b : Block) (c : PlusBlock) → ArePlusLines vars b.lines c.lines → AllLines Whole b.lines
      → length b.lines ≤ n → block_whole c ≡ true
  block_is_whole n b c a h le = lines_whole b.lines c.lines a h
