-- A token that passes the test of plus code is a token of C that is no Stray, or a metavariable.
use Rattle.std.proofs.Common.{◌≡◌, ℕ, Bool, true, refl, sym, true≢false, List, [], ◌∷◌, Option, Some, None}
use Rattle.std.specs.List.{list_all}
use Rattle.std.proofs.lemmas.List.Elements.{All-nil, All-cons}
use Rattle.c_terms.specs.declared.token.Token.{Token}
use Rattle.c_terms.specs.declared.token.TokenKind.{TokenKind}
use Rattle.c_terms.specs.declared.token.TokenKind.TheVariants as token
use Rattle.c_lexer.specs.declared.state.Kind.{Kind}
use Rattle.c_lexer.specs.declared.state.Kind.TheVariants as kind
use Rattle.c_lexer.specs.Kinds.{kind_of}
use Rattle.smpl_patch.specs.declared.pattern.VarDecl.{VarDecl}
use Rattle.smpl_patch.specs.declared.pattern.PlusLine.{PlusLine}
use Rattle.smpl_patch.specs.declared.pattern.PlusBlock.{PlusBlock}
use Rattle.smpl_patch.specs.declared.pattern.PatToken.{PatToken}
use Rattle.smpl_patch.specs.Sound.{is_of_kind, is_plus_token}
use Rattle.sound_laws.specs.SmplSound.Parts.{whole_block, whole_token}
use Rattle.sound_laws.proofs.SmplSound.BoolLemmas.{front-true, back-true}
use Rattle.sound_laws.proofs.SmplSound.PlusLemmas.{at_block, at_token}
use Rattle.edit_marks.specs.Blocks.{is_meta}
use Rattle.edit_marks.specs.Plain.{AreSoundGaps}
use Rattle.text_laws.specs.Sound.{IsPlusToken, ArePlusTokens, ArePlusLines, IsPlusBlock, HasPlusCode, HavePlusCode}
use Rattle.text_laws.proofs.PlusLaws.GapLemmas.{spaced, spaced_line, spaced_block}

-- ---- kinds

as_name : (o : Option Kind) → is_of_kind token.Name o ≡ true → o ≡ Some kind.Name
as_name None h = absurd (true≢false (sym h))
as_name (Some kind.Name) h = refl
as_name (Some kind.Keyword) h = absurd (true≢false (sym h))
as_name (Some kind.Number) h = absurd (true≢false (sym h))
as_name (Some kind.Char) h = absurd (true≢false (sym h))
as_name (Some kind.Str) h = absurd (true≢false (sym h))
as_name (Some kind.Punct) h = absurd (true≢false (sym h))
as_name (Some kind.Stray) h = absurd (true≢false (sym h))
as_name (Some kind.Blank) h = absurd (true≢false (sym h))
as_name (Some kind.Comment) h = absurd (true≢false (sym h))
as_name (Some kind.Line) h = absurd (true≢false (sym h))

as_keyword : (o : Option Kind) → is_of_kind token.Keyword o ≡ true → o ≡ Some kind.Keyword
as_keyword None h = absurd (true≢false (sym h))
as_keyword (Some kind.Name) h = absurd (true≢false (sym h))
as_keyword (Some kind.Keyword) h = refl
as_keyword (Some kind.Number) h = absurd (true≢false (sym h))
as_keyword (Some kind.Char) h = absurd (true≢false (sym h))
as_keyword (Some kind.Str) h = absurd (true≢false (sym h))
as_keyword (Some kind.Punct) h = absurd (true≢false (sym h))
as_keyword (Some kind.Stray) h = absurd (true≢false (sym h))
as_keyword (Some kind.Blank) h = absurd (true≢false (sym h))
as_keyword (Some kind.Comment) h = absurd (true≢false (sym h))
as_keyword (Some kind.Line) h = absurd (true≢false (sym h))

as_number : (o : Option Kind) → is_of_kind token.Number o ≡ true → o ≡ Some kind.Number
as_number None h = absurd (true≢false (sym h))
as_number (Some kind.Name) h = absurd (true≢false (sym h))
as_number (Some kind.Keyword) h = absurd (true≢false (sym h))
as_number (Some kind.Number) h = refl
as_number (Some kind.Char) h = absurd (true≢false (sym h))
as_number (Some kind.Str) h = absurd (true≢false (sym h))
as_number (Some kind.Punct) h = absurd (true≢false (sym h))
as_number (Some kind.Stray) h = absurd (true≢false (sym h))
as_number (Some kind.Blank) h = absurd (true≢false (sym h))
as_number (Some kind.Comment) h = absurd (true≢false (sym h))
as_number (Some kind.Line) h = absurd (true≢false (sym h))

as_char : (o : Option Kind) → is_of_kind token.Char o ≡ true → o ≡ Some kind.Char
as_char None h = absurd (true≢false (sym h))
as_char (Some kind.Name) h = absurd (true≢false (sym h))
as_char (Some kind.Keyword) h = absurd (true≢false (sym h))
as_char (Some kind.Number) h = absurd (true≢false (sym h))
as_char (Some kind.Char) h = refl
as_char (Some kind.Str) h = absurd (true≢false (sym h))
as_char (Some kind.Punct) h = absurd (true≢false (sym h))
as_char (Some kind.Stray) h = absurd (true≢false (sym h))
as_char (Some kind.Blank) h = absurd (true≢false (sym h))
as_char (Some kind.Comment) h = absurd (true≢false (sym h))
as_char (Some kind.Line) h = absurd (true≢false (sym h))

as_str : (o : Option Kind) → is_of_kind token.Str o ≡ true → o ≡ Some kind.Str
as_str None h = absurd (true≢false (sym h))
as_str (Some kind.Name) h = absurd (true≢false (sym h))
as_str (Some kind.Keyword) h = absurd (true≢false (sym h))
as_str (Some kind.Number) h = absurd (true≢false (sym h))
as_str (Some kind.Char) h = absurd (true≢false (sym h))
as_str (Some kind.Str) h = refl
as_str (Some kind.Punct) h = absurd (true≢false (sym h))
as_str (Some kind.Stray) h = absurd (true≢false (sym h))
as_str (Some kind.Blank) h = absurd (true≢false (sym h))
as_str (Some kind.Comment) h = absurd (true≢false (sym h))
as_str (Some kind.Line) h = absurd (true≢false (sym h))

as_punct : (o : Option Kind) → is_of_kind token.Punct o ≡ true → o ≡ Some kind.Punct
as_punct None h = absurd (true≢false (sym h))
as_punct (Some kind.Name) h = absurd (true≢false (sym h))
as_punct (Some kind.Keyword) h = absurd (true≢false (sym h))
as_punct (Some kind.Number) h = absurd (true≢false (sym h))
as_punct (Some kind.Char) h = absurd (true≢false (sym h))
as_punct (Some kind.Str) h = absurd (true≢false (sym h))
as_punct (Some kind.Punct) h = refl
as_punct (Some kind.Stray) h = absurd (true≢false (sym h))
as_punct (Some kind.Blank) h = absurd (true≢false (sym h))
as_punct (Some kind.Comment) h = absurd (true≢false (sym h))
as_punct (Some kind.Line) h = absurd (true≢false (sym h))

-- ---- tokens

plus_token : (vars : List VarDecl) (k : TokenKind) (id : ℕ) (text : List ℕ) → is_plus_token vars k text ≡ true
    → IsPlusToken (is_meta k) (record { kind = k; text = text; id = id })
plus_token vars token.Name id text h = record { plain = refl; of = as_name (kind_of text) h }
plus_token vars token.Keyword id text h = record { plain = refl; of = as_keyword (kind_of text) h }
plus_token vars token.Number id text h = record { plain = refl; of = as_number (kind_of text) h }
plus_token vars token.Char id text h = record { plain = refl; of = as_char (kind_of text) h }
plus_token vars token.Str id text h = record { plain = refl; of = as_str (kind_of text) h }
plus_token vars token.Punct id text h = record { plain = refl; of = as_punct (kind_of text) h }
plus_token vars (token.Meta m) id text h = tt
plus_token vars token.Stray id text h = absurd (true≢false (sym h))
plus_token vars token.Dots id text h = absurd (true≢false (sym h))
plus_token vars token.Pat id text h = absurd (true≢false (sym h))

plus_tokens : (vars : List VarDecl) (ts : List Token) → list_all (λ (t : Token). is_plus_token vars t.kind t.text) ts ≡ true → ArePlusTokens ts
plus_tokens vars [] h = tt
plus_tokens vars (t ∷ ts) h =
    let test : Token → Bool = λ u. is_plus_token vars u.kind u.text in
    (plus_token vars t.kind t.id t.text (front-true (test t) (list_all test ts) h), plus_tokens vars ts (back-true (test t) (list_all test ts) h))

sound_gaps : (gaps : List (List ℕ)) → list_all spaced gaps ≡ true → AreSoundGaps gaps
sound_gaps [] h = tt
sound_gaps (gap ∷ gaps) h = (front-true (spaced gap) (list_all spaced gaps) h, sound_gaps gaps (back-true (spaced gap) (list_all spaced gaps) h))

-- ---- blocks

plus_lines : (vars : List VarDecl) (ls : List PlusLine)
    → list_all (λ (l : PlusLine). list_all (λ (t : Token). is_plus_token vars t.kind t.text) l.tokens) ls ≡ true
    → list_all spaced_line ls ≡ true → ArePlusLines ls
plus_lines vars [] w g = tt
plus_lines vars (l ∷ ls) w g =
    let test : PlusLine → Bool = λ (m : PlusLine). list_all (λ (t : Token). is_plus_token vars t.kind t.text) m.tokens in (
      (sound_gaps l.gaps (front-true (spaced_line l) (list_all spaced_line ls) g), plus_tokens vars l.tokens (front-true (test l) (list_all test ls) w)),
      plus_lines vars ls (back-true (test l) (list_all test ls) w) (back-true (spaced_line l) (list_all spaced_line ls) g),
    )

plus_block : (vars : List VarDecl) (o : Option PlusBlock) → whole_block vars o ≡ true → at_block spaced_block o ≡ true → IsPlusBlock o
plus_block vars None w g = tt
plus_block vars (Some b) w g = plus_lines vars b.lines w g

pub plus_code : (vars : List VarDecl) (ts : List PatToken) → list_all (whole_token vars) ts ≡ true → list_all (at_token spaced_block) ts ≡ true
    → HavePlusCode ts
plus_code vars [] w g = All-nil HasPlusCode
plus_code vars (t ∷ ts) w g =
    let w0 = front-true (whole_token vars t) (list_all (whole_token vars) ts) w in
    let g0 = front-true (at_token spaced_block t) (list_all (at_token spaced_block) ts) g in
    let before : IsPlusBlock t.before = plus_block vars t.before (front-true (whole_block vars t.before) (whole_block vars t.after) w0)
    (front-true (at_block spaced_block t.before) (at_block spaced_block t.after) g0) in
    let after : IsPlusBlock t.after = plus_block vars t.after (back-true (whole_block vars t.before) (whole_block vars t.after) w0)
    (back-true (at_block spaced_block t.before) (at_block spaced_block t.after) g0) in
    All-cons HasPlusCode t ts (before, after)
    (plus_code vars ts (back-true (whole_token vars t) (list_all (whole_token vars) ts) w)
    (back-true (at_token spaced_block t) (list_all (at_token spaced_block) ts) g))
