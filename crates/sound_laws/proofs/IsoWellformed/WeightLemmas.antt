-- A side of a file has no more tokens than the file has bytes, and none of a metavariable's kind.
-- Proof: a token of such a kind weighs more than a file has bytes, and any other weighs one. The tokens of a file weigh no
-- more than it has bytes, and a part of it weighs no more than the whole.
use Rattle.std.proofs.Common.{◌≡◌, ℕ, zero, suc, ◌+◌, ◌≤◌, ◌||◌, ◌&&◌, Bool, true, false, if◌then◌else◌, refl}
use Rattle.std.proofs.Common.{sym, ap, ◌∙◌, arith, Option, None, Some, List, [], ◌∷◌, ◌++◌, length, drop, length-append}
use Rattle.c_terms.specs.declared.token.TokenKind.{TokenKind}
use Rattle.c_lexer.specs.declared.state.Kind.{Kind}
use Rattle.c_lexer.specs.declared.state.Kind.TheVariants as kind
use Rattle.c_lexer.specs.Kinds.{kind_of}
use Rattle.smpl_lexer.specs.declared.token.PatchToken.{PatchToken}
use Rattle.smpl_lexer.specs.Pieces.{has_newline}
use Rattle.smpl_lexer.specs.Tokens.{made}
use Rattle.iso_file.specs.Lines.{Piece, joined, Cut, token_kind, put, part, put_piece, groups, filled}
use Rattle.iso_file.specs.Blocks.{is_header, header_next, begin, parts, blocks}
use Rattle.iso_file.specs.Sides.{concatenated, arrow_of, sides_in}
use Rattle.sound_laws.specs.IsoLaws.Fine.{is_variable}

-- ---- weights

unfoldable pub weight : PatchToken → ℕ
weight t = if is_variable t.token.kind then 2000000 else 1

light : (t : PatchToken) → is_variable t.token.kind ≡ false → weight t ≡ 1
unfolding weight
light t e = ap (λ (b : Bool). if b then 2000000 else 1) e

weight-some : (t : PatchToken) → 1 ≤ weight t
unfolding weight
weight-some t = by (is_variable t.token.kind)
  where
    by : (b : Bool) → 1 ≤ (if b then 2000000 else 1)
    by true = omega arith
    by false = omega arith

weight-plain : (t : PatchToken) → weight t ≤ 1048576 → is_variable t.token.kind ≡ false
unfolding weight
weight-plain t = by (is_variable t.token.kind)
  where
    by : (b : Bool) → (if b then 2000000 else 1) ≤ 1048576 → b ≡ false
    by true h = absurd (omega (arith, h))
    by false h = refl

abbrev pub weigh : List PatchToken → ℕ
weigh [] = 0
weigh (t ∷ ts) = weight t + weigh ts

abbrev pub weigh_lines : List (List PatchToken) → ℕ
weigh_lines [] = 0
weigh_lines (l ∷ ls) = weigh l + weigh_lines ls

abbrev pub weigh_blocks : List (List (List PatchToken)) → ℕ
weigh_blocks [] = 0
weigh_blocks (b ∷ bs) = weigh_lines b + weigh_blocks bs

pub counted : (ts : List PatchToken) → length ts ≤ weigh ts
counted [] = omega arith
counted (t ∷ ts) = omega (arith, weight-some t, counted ts)

pub first-plain : (t : PatchToken) (ts : List PatchToken) → weigh (t ∷ ts) ≤ 1048576 → is_variable t.token.kind ≡ false
first-plain t ts h = weight-plain t (omega (arith, h))

-- ---- parts

weigh-append : (xs ys : List PatchToken) → weigh (xs ++ ys) ≡ weigh xs + weigh ys
weigh-append [] ys = omega arith
weigh-append (x ∷ xs) ys = omega (arith, weigh-append xs ys)

joined-weight : (ls : List (List PatchToken)) → weigh (concatenated ls) ≡ weigh_lines ls
joined-weight [] = refl
joined-weight (l ∷ ls) = omega (arith, weigh-append l (concatenated ls), joined-weight ls)

filled-lines : (gs : List (List PatchToken)) → weigh_lines (filled gs) ≡ weigh_lines gs
filled-lines [] = refl
filled-lines ([] ∷ gs) = omega (arith, filled-lines gs)
filled-lines ((a ∷ g) ∷ gs) = omega (arith, filled-lines gs)

filled-blocks : (gs : List (List (List PatchToken))) → weigh_blocks (filled gs) ≡ weigh_blocks gs
filled-blocks [] = refl
filled-blocks ([] ∷ gs) = omega (arith, filled-blocks gs)
filled-blocks ((a ∷ g) ∷ gs) = omega (arith, filled-blocks gs)

put-lines : (t : PatchToken) (gs : List (List PatchToken)) → weigh_lines (put t gs) ≡ weight t + weigh_lines gs
put-lines t [] = omega arith
put-lines t (g ∷ gs) = omega arith

put-blocks : (l : List PatchToken) (gs : List (List (List PatchToken))) → weigh_blocks (put l gs) ≡ weigh l + weigh_blocks gs
put-blocks l [] = omega arith
put-blocks l (g ∷ gs) = omega arith

part-lines : (b : Bool) (gs : List (List PatchToken)) → weigh_lines (part b gs) ≡ weigh_lines gs
part-lines true gs = omega arith
part-lines false gs = refl

begin-blocks : (b : Bool) (gs : List (List (List PatchToken))) → weigh_blocks (begin b gs) ≡ weigh_blocks gs
begin-blocks true gs = omega arith
begin-blocks false gs = refl

-- ---- the lines of a file

abbrev any_variable : Option TokenKind → Bool
any_variable None = false
any_variable (Some k) = is_variable k

no-variable : (k : Kind) → any_variable (token_kind k) ≡ false
no-variable kind.Name = refl
no-variable kind.Keyword = refl
no-variable kind.Number = refl
no-variable kind.Char = refl
no-variable kind.Str = refl
no-variable kind.Punct = refl
no-variable kind.Stray = refl
no-variable kind.Line = refl
no-variable kind.Blank = refl
no-variable kind.Comment = refl

plain-kind : (k : Kind) (t : TokenKind) → token_kind k ≡ Some t → is_variable t ≡ false
plain-kind k t e = ap any_variable (sym e) ∙ no-variable k

some-text : (k : Kind) (text : List ℕ) → kind_of text ≡ Some k → 1 ≤ length text
some-text k [] e = absurd cc
some-text k (b ∷ bs) e = omega arith

groups-light : (at : ℕ) (ps : List Piece) → Cut ps → weigh_lines (groups at ps) ≤ length (joined ps)
groups-light at [] c = omega arith
groups-light at (p ∷ ps) c =
    by (token_kind p.kind) refl (groups (at + length p.text) ps) (groups-light (at + length p.text) ps c.1)
  where
    by : (o : Option TokenKind) → token_kind p.kind ≡ o → (gs : List (List PatchToken)) → weigh_lines gs ≤ length (joined ps)
        → weigh_lines (put_piece o p.text at gs) ≤ length (p.text ++ joined ps)
    by (Some k) e gs h =
        let one : weight (made k p.text at) ≡ 1 = light (made k p.text at) (plain-kind p.kind k e) in
        omega (arith, h, one, put-lines (made k p.text at) gs, some-text p.kind p.text c.0.of_kind, length-append p.text (joined ps))
    by None e gs h = omega (arith, h, part-lines (has_newline p.text) gs, length-append p.text (joined ps))

pub lines-light : (ps : List Piece) → Cut ps → weigh_lines (filled (groups 0 ps)) ≤ length (joined ps)
lines-light ps c = omega (arith, filled-lines (groups 0 ps), groups-light 0 ps c)

-- ---- blocks and sides

parts-light : (seen : Bool) (ls : List (List PatchToken)) → weigh_blocks (parts seen ls) ≡ weigh_lines ls
parts-light seen [] = omega arith
parts-light seen (l ∷ ls) =
    let rest = parts (seen || is_header l) ls in
    begin-blocks ((seen || is_header l) && header_next ls) (put l rest)
    ∙ put-blocks l rest
    ∙ ap (λ (n : ℕ). weigh l + n) (parts-light (seen || is_header l) ls)

pub blocks-light : (ls : List (List PatchToken)) → weigh_blocks (blocks ls) ≡ weigh_lines ls
blocks-light ls = filled-blocks (parts false ls) ∙ parts-light false ls

drop-light : (k : ℕ) (ls : List (List PatchToken)) → weigh_lines (drop k ls) ≤ weigh_lines ls
drop-light zero ls = omega arith
drop-light (suc k) [] = omega arith
drop-light (suc k) (l ∷ ls) = omega (arith, drop-light k ls)

sides-light : (ts : List PatchToken) → weigh_lines (sides_in ts) ≤ weigh ts
sides-light [] = omega arith
sides-light (t ∷ []) = omega arith
sides-light (t ∷ n ∷ ts) = by (arrow_of t n) (sides-light ts) (sides-light (n ∷ ts))
  where
    by : (o : Option Bool) → weigh_lines (sides_in ts) ≤ weigh ts → weigh_lines (sides_in (n ∷ ts)) ≤ weigh (n ∷ ts)
        → weigh_lines (elim o as (λ x. List (List PatchToken)) [ Some both ↦ [] ∷ sides_in ts | None ↦ put t (sides_in (n ∷ ts)) ])
        ≤ weigh (t ∷ n ∷ ts)
    by (Some b) h k = omega (arith, h)
    by None h k = omega (arith, k, put-lines t (sides_in (n ∷ ts)))

-- the sides behind so many lines of a block
pub sides-of-lines : (k : ℕ) (ls : List (List PatchToken)) → weigh_lines (sides_in (concatenated (drop k ls))) ≤ weigh_lines ls
sides-of-lines k ls = omega (arith, sides-light (concatenated (drop k ls)), joined-weight (drop k ls), drop-light k ls)
