-- Blocks of `+` lines and of `++` lines.
use Rattle.std.specs.Prelude.{◌≡◌, ℕ, Bool, true, false, List, [], ◌∷◌, Some, None, refl, codes}
use Rattle.c_terms.specs.declared.token.TokenKind.TheVariants.{Name, Punct}
use Rattle.smpl_patch.specs.declared.fault.PatchFault.TheVariants.{StarWithEdit, PlusWithoutAnchor}
use Rattle.smpl_lexer.specs.declared.text.BodyLine.{BodyLine}
use Rattle.smpl_lexer.specs.Tokens.{made}
use Rattle.smpl_plus.specs.Anchors.{first_phase, plus_faults}

-- ` a();` with this sign, from this byte on
abbrev call : ℕ → ℕ → BodyLine
call sign start = record {
  sign = sign;
  many = false;
  start = start;
  text = codes " a();";
  tokens = made Name (codes "a") 8 ∷ made Punct (codes "(") 9 ∷ made Punct (codes ")") 10 ∷ made Punct (codes ";") 11 ∷ [];
}

-- a line of plus code, without its tokens
abbrev line : Bool → ℕ → List ℕ → BodyLine
line many start text = record { sign = 43; many = many; start = start; text = text; tokens = [] }

abbrev blank : ℕ → BodyLine
blank start = record { sign = 32; many = false; start = start; text = []; tokens = [] }

-- `++ b();` and `++ c();`, after `@@`, `@@` and `  a();`
of_one_kind : first_phase (plus_faults [] 0 (call 32 6 ∷ line true 13 (codes " b();") ∷ line true 21 (codes " c();") ∷ [])) ≡ None
of_one_kind = refl

-- `++ b();` and `+ c();`
plus_after_many : first_phase (plus_faults [] 0 (call 32 6 ∷ line true 13 (codes " b();") ∷ line false 21 (codes " c();") ∷ [])) ≡ Some (PlusWithoutAnchor 21)
plus_after_many = refl

-- `+ b();` and `++ c();`
many_after_plus : first_phase (plus_faults [] 0 (call 32 6 ∷ line false 13 (codes " b();") ∷ line true 20 (codes " c();") ∷ [])) ≡ Some (PlusWithoutAnchor 20)
many_after_plus = refl

-- lines without tokens count: `++` and `++ c();`, `+` and `++ c();`
empty_of_one_kind : first_phase (plus_faults [] 0 (call 32 6 ∷ line true 13 [] ∷ line true 16 (codes " c();") ∷ [])) ≡ None
empty_of_one_kind = refl

empty_of_another_kind : first_phase (plus_faults [] 0 (call 32 6 ∷ line false 13 [] ∷ line true 15 (codes " c();") ∷ [])) ≡ Some (PlusWithoutAnchor 15)
empty_of_another_kind = refl

-- a blank line does not split a block
behind_a_blank_line : first_phase (plus_faults [] 0
    (call 32 6 ∷ line true 13 (codes " b();") ∷ blank 21 ∷ line false 22 (codes " c();") ∷ [])) ≡ Some (PlusWithoutAnchor 22)
behind_a_blank_line = refl

-- without an anchor, the block's first line counts
no_anchor : first_phase (plus_faults [] 0 (line true 6 (codes " b();") ∷ line false 14 (codes " c();") ∷ [])) ≡ Some (PlusWithoutAnchor 6)
no_anchor = refl

-- `* a();` and `++ b();`
starred : first_phase (plus_faults [] 0 (call 42 6 ∷ line true 13 (codes " b();") ∷ [])) ≡ Some (StarWithEdit 0)
starred = refl
