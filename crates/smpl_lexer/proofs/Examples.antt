-- The definitions, run.
use Rattle.std.proofs.Common.{◌≡◌, ℕ, true, false, List, [], ◌∷◌, ◌++◌, Some, None, refl, codes}
use Rattle.c_terms.specs.declared.token.TokenKind.TheVariants.{Name, Punct, Stray, Pat}
use Rattle.c_lexer.specs.declared.state.Kind.TheVariants as kind
use Rattle.smpl_patch.specs.declared.fault.PatchFault.TheVariants.{BadToken, BadHeader, ScriptRule}
use Rattle.smpl_patch.specs.Faults.{first_of}
use Rattle.smpl_lexer.specs.declared.section.Role.TheVariants as role
use Rattle.smpl_lexer.specs.declared.piece.LineKind.TheVariants.{Plain}
use Rattle.smpl_lexer.specs.declared.token.PatchToken.{PatchToken}
use Rattle.smpl_lexer.specs.declared.text.BodyLine.{BodyLine}
use Rattle.smpl_lexer.specs.Lines.{lines_from, content}
use Rattle.smpl_lexer.specs.Pieces.{sign_length, is_bad}
use Rattle.smpl_lexer.specs.Tokens.{made, as_branch}
use Rattle.smpl_lexer.specs.Headers.{header_stop, virtual_stop, header_faults, virtual_names}
use Rattle.smpl_lexer.specs.CutLines.{CutLine}
use Rattle.smpl_lexer.specs.Texts.{body_line, text_of, text_faults}

-- the last line may have no newline, and an empty line is one
three_lines : lines_from 0 (codes "a" ++ (10 ∷ 10 ∷ codes "b")) ≡ record { start = 0; bytes = 97 ∷ 10 ∷ [] }
    ∷ record { start = 2; bytes = 10 ∷ [] } ∷ record { start = 3; bytes = 98 ∷ [] } ∷ []
three_lines = refl

without_newline : content (97 ∷ 10 ∷ []) ≡ 97 ∷ []
without_newline = refl

-- signs, the longest first
longest_sign : sign_length (codes "...+>x") ≡ 5
longest_sign = refl

no_longer_sign : sign_length (codes "...+x") ≡ 3
no_longer_sign = refl

less_is_none : sign_length (codes "<+..") ≡ 0
less_is_none = refl

-- an `@` is a token except in plus code; a comment is bad if it runs over the line's end
at_is_fine : is_bad false (Plain kind.Stray) (codes "@") ≡ false
at_is_fine = refl

at_in_plus : is_bad true (Plain kind.Stray) (codes "@") ≡ true
at_in_plus = refl

long_comment : is_bad false (Plain kind.Comment) (codes "// a" ++ (92 ∷ 10 ∷ [])) ≡ true
long_comment = refl

abbrev word : List ℕ → ℕ → PatchToken
word text at = made Name text at

abbrev mark : List ℕ → ℕ → PatchToken
mark text at = made Punct text at

abbrev at_sign : ℕ → PatchToken
at_sign at = made Stray (codes "@") at

-- `@r depends on` can't continue at its end, `@ever@` at the name, `@@ x` after the second `@`
ends_early : header_stop (at_sign 0 ∷ word (codes "r") 1 ∷ word (codes "depends") 3 ∷ word (codes "on") 11 ∷ []) 13 ≡ Some 13
ends_early = refl

no_name : header_stop (at_sign 0 ∷ word (codes "ever") 1 ∷ at_sign 5 ∷ []) 6 ≡ Some 1
no_name = refl

goes_on_too_far : header_stop (at_sign 0 ∷ at_sign 1 ∷ word (codes "x") 3 ∷ []) 4 ≡ Some 3
goes_on_too_far = refl

whole_header : header_stop (at_sign 0 ∷ word (codes "depends") 1 ∷ word (codes "on") 9 ∷ mark (codes "!") 12
    ∷ mark (codes "(") 13 ∷ word (codes "a") 14 ∷ mark (codes "||") 16
    ∷ word (codes "never") 19 ∷ word (codes "b") 25 ∷ mark (codes ")") 26 ∷ word (codes "exists") 28 ∷ at_sign 34 ∷ []) 35 ≡ None
whole_header = refl

-- a rule in a script language is a fault at the header's first byte, before the fault where it can't continue
script_first : first_of (header_faults 0 (at_sign 0 ∷ word (codes "script") 1 ∷ mark (codes ":") 7 ∷ []) 8) ≡ Some (ScriptRule 0)
script_first = refl

-- of two faults at one place, the one with the lesser number counts
lesser_number : first_of (BadHeader 4 ∷ BadToken 4 ∷ BadToken 5 ∷ []) ≡ Some (BadToken 4)
lesser_number = refl

two_names : virtual_names (word (codes "virtual") 0 ∷ word (codes "a") 8 ∷ mark (codes ",") 9 ∷ word (codes "b") 11 ∷ []) ≡ codes "a" ∷ codes "b" ∷ []
two_names = refl

comma_at_end : virtual_stop (word (codes "virtual") 0 ∷ word (codes "a") 8 ∷ mark (codes ",") 9 ∷ []) 10 ≡ Some 10
comma_at_end = refl

-- `|` alone is a sign of patches in column 1, and not in column 2
alone : as_branch 7 (mark (codes "|") 7 ∷ []) ≡ made Pat (92 ∷ 124 ∷ []) 7 ∷ []
alone = refl

in_column_two : as_branch 7 (mark (codes "|") 8 ∷ []) ≡ mark (codes "|") 8 ∷ []
in_column_two = refl

-- `@@`, `@@`, `- a`
abbrev cut : List CutLine
cut = record {
  role = role.Header;
  line = record { start = 0; bytes = codes "@@" ++ 10 ∷ [] };
  pieces = record { kind = Plain kind.Stray; text = codes "@" } ∷ record { kind = Plain kind.Stray; text = codes "@" }
      ∷ record { kind = Plain kind.Blank; text = 10 ∷ [] } ∷ [];
}
    ∷ record {
      role = role.Second;
      line = record { start = 3; bytes = codes "@@" ++ 10 ∷ [] };
      pieces = record { kind = Plain kind.Stray; text = codes "@" } ∷ record { kind = Plain kind.Stray; text = codes "@" }
          ∷ record { kind = Plain kind.Blank; text = 10 ∷ [] } ∷ [];
    }
    ∷ record {
      role = role.Body;
      line = record { start = 6; bytes = codes "- a" };
      pieces = record { kind = Plain kind.Blank; text = 32 ∷ [] } ∷ record { kind = Plain kind.Name; text = codes "a" } ∷ [];
    } ∷ []

nothing_wrong : text_faults 9 cut ≡ []
nothing_wrong = refl

one_rule : text_of 9 cut ≡ record {
  virtuals = [];
  rules = record {
    start = 0;
    end = 9;
    header = at_sign 0 ∷ at_sign 1 ∷ [];
    decls = [];
    body = record { sign = 45; many = false; start = 6; text = codes " a"; tokens = word (codes "a") 8 ∷ [] } ∷ [];
  } ∷ [];
}
one_rule = refl

-- a line of a body, without its tokens
abbrev line_of : List ℕ → BodyLine
line_of bytes = body_line 0 bytes []

-- `++` is one sign; in `+++ b;` a token `+` is after it
two_signs : line_of (codes "++ b();") ≡ record { sign = 43; many = true; start = 0; text = codes " b();"; tokens = [] }
two_signs = refl

two_signs_and_a_token : line_of (codes "+++ b;") ≡ record { sign = 43; many = true; start = 0; text = codes "+ b;"; tokens = [] }
two_signs_and_a_token = refl

two_signs_alone : line_of (codes "++" ++ 10 ∷ []) ≡ record { sign = 43; many = true; start = 0; text = []; tokens = [] }
two_signs_alone = refl

-- the second sign of `+ +b;`, of `-++a;` and of ` ++a;` is a token
one_sign_and_a_token : line_of (codes "+ +b;") ≡ record { sign = 43; many = false; start = 0; text = codes " +b;"; tokens = [] }
one_sign_and_a_token = refl

minus_and_tokens : line_of (codes "-++a;") ≡ record { sign = 45; many = false; start = 0; text = codes "++a;"; tokens = [] }
minus_and_tokens = refl

context_and_tokens : line_of (codes " ++a;") ≡ record { sign = 32; many = false; start = 0; text = codes " ++a;"; tokens = [] }
context_and_tokens = refl
