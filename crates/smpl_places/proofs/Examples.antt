-- Examples of the pieces of code, by where they begin, and of where a rule begins.
use Rattle.std.specs.Prelude.{ℕ, ◌≡◌, List, [], ◌∷◌, map, Option, Some, None, refl, codes}
use Rattle.c_terms.specs.declared.token.TokenKind.TheVariants.{Name, Dots, Pat}
use Rattle.smpl_lexer.specs.declared.text.RuleText.{RuleText}
use Rattle.smpl_lexer.specs.declared.text.PatchText.{PatchText}
use Rattle.smpl_meta.specs.declared.patterns.Placed.{Placed}
use Rattle.smpl_places.specs.declared.pieces.Piece.{Piece}
use Rattle.smpl_places.specs.Pieces.{pieces_of}
use Rattle.smpl_places.specs.Unspelled.{rule_around}
use Rattle.smpl_places.specs.FaultPlaces.{rule_start}

-- a token of a line, at a byte
abbrev word : ℕ → ℕ → List ℕ → Placed
word line at text = record { token = record { kind = Name; text = text; id = 0 }; at = at; sign = 32; line = line; positions = [] }

abbrev dots : ℕ → ℕ → Placed
dots line at = record { token = record { kind = Dots; text = codes "..."; id = 0 }; at = at; sign = 32; line = line; positions = [] }

abbrev sign : ℕ → ℕ → List ℕ → Placed
sign line at text = record { token = record { kind = Pat; text = text; id = 0 }; at = at; sign = 32; line = line; positions = [] }

abbrev starts : List Placed → List ℕ
starts ps = map (λ (p : Piece). p.at) (pieces_of ps)

-- `a(e)` and `b(e);` below it are one piece
no_semicolon : starts (word 0 22 (codes "a") ∷ word 0 23 (codes "(") ∷ word 0 24 (codes "e") ∷ word 0 25 (codes ")")
    ∷ word 1 29 (codes "b") ∷ word 1 30 (codes "(") ∷ word 1 31 (codes "e") ∷ word 1 32 (codes ")") ∷ word 1 33 (codes ";") ∷ []) ≡ 22 ∷ []
no_semicolon = refl

-- `a();`, `b();`
two_statements : starts (word 0 8 (codes "a") ∷ word 0 9 (codes "(") ∷ word 0 10 (codes ")") ∷ word 0 11 (codes ";")
    ∷ word 1 15 (codes "b") ∷ word 1 16 (codes "(") ∷ word 1 17 (codes ")") ∷ word 1 18 (codes ";") ∷ []) ≡ 8 ∷ 15 ∷ []
two_statements = refl

-- `l;`, `...`, `return ...;`: dots outside of brackets part pieces, within a statement too
dots_part : starts (word 0 22 (codes "l") ∷ word 0 23 (codes ";") ∷ dots 1 27
    ∷ word 2 33 (codes "return") ∷ dots 2 40 ∷ word 2 43 (codes ";") ∷ []) ≡ 22 ∷ 33 ∷ 43 ∷ []
dots_part = refl

-- `f(...);`: those in brackets don't
dots_in_brackets : starts (word 0 8 (codes "f") ∷ word 0 9 (codes "(") ∷ dots 0 10 ∷ word 0 13 (codes ")") ∷ word 0 14 (codes ";") ∷ []) ≡ 8 ∷ []
dots_in_brackets = refl

-- `if (x) { a; } else b;` is one piece, and `c;` after it another
else_goes_on : starts (word 0 8 (codes "if") ∷ word 0 11 (codes "(") ∷ word 0 12 (codes "x") ∷ word 0 13 (codes ")") ∷ word 0 15 (codes "{")
    ∷ word 0 17 (codes "a") ∷ word 0 18 (codes ";") ∷ word 0 20 (codes "}") ∷ word 0 22 (codes "else") ∷ word 0 27 (codes "b")
    ∷ word 0 28 (codes ";") ∷ word 1 32 (codes "c") ∷ word 1 33 (codes ";") ∷ []) ≡ 8 ∷ 32 ∷ []
else_goes_on = refl

-- `x = { 1 };` is one piece: its `{` begins no block
no_block : starts (word 0 8 (codes "x") ∷ word 0 10 (codes "=") ∷ word 0 12 (codes "{") ∷ word 0 14 (codes "1") ∷ word 0 16 (codes "}")
    ∷ word 0 17 (codes ";") ∷ []) ≡ 8 ∷ []
no_block = refl

-- `x = (s){ 1 };`, `b;`: a compound literal ends no piece
compound_literal : starts (word 0 8 (codes "x") ∷ word 0 10 (codes "=") ∷ word 0 12 (codes "(") ∷ word 0 13 (codes "s") ∷ word 0 14 (codes ")")
    ∷ word 0 15 (codes "{") ∷ word 0 17 (codes "1") ∷ word 0 19 (codes "}") ∷ word 0 20 (codes ";") ∷ word 1 24 (codes "b") ∷ word 1 25 (codes ";") ∷ [])
    ≡ 8 ∷ 24 ∷ []
compound_literal = refl

-- `return (s){ 1 };`, `b;`
literal_is_returned : starts (word 0 8 (codes "return") ∷ word 0 15 (codes "(") ∷ word 0 16 (codes "s") ∷ word 0 17 (codes ")")
    ∷ word 0 18 (codes "{") ∷ word 0 20 (codes "1") ∷ word 0 22 (codes "}") ∷ word 0 23 (codes ";") ∷ word 1 27 (codes "b") ∷ word 1 28 (codes ";") ∷ [])
    ≡ 8 ∷ 27 ∷ []
literal_is_returned = refl

-- `if (x = y) { a; }`, `b;`: in brackets an `=` begins no value
value_in_brackets : starts (word 0 8 (codes "if") ∷ word 0 11 (codes "(") ∷ word 0 12 (codes "x") ∷ word 0 14 (codes "=") ∷ word 0 16 (codes "y")
    ∷ word 0 17 (codes ")") ∷ word 0 19 (codes "{") ∷ word 0 21 (codes "a") ∷ word 0 22 (codes ";") ∷ word 0 24 (codes "}")
    ∷ word 1 28 (codes "b") ∷ word 1 29 (codes ";") ∷ []) ≡ 8 ∷ 28 ∷ []
value_in_brackets = refl

-- `if (x) y = 1; else if (z) { a; }`, `b;`: at `else` a value has ended
value_before_else : starts (word 0 8 (codes "if") ∷ word 0 11 (codes "(") ∷ word 0 12 (codes "x") ∷ word 0 13 (codes ")") ∷ word 0 15 (codes "y")
    ∷ word 0 17 (codes "=") ∷ word 0 19 (codes "1") ∷ word 0 20 (codes ";") ∷ word 0 22 (codes "else") ∷ word 0 27 (codes "if") ∷ word 0 30 (codes "(")
    ∷ word 0 31 (codes "z") ∷ word 0 32 (codes ")") ∷ word 0 34 (codes "{") ∷ word 0 36 (codes "a") ∷ word 0 37 (codes ";") ∷ word 0 39 (codes "}")
    ∷ word 1 43 (codes "b") ∷ word 1 44 (codes ";") ∷ []) ≡ 8 ∷ 43 ∷ []
value_before_else = refl

-- `f() { a; }`, `g() { b; }`
two_functions : starts (word 0 8 (codes "f") ∷ word 0 9 (codes "(") ∷ word 0 10 (codes ")") ∷ word 0 12 (codes "{") ∷ word 0 14 (codes "a")
    ∷ word 0 15 (codes ";") ∷ word 0 17 (codes "}") ∷ word 1 21 (codes "g") ∷ word 1 22 (codes "(") ∷ word 1 23 (codes ")")
    ∷ word 1 25 (codes "{") ∷ word 1 27 (codes "b") ∷ word 1 28 (codes ";") ∷ word 1 30 (codes "}") ∷ []) ≡ 8 ∷ 21 ∷ []
two_functions = refl

-- `a;`, `... when != g(x)`, `b;`: the clause is left out up to the end of its line
clause_is_left_out : starts (word 0 8 (codes "a") ∷ word 0 9 (codes ";") ∷ dots 1 13 ∷ word 1 17 (codes "when") ∷ word 1 22 (codes "!=")
    ∷ word 1 25 (codes "g") ∷ word 2 32 (codes "b") ∷ word 2 33 (codes ";") ∷ []) ≡ 8 ∷ 32 ∷ []
clause_is_left_out = refl

-- `(`, `a;`, `|`, `b;`, `)` in column 1: signs of branches belong to no piece
branches : starts (sign 0 6 (codes "\\(") ∷ word 1 10 (codes "a") ∷ word 1 11 (codes ";") ∷ sign 2 13 (codes "\\|")
    ∷ word 3 17 (codes "b") ∷ word 3 18 (codes ";") ∷ sign 4 20 (codes "\\)") ∷ []) ≡ 10 ∷ 17 ∷ []
branches = refl

no_code : starts [] ≡ []
no_code = refl

-- two rules, of which the second begins where the first one ends
abbrev rule : ℕ → ℕ → RuleText
rule start end = record { start = start; end = end; header = []; decls = []; body = [] }

abbrev two_rules : PatchText
two_rules = record { virtuals = []; rules = rule 0 12 ∷ rule 12 30 ∷ [] }

second_rule : rule_start (Some two_rules) 1 ≡ Some 12
second_rule = refl

no_third_rule : rule_start (Some two_rules) 2 ≡ None
no_third_rule = refl

-- a byte of the first rule, the last byte before the text's end, and the end of the text
in_the_first : rule_around (rule 0 12 ∷ rule 12 30 ∷ []) 8 ≡ 0
in_the_first = refl

in_the_second : rule_around (rule 0 12 ∷ rule 12 30 ∷ []) 15 ≡ 1
in_the_second = refl

at_the_end : rule_around (rule 0 12 ∷ rule 12 30 ∷ []) 30 ≡ 1
at_the_end = refl
