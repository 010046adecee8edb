-- Bodies of `void f(void) { if (a) d(a); .. }` and the like under edits, each worked out by hand: the row, and the braces that come.
use Rattle.std.proofs.Common.{◌≡◌, ◌&&◌, ℕ, Bool, true, false, refl, List, [], ◌∷◌, ◌++◌, codes, get_or, map}
use Rattle.std.specs.Prelude.{Option, None, Some, filter, nat_eq}
use Rattle.std.specs.List.{list_any}
use Rattle.c_terms.specs.declared.token.Token.{Token}
use Rattle.c_terms.specs.declared.token.TokenKind.TheVariants.{Punct}
use Rattle.edit_marks.specs.declared.tidy.shape.Body.{Body}
use Rattle.edit_marks.specs.declared.tidy.touch.PatternStatement.{PatternStatement}
use Rattle.edit_unparse.specs.declared.tidy.plan.Placed.{Placed}
use Rattle.edit_bodies.specs.declared.braces.Coming.{Coming}
use Rattle.edit_bodies.specs.Needs.{RowForm}
use Rattle.edit_bodies.specs.Rows.{NewText, same_flag, spot, tokens_in}
use Rattle.edit_bodies.specs.Looks.{Seen, row_of, see_all}

abbrev word : List ℕ → Token
word text = record { kind = Punct; text = text; id = 0 }

abbrev placed : ℕ → Bool → ℕ → Placed
placed n after edit = record { spot = record { token = n; after = after }; edit = edit; insert = 0; depth = 0 }

-- a text of these tokens, of which these go, with these inserts, each the only one of an edit that inserts these tokens
abbrev text_of : List (List ℕ) → List ℕ → List Placed → List (List (List ℕ)) → NewText
text_of tokens gone inserts words = record {
  token = λ n. word (get_or tokens n []);
  goes = λ n. list_any (nat_eq n) gone;
  falls = λ n. false;
  comes = λ n. list_any (λ p. nat_eq p.spot.token n) inserts;
  inserts = λ n after. filter (λ p. nat_eq p.spot.token n && same_flag p.spot.after after) inserts;
  words = λ p. map word (get_or words p.edit []);
}

-- the texts of the tokens of a row
abbrev texts : List Token → List (List ℕ)
texts tokens = map (λ t. t.text) tokens

-- `void f(void) { if (a) d(a); }`
abbrev one_if : List (List ℕ)
one_if = codes "void" ∷ codes "f" ∷ codes "(" ∷ codes "void" ∷ codes ")" ∷ codes "{" ∷ codes "if" ∷ codes "(" ∷ codes "a" ∷ codes ")" ∷ codes "d" ∷ codes "("
    ∷ codes "a" ∷ codes ")" ∷ codes ";" ∷ codes "}" ∷ []

abbrev leaves : List ℕ
leaves = 0 ∷ 1 ∷ 2 ∷ 3 ∷ 4 ∷ 5 ∷ 6 ∷ 7 ∷ 8 ∷ 9 ∷ 10 ∷ 11 ∷ 12 ∷ 13 ∷ 14 ∷ 15 ∷ []

-- the statement `d(a);`, which is the body, and the `if`
abbrev at_body : List ℕ
at_body = 3 ∷ 1 ∷ 4 ∷ []

abbrev at_if : List ℕ
at_if = 3 ∷ 1 ∷ []

abbrev statement : ℕ → List ℕ → ℕ × PatternStatement
statement edit path = (edit, record { item = 0; path = path })

-- the body of the `if`, and the function's own block
abbrev body : Body
body = record {
  item = 0;
  path = at_body;
  leaves = record { from = 10; to = 15 };
  is_block = false;
  has_semicolon = true;
  second_end = None;
  owner = 6;
  is_function = false;
}

abbrev own_block : Body
own_block = record {
  item = 0;
  path = 3 ∷ [];
  leaves = record { from = 5; to = 16 };
  is_block = true;
  has_semicolon = false;
  second_end = None;
  owner = 0;
  is_function = true;
}

abbrev start : Seen
start = record { braces = []; broken = [] }

abbrev one_statement : Option RowForm
one_statement = Some (record { one = true; open_ended = false })

abbrev two_statements : Option RowForm
two_statements = Some (record { one = false; open_ended = false })

abbrev an_if : Option RowForm
an_if = Some (record { one = true; open_ended = true })

abbrev brace : ℕ → Bool → ℕ → Bool → ℕ → Coming
brace n after inserts opens owner = record { spot = spot n after inserts; opens = opens; owner = owner }

-- behind the `)`, and behind the insert behind the `;`
abbrev around_both : Seen
around_both = record { braces = brace 9 true 0 true 6 ∷ brace 14 true 1 false 6 ∷ []; broken = [] }

-- `e(a);`
abbrev e_call : List (List ℕ)
e_call = codes "e" ∷ codes "(" ∷ codes "a" ∷ codes ")" ∷ codes ";" ∷ []

-- ---- ` d(x);` and `+ e(x);`: two statements

abbrev added : NewText
added = text_of one_if [] (placed 14 true 0 ∷ []) (e_call ∷ [])

added_row : texts (tokens_in (row_of added leaves (statement 0 at_body ∷ []) body [])) ≡ codes "d" ∷ codes "(" ∷ codes "a" ∷ codes ")" ∷ codes ";" ∷ e_call
added_row = refl

added_braces : see_all added leaves (statement 0 at_body ∷ []) (body ∷ own_block ∷ []) (two_statements ∷ None ∷ []) start ≡ around_both
added_braces = refl

-- ---- `- d(x);` and `+ e(x);`: one statement for another

abbrev replaced : NewText
replaced = text_of one_if (10 ∷ 11 ∷ 12 ∷ 13 ∷ 14 ∷ []) (placed 10 false 0 ∷ []) (e_call ∷ [])

replaced_row : texts (tokens_in (row_of replaced leaves (statement 0 at_body ∷ []) body [])) ≡ e_call
replaced_row = refl

replaced_braces : see_all replaced leaves (statement 0 at_body ∷ []) (body ∷ own_block ∷ []) (one_statement ∷ None ∷ []) start ≡ start
replaced_braces = refl

-- ---- `+ e(x);` and ` d(x);`: the braces stand before what comes, and behind the `;`

abbrev before : NewText
before = text_of one_if [] (placed 10 false 0 ∷ []) (e_call ∷ [])

before_row : texts (tokens_in (row_of before leaves (statement 0 at_body ∷ []) body [])) ≡ e_call ++ codes "d" ∷ codes "("
    ∷ codes "a" ∷ codes ")" ∷ codes ";" ∷ []
before_row = refl

before_braces : see_all before leaves (statement 0 at_body ∷ []) (body ∷ own_block ∷ []) (two_statements ∷ None ∷ []) start
    ≡ record { braces = brace 9 true 0 true 6 ∷ brace 14 true 0 false 6 ∷ []; broken = [] }
before_braces = refl

-- ---- `- d(x);`, `+ e(x);` and `+ g(x);`: two for one, which end before the first token of the run

abbrev two_for_one : NewText
two_for_one = text_of one_if (10 ∷ 11 ∷ 12 ∷ 13 ∷ 14 ∷ []) (placed 10 false 0 ∷ []) ((e_call ++ e_call) ∷ [])

two_for_one_braces : see_all two_for_one leaves (statement 0 at_body ∷ []) (body ∷ own_block ∷ []) (two_statements ∷ None ∷ []) start
    ≡ record { braces = brace 9 true 0 true 6 ∷ brace 10 false 1 false 6 ∷ []; broken = [] }
two_for_one_braces = refl

-- ---- ` if (x)` ` d(x);` and `+ e(x);`: the pattern itself has written the body, so that what comes stands behind the `if`

abbrev behind_if : NewText
behind_if = text_of one_if [] (placed 14 true 0 ∷ []) (e_call ∷ [])

behind_if_row : texts (tokens_in (row_of behind_if leaves (statement 0 at_if ∷ []) body [])) ≡ codes "d" ∷ codes "(" ∷ codes "a" ∷ codes ")" ∷ codes ";" ∷ []
behind_if_row = refl

behind_if_braces : see_all behind_if leaves (statement 0 at_if ∷ []) (body ∷ own_block ∷ []) (None ∷ None ∷ []) start ≡ start
behind_if_braces = refl

-- another touch, whose pattern names the body alone, inserts too: then both are in the row, the deeper one first
both_behind : see_all (text_of one_if [] (placed 14 true 1 ∷ placed 14 true 0 ∷ []) (e_call ∷ e_call ∷ [])) leaves
    (statement 0 at_if ∷ statement 1 at_body ∷ []) (body ∷ own_block ∷ []) (two_statements ∷ None ∷ []) start ≡ around_both
both_behind = refl

-- ---- all of a body goes

-- `- while (x) d(x);` in `if (a) while (a) d(a);`: an empty row
abbrev nested : List (List ℕ)
nested = codes "if" ∷ codes "(" ∷ codes "a" ∷ codes ")" ∷ codes "while" ∷ codes "(" ∷ codes "a" ∷ codes ")" ∷ codes "d" ∷ codes ";" ∷ []

abbrev inner : Body
inner = record body { path = 4 ∷ 4 ∷ []; leaves = record { from = 8; to = 10 }; owner = 4 }

abbrev outer : Body
outer = record body { path = 4 ∷ []; leaves = record { from = 4; to = 10 }; owner = 0; has_semicolon = false }

abbrev ten : List ℕ
ten = 0 ∷ 1 ∷ 2 ∷ 3 ∷ 4 ∷ 5 ∷ 6 ∷ 7 ∷ 8 ∷ 9 ∷ []

empty_row : see_all (text_of nested (4 ∷ 5 ∷ 6 ∷ 7 ∷ 8 ∷ 9 ∷ []) [] []) ten (statement 0 (4 ∷ []) ∷ []) (inner ∷ outer ∷ []) (None ∷ two_statements ∷ []) start
    ≡ record { braces = brace 3 true 0 true 0 ∷ brace 3 true 0 false 0 ∷ []; broken = [] }
empty_row = refl

-- ` S` and `++ g(1);` at both: the inner body gets braces first, and they are in the row of the outer one
abbrev both_added : NewText
both_added = text_of nested [] (placed 9 true 1 ∷ placed 9 true 0 ∷ []) (e_call ∷ e_call ∷ [])

inner_first : see_all both_added ten (statement 0 (4 ∷ []) ∷ statement 1 (4 ∷ 4 ∷ []) ∷ []) (inner ∷ outer ∷ []) (two_statements ∷ two_statements ∷ []) start
    ≡ record { braces = brace 7 true 0 true 4 ∷ brace 9 true 1 false 4 ∷ brace 3 true 0 true 0 ∷ brace 9 true 2 false 0 ∷ []; broken = [] }
inner_first = refl

outer_row : texts (tokens_in (row_of both_added ten (statement 0 (4 ∷ []) ∷ statement 1 (4 ∷ 4 ∷ []) ∷ []) outer
    (brace 7 true 0 true 4 ∷ brace 9 true 1 false 4 ∷ [])))
    ≡ codes "while" ∷ codes "(" ∷ codes "a" ∷ codes ")" ∷ codes "{" ∷ codes "d" ∷ codes ";" ∷ (e_call ++ codes "}" ∷ e_call)
outer_row = refl

-- ---- an `if` in place of the first body of an `if` with `else`

-- `if (a) d; else b;`
abbrev with_else : List (List ℕ)
with_else = codes "if" ∷ codes "(" ∷ codes "a" ∷ codes ")" ∷ codes "d" ∷ codes ";" ∷ codes "else" ∷ codes "b" ∷ codes ";" ∷ []

abbrev nine : List ℕ
nine = 0 ∷ 1 ∷ 2 ∷ 3 ∷ 4 ∷ 5 ∷ 6 ∷ 7 ∷ 8 ∷ []

abbrev first_body : Body
first_body = record body { path = 4 ∷ []; leaves = record { from = 4; to = 6 }; owner = 0; second_end = Some 9 }

abbrev second_body : Body
second_body = record body { path = 6 ∷ []; leaves = record { from = 7; to = 9 }; owner = 0 }

-- `- d;` and `+ if (a) e(a);`
if_before_else : see_all (text_of with_else (4 ∷ 5 ∷ []) (placed 4 false 0 ∷ []) (e_call ∷ [])) nine (statement 0 (4 ∷ []) ∷ [])
    (first_body ∷ second_body ∷ []) (an_if ∷ None ∷ []) start
    ≡ record { braces = brace 3 true 0 true 0 ∷ brace 4 false 1 false 0 ∷ []; broken = [] }
if_before_else = refl

-- the same in the second body, where no `else` comes next
if_at_end : see_all (text_of with_else (7 ∷ 8 ∷ []) (placed 7 false 0 ∷ []) (e_call ∷ [])) nine (statement 0 (6 ∷ []) ∷ [])
    (first_body ∷ second_body ∷ []) (None ∷ an_if ∷ []) start ≡ start
if_at_end = refl

-- ` if (x)` and `- d; else`: the two bodies are one, of which `b;` stays
joined_row : texts (tokens_in (row_of (text_of with_else (4 ∷ 5 ∷ 6 ∷ []) [] []) nine (statement 0 [] ∷ []) first_body [])) ≡ codes "b" ∷ codes ";" ∷ []
joined_row = refl

joined_bodies : see_all (text_of with_else (4 ∷ 5 ∷ 6 ∷ []) [] []) nine (statement 0 [] ∷ []) (first_body ∷ second_body ∷ [])
    (one_statement ∷ None ∷ []) start ≡ start
joined_bodies = refl

-- `- else b;`: the first body is as before, and the second doesn't count
else_goes : see_all (text_of with_else (6 ∷ 7 ∷ 8 ∷ []) [] []) nine (statement 0 [] ∷ []) (first_body ∷ second_body ∷ []) (None ∷ None ∷ []) start ≡ start
else_goes = refl

-- ---- blocks

-- `if (a) { b; }`
abbrev with_block : List (List ℕ)
with_block = codes "if" ∷ codes "(" ∷ codes "a" ∷ codes ")" ∷ codes "{" ∷ codes "b" ∷ codes ";" ∷ codes "}" ∷ []

abbrev eight : List ℕ
eight = 0 ∷ 1 ∷ 2 ∷ 3 ∷ 4 ∷ 5 ∷ 6 ∷ 7 ∷ []

abbrev block : Body
block = record body { path = 4 ∷ []; leaves = record { from = 4; to = 8 }; owner = 0; is_block = true; has_semicolon = false }

-- what changes within its braces doesn't count
within_block : see_all (text_of with_block (5 ∷ 6 ∷ []) (placed 5 false 0 ∷ []) (e_call ∷ [])) eight
    (statement 0 (4 ∷ 1 ∷ []) ∷ []) (block ∷ []) (None ∷ []) start ≡ start
within_block = refl

-- `- {` and `- }`: `b;` alone needs none, and with another statement it gets new braces
without_braces : texts (tokens_in (row_of (text_of with_block (4 ∷ 7 ∷ []) [] []) eight (statement 0 [] ∷ []) block [])) ≡ codes "b" ∷ codes ";" ∷ []
without_braces = refl

block_opened : see_all (text_of with_block (4 ∷ 7 ∷ []) [] []) eight (statement 0 [] ∷ []) (block ∷ []) (two_statements ∷ []) start
    ≡ record { braces = brace 3 true 0 true 0 ∷ brace 6 true 0 false 0 ∷ []; broken = [] }
block_opened = refl

-- `- {` alone leaves what is no list of statements
torn_block : see_all (text_of with_block (4 ∷ []) [] []) eight (statement 0 [] ∷ []) (block ∷ []) (None ∷ []) start ≡ record { braces = []; broken = 7 ∷ [] }
torn_block = refl

-- ---- what can't be had

-- ` d(x);` and `+ else e(x);`
no_statements : see_all added leaves (statement 0 at_body ∷ []) (body ∷ own_block ∷ []) (None ∷ None ∷ []) start ≡ record { braces = []; broken = 14 ∷ [] }
no_statements = refl

-- the function's own `{` goes while `void f(void)` stays
torn_function : see_all (text_of one_if (5 ∷ []) [] []) leaves [] (own_block ∷ []) (None ∷ []) start ≡ record { braces = []; broken = 15 ∷ [] }
torn_function = refl

-- all of its block goes, and `;` comes
declared : see_all (text_of one_if (5 ∷ 6 ∷ 7 ∷ 8 ∷ 9 ∷ 10 ∷ 11 ∷ 12 ∷ 13 ∷ 14 ∷ 15 ∷ []) (placed 5 false 0 ∷ []) ((codes ";" ∷ []) ∷ [])) leaves []
    (own_block ∷ []) (None ∷ []) start ≡ start
declared = refl

-- nothing changes
unchanged : see_all (text_of one_if [] [] []) leaves [] (body ∷ own_block ∷ []) (None ∷ None ∷ []) start ≡ start
unchanged = refl
