-- Small bodies, split.
use Rattle.std.proofs.Common.{◌≡◌, ℕ, Bool, true, false, List, [], ◌∷◌, refl, codes, map}
use Rattle.c_terms.specs.declared.token.TokenKind.{TokenKind}
use Rattle.c_terms.specs.declared.token.TokenKind.TheVariants.{Name, Punct, Dots, Pat}
use Rattle.smpl_meta.specs.declared.patterns.Placed.{Placed}
use Rattle.smpl_body.specs.declared.smpl_when.cutting.Code.{Code}
use Rattle.smpl_body.specs.declared.smpl_when.clauses.WhenFlags.{WhenFlags}
use Rattle.smpl_body.specs.SmplWhen.Cutting.{cut}
use Rattle.smpl_body.specs.SmplWhen.Grammar.{IsParted, Apart, with_own, with_code, nothing}
use Rattle.smpl_body.specs.SmplWhen.Grammar.IsParted.{ends, plain, dots, apart, differs}

-- the token with a given number, in the line with a given number
abbrev placed : TokenKind → List ℕ → ℕ → ℕ → Placed
placed k text id line = record { token = record { kind = k; text = text; id = id }; at = 0; sign = 32; line = line; positions = [] }

abbrev ids : Code → List ℕ
ids c = map (λ t. t.id) c.tokens

abbrev hosts : List Code → List ℕ
hosts cs = map (λ (c : Code). c.host) cs

-- `f`, `... when any when != x`, `h`
abbrev two_clauses : List Placed
two_clauses =
    placed Name (codes "f") 0 0 ∷ placed Dots (codes "...") 1 1 ∷ placed Name (codes "when") 2 1 ∷ placed Name (codes "any") 3 1
    ∷ placed Name (codes "when") 4 1 ∷ placed Punct (codes "!=") 5 1 ∷ placed Name (codes "x") 6 1 ∷ placed Name (codes "h") 7 2 ∷ []

own_tokens : map (λ t. t.id) (cut two_clauses).main ≡ 0 ∷ 1 ∷ 7 ∷ []
own_tokens = refl

code_up_to_the_line_s_end : map ids (cut two_clauses).codes ≡ (6 ∷ []) ∷ []
code_up_to_the_line_s_end = refl

words_of_clauses : (cut two_clauses).words ≡ 2 ∷ 3 ∷ 4 ∷ 5 ∷ []
words_of_clauses = refl

-- code continues past `when` if no dots precede it, and what follows in the next line is a clause of the first dots
abbrev code_in_code : List Placed
code_in_code =
    placed Dots (codes "...") 0 0 ∷ placed Name (codes "when") 1 0 ∷ placed Punct (codes "!=") 2 0 ∷ placed Dots (codes "...") 3 0
    ∷ placed Name (codes "when") 4 0 ∷ placed Punct (codes "!=") 5 0 ∷ placed Name (codes "x") 6 0
    ∷ placed Name (codes "when") 7 1 ∷ placed Punct (codes "!=") 8 1 ∷ placed Name (codes "y") 9 1 ∷ []

hosts_of_codes : hosts (cut code_in_code).codes ≡ 0 ∷ 3 ∷ 0 ∷ []
hosts_of_codes = refl

inner_code : map ids (cut code_in_code).codes ≡ (3 ∷ []) ∷ (6 ∷ []) ∷ (9 ∷ []) ∷ []
inner_code = refl

-- a `when` that nothing follows, and one that follows no dots, which is a name
nothing_follows : (cut (placed Dots (codes "...") 0 0 ∷ placed Name (codes "when") 1 0 ∷ [])).broken ≡ true
nothing_follows = refl

plain_name : map (λ t. t.id) (cut (placed Name (codes "f") 0 0 ∷ placed Name (codes "when") 1 0 ∷ [])).main ≡ 0 ∷ 1 ∷ []
plain_name = refl

-- ---- where two readings differ

abbrev any_of : List WhenFlags → List Bool
any_of ss = map (λ (s : WhenFlags). s.any) ss

abbrev codes_of : List WhenFlags → List (List ℕ)
codes_of ss = map (λ (s : WhenFlags). s.codes) ss

-- `... when when any`: the first `when` is malformed, and the second begins a clause of the same dots
abbrev twice_when : List Placed
twice_when = placed Dots (codes "...") 0 0 ∷ placed Name (codes "when") 1 0 ∷ placed Name (codes "when") 2 0 ∷ placed Name (codes "any") 3 0 ∷ []

first_is_malformed : (cut twice_when).broken ≡ true
first_is_malformed = refl

second_is_a_clause : any_of (cut twice_when).said ≡ true ∷ false ∷ false ∷ false ∷ []
second_is_a_clause = refl

-- `when` at the end of a line and `any` in the next: malformed, and `any` is a token of the body
abbrev next_line : List Placed
next_line = placed Dots (codes "...") 0 0 ∷ placed Name (codes "when") 1 0 ∷ placed Name (codes "any") 2 1 ∷ []

word_in_the_next_line : map (λ t. t.id) (cut next_line).main ≡ 0 ∷ 2 ∷ []
word_in_the_next_line = refl

next_line_is_malformed : (cut next_line).broken ≡ true
next_line_is_malformed = refl

-- a line that begins with `when` continues the clauses; the clause itself may be in a later line than its dots
abbrev later_line : List Placed
later_line = placed Dots (codes "...") 0 0 ∷ placed Name (codes "when") 1 1 ∷ placed Name (codes "any") 2 1 ∷ placed Name (codes "h") 3 1 ∷ []

clause_in_a_later_line : any_of (cut later_line).said ≡ true ∷ false ∷ false ∷ false ∷ []
clause_in_a_later_line = refl

-- after a clause, the body continues in the same line
body_goes_on : map (λ t. t.id) (cut later_line).main ≡ 0 ∷ 3 ∷ []
body_goes_on = refl

-- `... when != x when any`: all of `x when any` is code, since no dots precede its `when`
abbrev name_in_code : List Placed
name_in_code =
    placed Dots (codes "...") 0 0 ∷ placed Name (codes "when") 1 0 ∷ placed Punct (codes "!=") 2 0 ∷ placed Name (codes "x") 3 0
    ∷ placed Name (codes "when") 4 0 ∷ placed Name (codes "any") 5 0 ∷ []

when_is_a_name_in_code : map ids (cut name_in_code).codes ≡ (3 ∷ 4 ∷ 5 ∷ []) ∷ []
when_is_a_name_in_code = refl

-- `... when != ... when any x` and then `when any`: the first `any` belongs to the dots in the code, the second to those of
-- the body, and the code continues after the clause in it
abbrev any_in_code : List Placed
any_in_code =
    placed Dots (codes "...") 0 0 ∷ placed Name (codes "when") 1 0 ∷ placed Punct (codes "!=") 2 0 ∷ placed Dots (codes "...") 3 0
    ∷ placed Name (codes "when") 4 0 ∷ placed Name (codes "any") 5 0 ∷ placed Name (codes "x") 6 0
    ∷ placed Name (codes "when") 7 1 ∷ placed Name (codes "any") 8 1 ∷ []

each_any_of_its_dots : any_of (cut any_in_code).said ≡ true ∷ false ∷ false ∷ true ∷ false ∷ false ∷ false ∷ false ∷ false ∷ []
each_any_of_its_dots = refl

code_goes_on : map ids (cut any_in_code).codes ≡ (3 ∷ 6 ∷ []) ∷ []
code_goes_on = refl

-- pieces of code are numbered as they begin: 0 and 2 for the first dots, 1 for the dots in code
numbers_of_codes : codes_of (cut code_in_code).said ≡ (0 ∷ 2 ∷ []) ∷ [] ∷ [] ∷ (1 ∷ []) ∷ [] ∷ [] ∷ [] ∷ [] ∷ [] ∷ [] ∷ []
numbers_of_codes = refl

-- `when !=` at the end of a line has code without tokens, and what follows in the next line isn't code
abbrev no_code : List Placed
no_code = placed Dots (codes "...") 0 0 ∷ placed Name (codes "when") 1 0 ∷ placed Punct (codes "!=") 2 0 ∷ placed Name (codes "h") 3 1 ∷ []

code_without_tokens : map ids (cut no_code).codes ≡ [] ∷ []
code_without_tokens = refl

-- the grammar says so too
no_code_is_parted : IsParted false Apart no_code
    (with_own (placed Dots (codes "...") 0 0)
    (with_code false 0 (placed Name (codes "when") 1 0) (placed Punct (codes "!=") 2 0) nothing (with_own (placed Name (codes "h") 3 1) nothing)))
no_code_is_parted = dots _ refl (differs _ _ refl ends (apart refl (plain _ refl ends)))

-- the end of a nest can have clauses, its beginning can't
nest_ends : any_of (cut (placed Pat (codes "...>") 0 0 ∷ placed Name (codes "when") 1 0 ∷ placed Name (codes "any") 2 0 ∷ [])).said ≡ true ∷ false ∷ false ∷ []
nest_ends = refl

nest_begins : map (λ t. t.id) (cut (placed Pat (codes "<...") 0 0 ∷ placed Name (codes "when") 1 0 ∷ placed Name (codes "any") 2 0 ∷ [])).main ≡ 0 ∷ 1 ∷ 2 ∷ []
nest_begins = refl
