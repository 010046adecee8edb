-- The text that is generated from a seed: functions of six statements, each chosen by a small pseudo-random number generator.
use Rattle.std.specs.Prelude.{ℕ, zero, suc, ◌+◌, ◌*◌, ◌%◌, ◌==◌, if◌then◌else◌, List, [], ◌++◌, codes}
use Rattle.std.specs.Fmt.{decimal}

-- ---- the generator

abbrev pub first_state : ℕ → ℕ
first_state seed = seed % 65537

-- the state after a draw; a number drawn below n is this state modulo n
abbrev pub next_state : ℕ → ℕ
next_state state = (75 * state + 74) % 65537

-- ---- statements

-- the statement that a draw below 6 represents; an assignment contains a number that a further draw gives
abbrev pub statement_text : (drawn number : ℕ) → List ℕ
statement_text drawn number =
    if drawn == 0 then codes "\tlock(a);\n"
    else (if drawn == 1 then codes "\tif (a)\n\t\treturn;\n"
    else (if drawn == 2 then codes "\tunlock(a);\n"
    else (if drawn == 3 then codes "\ta = g(a, " ++ decimal number ++ codes ");\n"
    else (if drawn == 4 then codes "\twhile (a)\n\t\th(a);\n"
    else codes "\tx = p(a);\n"))))

-- the statement that is generated from a state
unfoldable pub statement : ℕ → List ℕ
statement state = let s = next_state state in statement_text (s % 6) (next_state s % 10)

-- the state after that statement
unfoldable pub after_statement : ℕ → ℕ
after_statement state = let s = next_state state in if s % 6 == 3 then next_state s else s

-- this many statements, one after another
unfoldable pub statements : ℕ → ℕ → List ℕ
statements zero state = []
statements (suc n) state = statement state ++ statements n (after_statement state)

unfoldable pub after_statements : ℕ → ℕ → ℕ
after_statements zero state = state
after_statements (suc n) state = after_statements n (after_statement state)

-- ---- functions

-- the function with number k
abbrev pub function : (k state : ℕ) → List ℕ
function k state = codes "void f" ++ decimal k ++ codes "(int a)\n{\n" ++ statements 6 state ++ codes "}\n"

-- this many functions, the first one with number k
unfoldable pub functions_from : (count k state : ℕ) → List ℕ
functions_from zero k state = []
functions_from (suc n) k state = function k state ++ functions_from n (k + 1) (after_statements 6 state)

-- the text with this many functions
abbrev pub generated : (seed count : ℕ) → List ℕ
generated seed count = functions_from count 0 (first_state seed)
