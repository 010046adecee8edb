-- How long a generated text may be.
use Rattle.std.proofs.Common.{◌≡◌, ℕ, zero, suc, ◌+◌, ◌*◌, ◌%◌, ◌^◌, ◌<◌, ◌≤◌, Bool, true, false, cond, eqb, List, ◌++◌, length}
use Rattle.std.proofs.Common.{length-append, codes, arith, lit≤}
use Rattle.std.specs.Fmt.{decimal}
use Rattle.std.proofs.lemmas.Fmt.{length-decimal-le}
use Rattle.sp_gen.specs.Generated.{first_state, next_state, statement, after_statement, statements, after_statements, function, functions_from, generated}

either : (b : Bool) (xs ys : List ℕ) (most : ℕ) → length xs ≤ most → length ys ≤ most → length (cond b xs ys) ≤ most
either true xs ys most p q = p
either false xs ys most p q = q

assignment : (n : ℕ) → n < 10 → length (codes "\ta = g(a, " ++ decimal n ++ codes ");\n") ≤ 19
assignment n h =
    let d : length (decimal n) ≤ 1 = length-decimal-le 1 n (omega arith) (omega arith) (omega arith) in
    simp length-append (omega arith)

statement_short : (state : ℕ) → length (statement state) ≤ 19
unfolding statement
statement_short state =
    let d = next_state state % 6 in
    let n = next_state (next_state state) % 10 in
    either (eqb d 0) _ _ 19 (lit≤ tt) (either (eqb d 1) _ _ 19 (lit≤ tt) (either (eqb d 2) _ _ 19 (lit≤ tt)
    (either (eqb d 3) _ _ 19 (assignment n (omega arith)) (either (eqb d 4) _ _ 19 (lit≤ tt) (lit≤ tt)))))

statements_short : (n state : ℕ) → length (statements n state) ≤ 19 * n
unfolding statements
statements_short zero state = omega arith
statements_short (suc n) state =
    let one = statement_short state in
    let more = statements_short n (after_statement state) in
    simp length-append (omega arith)

function_short : (k state : ℕ) → k < 2 ^ 32 → length (function k state) ≤ 142
function_short k state h =
    let digits : length (decimal k) ≤ 10 = length-decimal-le 10 k (omega arith) (omega arith) (omega arith) in
    let six = statements_short 6 state in
    simp length-append (omega arith)

joined : (a b c n : ℕ) → a ≤ 142 → b ≤ 142 * n → c ≡ a + b → c ≤ 142 * suc n
joined a b c n p q e = omega arith

functions_short : (n k state : ℕ) → k + n < 2 ^ 32 → length (functions_from n k state) ≤ 142 * n
unfolding functions_from
functions_short zero k state h = omega arith
functions_short (suc n) k state h =
    let one = function_short k state (omega arith) in
    let more = functions_short n (k + 1) (after_statements 6 state) (omega arith) in
    let both = length-append (function k state) (functions_from n (k + 1) (after_statements 6 state)) in
    joined (length (function k state)) (length (functions_from n (k + 1) (after_statements 6 state))) _ n one more both

pub short_enough : (seed count : ℕ) → count ≤ 100000 → length (generated seed count) ≤ 16777216
short_enough seed count h = let most = functions_short count 0 (first_state seed) (omega arith) in omega arith
