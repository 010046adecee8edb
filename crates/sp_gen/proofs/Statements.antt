-- The result of a draw, one more statement, and one more function.
use Rattle.std.proofs.Common.{◌≡◌, ◌≢◌, ℕ, zero, suc, ◌+◌, ◌%◌, ◌⊎◌, inl, inr, true, false, eqb, refl, sym, ap, ◌∙◌, List, []}
use Rattle.std.proofs.Common.{◌++◌, append_assoc, Result, Ok, Err, OnOk, arith, codes, add-zero}
use Rattle.std.specs.Fmt.{decimal}
use Rattle.std.proofs.lemmas.List.{append-nil}
use Rattle.std.proofs.lemmas.Bool.Decides.{eqb_tells}
use Rattle.sp_gen.specs.Generated.{next_state, statement_text, statement, after_statement, statements, after_statements, function, functions_from}

-- the appended text is the expected one
pub put_in : {X E : Type 0} (r : Result X E) (after before put wanted : List ℕ) → OnOk r (after ≡ before ++ put) → put ≡ wanted
    → OnOk r (after ≡ before ++ wanted)
put_in (Ok x) after before put wanted h e = h ∙ ap (λ t. before ++ t) e
put_in (Err x) after before put wanted h e = h

pub at_ok : {X E : Type 0} (r : Result X E) (P : Type 0) → P → OnOk r P
at_ok (Ok x) P h = h
at_ok (Err x) P h = tt

-- ---- one statement

pub is_assignment : (state : ℕ) → next_state state % 6 ≡ 3
    → statement state ≡ codes "\ta = g(a, " ++ decimal (next_state (next_state state) % 10) ++ codes ");\n"
unfolding statement
is_assignment state e = ap (λ d. statement_text d (next_state (next_state state) % 10)) e

pub is_plain : (state d : ℕ) → next_state state % 6 ≡ d → d ≢ 3 → statement state ≡ statement_text d 0
unfolding statement
is_plain state d e h = ap (λ k. statement_text k (next_state (next_state state) % 10)) e ∙ by (eqb_tells d 3)
  where
    by : ((eqb d 3 ≡ true) × (d ≡ 3)) ⊎ ((eqb d 3 ≡ false) × (d ≢ 3)) → statement_text d (next_state (next_state state) % 10) ≡ statement_text d 0
    by (inl (t, same)) = absurd (h same)
    by (inr (f, not)) = rw f refl

pub after_assignment : (state : ℕ) → next_state state % 6 ≡ 3 → after_statement state ≡ next_state (next_state state)
unfolding after_statement
after_assignment state e = rw e refl

pub after_plain : (state d : ℕ) → next_state state % 6 ≡ d → d ≢ 3 → after_statement state ≡ next_state state
unfolding after_statement
after_plain state d e h = by (eqb_tells d 3)
  where
    by : ((eqb d 3 ≡ true) × (d ≡ 3)) ⊎ ((eqb d 3 ≡ false) × (d ≢ 3)) → after_statement state ≡ next_state state
    by (inl (t, same)) = absurd (h same)
    by (inr (f, not)) = rw (e, f) refl

-- ---- no statement, and one more

pub no_statement : (state : ℕ) → statements 0 state ≡ []
unfolding statements
no_statement state = refl

pub after_none : (state : ℕ) → after_statements 0 state ≡ state
unfolding after_statements
after_none state = refl

pub no_functions : (k state : ℕ) → functions_from 0 k state ≡ []
unfolding functions_from
no_functions k state = refl

pub statements_more : (n state : ℕ) → statements (suc n) state ≡ statements n state ++ statement (after_statements n state)
unfolding statements after_statements
statements_more zero state = append-nil (statement state)
statements_more (suc n) state =
    ap (λ l. statement state ++ l) (statements_more n (after_statement state))
    ∙ sym (append_assoc (statement state) (statements n (after_statement state)) (statement (after_statements n (after_statement state))))

pub after_more : (n state : ℕ) → after_statements (suc n) state ≡ after_statement (after_statements n state)
unfolding after_statements
after_more zero state = refl
after_more (suc n) state = after_more n (after_statement state)

-- the state after this many functions
pub after_functions : ℕ → ℕ → ℕ
after_functions zero state = state
after_functions (suc n) state = after_functions n (after_statements 6 state)

pub no_function : (state : ℕ) → after_functions 0 state ≡ state
unfolding after_functions
no_function state = refl

pub functions_more : (n k state : ℕ) → functions_from (suc n) k state ≡ functions_from n k state ++ function (k + n) (after_functions n state)
unfolding functions_from after_functions
functions_more zero k state = append-nil (function k state) ∙ ap (λ j. function j state) (sym (add-zero k))
functions_more (suc n) k state =
    ap (λ l. function k state ++ l) (functions_more n (k + 1) (after_statements 6 state))
    ∙ sym (append_assoc (function k state) (functions_from n (k + 1) (after_statements 6 state))
    (function (k + 1 + n) (after_functions n (after_statements 6 state))))
    ∙ ap (λ j. function k state ++ functions_from n (k + 1) (after_statements 6 state) ++ function j (after_functions n (after_statements 6 state))) moved
  where
    moved : k + 1 + n ≡ k + suc n
    moved = omega arith

pub after_functions_more : (n state : ℕ) → after_functions (suc n) state ≡ after_statements 6 (after_functions n state)
unfolding after_functions
after_functions_more zero state = refl
after_functions_more (suc n) state = after_functions_more n (after_statements 6 state)
