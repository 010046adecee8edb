-- Meets and joins that share blocks.
use Rattle.std.proofs.Common.{◌≡◌, ◌<◌, ◌≤◌, Bool, true, false, ◌&&◌, ◌||◌, not, eqb, refl, sym, ap, ◌∙◌, arith, List, [], ◌∷◌, ◌++◌, length, get_or}
use Rattle.std.specs.Prelude.{Result, Option, Some, None, IfOk, IfSome}
use Rattle.std.proofs.lemmas.Bool.Decides.{nat_tests}
use Rattle.std.proofs.lemmas.Result.{IfOk-weaker}
use Rattle.smpl_terms.specs.declared.var.Var.{Var}
use Rattle.smpl_terms.specs.Environments.{Environment}
use Rattle.env_sets.specs.declared.bounds.Bound.{Bound}
use Rattle.env_sets.specs.Sets.{Entries, entry_denotes, set_denotes, set_vars}
use Rattle.env_sets.specs.Blocks.{all_entries}
use Rattle.env_sets.proofs.BlockLemmas.{denotes-append, vars-append}
use Rattle.env_sets.proofs.LoopLemmas.{both_parts, either_true}
use Rattle.env_sets.proofs.PairLemmas.{both_true}

or_inside : (f r e : Bool) → (f || (r || e)) ≡ ((f || r) || e)
or_inside true r e = refl
or_inside false r e = refl

-- other blocks after the same entries
pub with_rest : (set first copies new : Entries) (rest more : List Entries) (e : List (Var × Bound)) (env : Environment)
    → first ++ all_entries rest ≡ set → copies ≡ first → new ≡ copies ++ all_entries more
    → set_denotes (all_entries more) env ≡ (set_denotes (all_entries rest) env || entry_denotes e env)
    → set_denotes new env ≡ (set_denotes set env || entry_denotes e env)
with_rest set first copies new rest more e env is same made h =
    ap (λ es. set_denotes es env) (made ∙ ap (λ fs. fs ++ all_entries more) same)
    ∙ denotes-append first (all_entries more) env
    ∙ ap (λ b. set_denotes first env || b) h
    ∙ or_inside (set_denotes first env) (set_denotes (all_entries rest) env) (entry_denotes e env)
    ∙ ap (λ b. b || entry_denotes e env) (sym (denotes-append first (all_entries rest) env) ∙ ap (λ es. set_denotes es env) is)

pub with_rest_vars : (set first copies new : Entries) (rest more : List Entries) (t : Var → Bool)
    → first ++ all_entries rest ≡ set → copies ≡ first → new ≡ copies ++ all_entries more
    → (set_vars t (all_entries rest) ≡ true → set_vars t (all_entries more) ≡ true)
    → set_vars t set ≡ true → set_vars t new ≡ true
with_rest_vars set first copies new rest more t is same made h all =
    let parts = both_parts (set_vars t first) (set_vars t (all_entries rest)) (sym (vars-append first (all_entries rest) t) ∙ ap (set_vars t) is ∙ all) in
    ap (set_vars t) (made ∙ ap (λ fs. fs ++ all_entries more) same)
    ∙ vars-append first (all_entries more) t
    ∙ both_true (set_vars t first) (set_vars t (all_entries more)) parts.0 (h parts.1)

pub first_holds : (set first : Entries) (rest : List Entries) (env : Environment) → first ++ all_entries rest ≡ set
    → set_denotes first env ≡ true → set_denotes set env ≡ true
first_holds set first rest env is h =
    ap (λ es. set_denotes es env) (sym is) ∙ denotes-append first (all_entries rest) env
    ∙ either_true (set_denotes first env) (set_denotes (all_entries rest) env) h

or_last : (a b : Bool) → b ≡ true → (a || b) ≡ true
or_last true b h = refl
or_last false b h = h

pub rest_holds : (set first : Entries) (rest : List Entries) (env : Environment) → first ++ all_entries rest ≡ set
    → set_denotes (all_entries rest) env ≡ true → set_denotes set env ≡ true
rest_holds set first rest env is h =
    ap (λ es. set_denotes es env) (sym is) ∙ denotes-append first (all_entries rest) env
    ∙ or_last (set_denotes first env) (set_denotes (all_entries rest) env) h

-- blocks alone
pub rest_alone : (set first new none : Entries) (rest left : List Entries) (s : Bool) (env : Environment)
    → first ++ all_entries rest ≡ set → eqb (length first) 0 ≡ true → none ≡ [] → new ≡ none ++ all_entries left
    → set_denotes (all_entries left) env ≡ (set_denotes (all_entries rest) env && s)
    → set_denotes new env ≡ (set_denotes set env && s)
rest_alone set [] new none rest left s env is empty nothing made h =
    ap (λ es. set_denotes es env) (made ∙ ap (λ es. es ++ all_entries left) nothing)
    ∙ h ∙ ap (λ es. set_denotes es env && s) is
rest_alone set (e ∷ es) new none rest left s env is empty nothing made h = absurd (grind (arith, nat_tests, empty))

pub rest_alone_vars : (set first new none : Entries) (rest left : List Entries) (t : Var → Bool)
    → first ++ all_entries rest ≡ set → eqb (length first) 0 ≡ true → none ≡ [] → new ≡ none ++ all_entries left
    → (set_vars t (all_entries rest) ≡ true → set_vars t (all_entries left) ≡ true)
    → set_vars t set ≡ true → set_vars t new ≡ true
rest_alone_vars set [] new none rest left t is empty nothing made h all =
    ap (set_vars t) (made ∙ ap (λ es. es ++ all_entries left) nothing) ∙ h (ap (set_vars t) is ∙ all)
rest_alone_vars set (e ∷ es) new none rest left t is empty nothing made h all = absurd (grind (arith, nat_tests, empty))

-- lists of one entry, and of none
or_nothing : (b : Bool) → (b || false) ≡ b
or_nothing true = refl
or_nothing false = refl

pub one_denotes : (few : Entries) (e : List (Var × Bound)) (env : Environment) → 1 ≤ length few → length few < 2
    → e ≡ get_or few 0 e → set_denotes few env ≡ entry_denotes e env
one_denotes [] e env some one at = absurd (omega arith)
one_denotes (f ∷ []) e env some one at =
    or_nothing (entry_denotes f env) ∙ ap (λ d. entry_denotes d env) (sym at)
one_denotes (f ∷ g ∷ fs) e env some one at = absurd (omega arith)

pub or_turned : (a b : Bool) → (a || b) ≡ (b || a)
or_turned true true = refl
or_turned true false = refl
or_turned false true = refl
or_turned false false = refl

pub and_turned : (a b : Bool) → (a && b) ≡ (b && a)
and_turned true true = refl
and_turned true false = refl
and_turned false true = refl
and_turned false false = refl

pub and_nothing : (b : Bool) → false ≡ (b && false)
and_nothing true = refl
and_nothing false = refl

and_not : (a b c : Bool) → ((a && not b) && not c) ≡ (a && not (b || c))
and_not true true c = refl
and_not true false c = refl
and_not false b c = refl

-- one more value
pub outside_more : (new rest b c : Bool) (old : Bool) → new ≡ (old && not c) → old ≡ (rest && not b) → new ≡ (rest && not (b || c))
outside_more new rest b c old e f = e ∙ ap (λ x. x && not c) f ∙ and_not rest b c

pub and_always : (b : Bool) → b ≡ (b && true)
and_always true = refl
and_always false = refl

-- what a call may return, in other terms
some_weaker : {X : Type 0} (o : Option X) (P Q : X → Type 0) → ((x : X) → P x → Q x) → IfSome o P → IfSome o Q
some_weaker None P Q f h = h
some_weaker (Some x) P Q f h = f x h

pub in_other_words : {X E : Type 0} (r : Result (Option X) E) (P Q : X → Type 0) → ((x : X) → P x → Q x)
    → IfOk r (λ o. IfSome o P) → IfOk r (λ o. IfSome o Q)
in_other_words r P Q f h = IfOk-weaker r (λ o. IfSome o P) (λ o. IfSome o Q) (λ o k. some_weaker o P Q f k) h

pub none_denotes : (few : Entries) (env : Environment) (b : Bool) → length few < 1 → false ≡ (b && set_denotes few env)
none_denotes [] env b none = and_nothing b
none_denotes (e ∷ es) env b none = absurd (omega arith)

pub all_denotes : (e pairs : List (Var × Bound)) (env : Environment) (b : Bool) → pairs ≡ e → length pairs < 1 → b ≡ (b && entry_denotes e env)
all_denotes e [] env b is none = and_always b ∙ ap (λ ps. b && entry_denotes ps env) is
all_denotes e (p ∷ ps) env b is none = absurd (omega arith)
