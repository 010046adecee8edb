-- Lists by their places, a row with one more set, and what a row's variables say about a set.
use Rattle.std.proofs.Common.{◌≡◌, ℕ, suc, zero, ◌+◌, ◌<◌, ◌≤◌, Bool, true, false, ◌&&◌, refl, sym, ap, ◌∙◌, subst, arith}
use Rattle.std.proofs.Common.{List, [], ◌∷◌, ◌++◌, length, get_or, set, take, ⊎_elim, length-append, Contains}
use Rattle.std.specs.Bool.{Decides}
use Rattle.std.specs.List.{list_all, All}
use Rattle.std.proofs.lemmas.Bool.{cases_lt}
use Rattle.smpl_terms.specs.declared.var.Var.{Var}
use Rattle.smpl_terms.specs.Environments.{Environment, change}
use Rattle.env_sets.specs.Sets.{Entries, set_denotes, set_vars, ForSomeValue}
use Rattle.ctl_fixpoint.proofs.CtlHolds.TestLemmas.{and_left, and_right, and_both}
use Rattle.ctl_fixpoint.specs.Steps.{set_of, has, row_vars, Gives, Projects}

any_default : (xs : List ℕ) (i : ℕ) → i < length xs → (d e : ℕ) → get_or xs i d ≡ get_or xs i e
any_default [] i lt d e = absurd (omega (arith, lt))
any_default (x ∷ xs) zero lt d e = refl
any_default (x ∷ xs) (suc i) lt d e = any_default xs i (omega (arith, lt)) d e

pub member : (xs : List ℕ) (i : ℕ) → i < length xs → Contains xs (get_or xs i 0)
member xs i lt = (i, lt, any_default xs i lt (get_or xs i 0) 0)

pub take_all : (xs : List ℕ) (i : ℕ) → length xs ≤ i → take i xs ≡ xs
take_all [] zero le = refl
take_all [] (suc i) le = refl
take_all (x ∷ xs) zero le = absurd (omega (arith, le))
take_all (x ∷ xs) (suc i) le = ap (λ l. x ∷ l) (take_all xs i (omega (arith, le)))

-- when each successor has been checked, none has changed since the node was computed
pub looked_at : (items next inner seen changed : List ℕ) (i s v : ℕ) → items ≡ next → length items ≤ i
    → ((k : ℕ) → Contains (take i items) k → get_or changed k 0 ≤ v) → inner ≡ seen → v ≡ get_or inner s v
    → s < length seen → (k : ℕ) → Contains next k → get_or changed k 0 ≤ get_or seen s 0
looked_at items next inner seen changed i s v e le h j r lt k m =
    let t = h k (subst (λ l. Contains l k) (sym (take_all items i le)) (subst (λ l. Contains l k) (sym e) m)) in
    let w : v ≡ get_or seen s 0 = r ∙ ap (λ l. get_or l s v) j ∙ any_default seen s lt v 0 in
    omega (arith, t, w)

at_below : (row : List Entries) (e : Entries) (s : ℕ) → s < length row → set_of row s ≡ set_of (row ++ e ∷ []) s
at_below [] e s lt = absurd (omega (arith, lt))
at_below (x ∷ row) e zero lt = refl
at_below (x ∷ row) e (suc s) lt = at_below row e s (omega (arith, lt))

at_last : (row : List Entries) (e : Entries) → e ≡ set_of (row ++ e ∷ []) (length row)
at_last [] e = refl
at_last (x ∷ row) e = at_last row e

-- what holds for each set, and for one more
pushed : (P : ℕ → Entries → Type 0) (n : ℕ) (row : List Entries) (e : Entries) → length row ≡ n
    → ((s : ℕ) → s < n → P s (set_of row s)) → P n e → (s : ℕ) → s < n + 1 → P s (set_of (row ++ e ∷ []) s)
pushed P n row e len h last s lt = ⊎_elim
    (λ (below : s < n). subst (P s) (at_below row e s (omega (arith, below, len))) (h s below))
    (λ (from : n ≤ s).
    let is : n ≡ s = omega (arith, from, lt) in
    let same : e ≡ set_of (row ++ e ∷ []) s = at_last row e ∙ ap (set_of (row ++ e ∷ [])) (len ∙ is) in
    subst (P s) same (subst (λ k. P k e) is last))
    (cases_lt s n)

pub Gives-push : (n : ℕ) (row : List Entries) (e : Entries) (test : ℕ → Environment → Bool) → Gives n row test
    → ((env : Environment) → set_denotes e env ≡ test n env) → Gives (n + 1) (row ++ e ∷ []) test
Gives-push n row e test h last = record {
  len = omega (arith, h.len, length-append row (e ∷ []));
  means = pushed (λ s x. (env : Environment) → set_denotes x env ≡ test s env) n row e h.len h.means last;
}

pub Projects-push : (n : ℕ) (x : Var) (a row : List Entries) (e : Entries) → Projects n x a row
    → ((env : Environment) → Decides (set_denotes e env) (ForSomeValue (λ v. has a n (change env x v))))
    → Projects (n + 1) x a (row ++ e ∷ [])
Projects-push n x a row e h last = record {
  len = omega (arith, h.len, length-append row (e ∷ []));
  means = pushed
      (λ s r. (env : Environment) → Decides (set_denotes r env) (ForSomeValue (λ v. has a s (change env x v))))
      n row e h.len h.means last;
}

pub row_vars-push : (test : Var → Bool) (row : List Entries) (e : Entries) → row_vars test row ≡ true
    → set_vars test e ≡ true → row_vars test (row ++ e ∷ []) ≡ true
row_vars-push test [] e h k = and_both _ _ k refl
row_vars-push test (x ∷ row) e h k =
    and_both _ _ (and_left _ _ h) (row_vars-push test row e (and_right (set_vars test x) _ h) k)

pub row_vars-at : (test : Var → Bool) (row : List Entries) (s : ℕ) → row_vars test row ≡ true → s < length row
    → set_vars test (set_of row s) ≡ true
row_vars-at test [] s h lt = absurd (omega (arith, lt))
row_vars-at test (x ∷ row) zero h lt = and_left _ _ h
row_vars-at test (x ∷ row) (suc s) h lt = row_vars-at test row s (and_right (set_vars test x) _ h) (omega (arith, lt))

pub row_vars-set : (test : Var → Bool) (row : List Entries) (s : ℕ) (e : Entries) → row_vars test row ≡ true
    → set_vars test e ≡ true → row_vars test (set row s e) ≡ true
row_vars-set test [] s e h k = refl
row_vars-set test (x ∷ row) zero e h k = and_both _ _ k (and_right (set_vars test x) _ h)
row_vars-set test (x ∷ row) (suc s) e h k =
    and_both _ _ (and_left _ _ h) (row_vars-set test row s e (and_right (set_vars test x) _ h) k)

pub row_vars-none : (test : Var → Bool) (row : List Entries) → All (λ e. e ≡ []) row → row_vars test row ≡ true
row_vars-none test [] h = refl
row_vars-none test (x ∷ row) h =
    and_both _ _ (ap (set_vars test) (h 0 [] (omega arith)))
    (row_vars-none test row (λ k d lt. h (suc k) d (omega (arith, lt))))
