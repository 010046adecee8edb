-- Rows from a child that takes every run in every environment: each set includes that of the member after it.
use Rattle.std.proofs.Common.{◌≡◌, ℕ, suc, zero, ◌+◌, ◌-◌, ◌<◌, ◌≤◌, Bool, true, false, ◌&&◌, ◌||◌, nat_eq, nat_le, refl, sym}
use Rattle.std.proofs.Common.{ap, ap₂, ◌∙◌, arith, List, [], ◌∷◌, ◌++◌, length, take, drop, set, Option, Some, None, slice_get}
use Rattle.std.proofs.lemmas.Bool.Decides.{nat_tests}
use Rattle.std.proofs.lemmas.Grind.{common_steps, get_or-set_at}
use Rattle.std.proofs.lemmas.List.{get_or-set_other}
use Rattle.std.specs.List.{list_all}
use Rattle.c_terms.specs.declared.token.Token.{Token}
use Rattle.c_terms.specs.declared.label.Label.{Label}
use Rattle.c_terms.specs.declared.list.Member.{Member}
use Rattle.c_terms.specs.declared.tree.Tree.{Tree, out-Tree}
use Rattle.c_types.specs.Tables.{ItemTypes}
use Rattle.smpl_terms.specs.declared.var.Var.{Var}
use Rattle.smpl_terms.specs.Environments.{Environment}
use Rattle.env_sets.specs.Sets.{Entries, set_denotes}
use Rattle.smpl_patch.specs.declared.pattern.VarDecl.{VarDecl}
use Rattle.smpl_patch.specs.declared.pattern.PatToken.{PatToken}
use Rattle.pat_match.specs.declared.rows.RowEntry.{RowEntry}
use Rattle.pat_match.specs.Tokens.{id_of, is_bare, has_none, is_place, stands_at}
use Rattle.pat_match.specs.Runs.{is_wild, comma_fits, run_fits, is_bare_comma}
use Rattle.pat_match.specs.Fitting.{leaf_of}
use Rattle.pat_match.specs.Rows.{row_at, tail_at, set_at, step_at, wild_entry}
use Rattle.pat_match.proofs.VarLemmas.{right_of}
use Rattle.pat_match.proofs.RowLemmas.{any_agree, wild_step}

or_false : (b : Bool) → (b || false) ≡ b
or_false true = refl
or_false false = refl

-- sets, one replaced and one more

pub set_at-set : (sets : List Entries) (i n : ℕ) (s : Entries) (env : Environment) (old d : Bool) → i < length sets
    → set_denotes s env ≡ (old || d) → old ≡ set_at sets i env → set_at (set sets i s) n env ≡ (set_at sets n env || (nat_eq i n && d))
set_at-set sets i n s env old d lt e g = by (nat_eq i n) refl
  where
    by : (b : Bool) → nat_eq i n ≡ b → set_at (set sets i s) n env ≡ (set_at sets n env || (nat_eq i n && d))
    by true q =
        let same : n ≡ i = grind (arith, nat_tests) in
        ap (λ x. set_denotes x env) (get_or-set_at sets i n s [] same lt) ∙ e
        ∙ ap (λ b. b || d) (g ∙ ap (λ k. set_at sets k env) (sym same))
        ∙ ap (λ b. set_at sets n env || (b && d)) (sym q)
    by false q =
        ap (λ x. set_denotes x env) (get_or-set_other sets i n s [] (λ same. grind (arith, nat_tests)))
        ∙ sym (or_false (set_at sets n env)) ∙ ap (λ b. set_at sets n env || (b && d)) (sym q)

-- a number past the last set
pub set_at-past : (b d : Bool) (i n count : ℕ) → count ≤ i → n < count → b ≡ (b || (nat_eq i n && d))
set_at-past b d i n count le lt =
    let q : nat_eq i n ≡ false = grind (arith, nat_tests) in
    sym (or_false b) ∙ ap (λ x. b || (x && d)) (sym q)

pub set_at-none : (sets : List Entries) (n : ℕ) (env : Environment) → set_at sets n env ≡ false → set_at (sets ++ [] ∷ []) n env ≡ false
set_at-none [] zero env h = refl
set_at-none [] (suc n) env h = refl
set_at-none (x ∷ xs) zero env h = h
set_at-none (x ∷ xs) (suc n) env h = set_at-none xs n env h

both_true : (a b : Bool) → a ≡ true → b ≡ true → (a && b) ≡ true
both_true true b e h = h
both_true false b e h = e

left_of : (a b : Bool) → (a && b) ≡ true → a ≡ true
left_of true b h = refl
left_of false b h = h

pub all_set : {X : Type 0} (p : X → Bool) (xs : List X) (i : ℕ) (y : X) → list_all p xs ≡ true → p y ≡ true → list_all p (set xs i y) ≡ true
all_set p [] i y h k = refl
all_set p (x ∷ xs) zero y h k = both_true _ _ k (right_of (p x) (list_all p xs) h)
all_set p (x ∷ xs) (suc i) y h k = both_true _ _ (left_of (p x) (list_all p xs) h) (all_set p xs i y (right_of (p x) (list_all p xs) h) k)

-- tails of rows

past : (n t count : ℕ) (d a b : Bool) → count < n → nat_le n t ≡ a → nat_le t count ≡ b → (a && (b && d)) ≡ false
past n t count d false b lt e g = refl
past n t count d true false lt e g = refl
past n t count d true true lt e g = absurd (grind (arith, nat_tests))

pub tail_end : (count : ℕ) (row : List RowEntry) (n : ℕ) (env : Environment) → count < n → tail_at count row n env ≡ false
tail_end count [] n env lt = refl
tail_end count (e ∷ row) n env lt =
    ap₂ (λ a b. a || b) (past n e.taken count (set_denotes e.set env) (nat_le n e.taken) (nat_le e.taken count) lt refl refl)
    (tail_end count row n env lt)

here : (a b c d : Bool) → a ≡ true → b ≡ true → c ≡ false → (a && (b && d)) ≡ ((c && (b && d)) || (true && d))
here a b c d e f g = rw (e, f, g) refl

there : (a b c d : Bool) → a ≡ c → (a && (b && d)) ≡ ((c && (b && d)) || (false && d))
there a b c d e = ap (λ x. x && (b && d)) e ∙ sym (or_false (c && (b && d)))

one_step : (n t count : ℕ) (d : Bool) → n ≤ count
    → (nat_le n t && (nat_le t count && d)) ≡ ((nat_le (suc n) t && (nat_le t count && d)) || (nat_eq t n && d))
one_step n t count d le = by (nat_eq t n) refl
  where
    by : (q : Bool) → nat_eq t n ≡ q → (nat_le n t && (nat_le t count && d)) ≡ ((nat_le (suc n) t && (nat_le t count && d)) || (nat_eq t n && d))
    by true q =
        let a : nat_le n t ≡ true = grind (arith, nat_tests) in
        let b : nat_le t count ≡ true = grind (arith, nat_tests) in
        let c : nat_le (suc n) t ≡ false = grind (arith, nat_tests) in
        here _ _ _ d a b c ∙ ap (λ x. (nat_le (suc n) t && (nat_le t count && d)) || (x && d)) (sym q)
    by false q =
        let a : nat_le n t ≡ nat_le (suc n) t = grind (arith, nat_tests, common_steps) in
        there _ (nat_le t count) _ d a ∙ ap (λ x. (nat_le (suc n) t && (nat_le t count && d)) || (x && d)) (sym q)

swap : (b r B R : Bool) → ((b || r) || (B || R)) ≡ ((b || B) || (r || R))
swap true r B R = refl
swap false true true R = refl
swap false true false R = refl
swap false false B R = refl

pub tail_step : (count : ℕ) (row : List RowEntry) (n : ℕ) (env : Environment) → n ≤ count
    → tail_at count row n env ≡ (tail_at count row (suc n) env || row_at row n env)
tail_step count [] n env le = refl
tail_step count (e ∷ row) n env le =
    ap₂ (λ a b. a || b) (one_step n e.taken count (set_denotes e.set env) le) (tail_step count row n env le)
    ∙ swap (nat_le (suc n) e.taken && (nat_le e.taken count && set_denotes e.set env)) (nat_eq e.taken n && set_denotes e.set env)
    (tail_at count row (suc n) env) (row_at row n env)

-- the set for n members joins those that the row has from n on
pub tail_set : (count : ℕ) (row : List RowEntry) (n m : ℕ) (env : Environment) (new old here : Bool) → m ≡ suc n → n ≤ count
    → new ≡ (old || here) → old ≡ tail_at count row m env → here ≡ row_at row n env → new ≡ tail_at count row n env
tail_set count row n m env new old here e le g o h =
    g ∙ ap₂ (λ a b. a || b) (o ∙ ap (λ k. tail_at count row k env) e) h ∙ sym (tail_step count row n env le)

-- and with it the new row has the environments from n on
pub tail_put : (row out new : List RowEntry) (count from m n : ℕ) (env : Environment) (s : Bool) → m ≡ suc from
    → row_at new n env ≡ (row_at out n env || (nat_eq from n && s)) → row_at out n env ≡ (nat_le m n && tail_at count row n env)
    → s ≡ tail_at count row from env → row_at new n env ≡ (nat_le from n && tail_at count row n env)
tail_put row out new count from m n env s e g h k = by (nat_eq from n) refl
  where
    by : (b : Bool) → nat_eq from n ≡ b → row_at new n env ≡ (nat_le from n && tail_at count row n env)
    by true q =
        let same : from ≡ n = grind (arith, nat_tests) in
        let a : nat_le from n ≡ true = grind (arith, nat_tests) in
        let b : nat_le m n ≡ false = grind (arith, nat_tests) in
        g ∙ ap₂ (λ x y. x || (y && s)) (h ∙ ap (λ z. z && tail_at count row n env) b) q
        ∙ k ∙ ap (λ j. tail_at count row j env) same ∙ ap (λ z. z && tail_at count row n env) (sym a)
    by false q =
        let a : nat_le m n ≡ nat_le from n = grind (arith, nat_tests, common_steps) in
        g ∙ ap₂ (λ x y. x || (y && s)) (h ∙ ap (λ z. z && tail_at count row n env) a) q
        ∙ or_false (nat_le from n && tail_at count row n env)

-- no entry is added yet
pub tail_none : (count n m : ℕ) (t : Bool) → n < count + 1 → m ≡ count + 1 → false ≡ (nat_le m n && t)
tail_none count n m t lt e = let a : nat_le m n ≡ false = grind (arith, nat_tests) in ap (λ x. x && t) (sym a)

-- all entries are added
pub tail_done : (n m : ℕ) (t r : Bool) → m ≤ 0 → r ≡ (nat_le m n && t) → r ≡ t
tail_done n m t r le h = let a : nat_le m n ≡ true = grind (arith, nat_tests) in h ∙ ap (λ x. x && t) a

module _ (decls : List VarDecl) (tokens : List PatToken) (types : ItemTypes) (label : Label) where
  no_places : (env : Environment) (id : ℕ) (xs : List Var) → has_none xs ≡ true → list_all (is_place decls env id) xs ≡ true
  no_places env id [] h = refl
  no_places env id (x ∷ xs) h = absurd (cc)

  bare_stands : (env : Environment) (o : Option PatToken) (id : Option ℕ) → is_bare o ≡ true → stands_at decls env o id ≡ true
  bare_stands env None id h = refl
  bare_stands env (Some p) None h = h
  bare_stands env (Some p) (Some id) h = no_places env id p.positions (left_of (has_none p.positions) _ h)

  pub comma_every : (env : Environment) (o : Option Token) (ms : List Member) → is_bare_comma tokens o ≡ true → comma_fits decls tokens env o ms ≡ true
  comma_every env None ms h = refl
  comma_every env (Some a) [] h = bare_stands env (slice_get tokens a.id) None h
  comma_every env (Some a) (m ∷ ms) h = bare_stands env (slice_get tokens a.id) (id_of m.comma) h

  -- a child that takes every run
  pub every_step : (before : Option Token) (f : Tree) (ms : List Member) (row : List RowEntry) (n : ℕ) (env : Environment)
      → is_wild label (leaf_of (out-Tree f)) ≡ true → is_bare_comma tokens before ≡ true
      → ((run : List Member) → run_fits decls tokens env label (leaf_of (out-Tree f)) run ≡ true) → n ≤ length ms
      → tail_at (length ms) row n env ≡ step_at decls tokens types label before f ms row n env
  every_step before f ms row n env w bare every le =
      any_agree _ (wild_entry decls tokens types label before f ms n env) row (λ e.
      let c = comma_every env before (take (e.taken - n) (drop n ms)) bare in
      let r = every (take (e.taken - n) (drop n ms)) in
      rw (c, r) refl)
      ∙ wild_step decls tokens types label before f ms row n env w le
