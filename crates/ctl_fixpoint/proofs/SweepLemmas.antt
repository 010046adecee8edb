-- Sweeps find the least fixpoint.
-- Proof: under one environment the sets are a test of nodes. It never exceeds the until, since rounds are monotone and the
-- until is a fixpoint of them. After k sweeps it has at least the result of k rounds: if a sweep computes a node, it adds
-- what a round adds; if it doesn't, no successor has changed, and a round adds nothing.
use Rattle.std.proofs.Common.{◌≡◌, ◌≢◌, ℕ, suc, zero, ◌+◌, ◌-◌, ◌*◌, ◌^◌, ◌<◌, ◌≤◌, Bool, true, false, ◌&&◌, ◌||◌, refl, sym}
use Rattle.std.proofs.Common.{ap, ◌∙◌, subst, arith, List, [], ◌∷◌, ◌++◌, length, get_or, set, ◌⊎◌, inl, inr, ⊎_elim, add-one}
use Rattle.std.proofs.Common.{length-set, get_or-set_same, get_or-set_other, Contains}
use Rattle.std.specs.List.{All}
use Rattle.std.proofs.lemmas.Bool.{cases_lt}
use Rattle.std.proofs.lemmas.Nat.{mul-add-lt}
use Rattle.cfg_build.specs.CfgGraph.Flow.{Flow, IsSound, count_of, succ_of}
use Rattle.smpl_terms.specs.declared.var.Var.{Var}
use Rattle.smpl_terms.specs.Environments.{Environment}
use Rattle.env_sets.specs.Sets.{Entries, set_denotes, set_vars}
use Rattle.ctl_fixpoint.specs.CtlHolds.Rounds.{passes, round, rounds}
use Rattle.ctl_fixpoint.proofs.CtlHolds.TestLemmas.{same_bool, not_both, or_false}
use Rattle.ctl_fixpoint.proofs.CtlHolds.GraphLemmas.{first_after, node_after}
use Rattle.ctl_fixpoint.proofs.CtlHolds.RoundLemmas.{passes-members, round-mono, stable-count}
use Rattle.ctl_fixpoint.specs.Steps.{set_of, has, row_vars, Gives}
use Rattle.ctl_fixpoint.specs.Sweeps.{Sweeping, time_at, round_of, until_of, IsSweep, Grows, Visits, SweepsLast, SweptTimes}
use Rattle.ctl_fixpoint.proofs.RowLemmas.{row_vars-none, row_vars-set}

same_or_not : (j n : ℕ) → (j ≡ n) ⊎ (j ≢ n)
same_or_not j n = ⊎_elim
    (λ lt. inr (λ e. absurd (omega (arith, lt, e))))
    (λ le. ⊎_elim (λ lt. inr (λ e. absurd (omega (arith, lt, e)))) (λ ge. inl (omega (arith, le, ge))) (cases_lt n j))
    (cases_lt j n)

-- the branches of an `or`
pub either_true : (a b r : Bool) → a ≡ true → r ≡ true → r ≡ (a || b)
either_true true b r h k = k
either_true false b r h k = absurd (cc)

pub either_false : (a b r : Bool) → a ≡ false → r ≡ b → r ≡ (a || b)
either_false true b r h k = absurd (cc)
either_false false b r h k = k

-- a clock that ticks at most once a visit fits
pub clock_fits : (count k clock : ℕ) → count < 2 ^ 32 → k < count → clock ≤ 1 + k * count → clock + count < 2 ^ 64
clock_fits count k clock few lt le =
    let a = mul-add-lt k count (count - 1) count lt (omega (arith, lt)) in
    let b = mul-add-lt count count 0 (2 ^ 32) few (omega (arith, lt)) in
    omega (arith, a, b, le, few)

module _ (g : Flow) (ok : IsSound g) (every : Bool) (p q : List Entries) where
  -- a round over a larger set yields more
  more : (x y : List Entries) → Grows (count_of g) x y → (s : ℕ) → s < count_of g → (env : Environment)
      → round_of g every p q x s env ≡ true → round_of g every p q y s env ≡ true
  more x y h s lt env =
      round-mono g ok every (λ k. has p k env) (λ k. has q k env) (λ k. has x k env) (λ k. has y k env)
      (λ k l e. h k l env e) s lt

  -- what never exceeds the until still doesn't after a round
  never : (x : List Entries)
      → ((s : ℕ) → s < count_of g → (env : Environment) → has x s env ≡ true → until_of g every p q (count_of g) s env ≡ true)
      → (s : ℕ) → s < count_of g → (env : Environment) → round_of g every p q x s env ≡ true
      → until_of g every p q (count_of g) s env ≡ true
  never x h s lt env e =
      stable-count g ok every (λ k. has p k env) (λ k. has q k env) s lt
      ∙ round-mono g ok every (λ k. has p k env) (λ k. has q k env) (λ k. has x k env)
      (rounds g every (λ k. has p k env) (λ k. has q k env) (count_of g)) (λ k l d. h k l env d) s lt e

  pub sweep_first : (w : Sweeping) → length w.sets ≡ count_of g → length w.seen ≡ count_of g
      → length w.changed ≡ count_of g → All (λ e. e ≡ []) w.sets → All (λ t. t ≡ 0) w.seen → All (λ t. t ≡ 1) w.changed
      → w.clock ≡ 1 → SweptTimes g every p q 0 w
  sweep_first w a b c none seen changed clock =
      let empty : (s : ℕ) → s < count_of g → (env : Environment) → has w.sets s env ≡ false =
      λ s lt env. ap (λ e. set_denotes e env) (none s [] (omega (arith, lt, a))) in
      record {
        sweep = record {
          sets_each = a;
          seen_each = b;
          changed_each = c;
          seen_past = λ s lt. omega (arith, seen s 0 (omega (arith, lt, b)), clock);
          changed_past = λ s lt. omega (arith, changed s 0 (omega (arith, lt, c)), clock);
          never_more = λ s lt env h. not_both _ h (empty s lt env);
          rises = λ s lt env h. not_both _ h (empty s lt env);
          quiet = λ s lt calm env h.
              let k = first_after g ok s lt in
              let l = node_after g ok s k.0 lt k.1 in
              absurd (omega (arith, calm k.0 k.1, changed k.0 0 (omega (arith, l, c)), seen s 0 (omega (arith, lt, b))));
        };
        reached = λ s lt env h. not_both false h refl;
        clock = omega (arith, clock);
        vars = λ test u v. row_vars-none test w.sets none;
      }

  module _ (old : Sweeping) (work : IsSweep g every p q old) (s : ℕ) (lt : s < count_of g) where
    -- no successor has changed
    pub visit_calm : ((k : ℕ) → Contains (succ_of g s) k → time_at old.changed k ≤ time_at old.seen s)
        → Visits g every p q old old s false
    visit_calm calm = record {
      sweep = work;
      grows = λ j l env h. h;
      done = work.quiet s lt calm;
      same = λ e. refl;
      clock = omega arith;
      vars = λ test u v h. h;
    }

    -- it is recomputed, and is unchanged
    pub visit_same : (new : Sweeping) → new.sets ≡ old.sets → new.seen ≡ set old.seen s old.clock
        → new.changed ≡ old.changed → new.clock ≡ old.clock
        → ((env : Environment) → has old.sets s env ≡ round_of g every p q old.sets s env)
        → Visits g every p q old new s false
    visit_same new a b c d is =
        let here : time_at new.seen s ≡ old.clock =
        ap (λ l. time_at l s) b ∙ get_or-set_same old.seen s old.clock 0 (omega (arith, lt, work.seen_each)) in
        let there : (j : ℕ) → j ≢ s → time_at new.seen j ≡ time_at old.seen j =
        λ j n. ap (λ l. time_at l j) b ∙ get_or-set_other old.seen s j old.clock 0 n in
        let seen_past : (j : ℕ) → j < count_of g → time_at new.seen j ≤ new.clock = λ j l. ⊎_elim
        (λ (e : j ≡ s). omega (arith, ap (time_at new.seen) e, here, d))
        (λ (n : j ≢ s). omega (arith, there j n, work.seen_past j l, d))
        (same_or_not j s) in
        let quiet : (j : ℕ) → j < count_of g
        → ((k : ℕ) → Contains (succ_of g j) k → time_at old.changed k ≤ time_at new.seen j)
        → (env : Environment) → round_of g every p q old.sets j env ≡ true → has old.sets j env ≡ true =
        λ j l calm env h. ⊎_elim
        (λ (e : j ≡ s).
        subst (λ (i : ℕ). round_of g every p q old.sets i env ≡ true → has old.sets i env ≡ true) (sym e) (λ r. is env ∙ r) h)
        (λ (n : j ≢ s). work.quiet j l (λ k m. omega (arith, calm k m, there j n)) env h)
        (same_or_not j s) in
        record {
          sweep = record {
            sets_each = ap length a ∙ work.sets_each;
            seen_each = ap length b ∙ length-set old.seen s old.clock ∙ work.seen_each;
            changed_each = ap length c ∙ work.changed_each;
            seen_past = seen_past;
            changed_past = λ j l. omega (arith, ap (λ t. time_at t j) c, work.changed_past j l, d);
            never_more = λ j l env h. work.never_more j l env (ap (λ x. has x j env) (sym a) ∙ h);
            rises = λ j l env h. ap (λ x. round_of g every p q x j env) a ∙ work.rises j l env (ap (λ x. has x j env) (sym a) ∙ h);
            quiet = λ j l calm env h.
                ap (λ x. has x j env) a
                ∙ quiet j l (λ k m. omega (arith, calm k m, ap (λ t. time_at t k) c)) env
                (ap (λ x. round_of g every p q x j env) (sym a) ∙ h);
          };
          grows = λ j l env h. ap (λ x. has x j env) a ∙ h;
          done = λ env h. ap (λ x. has x s env) a ∙ is env ∙ h;
          same = λ e. a;
          clock = omega (arith, d);
          vars = λ test u v h. ap (row_vars test) a ∙ h;
        }

    -- it is recomputed, and may have changed
    pub visit_changed : (new : Sweeping) (e : Entries) → new.sets ≡ set old.sets s e → new.seen ≡ set old.seen s old.clock
        → new.changed ≡ set old.changed s (old.clock + 1) → new.clock ≡ old.clock + 1
        → ((env : Environment) → set_denotes e env ≡ round_of g every p q old.sets s env)
        → ((test : Var → Bool) → row_vars test p ≡ true → row_vars test q ≡ true → row_vars test old.sets ≡ true
        → set_vars test e ≡ true)
        → Visits g every p q old new s true
    visit_changed new e a b c d is vars =
        let set_here : set_of new.sets s ≡ e =
        ap (λ l. set_of l s) a ∙ get_or-set_same old.sets s e [] (omega (arith, lt, work.sets_each)) in
        let set_there : (j : ℕ) → j ≢ s → set_of new.sets j ≡ set_of old.sets j =
        λ j n. ap (λ l. set_of l j) a ∙ get_or-set_other old.sets s j e [] n in
        let seen_here : time_at new.seen s ≡ old.clock =
        ap (λ l. time_at l s) b ∙ get_or-set_same old.seen s old.clock 0 (omega (arith, lt, work.seen_each)) in
        let seen_there : (j : ℕ) → j ≢ s → time_at new.seen j ≡ time_at old.seen j =
        λ j n. ap (λ l. time_at l j) b ∙ get_or-set_other old.seen s j old.clock 0 n in
        let changed_here : time_at new.changed s ≡ old.clock + 1 =
        ap (λ l. time_at l s) c
        ∙ get_or-set_same old.changed s (old.clock + 1) 0 (omega (arith, lt, work.changed_each)) in
        let changed_there : (j : ℕ) → j ≢ s → time_at new.changed j ≡ time_at old.changed j =
        λ j n. ap (λ l. time_at l j) c ∙ get_or-set_other old.changed s j (old.clock + 1) 0 n in
        let has_here : (env : Environment) → has new.sets s env ≡ round_of g every p q old.sets s env =
        λ env. ap (λ x. set_denotes x env) set_here ∙ is env in
        let has_there : (j : ℕ) → j ≢ s → (env : Environment) → has new.sets j env ≡ has old.sets j env =
        λ j n env. ap (λ x. set_denotes x env) (set_there j n) in
        let seen_past : (j : ℕ) → j < count_of g → time_at new.seen j ≤ old.clock = λ j l. ⊎_elim
        (λ (n : j ≡ s). omega (arith, ap (time_at new.seen) n, seen_here))
        (λ (n : j ≢ s). omega (arith, seen_there j n, work.seen_past j l))
        (same_or_not j s) in
        let changed_past : (j : ℕ) → j < count_of g → time_at new.changed j ≤ new.clock = λ j l. ⊎_elim
        (λ (n : j ≡ s). omega (arith, ap (time_at new.changed) n, changed_here, d))
        (λ (n : j ≢ s). omega (arith, changed_there j n, work.changed_past j l, d))
        (same_or_not j s) in
        let grows : Grows (count_of g) old.sets new.sets = λ j l env h. ⊎_elim
        (λ (n : j ≡ s).
        subst (λ (i : ℕ). has old.sets i env ≡ true → has new.sets i env ≡ true) (sym n)
        (λ r. has_here env ∙ work.rises s lt env r) h)
        (λ (n : j ≢ s). has_there j n env ∙ h)
        (same_or_not j s) in
        let never_more : (j : ℕ) → j < count_of g → (env : Environment) → has new.sets j env ≡ true
        → until_of g every p q (count_of g) j env ≡ true = λ j l env h. ⊎_elim
        (λ (n : j ≡ s).
        subst (λ (i : ℕ). has new.sets i env ≡ true → until_of g every p q (count_of g) i env ≡ true) (sym n)
        (λ r. never old.sets work.never_more s lt env (sym (has_here env) ∙ r)) h)
        (λ (n : j ≢ s). work.never_more j l env (sym (has_there j n env) ∙ h))
        (same_or_not j s) in
        let rises : (j : ℕ) → j < count_of g → (env : Environment) → has new.sets j env ≡ true
        → round_of g every p q new.sets j env ≡ true = λ j l env h. ⊎_elim
        (λ (n : j ≡ s).
        subst (λ (i : ℕ). has new.sets i env ≡ true → round_of g every p q new.sets i env ≡ true) (sym n)
        (λ r. more old.sets new.sets grows s lt env (sym (has_here env) ∙ r)) h)
        (λ (n : j ≢ s). more old.sets new.sets grows j l env (work.rises j l env (sym (has_there j n env) ∙ h)))
        (same_or_not j s) in
        let apart : (j : ℕ) → j < count_of g
        → ((k : ℕ) → Contains (succ_of g j) k → time_at new.changed k ≤ time_at new.seen j)
        → (k : ℕ) → Contains (succ_of g j) k → k ≢ s =
        λ j l calm k m n. absurd (omega (arith, calm k m, ap (time_at new.changed) n, changed_here, seen_past j l)) in
        let round_same : (j : ℕ) → j < count_of g
        → ((k : ℕ) → Contains (succ_of g j) k → time_at new.changed k ≤ time_at new.seen j)
        → (env : Environment) → round_of g every p q new.sets j env ≡ round_of g every p q old.sets j env =
        λ j l calm env. ap (λ b. has q j env || (has p j env && b))
        (passes-members every (λ k. has new.sets k env) (λ k. has old.sets k env) (succ_of g j)
        (λ k m. has_there k (apart j l calm k m) env)) in
        let quiet : (j : ℕ) → j < count_of g
        → ((k : ℕ) → Contains (succ_of g j) k → time_at new.changed k ≤ time_at new.seen j)
        → (env : Environment) → round_of g every p q new.sets j env ≡ true → has new.sets j env ≡ true =
        λ j l calm env h.
        let r = sym (round_same j l calm env) ∙ h in
        ⊎_elim
        (λ (n : j ≡ s).
        subst (λ (i : ℕ). round_of g every p q old.sets i env ≡ true → has new.sets i env ≡ true) (sym n)
        (λ r. has_here env ∙ r) r)
        (λ (n : j ≢ s).
        has_there j n env
        ∙ work.quiet j l
        (λ k m. omega (arith, calm k m, seen_there j n, changed_there k (apart j l calm k m))) env r)
        (same_or_not j s) in
        record {
          sweep = record {
            sets_each = ap length a ∙ length-set old.sets s e ∙ work.sets_each;
            seen_each = ap length b ∙ length-set old.seen s old.clock ∙ work.seen_each;
            changed_each = ap length c ∙ length-set old.changed s (old.clock + 1) ∙ work.changed_each;
            seen_past = λ j l. omega (arith, seen_past j l, d);
            changed_past = changed_past;
            never_more = never_more;
            rises = rises;
            quiet = quiet;
          };
          grows = grows;
          done = λ env h. has_here env ∙ h;
          same = λ n. not_both true refl n;
          clock = omega (arith, d);
          vars = λ test u v h. ap (row_vars test) a ∙ row_vars-set test old.sets s e h (vars test u v h);
        }

  -- before the first visit
  pub sweeps_none : (old : Sweeping) → IsSweep g every p q old → SweepsLast g every p q 0 old old false
  sweeps_none old work = record {
    sweep = work;
    grows = λ s lt env h. h;
    done = λ s lt le env h. absurd (omega (arith, lt, le));
    same = λ e. refl;
    clock = omega arith;
    vars = λ test u v h. h;
  }

  -- one more
  pub sweeps_more : (n i : ℕ) (old mid new : Sweeping) (any c either : Bool) → i + n + 1 ≡ count_of g
      → SweepsLast g every p q n old mid any → Visits g every p q mid new i c
      → either ≡ (any || c) → SweepsLast g every p q (n + 1) old new either
  sweeps_more n i old mid new any c either at a v e = record {
    sweep = v.sweep;
    grows = λ s l env h. v.grows s l env (a.grows s l env h);
    done = λ s l le env h. ⊎_elim
        (λ (first : s + n < count_of g).
        let is : i ≡ s = omega (arith, first, le, at) in
        subst (λ (j : ℕ). round_of g every p q mid.sets j env ≡ true → has new.sets j env ≡ true) is (v.done env)
        (more old.sets mid.sets a.grows s l env h))
        (λ (later : count_of g ≤ s + n). v.grows s l env (a.done s l later env h))
        (cases_lt (s + n) (count_of g));
    same = λ f. let t = or_false any c (sym e ∙ f) in v.same t.1 ∙ a.same t.0;
    clock = omega (arith, v.clock, a.clock);
    vars = λ test x y h. v.vars test x y (a.vars test x y h);
  }

  -- one more sweep
  pub swept_more : (k : ℕ) (old new : Sweeping) (c : Bool) → SweptTimes g every p q k old
      → SweepsLast g every p q (count_of g) old new c → SweptTimes g every p q (k + 1) new
  swept_more k old new c a v = record {
    sweep = v.sweep;
    reached = λ s lt env h.
        let h' : until_of g every p q (suc k) s env ≡ true = ap (λ j. until_of g every p q j s env) (sym (add-one k)) ∙ h in
        v.done s lt (omega arith) env
        (round-mono g ok every (λ j. has p j env) (λ j. has q j env)
        (rounds g every (λ j. has p j env) (λ j. has q j env) k) (λ j. has old.sets j env)
        (λ j l e. a.reached j l env e) s lt h');
    clock = omega (arith, v.clock, a.clock);
    vars = λ test x y. v.vars test x y (a.vars test x y);
  }

  -- if a round adds nothing to it, it is at least the until
  closed : (x : List Entries)
      → ((s : ℕ) → s < count_of g → (env : Environment) → round_of g every p q x s env ≡ true → has x s env ≡ true)
      → (k s : ℕ) → s < count_of g → (env : Environment) → until_of g every p q k s env ≡ true → has x s env ≡ true
  closed x h zero s lt env e = not_both false e refl
  closed x h (suc k) s lt env e =
      h s lt env
      (round-mono g ok every (λ j. has p j env) (λ j. has q j env)
      (rounds g every (λ j. has p j env) (λ j. has q j env) k) (λ j. has x j env)
      (λ j l d. closed x h k j l env d) s lt e)

  -- as many sweeps as there are nodes
  pub swept_all : (w : Sweeping) → SweptTimes g every p q (count_of g) w
      → Gives (count_of g) w.sets (until_of g every p q (count_of g))
  swept_all w a = record {
    len = a.sweep.sets_each;
    means = λ s lt env. same_bool (a.sweep.never_more s lt env) (a.reached s lt env);
  }

  -- a sweep that changes nothing
  pub swept_still : (old new : Sweeping) (c : Bool) → SweepsLast g every p q (count_of g) old new c → c ≡ false
      → Gives (count_of g) new.sets (until_of g every p q (count_of g))
  swept_still old new c v e = record {
    len = v.sweep.sets_each;
    means = λ s lt env. same_bool
        (v.sweep.never_more s lt env)
        (closed new.sets
        (λ j l u h. v.done j l (omega arith) u (ap (λ x. round_of g every p q x j u) (sym (v.same e)) ∙ h))
        (count_of g) s lt env);
  }
