-- Untils by sweeps: from the last node to the first, recomputing a node only if a successor has changed since.
use Rattle.std.specs.Prelude.{◌≡◌, ℕ, ◌+◌, ◌*◌, ◌<◌, ◌≤◌, Bool, true, false, List, length, slice_index_or, Contains}
use Rattle.cfg_build.specs.CfgGraph.Flow.{Flow, count_of, succ_of}
use Rattle.smpl_terms.specs.declared.var.Var.{Var}
use Rattle.smpl_terms.specs.Environments.{Environment}
use Rattle.env_sets.specs.Sets.{Entries}
use Rattle.ctl_fixpoint.specs.CtlHolds.Rounds.{round, rounds}
use Rattle.ctl_fixpoint.specs.Steps.{has, row_vars}

abbrev pub time_at : List ℕ → ℕ → ℕ
time_at times n = slice_index_or times n 0

-- the sets so far, when each node was last computed, when its set last changed, and the clock's time
pub record Sweeping : Type 0 where
  pub sets : List Entries
  pub seen : List ℕ
  pub changed : List ℕ
  pub clock : ℕ

module _ (g : Flow) (every : Bool) (p q : List Entries) where
  -- one round over the sets of a row, under one environment
  abbrev pub round_of : List Entries → ℕ → Environment → Bool
  round_of x s env = round g every (λ k. has p k env) (λ k. has q k env) (λ k. has x k env) s

  -- the result of this many rounds
  abbrev pub until_of : ℕ → ℕ → Environment → Bool
  until_of k s env = rounds g every (λ k. has p k env) (λ k. has q k env) k s

  -- The invariant of a sweep's sets: there is one per node, none denotes more than the until does, a round takes nothing
  -- away, and if no successor has changed since a node was computed, a round would add nothing there.
  pub record IsSweep (w : Sweeping) : Type 0 where
    pub sets_each : length w.sets ≡ count_of g
    pub seen_each : length w.seen ≡ count_of g
    pub changed_each : length w.changed ≡ count_of g
    pub seen_past : (s : ℕ) → s < count_of g → time_at w.seen s ≤ w.clock
    pub changed_past : (s : ℕ) → s < count_of g → time_at w.changed s ≤ w.clock
    pub never_more : (s : ℕ) → s < count_of g → (env : Environment) → has w.sets s env ≡ true
        → until_of (count_of g) s env ≡ true
    pub rises : (s : ℕ) → s < count_of g → (env : Environment) → has w.sets s env ≡ true → round_of w.sets s env ≡ true
    pub quiet : (s : ℕ) → s < count_of g
        → ((k : ℕ) → Contains (succ_of g s) k → time_at w.changed k ≤ time_at w.seen s)
        → (env : Environment) → round_of w.sets s env ≡ true → has w.sets s env ≡ true

-- each set denotes at least what it denoted before
abbrev pub Grows : ℕ → List Entries → List Entries → Type 0
Grows n old new = (s : ℕ) → s < n → (env : Environment) → has old s env ≡ true → has new s env ≡ true

module _ (g : Flow) (every : Bool) (p q : List Entries) where
  -- the state after a visit of node s: what a round adds there has been added
  pub record Visits (old new : Sweeping) (s : ℕ) (changed : Bool) : Type 0 where
    pub sweep : IsSweep g every p q new
    pub grows : Grows (count_of g) old.sets new.sets
    pub done : (env : Environment) → round_of g every p q old.sets s env ≡ true → has new.sets s env ≡ true
    pub same : changed ≡ false → new.sets ≡ old.sets
    pub clock : new.clock ≤ old.clock + 1
    pub vars : (test : Var → Bool) → row_vars test p ≡ true → row_vars test q ≡ true → row_vars test old.sets ≡ true
        → row_vars test new.sets ≡ true

  -- the state after the last n nodes have been visited
  pub record SweepsLast (n : ℕ) (old new : Sweeping) (changed : Bool) : Type 0 where
    pub sweep : IsSweep g every p q new
    pub grows : Grows (count_of g) old.sets new.sets
    pub done : (s : ℕ) → s < count_of g → count_of g ≤ s + n → (env : Environment)
        → round_of g every p q old.sets s env ≡ true → has new.sets s env ≡ true
    pub same : changed ≡ false → new.sets ≡ old.sets
    pub clock : new.clock ≤ old.clock + n
    pub vars : (test : Var → Bool) → row_vars test p ≡ true → row_vars test q ≡ true → row_vars test old.sets ≡ true
        → row_vars test new.sets ≡ true

  -- after k sweeps the sets denote at least the result of k rounds
  pub record SweptTimes (k : ℕ) (w : Sweeping) : Type 0 where
    pub sweep : IsSweep g every p q w
    pub reached : (s : ℕ) → s < count_of g → (env : Environment) → until_of g every p q k s env ≡ true
        → has w.sets s env ≡ true
    pub clock : w.clock ≤ 1 + k * count_of g
    pub vars : (test : Var → Bool) → row_vars test p ≡ true → row_vars test q ≡ true → row_vars test w.sets ≡ true
