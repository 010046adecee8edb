-- The answers of jobs, and the first of their faults.
use Rattle.std.specs.Prelude.{◌≡◌, ℕ, ◌+◌, ◌-◌, ◌<◌, ◌≤◌, List, length, Some, slice_get}
use Rattle.par_match.specs.declared.fault.JobFault.{JobFault}
use Rattle.par_match.specs.declared.fault.JobFault.TheVariants.{Worker, NoMemory}

module _ {A : Type 0} (may_answer : ℕ → A → Type 0) where
  -- the answers of the jobs from `from` up to, but not including, `to`, in their order
  pub record AreAnswers (from to : ℕ) (answers : List A) : Type 0 where
    pub each : (i : ℕ) (a : A) → slice_get answers i ≡ Some a → may_answer (from + i) a
    pub count : length answers ≡ to - from

  -- some answer that the job may give
  pub record Answers (job : ℕ) : Type 0 where
    pub answer : A
    pub may : may_answer job answer

  module _ {F : Type 0} (may_fail : ℕ → F → Type 0) where
    -- of the jobs from `from` up to, but not including, `to`, this one failed with this fault, and each lower one has
    -- an answer
    pub record IsFirst (from to job : ℕ) (fault : F) : Type 0 where
      pub after : from ≤ job
      pub before : job < to
      pub fails : may_fail job fault
      pub lesser : (i : ℕ) → from ≤ i → i < job → Answers i

    abbrev pub IsWhy : (from to : ℕ) → JobFault F → Type 0
    IsWhy from to (Worker job fault) = IsFirst from to job fault
    IsWhy from to NoMemory = Unit {0}
