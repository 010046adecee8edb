-- The status that a run returns, at its end or when it stops early.
use Rattle.std.specs.Prelude.{ℕ, Result, Ok, Err}
use Rattle.run_acts.specs.declared.status.Status.{Status}
use Rattle.run_acts.specs.declared.status.Stopped.{Stopped}
use Rattle.run_acts.specs.Statuses.{number_of, status_of}

abbrev pub answer : Result Status Stopped → ℕ
answer (Ok status) = number_of status
answer (Err stopped) = status_of stopped
