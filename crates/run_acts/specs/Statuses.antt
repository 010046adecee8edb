-- The numbers of the statuses.
use Rattle.std.specs.Prelude.{ℕ}
use Rattle.run_acts.specs.declared.status.Status.{Status}
use Rattle.run_acts.specs.declared.status.Status.TheVariants as status
use Rattle.run_acts.specs.declared.status.Stopped.{Stopped}
use Rattle.run_acts.specs.declared.status.Stopped.TheVariants as stopped

-- the number with which the program exits
abbrev pub number_of : Status → ℕ
number_of status.Done = 0
number_of status.WordsRefused = 1
number_of status.PatchRefused = 2
number_of status.IsosRefused = 3
number_of status.FileRefused = 4
number_of status.CannotRead = 5
number_of status.CannotWrite = 6
number_of status.NoMemory = 7
number_of status.Found = 8

-- the number for a run that stopped
abbrev pub status_of : Stopped → ℕ
status_of stopped.CannotRead = 5
status_of stopped.CannotWrite = 6
status_of stopped.NoMemory = 7
