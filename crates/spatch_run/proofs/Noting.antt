-- The notes on a patch: which are told, and as which acts.
use Rattle.std.proofs.Common.{◌≡◌, ℕ, Bool, true, false, List, [], map, refl, sym}
use Rattle.std.specs.Prelude.{cond}
use Rattle.std.proofs.lemmas.Bool.{false≢true}
use Rattle.run_acts.specs.Acts.{Report, Observed}
use Rattle.run_files.specs.Does.{Does}

-- if something was refused, nothing is told
pub told_nothing : (refused : Bool) (lines : List (List ℕ)) (old : Observed) → refused ≡ true → Does (map Report (cond refused [] lines)) old old
told_nothing true lines old is = record { observed = refl }
told_nothing false lines old is = absurd (false≢true is)

-- or else all these lines are told
pub told_all : (refused : Bool) (lines : List (List ℕ)) → refused ≡ false → map Report lines ≡ map Report (cond refused [] lines)
told_all true lines is = absurd (false≢true (sym is))
told_all false lines is = refl
