use Rattle.run_acts.proofs.Standing.{found_long}
use Rattle.run_acts.proofs.acts.load.Goals as goal

pub returns-in-Err-TooLong-clause-loaded : goal.returns-in-Err-TooLong-clause-loaded
returns-in-Err-TooLong-clause-loaded g c = found_long _ _ _ (c.load.ensures.too_long (rw c.in-Err-TooLong.field-0-is at c.in-Err-TooLong.is))
