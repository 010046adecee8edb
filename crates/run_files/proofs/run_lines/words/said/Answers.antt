use Rattle.std.proofs.Common.{refl}
use Rattle.run_files.proofs.run_lines.words.said.Goals as goal

pub returns-in-Help : goal.returns-in-Help
returns-in-Help c = rw c.in-Help.is (record { bytes = refl })
