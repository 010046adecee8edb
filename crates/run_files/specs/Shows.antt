-- What is printed of a file, by what was chosen.
use Rattle.std.specs.Prelude.{ℕ, List, [], ◌∷◌, ◌++◌, codes}
use Rattle.run_acts.specs.Acts.{Act, Print}
use Rattle.smpl_patch.specs.declared.rule.Patch.{Patch}
use Rattle.wit_print.specs.Report.{report_of}
use Rattle.rule_chain.specs.RuleRun.States.{Chained}
use Rattle.run_files.specs.declared.shows.Shown.{Shown}
use Rattle.run_files.specs.declared.shows.Shown.TheVariants as shown
use Rattle.run_files.specs.RunLines.Names.{quoted_name}
use Rattle.run_files.specs.Treatment.{printing}

-- the act that prints the name of a file, on a line of its own
abbrev pub named : List ℕ → List Act
named name = Print (quoted_name name ++ codes "\n") ∷ []

abbrev pub printed : Shown → Patch → List ℕ → Chained → List Act
printed shown.Report patch name s = printing (report_of patch name s.found)
printed shown.Name patch name s = named name
printed shown.Text patch name s = printing s.page.bytes
printed shown.Nothing patch name s = []
