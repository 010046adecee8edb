-- Short lists of numbers, as they are kept.
use Rattle.std.specs.Prelude.{ℕ, List, take}
use Rattle.cfg_build.specs.declared.cfg_graph.links.Kept.{Kept}
use Rattle.cfg_build.specs.declared.cfg_graph.links.Kept.TheVariants.{Few, Many}

abbrev pub kept_numbers : Kept → List ℕ
kept_numbers (Few f) = take f.len f.numbers
kept_numbers (Many numbers) = numbers.items
