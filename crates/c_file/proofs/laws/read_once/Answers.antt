use Rattle.std.proofs.Common.{refl}
use Rattle.c_rows.specs.declared.kind.Kind.TheVariants as kind
use Rattle.c_file.proofs.OnceLemmas.{once}
use Rattle.c_file.proofs.laws.read_once.Goals as goal

pub returns : goal.returns
returns c = once c.shown_once.ensures (λ names tokens t u h g. c.ranges_have_one_tree.ensures kind.External names tokens t u refl h g)
