use Rattle.c_rows.specs.Derives.{Anywhere}
use Rattle.c_rows.proofs.BracketLemmas.{same_end}
use Rattle.c_rows.proofs.laws.members_have_one_end.Goals as goal

pub returns : goal.returns
returns c = λ names xs ys zs t u d e h g. same_end names Anywhere Anywhere d e h g
