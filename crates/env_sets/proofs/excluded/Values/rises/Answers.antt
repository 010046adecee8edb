use Rattle.std.proofs.Common.{subst}
use Rattle.env_sets.specs.Rising.{Rise}
use Rattle.env_sets.proofs.RunLemmas.{Rise-all_of}
use Rattle.env_sets.proofs.excluded.Values.rises.Goals as goal

pub returns : goal.returns
returns c = record {
  rise = λ up.
      let order = c.self.invariant.0 up in
      subst Rise c.self.view_is (Rise-all_of c.self.inside.runs.first c.self.inside.runs.rest order.0 order.1);
}
