use Rattle.std.proofs.Common.{ap}
use Rattle.c_types.specs.Tables.{trees_of}
use Rattle.c_types.proofs.table.TypeTable.put_local.Goals as goal

pub returns-clause-ok : goal.returns-clause-ok
returns-clause-ok c = rw (← c.self.view_is) (λ j. record { trees = trees_of c.self.inside.types.entries; locals = c.in_ok-insert.ensures.keys j })
