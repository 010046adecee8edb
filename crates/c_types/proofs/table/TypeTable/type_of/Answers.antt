use Rattle.std.proofs.Common.{◌∙◌, ap}
use Rattle.std.specs.Map.{lookup}
use Rattle.c_types.specs.TreeKeys.{same_key}
use Rattle.c_types.specs.Tables.{type_at, trees_of}
use Rattle.c_types.proofs.TableLemmas.{looked}
use Rattle.c_types.proofs.table.TypeTable.type_of.Goals as goal

pub returns : goal.returns
returns c =
    let entries = c.self.inside.types.entries in
    rw (← c.self.view_is) (c.get.ensures.value ∙ ap (λ k. lookup (same_key k) entries) c.key_of-key.ensures ∙ looked _ entries)
