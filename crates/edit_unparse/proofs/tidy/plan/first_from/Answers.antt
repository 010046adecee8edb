use Rattle.std.proofs.Common.{ltb, rules}
use Rattle.std.proofs.lemmas.List.Sorted.{IsPartitionPoint-from_clause, IsPartitionedBy-ltb}
use Rattle.edit_unparse.specs.declared.tidy.plan.Placed.{Placed}
use Rattle.edit_unparse.specs.Tidy.Spots.{placed_number}
use Rattle.edit_unparse.proofs.tidy.plan.first_from.Goals as goal

pub returns-clause-apart : goal.returns-clause-apart
returns-clause-apart c =
    let parted = IsPartitionedBy-ltb placed_number c.args.inserts.now c.args.number c.requires in
    IsPartitionPoint-from_clause (λ (p : Placed). ltb (placed_number p) c.args.number) _ _
    c.partition_point.ensures.partitioned parted (λ a r q k. search rules)
