use Rattle.std.proofs.Common.{ltb, rules}
use Rattle.std.proofs.lemmas.List.Sorted.{IsPartitionPoint-from_clause, IsPartitionedBy-ltb}
use Rattle.edit_unparse.specs.declared.tidy.parts.Origin.{Origin}
use Rattle.edit_unparse.specs.Tidy.Fallen.{origin_number}
use Rattle.edit_unparse.proofs.tidy.fallen.first_from.Goals as goal

pub returns-clause-apart : goal.returns-clause-apart
returns-clause-apart c =
    let parted = IsPartitionedBy-ltb origin_number c.args.places.now c.args.number c.requires in
    IsPartitionPoint-from_clause (λ (o : Origin). ltb (origin_number o) c.args.number) _ _
    c.partition_point.ensures.partitioned parted (λ a r q k. search rules)
