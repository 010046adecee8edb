use Rattle.std.proofs.Common.{ltb, rules}
use Rattle.std.proofs.lemmas.List.Sorted.{IsPartitionPoint-from_clause, IsPartitionedBy-ltb}
use Rattle.edit_marks.specs.declared.edit_conflict.mark.Mark.{Mark}
use Rattle.edit_bodies.proofs.anchors.first_from.Goals as goal

pub returns-clause-apart : goal.returns-clause-apart
returns-clause-apart c =
    let parted = IsPartitionedBy-ltb (λ (m : Mark). m.token) c.args.marks.now c.args.token c.requires in
    IsPartitionPoint-from_clause (λ (m : Mark). ltb m.token c.args.token) _ _
    c.partition_point.ensures.partitioned parted (λ a r q k. search rules)
