use Rattle.std.proofs.Common.{ltb, rules}
use Rattle.std.proofs.lemmas.List.Sorted.{IsPartitionPoint-from_clause, IsPartitionedBy-ltb}
use Rattle.edit_unparse.specs.declared.tidy.parts.Brace.{Brace}
use Rattle.edit_unparse.specs.Tidy.Spots.{brace_number}
use Rattle.edit_unparse.proofs.tidy.sides.first_from.Goals as goal

pub returns-clause-apart : goal.returns-clause-apart
returns-clause-apart c =
    let parted = IsPartitionedBy-ltb brace_number c.args.braces.now c.args.number c.requires in
    IsPartitionPoint-from_clause (λ (b : Brace). ltb (brace_number b) c.args.number) _ _
    c.partition_point.ensures.partitioned parted (λ a r q k. search rules)
