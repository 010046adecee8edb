use Rattle.std.proofs.Common.{◌≡◌, drop}
use Rattle.std.specs.List.{list_all}
use Rattle.c_terms.specs.declared.tree.Tree.{out-Tree}
use Rattle.c_rows.specs.Branches.{is_plain, plain_part}
use Rattle.c_rows.proofs.plain.is_plain.Given as goal

abbrev pub invariant-loop-part : goal.invariant-loop-part
invariant-loop-part l = list_all (λ part. plain_part (out-Tree part)) (drop l.part-index l.part-items) ≡ is_plain l.fn.specs
