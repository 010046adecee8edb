use Rattle.std.proofs.Common.{◌≡◌, ◌||◌, drop, map}
use Rattle.std.specs.Prelude.{slice_get}
use Rattle.std.specs.List.{list_any}
use Rattle.c_terms.specs.Trees.{join, leaves}
use Rattle.smpl_patch.specs.Patterns.{is_own, in_plus, used_in}
use Rattle.smpl_patch.proofs.reading.+used_in.Given as goal

abbrev pub invariant-loop-child : goal.invariant-loop-child
invariant-loop-child l = list_any (λ t. is_own l.decls l.tokens l.x t || in_plus l.decls (slice_get l.tokens t.id) l.x)
    (join (map leaves (drop l.child-index l.child-items)))
    ≡ used_in l.decls l.tokens l.x l.tree
