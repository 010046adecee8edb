use Rattle.std.proofs.Common.{◌≡◌, ◌-◌, length}
use Rattle.smpl_meta.specs.Typed.{untyped_item}
use Rattle.smpl_meta.proofs.TypedLemmas.{ReadSoFar}
use Rattle.smpl_meta.proofs.typed.untyped_items.Given as goal

abbrev pub invariant-loop-items : goal.invariant-loop-items
invariant-loop-items l = ReadSoFar (λ d o. o ≡ untyped_item l.name d) l.tokens l.start l.items

abbrev pub decreases-loop-items : goal.decreases-loop-items
decreases-loop-items l = length l.tokens - l.start
