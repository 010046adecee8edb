use Rattle.std.proofs.Common.{◌-◌, length}
use Rattle.smpl_meta.specs.Typed.{IsDeclarator}
use Rattle.smpl_meta.proofs.TypedLemmas.{ReadSoFar}
use Rattle.smpl_meta.proofs.typed.declarator_items.Given as goal

abbrev pub invariant-loop-items : goal.invariant-loop-items
invariant-loop-items l = ReadSoFar (IsDeclarator l.context.types.now l.name l.specs) l.tokens l.start l.items

abbrev pub decreases-loop-items : goal.decreases-loop-items
decreases-loop-items l = length l.tokens - l.start
