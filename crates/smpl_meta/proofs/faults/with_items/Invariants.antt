use Rattle.std.proofs.Common.{◌≡◌, drop, take, []}
use Rattle.smpl_patch.specs.Faults.{first_from}
use Rattle.smpl_meta.specs.Decls.{items_faults}
use Rattle.smpl_meta.specs.Seen.{Knows}
use Rattle.smpl_meta.proofs.faults.with_items.Given as goal

abbrev pub invariant-loop-i : goal.invariant-loop-i
invariant-loop-i l = record {
  faults : first_from l.first (items_faults l.earlier.heads (take l.i l.items) (drop l.i l.items))
      ≡ first_from l.fn.first (items_faults l.earlier.heads [] l.items);
  seen : Knows l.seen (take l.i l.items);
}
