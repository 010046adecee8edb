use Rattle.std.proofs.Common.{◌≡◌, ◌++◌, [], drop}
use Rattle.smpl_notes.specs.Names.{slips_from}
use Rattle.smpl_notes.proofs.names.put_slips.Given as goal

abbrev pub invariant-loop-name : goal.invariant-loop-name
invariant-loop-name l =
    l.found ++ slips_from l.declared l.seen (drop l.name-index l.names) ≡ l.initial.found ++ slips_from l.declared [] l.names
