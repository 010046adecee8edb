-- The first of faults in two lists.
use Rattle.std.proofs.Common.{◌≡◌, ◌++◌, List, Option}
use Rattle.smpl_patch.specs.declared.fault.PatchFault.{PatchFault}
use Rattle.smpl_patch.specs.Faults.{first_from}
use Rattle.smpl_lexer.proofs.Readings.{first_from-append}

pub first_append : (o : Option PatchFault) (fs gs : List PatchFault)
    → first_from o (fs ++ gs) ≡ first_from (first_from o fs) gs
first_append o fs gs = first_from-append o fs gs
