use Rattle.std.proofs.lemmas.Result.{err_from_is_err_and}
use Rattle.smpl_file.proofs.FaultLemmas.{spelling-fault, meaning-fault}
use Rattle.smpl_file.proofs.read_patch.Goals as goal

pub returns-in_err-patch-clause-fault : goal.returns-in_err-patch-clause-fault
returns-in_err-patch-clause-fault c =
    let p = err_from_is_err_and c.from_residual.result c.from_residual.ensures.1 in
    rw (p.1, p.2) (spelling-fault c.args.bytes.now c.in_err-patch.field-0.0 c.in_err-patch.ensures.fault)

pub returns-in_err-check-clause-fault : goal.returns-in_err-check-clause-fault
returns-in_err-check-clause-fault c =
    let p = err_from_is_err_and c.from_residual-in_err-check.result c.from_residual-in_err-check.ensures.1 in
    rw (p.1, p.2) (meaning-fault c.args.bytes.now c.in_ok-patch.patch c.in_err-check.field-0.0 c.in_ok-patch.ensures.patch c.in_err-check.ensures.fault)
