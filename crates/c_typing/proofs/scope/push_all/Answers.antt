use Rattle.std.proofs.Common.{ap, ◌∙◌, length, take}
use Rattle.std.proofs.Math.Seq.{take-append_seam}
use Rattle.c_typing.proofs.scope.push_all.Goals as goal

pub returns-clause-kept : goal.returns-clause-kept
returns-clause-kept c =
    ap (take (length c.args.bindings.now)) c.loop-binding.invariant ∙ take-append_seam c.args.bindings.now c.loop-binding.yielded

pub returns-in_err-push-clause-kept : goal.returns-in_err-push-clause-kept
returns-in_err-push-clause-kept c =
    ap (take (length c.args.bindings.now)) (c.in_err-push.ensures.err ∙ c.loop-binding.invariant)
    ∙ take-append_seam c.args.bindings.now c.loop-binding.yielded
