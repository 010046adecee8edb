use Rattle.std.proofs.Common.{◌∙◌, refl, ap, Option}
use Rattle.smpl_patch.specs.declared.fault.PatchFault.{PatchFault}
use Rattle.smpl_patch.specs.Faults.{first_from}
use Rattle.smpl_plus.specs.Anchors.{mixed_at}
use Rattle.smpl_plus.proofs.Closing.{block_of, close-none, close-some}
use Rattle.smpl_plus.proofs.anchors.closed.Goals as goal

pub returns-in-None : goal.returns-in-None
returns-in-None c = λ vars ps b may so_far. close-none vars ps b c.args.s _ c.in-None.is refl refl refl so_far

pub returns-in-Some : goal.returns-in-Some
returns-in-Some c = λ vars ps b may so_far.
    close-some vars ps c.args.may.now b c.args.s _ c.in-Some.block c.anchor_at-anchor.result (block_of c.in-Some.block)
    c.in-Some.is may c.anchor_at-anchor.ensures refl c.with_block.ensures
    (c.with_other.ensures ∙ ap (λ (f : Option PatchFault). first_from f (mixed_at c.in-Some.block.other)) c.with_fault.ensures) refl so_far
