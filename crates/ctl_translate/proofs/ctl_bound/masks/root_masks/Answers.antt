use Rattle.std.proofs.Common.{◌<◌, ap, arith, length, length-append}
use Rattle.ctl_translate.specs.declared.ctl_bound.masks.Masks.{Masks}
use Rattle.ctl_translate.proofs.CtlBound.MaskLemmas.{step-more, root-known}
use Rattle.ctl_translate.proofs.ctl_bound.masks.root_masks.Goals as goal

pub loop-i-preserved : goal.loop-i-preserved
loop-i-preserved c =
    let within : c.loop-i.i < length c.args.steps.now = omega arith in (
      omega (arith, ap length c.in_ok-push.ensures.items, length-append {A = Masks}),
      λ ns sure x k h copied named.
          step-more sure x k ns c.args.steps.now c.args.named.now c.loop-i.i c.loop-i.known.items c.as_slice.result.now
          c.push.new.self.items c.masks_of.result within c.requires.ordered copied named c.as_slice.ensures.value
          (c.masks_of.ensures k h) c.in_ok-push.ensures.items (c.loop-i.invariant.1 ns sure x k h copied named),
    )

pub returns : goal.returns
returns c = λ ns sure x k h copied named.
    root-known sure x k ns c.args.steps.now c.loop-i.i c.loop-i.known.items c.args.root c.index.result.now (omega arith)
    c.loop-i.invariant.0 c.requires.within copied c.index.ensures (c.loop-i.invariant.1 ns sure x k h copied named)
