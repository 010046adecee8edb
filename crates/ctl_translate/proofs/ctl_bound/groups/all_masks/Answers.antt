use Rattle.std.proofs.Common.{◌<◌, sym, ap, ◌∙◌, arith, length, length-append}
use Rattle.ctl_translate.specs.CtlBound.Naming.{lists_of}
use Rattle.ctl_translate.specs.declared.ctl_bound.masks.Masks.{Masks}
use Rattle.ctl_translate.proofs.CtlBound.GroupLemmas.{as-long, own-list, said-more}
use Rattle.ctl_translate.proofs.ctl_bound.groups.all_masks.Goals as goal

pub loop-group-preserved : goal.loop-group-preserved
loop-group-preserved c =
    let within : c.loop-group.group < length c.args.groups.now = omega arith in (
      omega (arith, ap length c.in_ok-push.ensures.items, length-append {A = Masks}),
      as-long c.group_masks.new.named c.loop-group.named.items c.loop-group.named.len
          (sym c.deref_mut.ensures.len ∙ ap length c.deref_mut.ensures.value)
          (c.group_masks.auto.named ∙ ap length c.deref_mut.ensures.value) ∙ c.loop-group.invariant.1,
      λ ns sure x k h copied.
          said-more ns (lists_of c.args.groups.now) c.args.root c.loop-group.group c.as_slice-marks.result.now
          c.loop-group.masks.items c.push.new.self.items c.in_ok-group_masks.field-0 c.loop-group.invariant.0
          c.in_ok-push.ensures.items
          (own-list c.args.groups.now c.loop-group.group c.index-groups-group.result c.as_slice-marks.result.now within
          c.index-groups-group.is c.as_slice-marks.ensures.value)
          (c.in_ok-group_masks.ensures ns copied) (λ s z j l. c.loop-group.invariant.2 ns s z j l copied) sure x k h,
    )
