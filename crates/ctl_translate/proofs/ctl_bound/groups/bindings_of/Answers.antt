use Rattle.std.proofs.Common.{◌≡◌, ◌<◌, ◌/◌, ◌∙◌, ap, arith, List, length}
use Rattle.std.specs.Int.{div_ceil}
use Rattle.smpl_patch.specs.Patterns.{sure}
use Rattle.ctl_translate.specs.declared.ctl_bound.naming.Mark.{Mark}
use Rattle.ctl_translate.specs.CtlBound.Naming.{is_marked, AreMarked, lists_of, group_of}
use Rattle.ctl_translate.specs.CtlBound.Saying.{said_of}
use Rattle.ctl_translate.proofs.CtlBound.GroupLemmas.{has-number, no-number, groups-cover}
use Rattle.ctl_translate.proofs.ctl_bound.groups.bindings_of.Goals as goal

pub returns-clause-declared : goal.returns-clause-declared
returns-clause-declared c = λ x declared.
    let vars = c.in_ok-vars.vars in
    let nodes = c.args.parts.now in
    let surely = sure c.args.decls.now c.args.tokens.now in
    let number = has-number vars x (c.in_ok-vars.ensures x ∙ declared) in
    let k = number.0 in
    let count : c.div_ceil.result ≡ div_ceil (length vars) 64 = c.div_ceil.ensures ∙ ap (λ z. div_ceil z 64) c.len.ensures in
    let within : k / 64 < c.div_ceil.result = omega (arith, count, groups-cover k (length vars) number.2) in
    let enough : k / 64 < length c.deref-3.result.now =
    omega (arith, within, c.in_ok-groups.ensures.len, ap length c.deref-3.ensures.value) in
    let marked = c.in_ok-marks.ensures x k number.1 in
    let own : AreMarked surely x k nodes (group_of (lists_of c.deref-3.result.now) k) = λ i n is.
    ap (λ z. is_marked (group_of (lists_of z) k) i k) c.deref-3.ensures.value ∙ c.in_ok-groups.ensures.marks i k within
    ∙ ap (λ (z : List Mark). is_marked z i k) c.deref.ensures.value ∙ marked i n is in
    let copied = c.deref-2.ensures.value ∙ c.in_ok-steps.ensures.same in
    ap (said_of c.in_ok-masks.masks.items) number.1 ∙ c.in_ok-masks.ensures nodes surely x k enough copied own

pub returns-clause-others : goal.returns-clause-others
returns-clause-others c = λ x other.
    ap (said_of c.in_ok-masks.masks.items) (no-number c.in_ok-vars.vars x (c.in_ok-vars.ensures x ∙ other))
