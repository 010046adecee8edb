use Rattle.std.proofs.Common.{None, ap, ◌∙◌, sym}
use Rattle.smpl_patch.specs.Faults.{first_from}
use Rattle.smpl_meta.proofs.FirstLemmas.{first_append}
use Rattle.smpl_body.specs.Bodies.{minus_dots, minus_signs}
use Rattle.smpl_body.proofs.faults.minus_fault.Goals as goal

pub returns : goal.returns
returns c =
    let ps = c.args.placed.now in
    c.with_signs.ensures ∙ (ap (λ o. first_from o (minus_signs ps)) c.with_all_dots.ensures
    ∙ sym (first_append None (minus_dots ps c.args.ids.now) (minus_signs ps)))
