use Rattle.std.proofs.Common.{◌≡◌, Some, ap, sym, ◌∙◌, inr}
use Rattle.smpl_body.specs.SoFar.{AllSpell}
use Rattle.smpl_body.specs.Bodies.{tree_fault, deep}
use Rattle.smpl_body.proofs.SpelledLemmas.{NoneSpell}
use Rattle.smpl_body.proofs.BodyLemmas.{fault-unspelled, fault-misplaced}
use Rattle.smpl_body.proofs.body.read.Goals as goal

pub returns-in-Some-clause-fault : goal.returns-in-Some-clause-fault
returns-in-Some-clause-fault c = inr (deep (sym c.deep_fault.ensures ∙ c.in-Some.is))

pub returns-in-None-2-clause-fault : goal.returns-in-None-2-clause-fault
returns-in-None-2-clause-fault c =
    let ps = c.args.placed.now in
    let none : NoneSpell ps = rw c.in-None-2.is at c.in_ok-spelled.ensures in
    inr (fault-unspelled ps c.args.end c.place_in.result (sym c.deep_fault.ensures ∙ c.in-None.is) none c.place_in.ensures)

pub returns-in-Some-3-clause-fault : goal.returns-in-Some-3-clause-fault
returns-in-Some-3-clause-fault c =
    let ps = c.args.placed.now in
    let cut = c.in_ok-cut.cut in
    let all = c.in-Some-2.trees.items in
    let spell : AllSpell ps all = rw c.in-Some-2.is at c.in_ok-spelled.ensures in
    let fault : tree_fault ps cut all ≡ Some c.in-Some-3.fault =
    ap (λ ts. tree_fault ps cut ts) (sym c.as_slice.ensures.value) ∙ (sym c.in_ok-fault.ensures ∙ c.in-Some-3.is) in
    inr (fault-misplaced ps c.args.end cut all c.in-Some-3.fault (sym c.deep_fault.ensures ∙ c.in-None.is) c.in_ok-cut.ensures spell fault)
