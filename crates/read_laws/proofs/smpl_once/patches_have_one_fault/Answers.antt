use Rattle.read_laws.proofs.SmplOnce.RuleLemmas.{rules-fault-once}
use Rattle.read_laws.proofs.SmplOnce.FaultLemmas.{spelling-once, whole-once}
use Rattle.read_laws.proofs.smpl_once.patches_have_one_fault.Goals as goal

pub returns-clause-rules : goal.returns-clause-rules
returns-clause-rules c =
    let b = c.bodies_are_read_once.ensures in
    rules-fault-once c.plus_code_is_read_once.ensures.apart b.fault b.apart

pub returns-clause-spelling : goal.returns-clause-spelling
returns-clause-spelling c =
    let t = c.patch_is_read_once.ensures in
    let h = c.heads_are_read_once.ensures in
    let b = c.bodies_are_read_once.ensures in
    spelling-once (record { once = t.text; fault = t.fault; apart = t.apart; go = t.headers }) (record { once = h.once; first = h.first; alone = h.alone })
    (rules-fault-once c.plus_code_is_read_once.ensures.apart b.fault b.apart)

pub returns-clause-whole : goal.returns-clause-whole
returns-clause-whole c =
    let t = c.patch_is_read_once.ensures in
    let h = c.heads_are_read_once.ensures in
    let b = c.bodies_are_read_once.ensures in
    let p = c.patches_are_read_once.ensures in
    whole-once
    (spelling-once (record { once = t.text; fault = t.fault; apart = t.apart; go = t.headers }) (record { once = h.once; first = h.first; alone = h.alone })
    (rules-fault-once c.plus_code_is_read_once.ensures.apart b.fault b.apart))
    p.patch p.apart
