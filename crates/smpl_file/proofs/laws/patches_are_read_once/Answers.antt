use Rattle.smpl_file.proofs.OnceLemmas.{patch-once, patch-apart, faultless}
use Rattle.smpl_file.proofs.laws.patches_are_read_once.Goals as goal

pub returns-clause-patch : goal.returns-clause-patch
returns-clause-patch c =
    let t = c.patch_is_read_once.ensures in
    patch-once t.text t.headers c.heads_are_read_once.ensures.once c.plus_code_is_read_once.ensures.tokens c.bodies_are_read_once.ensures.body

pub returns-clause-apart : goal.returns-clause-apart
returns-clause-apart c =
    let t = c.patch_is_read_once.ensures in
    let h = c.heads_are_read_once.ensures in
    patch-apart t.text t.headers h.once t.apart h.apart c.plus_code_is_read_once.ensures.apart c.bodies_are_read_once.ensures.apart

pub returns-clause-faultless : goal.returns-clause-faultless
returns-clause-faultless c =
    let t = c.patch_is_read_once.ensures in
    let h = c.heads_are_read_once.ensures in
    let p = c.plus_code_is_read_once.ensures in
    let b = c.bodies_are_read_once.ensures in
    faultless t.text t.headers h.once t.apart h.apart p.tokens p.apart b.body b.apart
