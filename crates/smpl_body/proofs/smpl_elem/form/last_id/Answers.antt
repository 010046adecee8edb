use Rattle.std.proofs.Common.{◌≡◌, ◌∙◌, arith}
use Rattle.smpl_body.specs.SmplElem.Forms.{last_kid}
use Rattle.smpl_body.proofs.SmplElem.CountLemmas.{last-at}
use Rattle.smpl_body.proofs.smpl_elem.form.last_id.Goals as goal

pub returns-in-len1-up : goal.returns-in-len1-up
returns-in-len1-up c =
    let e : c.last-item.result ≡ last_kid c.args.children.now =
    c.last-item.is ∙ last-at c.args.children.now c.last-item.result (omega (arith, c.in-len1-up.len_at_least)) in
    rw (← e) c.id_at.ensures
