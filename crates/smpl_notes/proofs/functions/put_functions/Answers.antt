use Rattle.std.proofs.Common.{sym, arith}
use Rattle.std.proofs.lemmas.List.{append-nil}
use Rattle.smpl_notes.proofs.BodyLemmas.{slips-one, slips-other}
use Rattle.smpl_notes.proofs.functions.put_functions.Goals as goal

pub returns-in-len1 : goal.returns-in-len1
returns-in-len1 c =
    rw (slips-one c.args.mode c.args.elems.now c.elem-item.result (omega (arith, c.in-len1.len_at_least, c.in-len1.len_below)) c.elem-item.is)
    c.put_element.ensures

pub returns-in_default-2 : goal.returns-in_default-2
returns-in_default-2 c =
    rw (slips-other c.args.mode c.args.elems.now (λ e. omega arith)) (sym (append-nil c.args.found.now))
