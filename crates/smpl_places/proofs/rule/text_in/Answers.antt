use Rattle.smpl_places.proofs.UnspelledLemmas.{not_memory}
use Rattle.smpl_places.proofs.rule.text_in.Goals as goal

pub returns-else-is_no_memory : goal.returns-else-is_no_memory
returns-else-is_no_memory c = λ text is.
    c.patch_is_read_once.ensures.apart c.args.bytes.now text c.in-Err.fault is
    (not_memory c.is_no_memory.result c.if-is_no_memory.false c.is_no_memory.ensures c.in-Err.ensures.fault)
