use Rattle.smpl_places.proofs.UnspelledLemmas.{not_memory}
use Rattle.smpl_places.proofs.CodeLemmas.{without_text, without_heads, with_heads}
use Rattle.smpl_places.proofs.code.code_at.Goals as goal

pub returns-in-Err : goal.returns-in-Err
returns-in-Err c =
    without_text c.args.bytes.now c.args.at (λ text is.
    c.patch_is_read_once.ensures.apart c.args.bytes.now text c.in-Err.fault is
    (not_memory c.is_no_memory.result c.if-is_no_memory.false c.is_no_memory.ensures c.in-Err.ensures.fault))

pub returns-in-Ok-read_headers : goal.returns-in-Ok-read_headers
returns-in-Ok-read_headers c =
    with_heads c.args.bytes.now c.args.at c.in-Ok.text c.in-Ok.ensures.text c.in-Ok-read_headers.heads.heads c.in-Ok-read_headers.ensures.heads
    c.in_ok-code_in-in-Ok-read_headers.field-0 c.in_ok-code_in-in-Ok-read_headers.ensures

pub returns : goal.returns
returns c =
    without_heads c.args.bytes.now c.args.at c.in-Ok.text c.in-Ok.ensures.text (λ heads are.
    c.heads_are_read_once.ensures.alone c.in-Ok.text heads c.in-Err-read_headers.fault
    (c.patch_is_read_once.ensures.headers c.args.bytes.now c.in-Ok.text c.in-Ok.ensures.text) are
    (not_memory c.is_no_memory-in-Err-read_headers.result c.if-is_no_memory-2.false c.is_no_memory-in-Err-read_headers.ensures
    c.in-Err-read_headers.ensures.fault))
