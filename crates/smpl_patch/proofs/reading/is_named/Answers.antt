use Rattle.std.proofs.Common.{◌≡◌, false, sym, ap, ◌∙◌}
use Rattle.c_terms.specs.Same.{same_bytes}
use Rattle.smpl_patch.proofs.NameLemmas.{unnamed}
use Rattle.smpl_patch.proofs.reading.is_named.Goals as goal

pub returns-else-same_text : goal.returns-else-same_text
returns-else-same_text c =
    let name = c.args.name.now in
    let x = c.args.x.now in
    let s = c.same_text.ensures.value ∙ ap (λ z. same_bytes name z) c.as_bytes.ensures.bytes in
    let q : same_bytes name x.name ≡ false = sym s ∙ c.if-same_text.false in
    c.if-same_text.false ∙ sym (unnamed c.args.decls.now name x q)
