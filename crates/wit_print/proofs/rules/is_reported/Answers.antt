use Rattle.std.proofs.Common.{◌≡◌, sym, ap, ◌∙◌, arith}
use Rattle.c_terms.proofs.NamesLemmas.{any-items}
use Rattle.wit_print.proofs.rules.is_reported.Goals as goal

pub returns-else-d : goal.returns-else-d
returns-else-d c =
    let told = c.contains.ensures ∙ any-items (λ k. k.items) c.as_bytes.result.now c.args.exports.now.keys in
    grind (arith, told, c.as_bytes.ensures.bytes, c.if-d.false)
