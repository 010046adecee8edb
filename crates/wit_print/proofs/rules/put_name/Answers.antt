use Rattle.std.proofs.Common.{◌≡◌, sym, ap, ◌∙◌, not, Bool, true, false, map, arith}
use Rattle.c_terms.specs.Names.{has_name, with_name}
use Rattle.c_terms.proofs.NamesLemmas.{any-items, put-new}
use Rattle.wit_print.proofs.Sets.{has_more, has_again, has_put}
use Rattle.wit_print.proofs.rules.put_name.Goals as goal

pub returns-in_ok-insert : goal.returns-in_ok-insert
returns-in_ok-insert c other =
    let absent : c.contains.result ≡ false = grind (arith, c.if-not-contains.true) in
    has_put (λ key. key.items) c.args.names.now.keys c.insert.new.self.keys c.in_ok-from_slice.field-0 c.args.name.now other
    c.in_ok-from_slice.ensures.items (sym (c.contains.ensures ∙ any-items (λ k. k.items) c.args.name.now c.args.names.now.keys)
    ∙ absent) c.in_ok-insert.ensures.keys

pub returns-else-not-contains : goal.returns-else-not-contains
returns-else-not-contains c other =
    let there : c.contains.result ≡ true = grind (arith, c.if-not-contains.false) in
    has_again (map (λ key. key.items) c.args.names.now.keys) c.args.name.now other
    (sym (c.contains.ensures ∙ any-items (λ k. k.items) c.args.name.now c.args.names.now.keys) ∙ there)
