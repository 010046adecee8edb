use Rattle.std.proofs.Common.{◌≡◌, ◌<◌, false, length, arith}
use Rattle.c_terms.specs.Names.{has_name}
use Rattle.iso_expand.proofs.IsoForms.SeenLemmas.{gains}
use Rattle.iso_expand.proofs.iso_forms.listed.Listed.add.Goals as goal

pub returns-clause-forms : goal.returns-clause-forms
returns-clause-forms c =
    let seen = c.args.self.now.seen in
    let key = c.in_ok-key.key.items in
    let new : has_name seen key ≡ false = cc (c.if-has.ensures, c.if-has.false, c.has.ensures, c.as_slice.ensures.value) in
    let few : length c.args.self.now.list < c.args.limit = omega (arith, c.len.ensures) in
    gains c.args.limit c.args.self.now.list c.push.new.self seen c.add.new.self c.args.tree key c.in_ok-key.ensures c.requires.knows new
    c.in_ok-add.ensures c.in_ok-push.ensures.ok few
