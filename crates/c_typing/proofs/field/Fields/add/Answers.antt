use Rattle.c_typing.proofs.FieldLemmas.{key-named, put-known, put-new}
use Rattle.c_typing.proofs.field.Fields.add.Goals as goal

pub returns-then-contains_key-clause-ok : goal.returns-then-contains_key-clause-ok
returns-then-contains_key-clause-ok c =
    let key = key-named c.in_ok-key.key c.args.is_union c.args.tag.now c.as_bytes.result.now c.args.binding.name c.in_ok-key.ensures
    c.as_bytes.ensures.bytes in
    rw (← c.self.view_is) (put-known c.self.inside.types.entries c.in_ok-key.key c.args.is_union c.args.tag.now c.args.binding.name
    c.args.binding.ty c.contains_key.result key c.contains_key.ensures c.if-contains_key.true)

pub returns-clause-ok : goal.returns-clause-ok
returns-clause-ok c =
    let key = key-named c.in_ok-key.key c.args.is_union c.args.tag.now c.as_bytes.result.now c.args.binding.name c.in_ok-key.ensures
    c.as_bytes.ensures.bytes in
    rw (← c.self.view_is) (put-new c.self.inside.types.entries c.in_ok-key.key c.args.is_union c.args.tag.now c.args.binding.name
    c.args.binding.ty c.contains_key.result key c.contains_key.ensures c.if-contains_key.false c.insert.new.self.entries
    c.in_ok-insert.ensures.entries)
