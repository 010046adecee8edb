use Rattle.std.proofs.Common.{◌∙◌}
use Rattle.c_typing.proofs.FieldLemmas.{found-field}
use Rattle.c_typing.proofs.field.Fields.find.Goals as goal

pub returns : goal.returns
returns c =
    rw (← c.self.view_is) (c.get.ensures.value
    ∙ found-field c.self.inside.types.entries c.in_ok-key.key c.args.is_union c.args.tag.now c.args.name.now c.in_ok-key.ensures)
