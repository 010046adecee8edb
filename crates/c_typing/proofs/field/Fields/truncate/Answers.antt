use Rattle.std.proofs.Common.{ap, ◌∙◌, sym}
use Rattle.std.proofs.lemmas.List.{take-map}
use Rattle.c_typing.specs.Fields.{field_at, fields_of_entries}
use Rattle.c_typing.proofs.field.Fields.truncate.Goals as goal

pub returns : goal.returns
returns c =
    rw (← c.self.view_is) (ap fields_of_entries c.truncate.ensures.entries ∙ sym (take-map field_at c.args.len c.self.inside.types.entries))
