use Rattle.std.proofs.Common.{sym, ap}
use Rattle.c_typing.specs.Fields.{with_fields}
use Rattle.c_typing.proofs.FieldLemmas.{row-none}
use Rattle.c_typing.proofs.field.Fields.add_row.Goals as goal

pub returns-in_default-clause-ok : goal.returns-in_default-clause-ok
returns-in_default-clause-ok c =
    ap (with_fields c.args.self.now) (sym (row-none c.args.is_union c.args.tag.now c.args.label c.args.children.now c.in_default.not-Field))
