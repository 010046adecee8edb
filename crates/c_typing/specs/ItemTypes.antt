-- The types of the expressions of an item, and its local names.
use Rattle.std.specs.Prelude.{[], ◌++◌}
use Rattle.c_terms.specs.declared.tree.Tree.{Tree}
use Rattle.c_types.specs.TreeKeys.{part_keys}
use Rattle.c_types.specs.Tables.{ItemTypes, with_all, with_ids, typed}
use Rattle.c_typing.specs.declared.scope.Scope.{Scope}
use Rattle.c_typing.specs.Declarations.{own_name}
use Rattle.c_typing.specs.Locals.{local_names}
use Rattle.c_typing.specs.Parts.{part_types}

-- The types of the expressions of an item under what the items before it have declared, by place, and its local names. If keys
-- are the same, the first place counts.
abbrev pub item_types : Scope → Tree → ItemTypes
item_types s item = record {
  trees = with_all [] (typed (part_keys item) (part_types (s.names ++ own_name item) s.fields item));
  locals = with_ids [] (local_names item);
}
