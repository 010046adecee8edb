-- What the items of a file have declared.
use Rattle.std.specs.Prelude.{List, [], ◌++◌, Option, None, Some, slice_get}
use Rattle.c_terms.specs.declared.label.Label.{Label}
use Rattle.c_terms.specs.declared.label.Label.TheVariants as label
use Rattle.c_terms.specs.declared.tree.Tree.{Tree, out-Tree}
use Rattle.c_terms.specs.declared.tree.Tree.TheOpen.{Tree-F}
use Rattle.c_typing.specs.declared.scope.Scope.{Scope}
use Rattle.c_typing.specs.Declarations.{item_names}
use Rattle.c_typing.specs.Fields.{Field, with_fields, fields_in}

abbrev pub no_declarations : Scope
no_declarations = record { names = []; fields = [] }

abbrev pub specifiers_by : Label → List Tree → Option Tree
specifiers_by label.Decl cs = slice_get cs 0
specifiers_by label.FunDef cs = slice_get cs 0
specifiers_by _ cs = None

abbrev pub specifiers_in : Tree-F Tree → Option Tree
specifiers_in (Tree-F.Leaf token) = None
specifiers_in (Tree-F.Branch l cs) = specifiers_by l cs

-- the specifiers of a declaration or a function
abbrev pub specifiers : Tree → Option Tree
specifiers item = specifiers_in (out-Tree item)

abbrev pub fields_by : Option Tree → List Field
fields_by None = []
fields_by (Some specs) = fields_in specs

abbrev pub with_item_fields : List Field → Tree → List Field
with_item_fields fs item = with_fields fs (fields_by (specifiers item))

-- a scope and what one more item declares
abbrev pub with_item : Scope → Tree → Scope
with_item s item = record { names = s.names ++ item_names item; fields = with_item_fields s.fields item }
