-- What declarations declare, and for which of the trees beside them (6.2.1).
use Rattle.std.specs.Prelude.{List, [], ◌∷◌, map, Option, None, Some, if◌then◌else◌}
use Rattle.std.specs.Option.{option_map}
use Rattle.std.specs.List.{filter_map}
use Rattle.c_terms.specs.declared.label.Label.{Label}
use Rattle.c_terms.specs.declared.label.Label.TheVariants as label
use Rattle.c_terms.specs.declared.tree.Tree.{Tree, out-Tree}
use Rattle.c_terms.specs.declared.tree.Tree.TheOpen.{Tree-F}
use Rattle.c_terms.specs.Trees.{join}
use Rattle.c_types.specs.declared.ty.Ty.{Ty}
use Rattle.c_typing.specs.declared.binding.Binding.{Binding}
use Rattle.c_types.specs.Types as types
use Rattle.c_typing.specs.Base.{kids, is_typedef}
use Rattle.c_typing.specs.Declarators.{declared, declared_name, function_params}

-- the type of the object that a declarator declares, if it declares one
abbrev pub object_type : Tree → Tree → Option Ty
object_type specs d = if is_typedef specs then None else declared specs (Some d)

-- the name that a declarator declares, with its type
abbrev pub binding_of : Tree → Tree → Option Binding
binding_of specs d = option_map (λ n. record { name = n; ty = object_type specs d }) (declared_name d)

-- the names that a declaration, a field, a parameter or a function declares, given its specifiers and what follows them
abbrev pub declared_by : List Tree → List Binding
declared_by [] = []
declared_by (specs ∷ declarators) = filter_map (binding_of specs) declarators

-- the same name with the type that it has as a parameter
abbrev pub as_param : Binding → Binding
as_param b = record { name = b.name; ty = option_map types.adjusted b.ty }

abbrev pub param_by : Label → List Tree → List Binding
param_by label.Param cs = map as_param (declared_by cs)
param_by _ cs = []

abbrev pub param_in : Tree-F Tree → List Binding
param_in (Tree-F.Leaf token) = []
param_in (Tree-F.Branch l cs) = param_by l cs

-- what a member of a list of parameters declares
abbrev pub param : Tree → List Binding
param t = param_in (out-Tree t)

abbrev pub params_of : List Tree → List Binding
params_of ms = join (map param ms)

abbrev pub list_bindings : Option Tree → List Binding
list_bindings None = []
list_bindings (Some params) = params_of (kids params)

-- the parameters of a function, given its declarator
abbrev pub function_bindings : Tree → List Binding
function_bindings d = list_bindings (function_params d)

abbrev pub declaration_by : Label → List Tree → List Binding
declaration_by label.Decl cs = declared_by cs
declaration_by _ cs = []

abbrev pub declaration_in : Tree-F Tree → List Binding
declaration_in (Tree-F.Leaf token) = []
declaration_in (Tree-F.Branch l cs) = declaration_by l cs

-- what a tree declares if it is a declaration
abbrev pub declaration : Tree → List Binding
declaration t = declaration_in (out-Tree t)

-- what a child of a branch declares for the children that follow it: a declaration for the rest of its block or loop, a
-- parameter for the rest of its list, and the declarator of a function for the function's block
abbrev pub declared_for_rest : Label → Tree → List Binding
declared_for_rest label.Block c = declaration c
declared_for_rest label.ForDecl c = declaration c
declared_for_rest label.Params c = param c
declared_for_rest label.FunDef c = function_bindings c
declared_for_rest _ c = []

abbrev pub item_by : Label → List Tree → List Binding
item_by label.Decl cs = declared_by cs
item_by label.FunDef cs = declared_by cs
item_by _ cs = []

abbrev pub item_in : Tree-F Tree → List Binding
item_in (Tree-F.Leaf token) = []
item_in (Tree-F.Branch l cs) = item_by l cs

-- what an item declares for the items that follow it
abbrev pub item_names : Tree → List Binding
item_names t = item_in (out-Tree t)

abbrev pub own_by : Label → List Tree → List Binding
own_by label.FunDef cs = declared_by cs
own_by _ cs = []

abbrev pub own_in : Tree-F Tree → List Binding
own_in (Tree-F.Leaf token) = []
own_in (Tree-F.Branch l cs) = own_by l cs

-- the name of a function, which is seen in the function itself
abbrev pub own_name : Tree → List Binding
own_name t = own_in (out-Tree t)
