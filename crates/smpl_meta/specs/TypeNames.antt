-- The names of a rule's `type` metavariables.
use Rattle.std.specs.Prelude.{ℕ, Bool, true, false, ◌&&◌, ◌||◌, List, fold, map, if◌then◌else◌}
use Rattle.std.specs.List.{list_any}
use Rattle.c_terms.specs.declared.label.Label.{Label}
use Rattle.c_terms.specs.declared.label.Label.TheVariants as label
use Rattle.c_terms.specs.declared.token.MetaKind.TheVariants as meta
use Rattle.c_terms.specs.declared.tree.Tree.{Tree, out-Tree}
use Rattle.c_terms.specs.declared.tree.Tree.TheOpen.{Tree-F}
use Rattle.c_terms.specs.declared.tree.Tree.TheVariants.{Leaf, Branch}
use Rattle.c_terms.specs.declared.tree.Tree.TheFolds.{fold-Tree}
use Rattle.c_terms.specs.Names.{has_name, with_name}
use Rattle.c_types.specs.Tables.{is_name_kind}
use Rattle.smpl_patch.specs.declared.pattern.VarKind.TheVariants.{Meta}
use Rattle.smpl_meta.specs.declared.item.DeclKind.{DeclKind}
use Rattle.smpl_meta.specs.declared.item.DeclKind.TheVariants.{Var}
use Rattle.smpl_meta.specs.declared.item.Item.{Item}

abbrev pub is_type : DeclKind → Bool
is_type (Var (Meta meta.Typ)) = true
is_type _ = false

abbrev pub with_name_of : List (List ℕ) → Item → List (List ℕ)
with_name_of names i = if is_type i.kind then with_name names i.named.name.token.text else names

-- the names, and those among these items that are of the kind `type`
abbrev pub with_type_names : List (List ℕ) → List Item → List (List ℕ)
with_type_names names items = fold with_name_of names items

abbrev pub is_specs : Label → Bool
is_specs label.Specs = true
is_specs _ = false

abbrev pub names_type_in : List (List ℕ) → Label → Tree-F Tree → Bool
names_type_in types l (Tree-F.Leaf a) = is_specs l && (is_name_kind a.kind && has_name types a.text)
names_type_in types l (Tree-F.Branch k cs) = false

-- the child of a branch with this label is a specifier that names one of these types
abbrev pub names_type : List (List ℕ) → Label → Tree → Bool
names_type types l t = names_type_in types l (out-Tree t)

-- a tree, and whether specifiers in it name one of the types
pub record Naming : Type 0 where
  pub tree : Tree
  pub named : Bool

abbrev pub naming_step : List (List ℕ) → Tree-F Naming → Naming
naming_step types (Tree-F.Leaf a) = record { tree = Leaf a; named = false }
naming_step types (Tree-F.Branch l ks) = record {
  tree = Branch l (map (λ k. k.tree) ks);
  named = list_any (λ (k : Naming). names_type types l k.tree || k.named) ks;
}

-- specifiers in the tree name one of these types, other than as a tag
abbrev pub is_named_in : List (List ℕ) → Tree → Bool
is_named_in types t = (fold-Tree Naming (naming_step types) t).named
