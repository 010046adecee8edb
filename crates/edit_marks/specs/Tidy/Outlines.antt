-- The outline of items: their tokens, and by these their bodies, the statements that have bodies, and the lists between brackets.
use Rattle.std.specs.Prelude.{ℕ, zero, suc, ◌≡◌, ◌+◌, ◌-◌, ◌&&◌, ◌||◌, Bool, true, false, not, List, [], ◌∷◌, ◌++◌, codes, get_or, length, map}
use Rattle.std.specs.Prelude.{nat_eq, nat_lt, slice_get, Option, None, Some, if◌then◌else◌}
use Rattle.std.specs.List.{cons_option, filter_map, flat_map}
use Rattle.std.specs.Str.{bytes_eq}
use Rattle.c_terms.specs.declared.label.Label.{Label}
use Rattle.c_terms.specs.declared.label.Label.TheVariants as label
use Rattle.c_terms.specs.declared.tree.Tree.{Tree, out-Tree}
use Rattle.c_terms.specs.declared.tree.Tree.TheOpen.{Tree-F}
use Rattle.c_terms.specs.declared.tree.Tree.TheVariants.{Leaf, Branch}
use Rattle.c_terms.specs.declared.tree.Tree.TheFolds.{fold-Tree}
use Rattle.c_terms.specs.Shapes.{is_body, is_head_label}
use Rattle.c_terms.specs.Trees.{leaves}
use Rattle.cpp_lines.specs.declared.reading.Item.{Item}
use Rattle.edit_marks.specs.declared.tidy.shape.Body.{Body}
use Rattle.edit_marks.specs.declared.tidy.shape.BracketList.{BracketList}
use Rattle.edit_marks.specs.declared.tidy.shape.LeafRange.{LeafRange}
use Rattle.edit_marks.specs.declared.tidy.shape.Outline.{Outline}
use Rattle.edit_marks.specs.EditWalk.Keys.{number_of}
use Rattle.edit_marks.specs.EditWalk.Named.{tree_of}
use Rattle.edit_marks.specs.Tidy.Reach.{is_block_label}

-- ---- labels and children

-- a function, whose body is its own block
abbrev pub is_function : Label → Bool
is_function label.FunDef = true
is_function label.MacroFun = true
is_function l = false

-- a statement that has bodies: `if`, `while`, `do`, `for`, `switch`, or a macro that is used as a loop
abbrev pub has_bodies : Label → Bool
has_bodies l = is_head_label l && not (is_function l)

abbrev pub is_if_else : Label → Bool
is_if_else label.IfElse = true
is_if_else l = false

abbrev pub is_init_list : Label → Bool
is_init_list label.InitList = true
is_init_list l = false

-- arguments of a call, or parameters of a function, which stand between brackets
abbrev pub is_bracketed_label : Label → Bool
is_bracketed_label label.Args = true
is_bracketed_label label.Params = true
is_bracketed_label l = false

abbrev pub block_shape : Tree-F Tree → Bool
block_shape (Tree-F.Leaf token) = false
block_shape (Tree-F.Branch l children) = is_block_label l

abbrev pub is_block : Tree → Bool
is_block t = block_shape (out-Tree t)

abbrev pub bracketed_shape : Tree-F Tree → Bool
bracketed_shape (Tree-F.Leaf token) = false
bracketed_shape (Tree-F.Branch l children) = is_bracketed_label l

abbrev pub is_bracketed : Tree → Bool
is_bracketed t = bracketed_shape (out-Tree t)

abbrev pub semicolon_shape : Tree-F Tree → Bool
semicolon_shape (Tree-F.Leaf token) = bytes_eq token.text (codes ";")
semicolon_shape (Tree-F.Branch l children) = false

abbrev pub is_semicolon : Option Tree → Bool
is_semicolon None = false
is_semicolon (Some t) = semicolon_shape (out-Tree t)

abbrev pub ending_shape : Tree-F Tree → Bool
ending_shape (Tree-F.Leaf token) = false
ending_shape (Tree-F.Branch l children) = is_semicolon (slice_get children (length children - 1))

-- the last child of the tree is a `;`
abbrev pub ends_in_semicolon : Tree → Bool
ends_in_semicolon t = ending_shape (out-Tree t)

-- ---- what branches have

-- what is known of a tree while what its branches have is gathered: given its path and its first leaf
pub record Seen (A : Type 0) : Type 0 where
  pub tree : Tree
  pub found : List ℕ → ℕ → List A

module _ (ids : List ℕ) where
  -- the number of a token, if it has one
  abbrev pub token_of : ℕ → List ℕ
  token_of id = cons_option (number_of ids id) []

  -- the numbers of the tokens of a tree
  abbrev pub tokens_of : Tree → List ℕ
  tokens_of t = filter_map (number_of ids) (map (λ l. l.id) (leaves t))

  abbrev pub tokens_in : List Tree → List ℕ
  tokens_in [] = []
  tokens_in (t ∷ ts) = tokens_of t ++ tokens_in ts

  abbrev pub tokens_of_item : Option Tree → List ℕ
  tokens_of_item None = []
  tokens_of_item (Some t) = tokens_of t

  -- the numbers of the tokens of the items with these numbers
  abbrev pub tokens_of_items : List Item → List ℕ → List ℕ
  tokens_of_items items touched = flat_map (λ n. tokens_of_item (tree_of items n)) touched

  -- where each of these children begins, and where the last one ends, if the first begins at this leaf
  abbrev pub bounds : ℕ → List Tree → List ℕ
  bounds from [] = from ∷ []
  bounds from (c ∷ children) = from ∷ bounds (from + length (tokens_of c)) children

  -- What a branch has by itself is given by the path to it, its first leaf, its label and its children. What a tree has is what
  -- its children have, in their order, and then what it has by itself.
  module _ {A : Type 0} (own : List ℕ → ℕ → Label → List Tree → List A) where
    abbrev pub gather_seen : List ℕ → ℕ → ℕ → List (Seen A) → List A
    gather_seen path i from [] = []
    gather_seen path i from (k ∷ ks) = k.found (path ++ i ∷ []) from ++ gather_seen path (suc i) (from + length (tokens_of k.tree)) ks

    abbrev pub gather_step : Tree-F (Seen A) → Seen A
    gather_step (Tree-F.Leaf token) = record { tree = Leaf token; found = λ path from. [] }
    gather_step (Tree-F.Branch l ks) =
        let children = map (λ k. k.tree) ks in
        record { tree = Branch l children; found = λ path from. gather_seen path 0 from ks ++ own path from l children }

    -- all that a tree has, at this path and with this first leaf
    abbrev pub gather : Tree → List ℕ → ℕ → List A
    gather t path from = (fold-Tree (Seen A) gather_step t).found path from

    -- the same of children from a number on
    abbrev pub gather_in : List ℕ → ℕ → ℕ → List Tree → List A
    gather_in path i from [] = []
    gather_in path i from (c ∷ children) = gather c (path ++ i ∷ []) from ++ gather_in path (suc i) (from + length (tokens_of c)) children

    abbrev pub gather_item : Option Tree → ℕ → List A
    gather_item None from = []
    gather_item (Some t) from = gather t [] from

  -- what the items with these numbers have, where what branches have may depend on their item's number
  abbrev pub gather_items : {A : Type 0} → (ℕ → List ℕ → ℕ → Label → List Tree → List A) → List Item → ℕ → List ℕ → List A
  gather_items own items from [] = []
  gather_items own items from (n ∷ touched) =
      gather_item (own n) (tree_of items n) from ++ gather_items own items (from + length (tokens_of_item (tree_of items n))) touched

-- ---- bodies, statements and lists

-- the leaf at which a child begins, and the one before which it ends
abbrev pub range_at : List ℕ → ℕ → LeafRange
range_at bounds i = record { from = get_or bounds i 0; to = get_or bounds (i + 1) 0 }

-- the leaves of a branch with so many children
abbrev pub whole : List ℕ → ℕ → LeafRange
whole bounds count = record { from = get_or bounds 0 0; to = get_or bounds count 0 }

-- where the second body of an `if` with `else` ends, as its first body has it
abbrev pub second_end : Label → List ℕ → ℕ → ℕ → Option ℕ
second_end l bounds count i = if is_if_else l && nat_eq i 4 && nat_lt 6 count then Some (get_or bounds 7 0) else None

-- the bodies of a branch of this item, at this path, with this label and so many children
module _ (item : ℕ) (path : List ℕ) (l : Label) (bounds : List ℕ) (count : ℕ) where
  abbrev pub body_at : ℕ → Tree → Body
  body_at i c = record {
    item = item;
    path = path ++ i ∷ [];
    leaves = range_at bounds i;
    is_block = is_block c;
    has_semicolon = ends_in_semicolon c;
    second_end = second_end l bounds count i;
    owner = get_or bounds 0 0;
    is_function = is_function l;
  }

  abbrev pub body_if : ℕ → Tree → List Body
  body_if i c = if is_body l count i then body_at i c ∷ [] else []

  -- those among the children from a number on
  abbrev pub bodies_from : ℕ → List Tree → List Body
  bodies_from i [] = []
  bodies_from i (c ∷ children) = body_if i c ++ bodies_from (suc i) children

abbrev pub bodies_of : ℕ → List ℕ → Label → List ℕ → List Tree → List Body
bodies_of item path l bounds children = bodies_from item path l bounds (length children) 0 children

abbrev pub statement_of : Label → List ℕ → ℕ → List LeafRange
statement_of l bounds count = if has_bodies l then whole bounds count ∷ [] else []

-- a list that stands between two tokens of its branch
abbrev pub list_between : LeafRange → LeafRange → List BracketList
list_between all own = if nat_lt all.from own.from && nat_lt own.to all.to
    then record { opening = own.from - 1; closing = own.to; is_init = false } ∷ [] else []

abbrev pub list_if : Tree → LeafRange → LeafRange → List BracketList
list_if c all own = if is_bracketed c then list_between all own else []

-- those among the children from a number on
abbrev pub lists_from : LeafRange → List ℕ → ℕ → List Tree → List BracketList
lists_from all bounds i [] = []
lists_from all bounds i (c ∷ children) = list_if c all (range_at bounds i) ++ lists_from all bounds (suc i) children

-- an initialiser in braces, whose brackets are its first and its last token
abbrev pub init_list : Label → LeafRange → List BracketList
init_list l all = if is_init_list l && nat_lt all.from all.to then record { opening = all.from; closing = all.to - 1; is_init = true } ∷ [] else []

abbrev pub lists_of : Label → List ℕ → List Tree → List BracketList
lists_of l bounds children = let all = whole bounds (length children) in lists_from all bounds 0 children ++ init_list l all

module _ (ids : List ℕ) where
  abbrev pub own_bodies : ℕ → List ℕ → ℕ → Label → List Tree → List Body
  own_bodies item path from l children = bodies_of item path l (bounds ids from children) children

  abbrev pub own_statements : ℕ → List ℕ → ℕ → Label → List Tree → List LeafRange
  own_statements item path from l children = statement_of l (bounds ids from children) (length children)

  abbrev pub own_lists : ℕ → List ℕ → ℕ → Label → List Tree → List BracketList
  own_lists item path from l children = lists_of l (bounds ids from children) children

-- the outline of the items with these numbers, each body, statement and list behind those in it
pub record IsOutline (ids : List ℕ) (items : List Item) (touched : List ℕ) (o : Outline) : Type 0 where
  pub leaves : o.leaves.items ≡ tokens_of_items ids items touched
  pub bodies : o.bodies.items ≡ gather_items ids (own_bodies ids) items 0 touched
  pub statements : o.statements.items ≡ gather_items ids (own_statements ids) items 0 touched
  pub lists : o.lists.items ≡ gather_items ids (own_lists ids) items 0 touched

-- for internal use: what an outline gets of a tree of an item, at this path
pub record AddsTree (ids : List ℕ) (item : ℕ) (t : Tree) (path : List ℕ) (old new : Outline) : Type 0 where
  pub leaves : new.leaves.items ≡ old.leaves.items ++ tokens_of ids t
  pub bodies : new.bodies.items ≡ old.bodies.items ++ gather ids (own_bodies ids item) t path (length old.leaves.items)
  pub statements : new.statements.items ≡ old.statements.items ++ gather ids (own_statements ids item) t path (length old.leaves.items)
  pub lists : new.lists.items ≡ old.lists.items ++ gather ids (own_lists ids item) t path (length old.leaves.items)

pub record AddsItem (ids : List ℕ) (item : ℕ) (t : Option Tree) (old new : Outline) : Type 0 where
  pub leaves : new.leaves.items ≡ old.leaves.items ++ tokens_of_item ids t
  pub bodies : new.bodies.items ≡ old.bodies.items ++ gather_item ids (own_bodies ids item) t (length old.leaves.items)
  pub statements : new.statements.items ≡ old.statements.items ++ gather_item ids (own_statements ids item) t (length old.leaves.items)
  pub lists : new.lists.items ≡ old.lists.items ++ gather_item ids (own_lists ids item) t (length old.leaves.items)

-- what an outline gets of a branch by itself
pub record AddsOwn (item : ℕ) (path : List ℕ) (l : Label) (bounds : List ℕ) (children : List Tree) (old new : Outline) : Type 0 where
  pub leaves : new.leaves.items ≡ old.leaves.items
  pub bodies : new.bodies.items ≡ old.bodies.items ++ bodies_of item path l bounds children
  pub statements : new.statements.items ≡ old.statements.items ++ statement_of l bounds (length children)
  pub lists : new.lists.items ≡ old.lists.items ++ lists_of l bounds children
