-- The equations of the folds over trees.
use Rattle.std.proofs.Common.{◌≡◌, ℕ, ◌-◌, refl, sym, ap, ◌∙◌, List, [], ◌∷◌, ◌++◌, map, length, Option, None, slice_get}
use Rattle.std.specs.Option.{option_map, option_flatten, option_or}
use Rattle.std.proofs.lemmas.List.{length-map}
use Rattle.std.proofs.lemmas.Option.{slice_get-map}
use Rattle.c_terms.specs.declared.token.Token.{Token}
use Rattle.c_terms.specs.declared.label.Label.{Label}
use Rattle.c_terms.specs.declared.label.Label.TheVariants as label
use Rattle.c_terms.specs.declared.tree.Tree.{Tree}
use Rattle.c_terms.specs.declared.tree.Tree.TheOpen.{Tree-F}
use Rattle.c_terms.specs.declared.tree.Tree.TheVariants.{Leaf, Branch, rolls-Leaf, rolls-Branch}
use Rattle.c_terms.specs.declared.tree.Tree.TheFolds.{fold-Tree, fold-roll-Tree}
use Rattle.c_terms.proofs.Induct.{Each, tree_induction}
use Rattle.c_types.specs.declared.ty.Ty.{Ty}
use Rattle.c_typing.specs.declared.binding.Binding.{Binding}
use Rattle.c_typing.specs.Base.{name}
use Rattle.c_typing.specs.Declarators.{inner, name_step, declared_name, name_token_step, declared_token, derived, apply_to, shape_step, shaped}
use Rattle.c_typing.specs.Declarators.{Lists, lists_step, function_params, own_params}
use Rattle.c_typing.specs.Fields.{Field, Declared, fields_step, fields_in, own_fields, inner_fields}
use Rattle.c_typing.specs.Expressions.{branch_type}
use Rattle.c_typing.specs.Parts.{Typed, token_type, type_step, type_of}

-- a fold at a leaf and at a branch
pub fold-Leaf : (A : Type 0) (step : Tree-F A → A) (a : Token) → fold-Tree A step (Leaf a) ≡ step (Tree-F.Leaf a)
fold-Leaf A step a = ap (fold-Tree A step) (sym (rolls-Leaf a)) ∙ fold-roll-Tree A step _

pub fold-Branch : (A : Type 0) (step : Tree-F A → A) (l : Label) (cs : List Tree)
    → fold-Tree A step (Branch l cs) ≡ step (Tree-F.Branch l (map (fold-Tree A step) cs))
fold-Branch A step l cs = ap (fold-Tree A step) (sym (rolls-Branch l cs)) ∙ fold-roll-Tree A step _

-- the inner declarator of children that are mapped
pub inner_map : {A B : Type 0} (f : A → B) (l : Label) (xs : List A) → inner l (map f xs) ≡ option_map f (inner l xs)
inner_map f label.Pointer xs = ap (λ n. slice_get (map f xs) (n - 1)) (length-map xs f) ∙ slice_get-map f xs (length xs - 1)
inner_map f label.DParen xs = slice_get-map f xs 1
inner_map f label.DArray xs = slice_get-map f xs 0
inner_map f label.DFun xs = slice_get-map f xs 0
inner_map f label.InitDecl xs = slice_get-map f xs 0
inner_map f label.Bits xs = slice_get-map f xs 0
inner_map f _ xs = refl

pub name_leaf : (a : Token) → declared_name (Leaf a) ≡ name (Leaf a)
name_leaf a = fold-Leaf (Option (List ℕ)) name_step a

pub name_branch : (l : Label) (cs : List Tree) → declared_name (Branch l cs) ≡ option_flatten (option_map declared_name (inner l cs))
name_branch l cs = fold-Branch (Option (List ℕ)) name_step l cs ∙ ap option_flatten (inner_map declared_name l cs)

pub token_branch : (l : Label) (cs : List Tree) → declared_token (Branch l cs) ≡ option_flatten (option_map declared_token (inner l cs))
token_branch l cs = fold-Branch (Option Token) name_token_step l cs ∙ ap option_flatten (inner_map declared_token l cs)

pub shaped_leaf : (a : Token) (t : Ty) → shaped (Leaf a) t ≡ t
shaped_leaf a t = ap (λ f. f t) (fold-Leaf (Ty → Ty) shape_step a)

pub shaped_branch : (l : Label) (cs : List Tree) (t : Ty) → shaped (Branch l cs) t ≡ apply_to (option_map shaped (inner l cs)) (derived l t)
shaped_branch l cs t =
    ap (λ f. f t) (fold-Branch (Ty → Ty) shape_step l cs) ∙ ap (λ o. apply_to o (derived l t)) (inner_map shaped l cs)

-- folds that keep the tree
module _ (A : Type 0) (step : Tree-F A → A) (tree : A → Tree)
    (leaf : (a : Token) → tree (step (Tree-F.Leaf a)) ≡ Leaf a)
    (branch : (l : Label) (ks : List A) → tree (step (Tree-F.Branch l ks)) ≡ Branch l (map tree ks)) where
  kids-kept : (cs : List Tree) → Each (λ t. tree (fold-Tree A step t) ≡ t) cs → map tree (map (fold-Tree A step) cs) ≡ cs
  kids-kept [] e = refl
  kids-kept (c ∷ cs) e = let h = e.0 in let r = kids-kept cs e.1 in λ i. h i ∷ r i

  kept : (t : Tree) → tree (fold-Tree A step t) ≡ t
  kept = tree_induction (λ t. tree (fold-Tree A step t) ≡ t)
      (λ a. ap tree (fold-Leaf A step a) ∙ leaf a)
      (λ l cs e. ap tree (fold-Branch A step l cs) ∙ branch l (map (fold-Tree A step) cs) ∙ ap (Branch l) (kids-kept cs e))

  pub all-kept : (cs : List Tree) → map tree (map (fold-Tree A step) cs) ≡ cs
  all-kept [] = refl
  all-kept (c ∷ cs) = let h = kept c in let r = all-kept cs in λ i. h i ∷ r i

-- one after another
pub map-map : {A B C : Type 0} (f : A → B) (g : B → C) (xs : List A) → map g (map f xs) ≡ map (λ x. g (f x)) xs
map-map f g [] = refl
map-map f g (x ∷ xs) = let r = map-map f g xs in λ i. g (f x) ∷ r i

pub params_leaf : (a : Token) → function_params (Leaf a) ≡ None
params_leaf a = ap (λ k. k.params) (fold-Leaf Lists lists_step a)

pub params_branch : (l : Label) (cs : List Tree)
    → function_params (Branch l cs) ≡ option_or (option_flatten (option_map function_params (inner l cs))) (own_params l cs)
params_branch l cs =
    let k = all-kept Lists lists_step (λ k. k.tree) (λ a. refl) (λ l ks. refl) cs in
    let m = map-map (fold-Tree Lists lists_step) (λ k. k.params) cs in
    let n = inner_map function_params l cs in
    ap (λ k. k.params) (fold-Branch Lists lists_step l cs) ∙ (λ i. option_or (option_flatten (inner l (m i))) (own_params l (k i)))
    ∙ ap (λ o. option_or (option_flatten o) (own_params l cs)) n

-- what is known of a child while the fields are collected
abbrev pub child_declared : Tree → Declared
child_declared c = record { tree = c; fields = fields_in c }

pub fields_leaf : (a : Token) → fields_in (Leaf a) ≡ []
fields_leaf a = ap (λ k. k.fields) (fold-Leaf Declared fields_step a)

map-declared : (cs : List Tree) → map (fold-Tree Declared fields_step) cs ≡ map child_declared cs
map-declared [] = refl
map-declared (c ∷ cs) =
    let k = kept Declared fields_step (λ k. k.tree) (λ a. refl) (λ l ks. refl) c in
    let r = map-declared cs in λ i. record { tree = k i; fields = fields_in c } ∷ r i

map-own : (cs : List Tree) → map (λ (d : Declared). d.tree) (map child_declared cs) ≡ cs
map-own [] = refl
map-own (c ∷ cs) = let r = map-own cs in λ i. c ∷ r i

-- the fields of a branch: its own, and those in its children
pub fields_branch : (l : Label) (cs : List Tree) → fields_in (Branch l cs) ≡ own_fields l cs ++ inner_fields l 0 (map child_declared cs)
fields_branch l cs =
    let m = map-declared cs in let o = map-own cs in
    ap (λ k. k.fields) (fold-Branch Declared fields_step l cs)
    ∙ ap (λ ds. own_fields l (map (λ (d : Declared). d.tree) ds) ++ inner_fields l 0 ds) m
    ∙ ap (λ ts. own_fields l ts ++ inner_fields l 0 (map child_declared cs)) o

module _ (names : List Binding) (fields : List Field) where
  pub type_leaf : (a : Token) → type_of names fields (Leaf a) ≡ token_type names a
  type_leaf a = ap (λ k. k.ty) (fold-Leaf Typed (type_step names fields) a)

  pub type_branch : (l : Label) (cs : List Tree) → type_of names fields (Branch l cs) ≡ branch_type fields l cs (map (type_of names fields) cs)
  type_branch l cs =
      let k = all-kept Typed (type_step names fields) (λ k. k.tree) (λ a. refl) (λ l ks. refl) cs in
      let m = map-map (fold-Tree Typed (type_step names fields)) (λ (k : Typed). k.ty) cs in
      ap (λ k. k.ty) (fold-Branch Typed (type_step names fields) l cs) ∙ (λ i. branch_type fields l (k i) (m i))
