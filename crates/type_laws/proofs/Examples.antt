-- Two expressions with one key and two types: `sizeof` and a call, of the same children or of none.
use Rattle.std.proofs.Common.{◌≡◌, ℕ, ◌+◌, ◌<◌, ◌^◌, max, true, cond, nat_eq, refl, sym, ap, subst, ◌∙◌, arith}
use Rattle.std.proofs.Common.{List, [], ◌∷◌, ◌++◌, map, length, Option, Some, None, option_map, slice_get, codes}
use Rattle.std.specs.List.{IsDistinct}
use Rattle.std.proofs.lemmas.Option.{none-some, slice_get-map}
use Rattle.c_terms.specs.declared.token.Token.{Token}
use Rattle.c_terms.specs.declared.token.TokenKind.TheVariants as kind
use Rattle.c_terms.specs.declared.label.Label.{Label}
use Rattle.c_terms.specs.declared.label.Label.TheVariants as label
use Rattle.c_terms.specs.declared.tree.Tree.{Tree}
use Rattle.c_terms.specs.declared.tree.Tree.TheVariants.{Leaf, Branch}
use Rattle.c_terms.specs.Trees.{leaves, levels, levels_of_all}
use Rattle.c_terms.specs.Places.{Place, below, parts}
use Rattle.c_terms.specs.Shapes.{is_expression_part, expression_at}
use Rattle.c_terms.proofs.TreeLemmas.{leaves-Leaf, leaves-Branch, levels-Leaf, levels-Branch}
use Rattle.c_terms.proofs.SameLemmas.{out-Branch}
use Rattle.c_terms.proofs.PlaceLaws.{parts-Leaf, parts-Branch}
use Rattle.c_types.specs.declared.ty.Ty.{Ty}
use Rattle.c_types.specs.declared.ty.Ty.TheVariants.{Named}
use Rattle.c_types.specs.TreeKeys.{first_id, level_count, key_of}
use Rattle.c_types.specs.Tables.{type_at, type_in}
use Rattle.c_typing.specs.declared.scope.Scope.{Scope}
use Rattle.c_typing.specs.declared.binding.Binding.{Binding}
use Rattle.c_typing.specs.Declarations.{own_name}
use Rattle.c_typing.specs.Fields.{Field}
use Rattle.c_typing.specs.Expressions.{size_type, branch_type}
use Rattle.c_typing.specs.Parts.{declared_around, type_of, part_type, part_types}
use Rattle.c_typing.specs.Scopes.{no_declarations}
use Rattle.c_typing.specs.ItemTypes.{item_types}
use Rattle.c_typing.proofs.FoldLemmas.{type_leaf, type_branch}
use Rattle.type_laws.specs.Places.{ids}

-- two expressions with a comma around them
module _ (ks : List Tree) where
  abbrev size : Tree
  size = Branch label.SizeofType ks

  abbrev call : Tree
  call = Branch label.Call ks

  abbrev both : Tree
  both = Branch label.Comma (size ∷ call ∷ [])

  abbrev size_place : Place
  size_place = record { path = 0 ∷ []; tree = size }

  abbrev call_place : Place
  call_place = record { path = 1 ∷ []; tree = call }

  same_key : key_of size ≡ key_of call
  same_key =
      let f : leaves size ≡ leaves call = leaves-Branch label.SizeofType ks ∙ sym (leaves-Branch label.Call ks) in
      let n : levels size ≡ levels call = levels-Branch label.SizeofType ks ∙ sym (levels-Branch label.Call ks) in
      let first : first_id size ≡ first_id call = ap (λ (ts : List Token). option_map (λ (a : Token). a.id) (slice_get ts 0)) f in
      let count : level_count size ≡ level_count call = omega (arith, n) in
      λ i. record { first = first i; levels = count i }

  few : levels_of_all ks ≡ 0 → levels both < 2 ^ 64
  few z =
      let s : levels size ≡ levels_of_all ks + 1 = levels-Branch label.SizeofType ks in
      let c : levels call ≡ levels_of_all ks + 1 = levels-Branch label.Call ks in
      let b : levels both ≡ max (levels size) (max (levels call) 0) + 1 = levels-Branch label.Comma (size ∷ call ∷ []) in
      omega (arith, z, s, c, b)

  -- the two are the first parts, if the first has none
  two : parts is_expression_part size ≡ [] → parts is_expression_part both
      ≡ size_place ∷ call_place ∷ (map (below 1) (parts is_expression_part call) ++ [])
  two n =
      let s : is_expression_part label.Comma 0 size ≡ true = ap expression_at (out-Branch label.SizeofType ks) in
      let c : is_expression_part label.Comma 1 call ≡ true = ap expression_at (out-Branch label.Call ks) in
      parts-Branch is_expression_part label.Comma (size ∷ call ∷ [])
      ∙ (λ i. (cond (s i) (size_place ∷ []) [] ++ map (below 0) (n i))
      ++ ((cond (c i) (call_place ∷ []) [] ++ map (below 1) (parts is_expression_part call)) ++ []))

  abbrev Finds : ℕ → Place → Type 0
  Finds k p = (ty : Option Ty) → slice_get (parts is_expression_part both) k ≡ Some p
      → slice_get (part_types (no_declarations.names ++ own_name both) no_declarations.fields both) k ≡ Some ty
      → type_in (item_types no_declarations both) p.tree ≡ ty

  -- the first has a type, and the other has none
  apart : parts is_expression_part size ≡ []
      → ((names : List Binding) (fields : List Field) → branch_type fields label.Call ks (map (type_of names fields) ks) ≡ None)
      → Finds 0 size_place → Finds 1 call_place → ⊥
  apart n none f g =
      let at : Place → Option Ty = part_type (no_declarations.names ++ own_name both) no_declarations.fields both in
      let listed = two n in
      let first : slice_get (parts is_expression_part both) 0 ≡ Some size_place = ap (λ (ps : List Place). slice_get ps 0) listed in
      let second : slice_get (parts is_expression_part both) 1 ≡ Some call_place = ap (λ (ps : List Place). slice_get ps 1) listed in
      let seen : Place → List Binding = λ p. (no_declarations.names ++ own_name both) ++ declared_around both p.path in
      let sized : at size_place ≡ size_type = type_branch (seen size_place) no_declarations.fields label.SizeofType ks in
      let called : at call_place ≡ None = type_branch (seen call_place) no_declarations.fields label.Call ks
      ∙ none (seen call_place) no_declarations.fields in
      let typed : type_in (item_types no_declarations both) size ≡ size_type = f size_type first
      (slice_get-map at (parts is_expression_part both) 0 ∙ ap (option_map at) first ∙ ap Some sized) in
      let untyped : type_in (item_types no_declarations both) call ≡ None = g None second
      (slice_get-map at (parts is_expression_part both) 1 ∙ ap (option_map at) second ∙ ap Some called) in
      let one : type_in (item_types no_declarations both) size ≡ type_in (item_types no_declarations both) call =
      ap (type_at (item_types no_declarations both).trees) same_key in
      none-some (Named (codes "size_t")) (sym untyped ∙ sym one ∙ typed)

-- ---- without tokens

no_parts : parts is_expression_part (size []) ≡ []
no_parts = parts-Branch is_expression_part label.SizeofType []

no_ids : ids (both []) ≡ []
no_ids =
    let s : leaves (size []) ≡ [] = leaves-Branch label.SizeofType [] in
    let c : leaves (call []) ≡ [] = leaves-Branch label.Call [] in
    let b : leaves (both []) ≡ leaves (size []) ++ (leaves (call []) ++ []) = leaves-Branch label.Comma (size [] ∷ call [] ∷ []) in
    ap (map (λ (a : Token). a.id)) (b ∙ (λ i. s i ++ (c i ++ [])))

none_twice : IsDistinct nat_eq []
unfolding IsDistinct
none_twice = tt

pub tokens_needed : ((s : Scope) (item : Tree) (k : ℕ) (p : Place) (ty : Option Ty) → IsDistinct nat_eq (ids item) → levels item < 2 ^ 64
    → slice_get (parts is_expression_part item) k ≡ Some p
    → slice_get (part_types (s.names ++ own_name item) s.fields item) k ≡ Some ty → type_in (item_types s item) p.tree ≡ ty) → ⊥
tokens_needed law =
    let distinct : IsDistinct nat_eq (ids (both [])) = subst (IsDistinct nat_eq) (sym no_ids) none_twice in
    apart [] no_parts (λ names fields. refl) (λ ty. law no_declarations (both []) 0 (size_place []) ty distinct (few [] refl))
    (λ ty. law no_declarations (both []) 1 (call_place []) ty distinct (few [] refl))

-- ---- with a token whose id is twice

abbrev number : Token
number = record { kind = kind.Number; text = codes "1"; id = 0 }

abbrev kids : List Tree
kids = Leaf number ∷ []

few_kids : levels_of_all kids ≡ 0
few_kids = let z : levels (Leaf number) ≡ 0 = levels-Leaf number in omega (arith, z)

kid_parts : parts is_expression_part (size kids) ≡ []
kid_parts = parts-Branch is_expression_part label.SizeofType kids ∙ ap (λ ps. map (below 0) ps ++ []) (parts-Leaf is_expression_part number)

some_token : (l : Label) → 0 < length (leaves (Branch l kids))
some_token l =
    let b : leaves (Branch l kids) ≡ number ∷ [] = leaves-Branch l kids ∙ ap (λ ts. ts ++ []) (leaves-Leaf number) in
    subst (λ (ts : List Token). 0 < length ts) (sym b) (omega arith)

pub ids_needed : ((s : Scope) (item : Tree) (k : ℕ) (p : Place) (ty : Option Ty) → levels item < 2 ^ 64
    → slice_get (parts is_expression_part item) k ≡ Some p
    → slice_get (part_types (s.names ++ own_name item) s.fields item) k ≡ Some ty
    → 0 < length (leaves p.tree) → type_in (item_types s item) p.tree ≡ ty) → ⊥
ids_needed law =
    apart kids kid_parts (λ names fields. ap (λ t. branch_type fields label.Call kids (t ∷ [])) (type_leaf names fields number))
    (λ ty e t. law no_declarations (both kids) 0 (size_place kids) ty (few kids few_kids) e t (some_token label.SizeofType))
    (λ ty e t. law no_declarations (both kids) 1 (call_place kids) ty (few kids few_kids) e t (some_token label.Call))
