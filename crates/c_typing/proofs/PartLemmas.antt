-- The types of the expressions in a branch, with one more child.
use Rattle.std.proofs.Common.{◌≡◌, ℕ, suc, ◌+◌, ◌<◌, ◌≤◌, Bool, true, false, cond, refl, sym, ap, ◌∙◌, arith, Option, Some}
use Rattle.std.proofs.Common.{List, [], ◌∷◌, ◌++◌, map, length, take, drop, get_or, append_assoc, drop-cons, slice_get}
use Rattle.std.specs.Option.{option_map_or}
use Rattle.std.proofs.lemmas.List.{map-append, append-nil}
use Rattle.std.proofs.lemmas.Option.{slice_get-get_or}
use Rattle.std.proofs.Math.Seq.{take-suc}
use Rattle.c_terms.specs.declared.token.Token.{Token}
use Rattle.c_terms.specs.declared.label.Label.{Label}
use Rattle.c_terms.specs.declared.label.Label.TheVariants as label
use Rattle.c_terms.specs.declared.tree.Tree.{Tree}
use Rattle.c_terms.specs.declared.tree.Tree.TheVariants.{Leaf, Branch}
use Rattle.c_terms.specs.Trees.{join}
use Rattle.c_terms.specs.Shapes.{is_expression_part}
use Rattle.c_terms.specs.Places.{Place, below, part_at, parts, parts_from, child}
use Rattle.c_terms.proofs.SameLemmas.{out-Branch}
use Rattle.c_terms.proofs.PlaceLemmas.{child-Branch}
use Rattle.c_terms.proofs.PlaceLaws.{child_known, parts-Branch, parts-Leaf}
use Rattle.c_types.specs.declared.ty.Ty.{Ty}
use Rattle.c_typing.specs.declared.binding.Binding.{Binding}
use Rattle.c_typing.specs.Declarations.{declared_for_rest}
use Rattle.c_typing.specs.Fields.{Field}
use Rattle.c_typing.specs.Expressions.{branch_type}
use Rattle.c_typing.specs.Parts.{declared_before, declared_before_in, declared_around, type_of, part_type, part_types, child_types}
use Rattle.c_typing.proofs.FoldLemmas.{type_branch}
use Rattle.c_types.proofs.JoinLemmas.{join-last, dropped}

-- what the first i children declare for those after them
abbrev pub before : Label → List Tree → ℕ → List Binding
before l cs i = join (map (declared_for_rest l) (take i cs))

-- one child more declares for the rest
pub before-next : (l : Label) (cs : List Tree) (i : ℕ) (c : Tree) → i < length cs → c ≡ get_or cs i c
    → before l cs (i + 1) ≡ before l cs i ++ declared_for_rest l c
before-next l cs i c lt e =
    let one : i + 1 ≡ suc i = omega arith in
    let t : take (suc i) cs ≡ take i cs ++ c ∷ [] = take-suc cs i c lt ∙ ap (λ x. take i cs ++ x ∷ []) (sym e) in
    ap (λ n. before l cs n) one ∙ ap (λ ts. join (map (declared_for_rest l) ts)) t
    ∙ ap join (map-append (declared_for_rest l) (take i cs) (c ∷ [])) ∙ join-last (map (declared_for_rest l) (take i cs)) (declared_for_rest l c)

here : (cs : List Tree) (i : ℕ) (c : Tree) → i < length cs → c ≡ get_or cs i c → slice_get cs i ≡ Some c
here cs i c lt e = slice_get-get_or cs i c lt ∙ ap Some (sym e)

-- what is declared around a place in child i
pub around-child : (l : Label) (cs : List Tree) (i : ℕ) (c : Tree) (path : List ℕ) → i < length cs → c ≡ get_or cs i c
    → declared_around (Branch l cs) (i ∷ path) ≡ before l cs i ++ declared_around c path
around-child l cs i c path lt e =
    let d : declared_before (Branch l cs) i ≡ before l cs i = ap (λ layer. declared_before_in layer i) (out-Branch l cs) in
    let k : child (Branch l cs) i ≡ Some c = child-Branch l cs i ∙ here cs i c lt e in
    (λ j. d j ++ option_map_or (λ t. declared_around t path) (k j) [])

module _ (names : List Binding) (fields : List Field) where
  type-below : (l : Label) (cs : List Tree) (i : ℕ) (c : Tree) (p : Place) → i < length cs → c ≡ get_or cs i c
      → part_type names fields (Branch l cs) (below i p) ≡ part_type (names ++ before l cs i) fields c p
  type-below l cs i c p lt e =
      ap (λ ns. type_of (names ++ ns) fields p.tree) (around-child l cs i c p.path lt e)
      ∙ ap (λ ns. type_of ns fields p.tree) (sym (append_assoc names (before l cs i) (declared_around c p.path)))

  types-below : (l : Label) (cs : List Tree) (i : ℕ) (c : Tree) (ps : List Place) → i < length cs → c ≡ get_or cs i c
      → map (part_type names fields (Branch l cs)) (map (below i) ps) ≡ map (part_type (names ++ before l cs i) fields c) ps
  types-below l cs i c [] lt e = refl
  types-below l cs i c (p ∷ ps) lt e =
      let h = type-below l cs i c p lt e in let r = types-below l cs i c ps lt e in λ j. h j ∷ r j

  type-own : (l : Label) (cs : List Tree) (i : ℕ) (c : Tree) → i < length cs → c ≡ get_or cs i c
      → map (part_type names fields (Branch l cs)) (part_at is_expression_part l i c)
      ≡ cond (is_expression_part l i c) (type_of (names ++ before l cs i) fields c ∷ []) []
  type-own l cs i c lt e = by (is_expression_part l i c)
    where
      own : part_type names fields (Branch l cs) (record { path = i ∷ []; tree = c }) ≡ type_of (names ++ before l cs i) fields c
      own = type-below l cs i c (record { path = []; tree = c }) lt e
          ∙ ap (λ ns. type_of ns fields c) (append-nil (names ++ before l cs i))

      by : (b : Bool) → map (part_type names fields (Branch l cs)) (cond b (record { path = i ∷ []; tree = c } ∷ []) [])
          ≡ cond b (type_of (names ++ before l cs i) fields c ∷ []) []
      by true = λ j. own j ∷ []
      by false = refl

  -- the types from child i on
  abbrev pub types_from : Label → List Tree → ℕ → List (Option Ty)
  types_from l cs i = map (part_type names fields (Branch l cs)) (parts_from is_expression_part l i (map (child_known is_expression_part) (drop i cs)))

  -- those of child i, and those from the next child on
  pub types-step : (l : Label) (cs : List Tree) (i : ℕ) (c : Tree) → i < length cs → c ≡ get_or cs i c
      → types_from l cs i ≡ child_types (is_expression_part l i c) (names ++ before l cs i) fields c ++ types_from l cs (i + 1)
  types-step l cs i c lt e =
      let one : i + 1 ≡ suc i = omega arith in
      let d : drop i cs ≡ c ∷ drop (suc i) cs = drop-cons cs i c lt ∙ ap (λ x. x ∷ drop (suc i) cs) (sym e) in
      let pt = part_type names fields (Branch l cs) in
      let own = part_at is_expression_part l i c in
      let deep = map (below i) (parts is_expression_part c) in
      let rest = parts_from is_expression_part l (suc i) (map (child_known is_expression_part) (drop (suc i) cs)) in
      let o = type-own l cs i c lt e in
      let b = types-below l cs i c (parts is_expression_part c) lt e in
      ap (λ ts. map pt (parts_from is_expression_part l i (map (child_known is_expression_part) ts))) d
      ∙ regroup pt own deep rest
      ∙ (λ j. (o j ++ b j) ++ map pt rest)
      ∙ ap (λ n. child_types (is_expression_part l i c) (names ++ before l cs i) fields c ++ types_from l cs n) (sym one)
    where
      regroup : (pt : Place → Option Ty) (own deep rest : List Place) → map pt (own ++ deep ++ rest) ≡ (map pt own ++ map pt deep) ++ map pt rest
      regroup pt own deep rest =
          map-append pt (own ++ deep) rest ∙ ap (λ ts. ts ++ map pt rest) (map-append pt own deep)

  -- a leaf has no parts
  pub types-leaf : (a : Token) → part_types names fields (Leaf a) ≡ []
  types-leaf a = ap (map (part_type names fields (Leaf a))) (parts-Leaf is_expression_part a)

  -- a branch, before its first child
  pub types-start : (l : Label) (cs : List Tree) → types_from l cs 0 ≡ part_types names fields (Branch l cs)
  types-start l cs = ap (map (part_type names fields (Branch l cs))) (sym (parts-Branch is_expression_part l cs))

  -- the types of children, each with what those before it declare
  abbrev pub seen_types : Label → List Binding → List Tree → List (Option Ty)
  seen_types l known [] = []
  seen_types l known (c ∷ cs) = type_of (names ++ known) fields c ∷ seen_types l (known ++ declared_for_rest l c) cs

  quiet-types : (l : Label) → ((c : Tree) → declared_for_rest l c ≡ []) → (cs : List Tree) → seen_types l [] cs ≡ map (type_of names fields) cs
  quiet-types l quiet [] = refl
  quiet-types l quiet (c ∷ cs) =
      let n = append-nil names in let r = quiet-types l quiet cs in let q = quiet c in
      let s : seen_types l ([] ++ declared_for_rest l c) cs ≡ map (type_of names fields) cs = ap (λ k. seen_types l k cs) q ∙ r in
      (λ j. type_of (n j) fields c ∷ s j)

  -- no expression declares anything for its own parts
  pub same-type : (l : Label) (cs : List Tree) → branch_type fields l cs (seen_types l [] cs) ≡ type_of names fields (Branch l cs)
  same-type l cs = by l cs ∙ sym (type_branch names fields l cs)
    where
      by : (l : Label) (cs : List Tree) → branch_type fields l cs (seen_types l [] cs) ≡ branch_type fields l cs (map (type_of names fields) cs)
      by label.Block cs = refl
      by label.ForDecl cs = refl
      by label.Params cs = refl
      by label.FunDef cs = refl
      by l cs = ap (branch_type fields l cs) (quiet-types l (λ c. refl) cs)

  -- one child more, for the types of the children
  pub seen-more : (l : Label) (cs : List Tree) (i : ℕ) (c : Tree) (own after all : List (Option Ty)) (ty : Option Ty) → i < length cs → c ≡ get_or cs i c
      → ty ≡ type_of (names ++ before l cs i) fields c → after ≡ own ++ ty ∷ []
      → own ++ seen_types l (before l cs i) (drop i cs) ≡ all → after ++ seen_types l (before l cs (i + 1)) (drop (i + 1) cs) ≡ all
  seen-more l cs i c own after all ty lt e f g h =
      let one : i + 1 ≡ suc i = omega arith in
      let d : drop i cs ≡ c ∷ drop (i + 1) cs =
      drop-cons cs i c lt ∙ (λ j. sym e j ∷ drop (sym one j) cs) in
      let b = before-next l cs i c lt e in
      let rest = seen_types l (before l cs (i + 1)) (drop (i + 1) cs) in
      let step : seen_types l (before l cs i) (drop i cs) ≡ ty ∷ rest =
      ap (seen_types l (before l cs i)) d ∙ (λ j. sym f j ∷ seen_types l (sym b j) (drop (i + 1) cs)) in
      ap (λ xs. xs ++ rest) g ∙ append_assoc own (ty ∷ []) rest ∙ ap (λ xs. own ++ xs) (sym step) ∙ h

  -- and for those of the expressions in them
  pub found-more : (l : Label) (cs : List Tree) (i : ℕ) (c : Tree) (own after all : List (Option Ty)) (b : Bool) → i < length cs → c ≡ get_or cs i c
      → b ≡ is_expression_part l i c → after ≡ own ++ child_types b (names ++ before l cs i) fields c
      → own ++ types_from l cs i ≡ all → after ++ types_from l cs (i + 1) ≡ all
  found-more l cs i c own after all b lt e f g h =
      let own' = child_types (is_expression_part l i c) (names ++ before l cs i) fields c in
      let now : after ≡ own ++ own' = g ∙ ap (λ t. own ++ child_types t (names ++ before l cs i) fields c) f in
      ap (λ xs. xs ++ types_from l cs (i + 1)) now ∙ append_assoc own own' (types_from l cs (i + 1))
      ∙ ap (λ xs. own ++ xs) (sym (types-step l cs i c lt e)) ∙ h

module _ (names : List Binding) (fields : List Field) (l : Label) (cs : List Tree) (i : ℕ) (past : length cs ≤ i) where
  -- the types of all children
  pub seen-end : (own all : List (Option Ty)) → own ++ seen_types names fields l (before l cs i) (drop i cs) ≡ all → own ≡ all
  seen-end own all h =
      sym (append-nil own) ∙ ap (λ ts. own ++ seen_types names fields l (before l cs i) ts) (sym (dropped cs i past)) ∙ h

  -- and of all expressions in them
  pub found-end : (own all : List (Option Ty)) → own ++ types_from names fields l cs i ≡ all → own ≡ all
  found-end own all h =
      sym (append-nil own)
      ∙ ap (λ ts. own ++ map (part_type names fields (Branch l cs)) (parts_from is_expression_part l i (map (child_known is_expression_part) ts)))
      (sym (dropped cs i past)) ∙ h

-- the names that are seen by a child
pub seen-names : (known locals own now : List Binding) → now ≡ locals ++ own → known ++ now ≡ (known ++ locals) ++ own
seen-names known locals own now h = ap (λ ns. known ++ ns) h ∙ sym (append_assoc known locals own)

-- and by the next one
pub locals-next : (l : Label) (cs : List Tree) (i : ℕ) (c : Tree) (locals now mid next more : List Binding) → i < length cs → c ≡ get_or cs i c
    → now ≡ locals ++ before l cs i → mid ≡ now → more ≡ declared_for_rest l c → next ≡ mid ++ more → next ≡ locals ++ before l cs (i + 1)
locals-next l cs i c locals now mid next more lt e h g m n =
    let seen : mid ≡ locals ++ before l cs i = g ∙ h in
    n ∙ (λ j. seen j ++ m j) ∙ append_assoc locals (before l cs i) (declared_for_rest l c)
    ∙ ap (λ ns. locals ++ ns) (sym (before-next l cs i c lt e))
