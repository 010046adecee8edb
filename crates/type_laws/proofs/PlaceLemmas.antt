-- Places with the same key, and what a table gives at a place.
use Rattle.std.proofs.Common.{◌≡◌, ℕ, ◌-◌, ◌<◌, ◌≤◌, ◌^◌, min, Bool, true, false, ◌&&◌, ◌||◌, cond, nat_eq, refl, sym, ap, subst, ◌∙◌, arith}
use Rattle.std.proofs.Common.{inl, true≢false, eqb-true, eq-eqb, List, [], ◌∷◌, ◌++◌, map, length, Option, Some, None, is_some, option_map, slice_get}
use Rattle.std.specs.List.{IsDistinct}
use Rattle.std.proofs.lemmas.Option.{none-some, same_Some, slice_get-map}
use Rattle.c_terms.specs.declared.token.Token.{Token}
use Rattle.c_terms.specs.declared.label.Label.{Label}
use Rattle.c_terms.specs.declared.tree.Tree.{Tree, out-Tree}
use Rattle.c_terms.specs.declared.tree.Tree.TheOpen.{Tree-F}
use Rattle.c_terms.specs.declared.tree.Tree.TheVariants.{Leaf, Branch}
use Rattle.c_terms.specs.Trees.{leaves, levels}
use Rattle.c_terms.specs.Places.{Place, parts, subtree}
use Rattle.c_terms.specs.Shapes.{is_expression_part}
use Rattle.c_terms.proofs.Induct.{tree_cases}
use Rattle.c_terms.proofs.TreeLemmas.{leaves-Leaf, levels-Leaf}
use Rattle.c_terms.proofs.SameLemmas.{out-Leaf, out-Branch}
use Rattle.c_terms.proofs.FoundLaws.{parts-found}
use Rattle.c_types.specs.declared.ty.Ty.{Ty}
use Rattle.c_types.specs.declared.tree_key.TreeKey.{TreeKey}
use Rattle.c_types.specs.TreeKeys.{first_id, key_of}
use Rattle.c_types.specs.Tables.{type_in, is_local, is_local_in, is_name_kind, has_id}
use Rattle.c_typing.specs.declared.scope.Scope.{Scope}
use Rattle.c_typing.specs.declared.binding.Binding.{Binding}
use Rattle.c_typing.specs.Declarations.{own_name}
use Rattle.c_typing.specs.Names.{last_type}
use Rattle.c_typing.specs.Parts.{declared_around, part_type, part_types}
use Rattle.c_typing.specs.Locals.{is_declared, local, local_in, local_names}
use Rattle.c_typing.specs.ItemTypes.{item_types}
use Rattle.type_laws.specs.Places.{ids, is_local_at}
use Rattle.type_laws.specs.Places as places
use Rattle.type_laws.proofs.IdLemmas.{IsAmong}
use Rattle.type_laws.proofs.PathLemmas.{same_path, sub-levels}
use Rattle.type_laws.proofs.KeyLemmas.{and-first}
use Rattle.type_laws.proofs.TableLemmas.{table-at, ids-at, id-of, id-from}

-- ---- keys

first-among : (ts : List Token) (x : ℕ) → option_map (λ (a : Token). a.id) (slice_get ts 0) ≡ Some x → IsAmong x (map (λ (a : Token). a.id) ts)
first-among [] x e = absurd (none-some x e)
first-among (a ∷ ts) x e = inl (sym (same_Some a.id x e))

no-token : (ts : List Token) → 0 < length ts → option_map (λ (a : Token). a.id) (slice_get ts 0) ≡ None → ⊥
no-token [] h e = omega (arith, h)
no-token (a ∷ ts) h e = none-some a.id (sym e)

abbrev pub IsAt : Tree → ℕ → Place → Type 0
IsAt item k p = slice_get (parts is_expression_part item) k ≡ Some p

abbrev pub IsIn : Tree → Place → Type 0
IsIn item p = subtree item p.path ≡ Some p.tree

pub part-in : (item : Tree) (k : ℕ) (p : Place) → IsAt item k p → IsIn item p
part-in item k p e = parts-found is_expression_part item k p e

module _ (item : Tree) (distinct : IsDistinct nat_eq (ids item)) where
  same-place : (p q : Place) → IsIn item p → IsIn item q → (x : ℕ) → first_id p.tree ≡ Some x → first_id q.tree ≡ Some x
      → levels p.tree ≡ levels q.tree → p ≡ q
  same-place p q u v x g h n =
      let path : p.path ≡ q.path = same_path p.path q.path item p.tree q.tree x distinct u v
      (first-among (leaves p.tree) x g) (first-among (leaves q.tree) x h) n in
      let tree : p.tree ≡ q.tree = same_Some p.tree q.tree (sym u ∙ ap (subtree item) path ∙ v) in
      λ i. record { path = path i; tree = tree i }

  -- two places with the same key are the same, if the first has a token
  pub same-key-place : (p q : Place) → levels item < 2 ^ 64 → IsIn item p → IsIn item q → 0 < length (leaves p.tree)
      → key_of p.tree ≡ key_of q.tree → p ≡ q
  same-key-place p q few u v token same = by (first_id p.tree) refl
    where
      fewer : (m n o : ℕ) → m ≤ o → n ≤ o → o < 2 ^ 64 → min m (2 ^ 64 - 1) ≡ min n (2 ^ 64 - 1) → m ≡ n
      fewer m n o a b c d = omega arith

      by : (o : Option ℕ) → first_id p.tree ≡ o → p ≡ q
      by None n = absurd (no-token (leaves p.tree) token n)
      by (Some x) g =
          same-place p q u v x g (sym (ap (λ (k : TreeKey). k.first) same) ∙ g)
          (fewer (levels p.tree) (levels q.tree) (levels item) (sub-levels p.path item p.tree u) (sub-levels q.path item q.tree v) few
          (ap (λ (k : TreeKey). k.levels) same))

  -- the type at a place is found by the key
  pub type-found : (s : Scope) (k : ℕ) (p : Place) (ty : Option Ty) → levels item < 2 ^ 64 → IsAt item k p
      → part_type (s.names ++ own_name item) s.fields item p ≡ ty → 0 < length (leaves p.tree) → type_in (item_types s item) p.tree ≡ ty
  type-found s k p ty few e here token =
      let at : Place → Option Ty = part_type (s.names ++ own_name item) s.fields item in
      table-at (λ (q : Place). key_of q.tree) at (parts is_expression_part item) (key_of p.tree) ty
      (λ j q f same. ap at (sym (same-key-place p q few (part-in item k p e) (part-in item j q f) token same)) ∙ here) k p e refl

  pub type-at-place : (s : Scope) (k : ℕ) (p : Place) (ty : Option Ty) → levels item < 2 ^ 64 → IsAt item k p
      → slice_get (part_types (s.names ++ own_name item) s.fields item) k ≡ Some ty → 0 < length (leaves p.tree)
      → type_in (item_types s item) p.tree ≡ ty
  type-at-place s k p ty few e t token =
      let at : Place → Option Ty = part_type (s.names ++ own_name item) s.fields item in
      let here : part_type (s.names ++ own_name item) s.fields item p ≡ ty = same_Some _ ty
      (ap (option_map at) (sym e) ∙ sym (slice_get-map at (parts is_expression_part item) k) ∙ t) in
      type-found s k p ty few e here token

-- ---- local names

first-leaf : (a : Token) → first_id (Leaf a) ≡ Some a.id
first-leaf a = ap (λ (ts : List Token). option_map (λ (b : Token). b.id) (slice_get ts 0)) (leaves-Leaf a)

-- an id comes from a token
abbrev IsTokenOf : Tree → ℕ → Type 0
IsTokenOf t n = (first_id t ≡ Some n) × (levels t ≡ 0)

token-leaf : (a : Token) → IsTokenOf (Leaf a) a.id
token-leaf a = (first-leaf a, levels-Leaf a)

local-leaf : (names : List Binding) (t : Tree) (a : Token) → t ≡ Leaf a → local names t ≡ cond (is_declared names a) (a.id ∷ []) []
local-leaf names t a e = ap (local names) e ∙ ap (local_in names) (out-Leaf a)

from-token : (names : List Binding) (n : ℕ) (t : Tree) → has_id (local names t) n ≡ true → IsTokenOf t n
from-token names n =
    tree_cases (λ t. has_id (local names t) n ≡ true → IsTokenOf t n)
    (λ a h. by a (is_declared names a) (sym (ap (λ xs. has_id xs n) (local-leaf names (Leaf a) a refl)) ∙ h))
    (λ l cs h. absurd (true≢false (sym h ∙ ap (λ y. has_id (local_in names y) n) (out-Branch l cs))))
  where
    one : (a : Token) (c : Bool) → nat_eq n a.id ≡ c → (c || false) ≡ true → IsTokenOf (Leaf a) n
    one a true e h = subst (IsTokenOf (Leaf a)) (sym (eqb-true n a.id e)) (token-leaf a)
    one a false e h = absurd (true≢false (sym h))

    by : (a : Token) (b : Bool) → has_id (cond b (a.id ∷ []) []) n ≡ true → IsTokenOf (Leaf a) n
    by a true h = one a (nat_eq n a.id) refl h
    by a false h = absurd (true≢false (sym h))

module _ (s : Scope) (item : Tree) (distinct : IsDistinct nat_eq (ids item)) (k : ℕ) (p : Place) (at : IsAt item k p) where
  abbrev names_at : Place → List Binding
  names_at q = declared_around item q.path

  abbrev listed : Place → List ℕ
  listed q = local (names_at q) q.tree

  module _ (a : Token) (leaf : p.tree ≡ Leaf a) where
    own : listed p ≡ cond (is_declared (names_at p) a) (a.id ∷ []) []
    own = local-leaf (names_at p) p.tree a leaf

    -- who has the id is this place
    none-else : (j : ℕ) (q : Place) → IsAt item j q → has_id (listed q) a.id ≡ true → has_id (listed p) a.id ≡ true
    none-else j q f h =
        let t : IsTokenOf q.tree a.id = from-token (names_at q) a.id q.tree h in
        let same : q ≡ p = same-place item distinct q p (part-in item j q f) (part-in item k p at) a.id t.0 (ap first_id leaf ∙ first-leaf a)
        (t.1 ∙ sym (ap levels leaf ∙ levels-Leaf a)) in
        ap (λ x. has_id (listed x) a.id) (sym same) ∙ h

    declared : (b : Bool) → is_declared (names_at p) a ≡ b → (is_name_kind a.kind && has_id (local_names item) a.id) ≡ b
    declared true e =
        let name : is_name_kind a.kind ≡ true = and-first (is_name_kind a.kind) (is_some (last_type (names_at p) a.text)) e in
        let here : has_id (listed p) a.id ≡ true = ap (λ xs. has_id xs a.id) (own ∙ ap (λ b. cond b (a.id ∷ []) []) e)
        ∙ ap (λ b. b || false) (eq-eqb a.id a.id refl) in
        let all : has_id (local_names item) a.id ≡ true = id-of listed (parts is_expression_part item) k p a.id at here in
        λ i. name i && all i
    declared false e = by (has_id (local_names item) a.id) refl
      where
        never : has_id (local_names item) a.id ≡ true → ⊥
        never h =
            let here : has_id (listed p) a.id ≡ false = ap (λ xs. has_id xs a.id) (own ∙ ap (λ b. cond b (a.id ∷ []) []) e) in
            id-from listed (parts is_expression_part item) a.id ⊥ h (λ j q f g. true≢false (sym (none-else j q f g) ∙ here))

        no : (c : Bool) → (c && false) ≡ false
        no true = refl
        no false = refl

        by : (b : Bool) → has_id (local_names item) a.id ≡ b → (is_name_kind a.kind && b) ≡ false
        by true h = absurd (never h)
        by false h = no (is_name_kind a.kind)

    leaf-local : is_local (item_types s item) p.tree ≡ is_local_at item p
    leaf-local =
        let out : out-Tree p.tree ≡ Tree-F.Leaf a = ap out-Tree leaf ∙ out-Leaf a in
        ap (is_local_in (item_types s item)) out ∙ ap (λ b. is_name_kind a.kind && b) (ids-at (local_names item) a.id)
        ∙ declared (is_declared (names_at p) a) refl ∙ sym (ap (places.is_local_in (names_at p)) out)

  branch-local : (l : Label) (cs : List Tree) → p.tree ≡ Branch l cs → is_local (item_types s item) p.tree ≡ is_local_at item p
  branch-local l cs e =
      let out : out-Tree p.tree ≡ Tree-F.Branch l cs = ap out-Tree e ∙ out-Branch l cs in
      ap (is_local_in (item_types s item)) out ∙ sym (ap (places.is_local_in (names_at p)) out)

  -- a name is local by the table exactly if it is at its place
  pub local-at-place : is_local (item_types s item) p.tree ≡ is_local_at item p
  local-at-place =
      tree_cases (λ t. p.tree ≡ t → is_local (item_types s item) p.tree ≡ is_local_at item p) leaf-local branch-local p.tree refl
