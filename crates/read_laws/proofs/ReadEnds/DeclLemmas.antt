-- Declarations declare something or are malformed: it is impossible that they have no answers.
use Rattle.std.specs.Prelude.{MatchBool, option_and_then}
use Rattle.std.specs.List.{list_any, AllZip}
use Rattle.std.proofs.Common.{◌≡◌, ℕ, ◌<◌, ◌≤◌, ◌⊎◌, Bool, true, false, Option, None, Some, List, [], ◌∷◌, inl, inr, take, drop, refl, arith}
use Rattle.std.proofs.Common.{codes, ◌&&◌}
use Rattle.c_terms.specs.declared.token.Token.{Token}
use Rattle.c_terms.specs.declared.tree.Tree.{Tree}
use Rattle.c_rows.specs.declared.kind.Kind.{Kind}
use Rattle.c_rows.specs.declared.kind.Kind.TheVariants as kinds
use Rattle.c_rows.specs.Limits.{most_open}
use Rattle.c_rows.specs.Depth.{opens_of}
use Rattle.smpl_patch.specs.declared.wanted.NameWanted.{NameWanted}
use Rattle.smpl_patch.specs.declared.wanted.NameWanted.TheVariants as names
use Rattle.smpl_lexer.specs.declared.token.PatchToken.{PatchToken}
use Rattle.smpl_lexer.specs.Tokens.{is_word}
use Rattle.smpl_meta.specs.declared.item.Item.{Item}
use Rattle.smpl_meta.specs.Forms.{before_sign, is_kind_word, kind_items, parts}
use Rattle.smpl_meta.specs.TypeNames.{with_type_names}
use Rattle.smpl_meta.specs.Typed.{IsRead, tokens_of, is_refused, unless_named, IsSpecs, AreSpecs, item_by, IsDeclarator, IsDeclaratorOf, OneLacks}
use Rattle.smpl_meta.specs.Typed.{AreDeclarators, declarators, declarator_length, specs_length, IsTyped, is_untyped, untyped_items, AreNames}
use Rattle.smpl_meta.specs.Declarations.{AreItems, AreFrontItems, AreItemsBefore, IsDeclared, AreDeclared, items_or_none}
use Rattle.smpl_meta.specs.Decls.{AreAnswers}

order : (a b : ℕ) → (a ≤ b) ⊎ (b < a)
order a b = grind arith

-- it is impossible that nothing has the property
abbrev Ends : {A : Type 0} → (A → Type 0) → Type 0
Ends {A} P = ((a : A) → P a → ⊥) → ⊥

-- tokens have a tree or none
read_some : (kind : Kind) (ts : List Token) → Ends (IsRead kind ts)
read_some kind ts absent = elim (order (opens_of ts) most_open) [
  | inl few ↦ absent None (λ t is. absurd (absent (Some t) (is, few)))
  | inr many ↦ absent None (λ t is. many)
]

specs_by : (types : List (List ℕ)) (ts : List PatchToken) (b : Bool)
    → Ends (λ (specs : Option Tree). MatchBool b (specs ≡ None) (IsSpecs types ts specs))
specs_by types ts true absent = absent None refl
specs_by types ts false absent =
    read_some kinds.Specs (tokens_of 0 ts) (λ tree is. absent (option_and_then (unless_named types) tree) (tree, (is, refl)))

specs_some : (types : List (List ℕ)) (ts : List PatchToken) → Ends (AreSpecs types ts)
specs_some types ts absent = specs_by types ts (list_any is_refused ts) absent

module _ (types : List (List ℕ)) (name : NameWanted) where
  declarator_some : (specs : Tree) (ts : List PatchToken) → Ends (IsDeclarator types name specs ts)
  declarator_some specs ts absent =
      read_some kinds.Declarator (tokens_of 0 ts) (λ tree is. absent (item_by types name specs ts tree) (tree, (is, refl)))

  zip_some : (specs : Tree) (ds : List (List PatchToken)) → ((items : List Item) → AllZip (IsDeclaratorOf types name specs) ds items → ⊥)
      → (OneLacks types name specs ds → ⊥) → ⊥
  zip_some specs [] all lack = all [] tt
  zip_some specs (d ∷ ds) all lack =
      declarator_some specs d (one (λ i is. zip_some specs ds (λ items z. all (i ∷ items) (is, z)) (λ l. lack (inr l))))
    where
      one : ((i : Item) → IsDeclarator types name specs d (Some i) → ⊥) → (o : Option Item) → IsDeclarator types name specs d o → ⊥
      one more None is = lack (inl is)
      one more (Some i) is = more i is

  declarators_some : (specs : Tree) (ts : List PatchToken) → Ends (AreDeclarators types name specs ts)
  declarators_some specs ts absent = zip_some specs (declarators 0 ts) (λ items z. absent (Some items) z) (λ l. absent None l)

  typed_some : (ts : List PatchToken) → Ends (IsTyped types name ts)
  typed_some ts absent = specs_some types (take (specs_length ts) ts) by
    where
      by : (specs : Option Tree) → AreSpecs types (take (specs_length ts) ts) specs → ⊥
      by None is = absent None (None, (is, refl))
      by (Some specs) is = declarators_some specs (drop (specs_length ts) ts) (λ items d. absent items (Some specs, (is, d)))

  names_by : (ts : List PatchToken) (b : Bool)
      → Ends (λ (items : Option (List Item)). MatchBool b (items ≡ untyped_items name ts) (IsTyped types name ts items))
  names_by ts true absent = absent (untyped_items name ts) refl
  names_by ts false absent = typed_some ts absent

  names_some : (ts : List PatchToken) → Ends (AreNames types name ts)
  names_some ts absent = names_by ts (is_untyped (take (declarator_length 0 ts) ts)) absent

module _ (types : List (List ℕ)) where
  items_by : (t : PatchToken) (ts : List PatchToken) (kind name : Bool)
      → Ends (λ (items : Option (List Item)). MatchBool kind (items ≡ kind_items (t ∷ ts))
      (MatchBool name (AreNames types names.Name ts items) (IsTyped types names.Any (t ∷ ts) items)))
  items_by t ts true name absent = absent (kind_items (t ∷ ts)) refl
  items_by t ts false true absent = names_some types names.Name ts absent
  items_by t ts false false absent = typed_some types names.Any (t ∷ ts) absent

  items_some : (ts : List PatchToken) → Ends (AreItems types ts)
  items_some [] absent = absent None refl
  items_some (t ∷ ts) absent = items_by t ts (is_kind_word t) (is_word (codes "idexpression") t) absent

  front_by : (t u : PatchToken) (ts : List PatchToken) (b : Bool)
      → Ends (λ (items : Option (List Item)). MatchBool b (AreNames types names.Local ts items) (AreItems types (t ∷ u ∷ ts) items))
  front_by t u ts true absent = names_some types names.Local ts absent
  front_by t u ts false absent = items_some (t ∷ u ∷ ts) absent

  front_some : (ts : List PatchToken) → Ends (AreFrontItems types ts)
  front_some [] absent = items_some [] absent
  front_some (t ∷ []) absent = items_some (t ∷ []) absent
  front_some (t ∷ u ∷ ts) absent = front_by t u ts (is_word (codes "local") t && is_word (codes "idexpression") u) absent

  before_some : (front : Option (List PatchToken)) → Ends (AreItemsBefore types front)
  before_some None absent = absent None refl
  before_some (Some front) absent = front_some front absent

  declared_some : (part : List PatchToken) → Ends (IsDeclared types part)
  declared_some part absent = before_some (before_sign (codes ";") part) absent

parts_some : (types : List (List ℕ)) (ps : List (List PatchToken)) → Ends (AreDeclared types ps)
parts_some types [] absent = absent [] tt
parts_some types (p ∷ ps) absent =
    declared_some types p (λ o is. parts_some (with_type_names types (items_or_none o)) ps (λ more are. absent (o ∷ more) (is, are)))

pub answers_some : (tokens : List PatchToken) → ((answers : List (Option (List Item))) → AreAnswers tokens answers → ⊥) → ⊥
answers_some tokens absent = parts_some [] (parts tokens) absent
