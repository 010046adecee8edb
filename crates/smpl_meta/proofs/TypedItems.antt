-- Where the items of a declaration come from: it begins with the word for a kind, or each is one of its declarators.
use Rattle.std.specs.Prelude.{MatchBool, option_and_then}
use Rattle.std.specs.List.{AllZip}
use Rattle.std.proofs.Common.{◌≡◌, ℕ, suc, Bool, true, false, Option, None, Some, List, [], ◌∷◌, ◌⊎◌, inl, inr, drop, refl, sym, subst}
use Rattle.std.proofs.Common.{codes, option_map, slice_get, ◌&&◌, take}
use Rattle.c_terms.specs.declared.token.Token.{Token}
use Rattle.c_terms.specs.declared.tree.Tree.{Tree}
use Rattle.c_typing.specs.Declarators.{declared_token}
use Rattle.smpl_patch.specs.declared.wanted.NameWanted.{NameWanted}
use Rattle.smpl_patch.specs.declared.wanted.NameWanted.TheVariants as names
use Rattle.smpl_patch.specs.declared.wanted.TypeWanted.TheVariants as wants
use Rattle.smpl_patch.specs.declared.wanted.Wanted.{Wanted}
use Rattle.smpl_patch.specs.declared.pattern.VarKind.TheVariants.{Meta}
use Rattle.c_terms.specs.declared.token.MetaKind.TheVariants as meta
use Rattle.smpl_meta.specs.declared.item.DeclKind.TheVariants.{Var}
use Rattle.smpl_lexer.specs.declared.token.PatchToken.{PatchToken}
use Rattle.smpl_lexer.specs.Tokens.{is_word}
use Rattle.smpl_meta.specs.declared.item.Item.{Item}
use Rattle.smpl_meta.specs.declared.item.Named.{Named}
use Rattle.smpl_meta.specs.Forms.{before_sign, is_kind_word, kind_items, plain_of, expression_item, all_of}
use Rattle.smpl_meta.specs.Typed.{unless_named, declarators, declarator_length, specs_length, type_of, item_of_type, typed_item, declarator_item}
use Rattle.smpl_meta.specs.Typed.{IsDeclarator, IsDeclaratorOf, AreTyped, IsTyped, is_untyped, with_name, untyped_item, untyped_items, AreNames}
use Rattle.smpl_meta.specs.Declarations.{AreItems, AreFrontItems, AreItemsBefore, IsDeclared}

-- ---- what is made of an option

record Made {A B : Type 0} (o : Option A) (f : A → Option B) (b : B) : Type 0 where
  from : A
  is : o ≡ Some from
  gives : f from ≡ Some b

then-made : {A B : Type 0} (f : A → Option B) (o : Option A) (b : B) → option_and_then f o ≡ Some b → Made o f b
then-made f None b e = absurd (cc)
then-made f (Some a) b e = record { from = a; is = refl; gives = e }

map-made : {A B : Type 0} (f : A → B) (o : Option A) (b : B) → option_map f o ≡ Some b → Made o (λ a. Some (f a)) b
map-made f None b e = absurd (cc)
map-made f (Some a) b e = record { from = a; is = refl; gives = e }

-- ---- declarators

-- the item of a name that wants this
abbrev pub wanted_item : Wanted → Named → Item
wanted_item w x = record { kind = Var (Meta meta.Expr); named = x; nots = []; wanted = w }

module _ (P : List PatchToken → Item → Type 0)
    (typed : (ts : List PatchToken) (k : ℕ) (t : PatchToken) (x : Named) (w : Wanted)
    → slice_get ts k ≡ Some t → plain_of t ≡ Some x → P ts (wanted_item w x))
    (untyped : (ts : List PatchToken) (name : NameWanted) (i : Item) → expression_item ts ≡ Some i → P ts (with_name name i)) where
  -- the items have the property of what is between the commas after some tokens
  pub record OfDeclarators (ts : List PatchToken) (items : List Item) : Type 0 where
    pub skipped : ℕ
    pub each : AllZip P (declarators 0 (drop skipped ts)) items

  later : (t : PatchToken) (ts : List PatchToken) (items : List Item) → OfDeclarators ts items → OfDeclarators (t ∷ ts) items
  later t ts items o = record { skipped = suc o.skipped; each = o.each }

  one-typed : (types : List (List ℕ)) (name : NameWanted) (specs : Tree) (ts : List PatchToken) (i : Item) → IsDeclarator types name specs ts (Some i) → P ts i
  one-typed types name specs ts i a =
      let tree = then-made (declarator_item name specs ts) (option_and_then (unless_named types) a.0) i (sym a.1.1) in
      let token = then-made (λ (b : Token). option_and_then (typed_item name (slice_get ts b.id)) (type_of specs tree.from)) (declared_token tree.from) i tree.gives in
      let ty = then-made (typed_item name (slice_get ts token.from.id)) (type_of specs tree.from) i token.gives in
      let named = map-made (item_of_type name ty.from) (option_and_then plain_of (slice_get ts token.from.id)) i ty.gives in
      let at = then-made plain_of (slice_get ts token.from.id) named.from named.is in
      let same : item_of_type name ty.from named.from ≡ i = let g = named.gives in cc in
      subst (P ts) same (typed ts token.from.id at.from named.from (record { name = name; ty = wants.Is ty.from }) at.is at.gives)

  all-typed : (types : List (List ℕ)) (name : NameWanted) (specs : Tree) (ds : List (List PatchToken)) (items : List Item)
      → AllZip (IsDeclaratorOf types name specs) ds items → AllZip P ds items
  all-typed types _ specs [] [] a = tt
  all-typed types _ specs [] (i ∷ is) a = absurd a
  all-typed types _ specs (d ∷ ds) [] a = absurd a
  all-typed types name specs (d ∷ ds) (i ∷ is) a = (one-typed types name specs d i a.0, all-typed types name specs ds is a.1)

  all-untyped : (name : NameWanted) (ds : List (List PatchToken)) (items : List Item) → all_of (untyped_item name) ds ≡ Some items → AllZip P ds items
  all-untyped _ [] items e = let same : [] ≡ items = cc in subst (λ (l : List Item). AllZip P [] l) same tt
  all-untyped name (d ∷ ds) items e =
      let one = then-made (λ (a : Item). option_map (λ more. a ∷ more) (all_of (untyped_item name) ds)) (untyped_item name d) items e in
      let rest = map-made (λ (more : List Item). one.from ∷ more) (all_of (untyped_item name) ds) items one.gives in
      let plain = map-made (with_name name) (expression_item d) one.from one.is in
      let named : with_name name plain.from ≡ one.from = let g = plain.gives in cc in
      let same : one.from ∷ rest.from ≡ items = let g = rest.gives in cc in
      subst (λ (l : List Item). AllZip P (d ∷ ds) l) same
      (subst (P d) named (untyped d name plain.from plain.is), all-untyped name ds rest.from rest.is)

  typed-by : (types : List (List ℕ)) (name : NameWanted) (specs : Option Tree) (n : ℕ) (ts : List PatchToken) (items : List Item)
      → AreTyped types name specs (drop n ts) (Some items) → OfDeclarators ts items
  typed-by types _ None n ts items a = absurd (cc)
  typed-by types name (Some specs) n ts items a = record { skipped = n; each = all-typed types name specs (declarators 0 (drop n ts)) items a }

  of-typed : (types : List (List ℕ)) (name : NameWanted) (ts : List PatchToken) (items : List Item) → IsTyped types name ts (Some items) → OfDeclarators ts items
  of-typed types name ts items a = typed-by types name a.0 (specs_length ts) ts items a.1.1

  names-by : (types : List (List ℕ)) (name : NameWanted) (ts : List PatchToken) (items : List Item) (b : Bool)
      → MatchBool b (Some items ≡ untyped_items name ts) (IsTyped types name ts (Some items)) → OfDeclarators ts items
  names-by types name ts items true e = record { skipped = 0; each = all-untyped name (declarators 0 ts) items (sym e) }
  names-by types name ts items false a = of-typed types name ts items a

  of-names : (types : List (List ℕ)) (name : NameWanted) (ts : List PatchToken) (items : List Item) → AreNames types name ts (Some items) → OfDeclarators ts items
  of-names types name ts items a = names-by types name ts items (is_untyped (take (declarator_length 0 ts) ts)) a

  -- ---- declarations

  abbrev pub Sources : List PatchToken → List Item → Type 0
  Sources ts items = (kind_items ts ≡ Some items) ⊎ OfDeclarators ts items

  items-by : (types : List (List ℕ)) (t : PatchToken) (ts : List PatchToken) (items : List Item) (kind name : Bool)
      → MatchBool kind (Some items ≡ kind_items (t ∷ ts))
      (MatchBool name (AreNames types names.Name ts (Some items)) (IsTyped types names.Any (t ∷ ts) (Some items)))
      → Sources (t ∷ ts) items
  items-by types t ts items true name e = inl (sym e)
  items-by types t ts items false true a = inr (later t ts items (of-names types names.Name ts items a))
  items-by types t ts items false false a = inr (of-typed types names.Any (t ∷ ts) items a)

  items-from : (types : List (List ℕ)) (ts : List PatchToken) (items : List Item) → AreItems types ts (Some items) → Sources ts items
  items-from types [] items e = absurd (cc)
  items-from types (t ∷ ts) items a = items-by types t ts items (is_kind_word t) (is_word (codes "idexpression") t) a

  front-by : (types : List (List ℕ)) (t u : PatchToken) (ts : List PatchToken) (items : List Item) (local : Bool)
      → MatchBool local (AreNames types names.Local ts (Some items)) (AreItems types (t ∷ u ∷ ts) (Some items)) → Sources (t ∷ u ∷ ts) items
  front-by types t u ts items true a = inr (later t (u ∷ ts) items (later u ts items (of-names types names.Local ts items a)))
  front-by types t u ts items false a = items-from types (t ∷ u ∷ ts) items a

  front-from : (types : List (List ℕ)) (ts : List PatchToken) (items : List Item) → AreFrontItems types ts (Some items) → Sources ts items
  front-from types [] items a = items-from types [] items a
  front-from types (t ∷ []) items a = items-from types (t ∷ []) items a
  front-from types (t ∷ u ∷ ts) items a = front-by types t u ts items (is_word (codes "local") t && is_word (codes "idexpression") u) a

  -- the tokens before the `;`, and where the items come from
  pub record Declares (part : List PatchToken) (items : List Item) : Type 0 where
    pub front : List PatchToken
    pub is : before_sign (codes ";") part ≡ Some front
    pub from : Sources front items

  declares-by : (types : List (List ℕ)) (part : List PatchToken) (items : List Item) (front : Option (List PatchToken)) → before_sign (codes ";") part ≡ front
      → AreItemsBefore types front (Some items) → Declares part items
  declares-by types part items None e a = absurd (cc)
  declares-by types part items (Some front) e a = record { front = front; is = e; from = front-from types front items a }

  pub declares : (types : List (List ℕ)) (part : List PatchToken) (items : List Item) → IsDeclared types part (Some items) → Declares part items
  declares types part items a = declares-by types part items (before_sign (codes ";") part) refl a
