-- Declarations declare one list of items.
use Rattle.std.specs.Prelude.{IsTrue, MatchBool, option_and_then}
use Rattle.std.specs.List.{list_any, AllZip}
use Rattle.std.proofs.Common.{◌≡◌, ℕ, Bool, true, false, Option, None, Some, List, [], ◌∷◌, inl, inr, take, drop, refl, sym, ap, ◌∙◌, subst, arith}
use Rattle.std.proofs.Common.{codes, ◌&&◌}
use Rattle.c_terms.specs.declared.token.Token.{Token}
use Rattle.c_terms.specs.declared.tree.Tree.{Tree}
use Rattle.c_terms.specs.Names.{listed_names}
use Rattle.c_rows.specs.declared.kind.Kind.{Kind}
use Rattle.c_rows.specs.declared.kind.Kind.TheVariants as kinds
use Rattle.c_rows.specs.Look.{Names}
use Rattle.c_rows.specs.Trees.{IsTreeOf, stands_alone}
use Rattle.smpl_patch.specs.declared.wanted.NameWanted.{NameWanted}
use Rattle.smpl_patch.specs.declared.wanted.NameWanted.TheVariants as names
use Rattle.smpl_lexer.specs.declared.token.PatchToken.{PatchToken}
use Rattle.smpl_lexer.specs.Tokens.{is_word}
use Rattle.smpl_meta.specs.declared.item.Item.{Item}
use Rattle.smpl_meta.specs.Forms.{before_sign, is_kind_word, kind_items, parts}
use Rattle.smpl_meta.specs.TypeNames.{with_type_names}
use Rattle.smpl_meta.specs.Typed.{IsRead, tokens_of, is_refused, unless_named, IsSpecs, AreSpecs, item_by, IsDeclarator, IsDeclaratorOf, OneLacks}
use Rattle.smpl_meta.specs.Typed.{AreDeclarators, declarators, declarator_length, specs_length, AreTyped, IsTyped, is_untyped, untyped_items, AreNames}
use Rattle.smpl_meta.specs.Declarations.{AreItems, AreFrontItems, AreItemsBefore, AreDeclared, items_or_none}
use Rattle.smpl_meta.specs.Decls.{AreAnswers}

-- tokens have one tree of a kind
abbrev pub OneTree : Type 0
OneTree = (kind : Kind) (names : Names) (tokens : List Token) (t u : Tree) → IsTrue (stands_alone kind)
    → IsTreeOf kind names tokens t → IsTreeOf kind names tokens u → t ≡ u

module _ (law : OneTree) where
  read-once : (kind : Kind) (ts : List Token) (one other : Option Tree) → IsTrue (stands_alone kind) → IsRead kind ts one → IsRead kind ts other → one ≡ other
  read-once kind ts None None alone a b = refl
  read-once kind ts None (Some u) alone a b = absurd (omega (arith, a u b.0, b.1))
  read-once kind ts (Some t) None alone a b = absurd (omega (arith, b t a.0, a.1))
  read-once kind ts (Some t) (Some u) alone a b = ap (λ (x : Tree). Some x) (law kind listed_names ts t u alone a.0 b.0)

  specs-by : (types : List (List ℕ)) (ts : List PatchToken) (one other : Option Tree) (b : Bool)
      → MatchBool b (one ≡ None) (IsSpecs types ts one) → MatchBool b (other ≡ None) (IsSpecs types ts other) → one ≡ other
  specs-by types ts one other true a b = a ∙ sym b
  specs-by types ts one other false a b =
      a.1.1 ∙ (ap (option_and_then (unless_named types)) (read-once kinds.Specs (tokens_of 0 ts) a.0 b.0 refl a.1.0 b.1.0) ∙ sym b.1.1)

  specs-once : (types : List (List ℕ)) (ts : List PatchToken) (one other : Option Tree) → AreSpecs types ts one → AreSpecs types ts other → one ≡ other
  specs-once types ts one other a b = specs-by types ts one other (list_any is_refused ts) a b

  module _ (types : List (List ℕ)) (name : NameWanted) where
    declarator-once : (specs : Tree) (ts : List PatchToken) (one other : Option Item)
        → IsDeclarator types name specs ts one → IsDeclarator types name specs ts other → one ≡ other
    declarator-once specs ts one other a b =
        a.1.1 ∙ (ap (item_by types name specs ts) (read-once kinds.Declarator (tokens_of 0 ts) a.0 b.0 refl a.1.0 b.1.0) ∙ sym b.1.1)

    zip-once : (specs : Tree) (ds : List (List PatchToken)) (one other : List Item)
        → AllZip (IsDeclaratorOf types name specs) ds one → AllZip (IsDeclaratorOf types name specs) ds other → one ≡ other
    zip-once specs [] [] [] a b = refl
    zip-once specs [] [] (j ∷ js) a b = absurd b
    zip-once specs [] (i ∷ is) other a b = absurd a
    zip-once specs (d ∷ ds) [] other a b = absurd a
    zip-once specs (d ∷ ds) (i ∷ is) [] a b = absurd b
    zip-once specs (d ∷ ds) (i ∷ is) (j ∷ js) a b =
        let both : Some i ≡ Some j = declarator-once specs d (Some i) (Some j) a.0 b.0 in
        let h : i ≡ j = cc in
        let r = zip-once specs ds is js a.1 b.1 in
        λ k. h k ∷ r k

    zip-lacks : (specs : Tree) (ds : List (List PatchToken)) (items : List Item)
        → AllZip (IsDeclaratorOf types name specs) ds items → OneLacks types name specs ds → ⊥
    zip-lacks specs [] items a b = b
    zip-lacks specs (d ∷ ds) [] a b = a
    zip-lacks specs (d ∷ ds) (i ∷ is) a (inl b) = let both : Some i ≡ None = declarator-once specs d (Some i) None a.0 b in absurd (cc)
    zip-lacks specs (d ∷ ds) (i ∷ is) a (inr b) = zip-lacks specs ds is a.1 b

    declarators-once : (specs : Tree) (ts : List PatchToken) (one other : Option (List Item))
        → AreDeclarators types name specs ts one → AreDeclarators types name specs ts other → one ≡ other
    declarators-once specs ts None None a b = refl
    declarators-once specs ts None (Some js) a b = absurd (zip-lacks specs (declarators 0 ts) js b a)
    declarators-once specs ts (Some is) None a b = absurd (zip-lacks specs (declarators 0 ts) is a b)
    declarators-once specs ts (Some is) (Some js) a b = ap (λ (l : List Item). Some l) (zip-once specs (declarators 0 ts) is js a b)

    typed-by : (specs : Option Tree) (ts : List PatchToken) (one other : Option (List Item))
        → AreTyped types name specs ts one → AreTyped types name specs ts other → one ≡ other
    typed-by None ts one other a b = a ∙ sym b
    typed-by (Some specs) ts one other a b = declarators-once specs ts one other a b

    typed-once : (ts : List PatchToken) (one other : Option (List Item)) → IsTyped types name ts one → IsTyped types name ts other → one ≡ other
    typed-once ts one other a b =
        let n = specs_length ts in
        let same : a.0 ≡ b.0 = specs-once types (take n ts) a.0 b.0 a.1.0 b.1.0 in
        let there : AreTyped types name b.0 (drop n ts) one = subst (λ (o : Option Tree). AreTyped types name o (drop n ts) one) same a.1.1 in
        typed-by b.0 (drop n ts) one other there b.1.1

    names-by : (ts : List PatchToken) (one other : Option (List Item)) (b : Bool)
        → MatchBool b (one ≡ untyped_items name ts) (IsTyped types name ts one)
        → MatchBool b (other ≡ untyped_items name ts) (IsTyped types name ts other) → one ≡ other
    names-by ts one other true x y = x ∙ sym y
    names-by ts one other false x y = typed-once ts one other x y

    names-once : (ts : List PatchToken) (one other : Option (List Item)) → AreNames types name ts one → AreNames types name ts other → one ≡ other
    names-once ts one other a b = names-by ts one other (is_untyped (take (declarator_length 0 ts) ts)) a b

  items-by : (types : List (List ℕ)) (t : PatchToken) (ts : List PatchToken) (one other : Option (List Item)) (kind name : Bool)
      → MatchBool kind (one ≡ kind_items (t ∷ ts)) (MatchBool name (AreNames types names.Name ts one) (IsTyped types names.Any (t ∷ ts) one))
      → MatchBool kind (other ≡ kind_items (t ∷ ts)) (MatchBool name (AreNames types names.Name ts other) (IsTyped types names.Any (t ∷ ts) other))
      → one ≡ other
  items-by types t ts one other true name a b = a ∙ sym b
  items-by types t ts one other false true a b = names-once types names.Name ts one other a b
  items-by types t ts one other false false a b = typed-once types names.Any (t ∷ ts) one other a b

  items-once : (types : List (List ℕ)) (ts : List PatchToken) (one other : Option (List Item)) → AreItems types ts one → AreItems types ts other → one ≡ other
  items-once types [] one other a b = a ∙ sym b
  items-once types (t ∷ ts) one other a b = items-by types t ts one other (is_kind_word t) (is_word (codes "idexpression") t) a b

  front-by : (types : List (List ℕ)) (t u : PatchToken) (ts : List PatchToken) (one other : Option (List Item)) (local : Bool)
      → MatchBool local (AreNames types names.Local ts one) (AreItems types (t ∷ u ∷ ts) one)
      → MatchBool local (AreNames types names.Local ts other) (AreItems types (t ∷ u ∷ ts) other) → one ≡ other
  front-by types t u ts one other true a b = names-once types names.Local ts one other a b
  front-by types t u ts one other false a b = items-once types (t ∷ u ∷ ts) one other a b

  front-once : (types : List (List ℕ)) (ts : List PatchToken) (one other : Option (List Item))
      → AreFrontItems types ts one → AreFrontItems types ts other → one ≡ other
  front-once types [] one other a b = items-once types [] one other a b
  front-once types (t ∷ []) one other a b = items-once types (t ∷ []) one other a b
  front-once types (t ∷ u ∷ ts) one other a b = front-by types t u ts one other (is_word (codes "local") t && is_word (codes "idexpression") u) a b

  before-once : (types : List (List ℕ)) (front : Option (List PatchToken)) (one other : Option (List Item))
      → AreItemsBefore types front one → AreItemsBefore types front other → one ≡ other
  before-once types None one other a b = a ∙ sym b
  before-once types (Some front) one other a b = front-once types front one other a b

  declared-once : (types : List (List ℕ)) (ps : List (List PatchToken)) (xs ys : List (Option (List Item)))
      → AreDeclared types ps xs → AreDeclared types ps ys → xs ≡ ys
  declared-once types [] [] [] a b = refl
  declared-once types [] [] (y ∷ ys) a b = absurd b
  declared-once types [] (x ∷ xs) ys a b = absurd a
  declared-once types (p ∷ ps) [] ys a b = absurd a
  declared-once types (p ∷ ps) (x ∷ xs) [] a b = absurd b
  declared-once types (p ∷ ps) (x ∷ xs) (y ∷ ys) a b =
      let h = before-once types (before_sign (codes ";") p) x y a.0 b.0 in
      let there : AreDeclared (with_type_names types (items_or_none y)) ps xs
      = subst (λ (o : Option (List Item)). AreDeclared (with_type_names types (items_or_none o)) ps xs) h a.1 in
      let r = declared-once (with_type_names types (items_or_none y)) ps xs ys there b.1 in
      λ k. h k ∷ r k

  -- tokens have one list of answers
  pub answers-once : (tokens : List PatchToken) (xs ys : List (Option (List Item))) → AreAnswers tokens xs → AreAnswers tokens ys → xs ≡ ys
  answers-once tokens xs ys a b = declared-once [] (parts tokens) xs ys a b
