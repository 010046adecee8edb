-- The names of the items of declarations don't begin with `{`.
use Rattle.std.proofs.Common.{◌≡◌, ℕ, zero, suc, inl, inr, slice_get, Bool, true, false, ◌&&◌, refl, subst, List, [], ◌∷◌, ◌++◌, drop, Option}
use Rattle.std.proofs.Common.{Some, None, if◌then◌else◌, codes, option_map}
use Rattle.std.specs.Prelude.{option_and_then, eqb, not}
use Rattle.std.specs.List.{AllZip}
use Rattle.c_terms.specs.declared.token.MetaKind.TheVariants as meta
use Rattle.smpl_patch.specs.declared.wanted.NameWanted.{NameWanted}
use Rattle.smpl_patch.specs.declared.wanted.Wanted.{Wanted}
use Rattle.smpl_patch.specs.declared.pattern.VarKind.TheVariants.{Meta, Position}
use Rattle.smpl_patch.specs.Wants.{anything}
use Rattle.smpl_lexer.specs.declared.token.PatchToken.{PatchToken}
use Rattle.smpl_lexer.specs.Tokens.{is_sign}
use Rattle.smpl_meta.specs.declared.item.DeclKind.{DeclKind}
use Rattle.smpl_meta.specs.declared.item.DeclKind.TheVariants.{Var, Symbol}
use Rattle.smpl_meta.specs.declared.item.Item.{Item}
use Rattle.smpl_meta.specs.declared.item.Named.{Named}
use Rattle.smpl_meta.specs.Forms.{is_wordish, put, parts, within_after, chunks, before_sign, plain_of, member_of, named_of, nots_of, all_of}
use Rattle.smpl_meta.specs.Forms.{excepted_of, bare_item, item_of, is_listed, kind_of, list_kind_of, items_by, kind_items}
use Rattle.smpl_meta.specs.Forms.{plain_item, count_stars, pointer_to, pointer_item, expression_item}
use Rattle.smpl_meta.specs.TypeNames.{with_type_names}
use Rattle.smpl_meta.specs.Typed.{with_name, declarators, depth_after}
use Rattle.smpl_meta.specs.Declarations.{IsDeclared, AreDeclared, items_or_none}
use Rattle.smpl_meta.proofs.TypedItems.{wanted_item, Sources, declares}
use Rattle.smpl_meta.specs.Decls.{items_of}
use Rattle.sound_laws.proofs.SmplSound.FormLemmas.{then-made, map-made}
use Rattle.ctl_fixpoint.proofs.CtlHolds.TestLemmas.{and_right}
use Rattle.wit_forest.specs.WitTrees.Forest.{is_hidden_name}
use Rattle.insert_laws.proofs.NameLaws.WordLemmas.{IsOpen, AreOpen}

some_equal : {A : Type 0} (a b : A) → Some a ≡ Some b → a ≡ b
some_equal a b e = cc

-- ---- lists of tokens, taken apart

abbrev pub AllOpen : List (List PatchToken) → Type 0
AllOpen [] = Unit {0}
AllOpen (ts ∷ parts) = AreOpen ts × AllOpen parts

put_open : (t : PatchToken) (ps : List (List PatchToken)) → IsOpen t → AllOpen ps → AllOpen (put t ps)
put_open t [] h a = ((h, tt), tt)
put_open t (p ∷ ps) h a = ((h, a.0), a.1)

pub parts_open : (ts : List PatchToken) → AreOpen ts → AllOpen (parts ts)
parts_open [] a = tt
parts_open (t ∷ ts) a = by (is_sign (codes ";") t) (parts_open ts a.1)
  where
    by : (b : Bool) → AllOpen (parts ts) → AllOpen (if b then (t ∷ []) ∷ parts ts else put t (parts ts))
    by true r = ((a.0, tt), r)
    by false r = put_open t (parts ts) a.0 r

chunks_open : (within : Bool) (ts : List PatchToken) → AreOpen ts → AllOpen (chunks within ts)
chunks_open within [] a = (tt, tt)
chunks_open within (t ∷ ts) a =
    by (is_sign (codes ",") t && not within) (chunks_open within ts a.1) (chunks_open (within_after within t) ts a.1)
  where
    by : (b : Bool) → AllOpen (chunks within ts) → AllOpen (chunks (within_after within t) ts)
        → AllOpen (if b then [] ∷ chunks within ts else put t (chunks (within_after within t) ts))
    by true r s = (tt, r)
    by false r s = put_open t (chunks (within_after within t) ts) a.0 s

before_open : (text : List ℕ) (ts front : List PatchToken) → before_sign text ts ≡ Some front → AreOpen ts → AreOpen front
before_open text [] front e a = absurd (cc)
before_open text (t ∷ []) front e a = by (is_sign text t) e
  where
    by : (b : Bool) → (if b then Some [] else None) ≡ Some front → AreOpen front
    by true e = subst AreOpen (some_equal [] front e) tt
    by false e = absurd (cc)
before_open text (t ∷ u ∷ ts) front e a =
    let m = map-made (λ more. t ∷ more) (before_sign text (u ∷ ts)) front e in
    subst AreOpen (some_equal (t ∷ m.from) front m.gives) (a.0, before_open text (u ∷ ts) m.from m.is a.1)

drop_open : (ts : List PatchToken) → AreOpen ts → AreOpen (drop 1 ts)
drop_open [] a = tt
drop_open (t ∷ ts) a = a.1

-- ---- names

abbrev pub HasOpenName : Named → Type 0
HasOpenName n = is_hidden_name n.name.token.text ≡ false

plain_open : (x : PatchToken) (n : Named) → plain_of x ≡ Some n → IsOpen x → HasOpenName n
plain_open x n e a = by (is_wordish x) refl e
  where
    by : (b : Bool) → is_wordish x ≡ b → (if b then Some (record { from = None; name = x }) else None) ≡ Some n → HasOpenName n
    by true w e =
        let same : record { from = None; name = x } ≡ n = cc in
        subst HasOpenName same (a w)
    by false w e = absurd (cc)

member_open : (r dot x : PatchToken) (n : Named) → member_of r dot x ≡ Some n → IsOpen x → HasOpenName n
member_open r dot x n e a = by (is_wordish r && is_sign (codes ".") dot && is_wordish x) refl e
  where
    by : (b : Bool) → (is_wordish r && is_sign (codes ".") dot && is_wordish x) ≡ b
        → (if b then Some (record { from = Some r; name = x }) else None) ≡ Some n → HasOpenName n
    by true w e =
        let same : record { from = Some r; name = x } ≡ n = cc in
        subst HasOpenName same (a (and_right (is_wordish r && is_sign (codes ".") dot) (is_wordish x) w))
    by false w e = absurd (cc)

named_open : (ts : List PatchToken) (n : Named) → named_of ts ≡ Some n → AreOpen ts → HasOpenName n
named_open [] n e a = absurd (cc)
named_open (x ∷ []) n e a = plain_open x n e a.0
named_open (x ∷ y ∷ []) n e a = absurd (cc)
named_open (r ∷ dot ∷ x ∷ []) n e a = member_open r dot x n e a.1.1.0
named_open (r ∷ dot ∷ x ∷ y ∷ ts) n e a = absurd (cc)

-- ---- items

abbrev pub HasOpen : Item → Type 0
HasOpen i = HasOpenName i.named

excepted_open : (k : DeclKind) (ts : List PatchToken) (x : Named) (i : Item) → excepted_of k ts x ≡ Some i → HasOpenName x → HasOpen i
excepted_open Symbol ts x i e h = absurd (cc)
excepted_open (Var kind) ts x i e h =
    let m = map-made (λ nots. record { kind = Var kind; named = x; nots = nots; wanted = anything }) (nots_of kind ts) i e in
    subst HasOpen (some_equal (record { kind = Var kind; named = x; nots = m.from; wanted = anything }) i m.gives) h

bare_open : (k : DeclKind) (ts : List PatchToken) (i : Item) → option_map (bare_item k) (named_of ts) ≡ Some i → AreOpen ts → HasOpen i
bare_open k ts i e a =
    let m = map-made (bare_item k) (named_of ts) i e in
    subst HasOpen (some_equal (bare_item k m.from) i m.gives) (named_open ts m.from m.is a)

plain_item_open : (k : DeclKind) (ts : List PatchToken) (i : Item) → plain_item k ts ≡ Some i → AreOpen ts → HasOpen i
plain_item_open k [] i e a = bare_open k [] i e a
plain_item_open k (x ∷ []) i e a = bare_open k (x ∷ []) i e a
plain_item_open k (x ∷ differs ∷ ts) i e a = by (is_sign (codes "!=") differs) e
  where
    by : (b : Bool) → (if b then option_and_then (excepted_of k ts) (plain_of x) else option_map (bare_item k) (named_of (x ∷ differs ∷ ts))) ≡ Some i
        → HasOpen i
    by true e =
        let m = then-made (excepted_of k ts) (plain_of x) i e in
        excepted_open k ts m.from i m.gives (plain_open x m.from m.is a.0)
    by false e = bare_open k (x ∷ differs ∷ ts) i e a

drops_open : (n : ℕ) (ts : List PatchToken) → AreOpen ts → AreOpen (drop n ts)
drops_open zero ts a = a
drops_open (suc n) [] a = tt
drops_open (suc n) (t ∷ ts) a = drops_open n ts a.1

pointer_open : (n : ℕ) (ts : List PatchToken) (i : Item) → pointer_item n ts ≡ Some i → AreOpen ts → HasOpen i
pointer_open n [] i e a = absurd (cc)
pointer_open n (x ∷ []) i e a =
    let m = map-made (pointer_to n) (plain_of x) i e in
    subst HasOpen (some_equal (pointer_to n m.from) i m.gives) (plain_open x m.from m.is a.0)
pointer_open n (x ∷ y ∷ ts) i e a = absurd (cc)

expression_open : (ts : List PatchToken) (i : Item) → expression_item ts ≡ Some i → AreOpen ts → HasOpen i
expression_open ts i e a = by (eqb (count_stars ts) 0) e
  where
    by : (b : Bool) → (if b then plain_item (Var (Meta meta.Expr)) ts else pointer_item (count_stars ts) (drop (count_stars ts) ts)) ≡ Some i → HasOpen i
    by true e = plain_item_open (Var (Meta meta.Expr)) ts i e a
    by false e = pointer_open (count_stars ts) (drop (count_stars ts) ts) i e (drops_open (count_stars ts) ts a)

item_open : (k : DeclKind) (ts : List PatchToken) (i : Item) → item_of k ts ≡ Some i → AreOpen ts → HasOpen i
item_open Symbol ts i e a = plain_item_open Symbol ts i e a
item_open (Var Position) ts i e a = plain_item_open (Var Position) ts i e a
item_open (Var (Meta meta.Expr)) ts i e a = expression_open ts i e a
item_open (Var (Meta meta.Ident)) ts i e a = plain_item_open (Var (Meta meta.Ident)) ts i e a
item_open (Var (Meta meta.Constant)) ts i e a = plain_item_open (Var (Meta meta.Constant)) ts i e a
item_open (Var (Meta meta.Typ)) ts i e a = plain_item_open (Var (Meta meta.Typ)) ts i e a
item_open (Var (Meta meta.Stmt)) ts i e a = plain_item_open (Var (Meta meta.Stmt)) ts i e a
item_open (Var (Meta meta.ExprList)) ts i e a = plain_item_open (Var (Meta meta.ExprList)) ts i e a
item_open (Var (Meta meta.Params)) ts i e a = plain_item_open (Var (Meta meta.Params)) ts i e a

abbrev pub HaveOpen : List Item → Type 0
HaveOpen [] = Unit {0}
HaveOpen (i ∷ items) = HasOpen i × HaveOpen items

have-append : (xs ys : List Item) → HaveOpen xs → HaveOpen ys → HaveOpen (xs ++ ys)
have-append [] ys h k = k
have-append (x ∷ xs) ys h k = (h.0, have-append xs ys h.1 k)

all_items : (k : DeclKind) (cs : List (List PatchToken)) (items : List Item) → all_of (item_of k) cs ≡ Some items → AllOpen cs → HaveOpen items
all_items k [] items e a = subst HaveOpen (some_equal [] items e) tt
all_items k (c ∷ cs) items e a =
    let one = then-made (λ i. option_map (λ more. i ∷ more) (all_of (item_of k) cs)) (item_of k c) items e in
    let rest = map-made (λ more. one.from ∷ more) (all_of (item_of k) cs) items one.gives in
    subst HaveOpen (some_equal (one.from ∷ rest.from) items rest.gives) (item_open k c one.from one.is a.0, all_items k cs rest.from rest.is a.1)

by_open : (o : Option DeclKind) (ts : List PatchToken) (items : List Item) → items_by o ts ≡ Some items → AreOpen ts → HaveOpen items
by_open None ts items e a = absurd (cc)
by_open (Some k) ts items e a = all_items k (chunks false ts) items e (chunks_open false ts a)

front_by : (t : PatchToken) (ts : List PatchToken) (items : List Item) (b : Bool)
    → (if b then items_by (list_kind_of t) (drop 1 ts) else items_by (kind_of t) ts) ≡ Some items → AreOpen ts → HaveOpen items
front_by t ts items true e a = by_open (list_kind_of t) (drop 1 ts) items e (drop_open ts a)
front_by t ts items false e a = by_open (kind_of t) ts items e a

kind_open : (ts : List PatchToken) (items : List Item) → kind_items ts ≡ Some items → AreOpen ts → HaveOpen items
kind_open [] items e a = absurd (cc)
kind_open (t ∷ ts) items e a = front_by t ts items (is_listed ts) e a.1

-- ---- declarators

abbrev OpenOf : List PatchToken → Item → Type 0
OpenOf ts i = AreOpen ts → HasOpen i

open_at : (ts : List PatchToken) (k : ℕ) (t : PatchToken) → slice_get ts k ≡ Some t → AreOpen ts → IsOpen t
open_at [] k t e a = absurd (cc)
open_at (u ∷ ts) zero t e a = let same : u ≡ t = cc in subst IsOpen same a.0
open_at (u ∷ ts) (suc k) t e a = open_at ts k t e a.1

typed_open : (ts : List PatchToken) (k : ℕ) (t : PatchToken) (x : Named) (w : Wanted)
    → slice_get ts k ≡ Some t → plain_of t ≡ Some x → OpenOf ts (wanted_item w x)
typed_open ts k t x w e f a = plain_open t x f (open_at ts k t e a)

untyped_open : (ts : List PatchToken) (name : NameWanted) (i : Item) → expression_item ts ≡ Some i → OpenOf ts (with_name name i)
untyped_open ts wants i e a = expression_open ts i e a

declarators_open : (depth : ℕ) (ts : List PatchToken) → AreOpen ts → AllOpen (declarators depth ts)
declarators_open depth [] a = (tt, tt)
declarators_open depth (t ∷ ts) a =
    by (eqb depth 0 && is_sign (codes ",") t) (declarators_open depth ts a.1) (declarators_open (depth_after depth t) ts a.1)
  where
    by : (b : Bool) → AllOpen (declarators depth ts) → AllOpen (declarators (depth_after depth t) ts)
        → AllOpen (if b then [] ∷ declarators depth ts else put t (declarators (depth_after depth t) ts))
    by true r s = (tt, r)
    by false r s = put_open t (declarators (depth_after depth t) ts) a.0 s

zip_open : (ds : List (List PatchToken)) (items : List Item) → AllZip OpenOf ds items → AllOpen ds → HaveOpen items
zip_open [] [] z a = tt
zip_open [] (i ∷ is) z a = absurd z
zip_open (d ∷ ds) [] z a = absurd z
zip_open (d ∷ ds) (i ∷ is) z a = (z.0 a.0, zip_open ds is z.1 a.1)

front_open : (ts : List PatchToken) (items : List Item) → Sources OpenOf typed_open untyped_open ts items → AreOpen ts → HaveOpen items
front_open ts items (inl e) a = kind_open ts items e a
front_open ts items (inr o) a =
    zip_open (declarators 0 (drop o.skipped ts)) items o.each (declarators_open 0 (drop o.skipped ts) (drops_open o.skipped ts a))

declared_open : (types : List (List ℕ)) (part : List PatchToken) (o : Option (List Item)) → IsDeclared types part o → AreOpen part → HaveOpen (items_or_none o)
declared_open types part None e a = tt
declared_open types part (Some items) e a =
    let d = declares OpenOf typed_open untyped_open types part items e in
    front_open d.front items d.from (before_open (codes ";") part d.front d.is a)

pub items_open : (types : List (List ℕ)) (ps : List (List PatchToken)) (answers : List (Option (List Item))) → AreDeclared types ps answers
    → AllOpen ps → HaveOpen (items_of answers)
items_open types [] [] d a = tt
items_open types [] (o ∷ more) d a = absurd d
items_open types (p ∷ ps) [] d a = absurd d
items_open types (p ∷ ps) (o ∷ more) d a = have-append (items_or_none o) (items_of more) (declared_open types p o d.0 a.0)
    (items_open (with_type_names types (items_or_none o)) ps more d.1 a.1)
