-- What items of declarations must not be, and what their variables take.
use Rattle.std.proofs.Common.{◌≡◌, ℕ, inl, inr, slice_get, Bool, true, false, refl, sym, ap, subst, List, [], ◌∷◌, ◌++◌}
use Rattle.std.proofs.Common.{Option, Some, None, if◌then◌else◌, drop, codes, option_map}
use Rattle.std.specs.Prelude.{option_and_then, eqb}
use Rattle.std.specs.List.{AllZip}
use Rattle.smpl_patch.specs.declared.wanted.NameWanted.{NameWanted}
use Rattle.smpl_patch.specs.declared.wanted.Wanted.{Wanted}
use Rattle.c_terms.specs.declared.token.MetaKind.{MetaKind}
use Rattle.c_terms.specs.declared.token.MetaKind.TheVariants as meta
use Rattle.smpl_patch.specs.Wants.{anything, is_anything}
use Rattle.smpl_patch.specs.declared.pattern.VarKind.{VarKind}
use Rattle.smpl_patch.specs.declared.pattern.VarKind.TheVariants.{Meta, Position}
use Rattle.smpl_patch.specs.Sound.{same_kind}
use Rattle.smpl_lexer.specs.declared.token.PatchToken.{PatchToken}
use Rattle.smpl_lexer.specs.Tokens.{is_sign}
use Rattle.smpl_meta.specs.declared.item.Item.{Item}
use Rattle.smpl_meta.specs.declared.item.Named.{Named}
use Rattle.smpl_meta.specs.declared.item.DeclKind.{DeclKind}
use Rattle.smpl_meta.specs.declared.item.DeclKind.TheVariants.{Var, Symbol}
use Rattle.smpl_meta.specs.Forms.{is_wordish, chunks, before_sign, plain_of, named_of, name_not, not_of, all_of, one_not}
use Rattle.smpl_meta.specs.Forms.{nots_between, braced, nots_of, excepted_of, bare_item, item_of, is_listed, kind_of}
use Rattle.smpl_meta.specs.Forms.{list_kind_of, items_by, kind_items, plain_item, count_stars, pointer_to, pointer_item, expression_item}
use Rattle.smpl_meta.specs.TypeNames.{with_type_names}
use Rattle.smpl_meta.specs.Typed.{with_name, declarators}
use Rattle.smpl_meta.specs.Declarations.{IsDeclared, AreDeclared, items_or_none}
use Rattle.smpl_meta.specs.Decls.{items_of}
use Rattle.smpl_meta.proofs.TypedItems.{wanted_item, Sources, declares}
use Rattle.sound_laws.proofs.SmplSound.BoolLemmas.{or-right}
use Rattle.sound_laws.proofs.SmplSound.HomeLemmas.{AllPlain, FitNots, FitWanted, Fit, AllFit}

-- ---- what is made of an option

pub record Made {A B : Type 0} (o : Option A) (f : A → Option B) (b : B) : Type 0 where
  pub from : A
  pub is : o ≡ Some from
  pub gives : f from ≡ Some b

pub then-made : {A B : Type 0} (f : A → Option B) (o : Option A) (b : B) → option_and_then f o ≡ Some b → Made o f b
then-made f None b e = absurd (cc)
then-made f (Some a) b e = record { from = a; is = refl; gives = e }

pub map-made : {A B : Type 0} (f : A → B) (o : Option A) (b : B) → option_map f o ≡ Some b → Made o (λ a. Some (f a)) b
map-made f None b e = absurd (cc)
map-made f (Some a) b e = record { from = a; is = refl; gives = e }

-- ---- names without a rule

plain-by : (x : PatchToken) (n : Named) (b : Bool) → (if b then Some (record { from = None; name = x }) else None) ≡ Some n → n.from ≡ None
plain-by x n true e = let same : record { from = None; name = x } ≡ n = cc in ap (λ (m : Named). m.from) (sym same)
plain-by x n false e = absurd (cc)

name-plain : (ts : List PatchToken) (n : Named) → name_not ts ≡ Some n → n.from ≡ None
name-plain [] n e = absurd (cc)
name-plain (x ∷ []) n e = plain-by x n (is_wordish x) e
name-plain (x ∷ y ∷ ts) n e = absurd (cc)

not-plain : (k : MetaKind) (ts : List PatchToken) (n : Named) → not_of (Meta k) ts ≡ Some n → n.from ≡ None
not-plain meta.Expr ts n e = absurd (cc)
not-plain meta.Ident ts n e = name-plain ts n e
not-plain meta.Constant ts n e = absurd (cc)
not-plain meta.Typ ts n e = absurd (cc)
not-plain meta.Stmt ts n e = absurd (cc)
not-plain meta.ExprList ts n e = absurd (cc)
not-plain meta.Params ts n e = absurd (cc)

all-plain : (k : MetaKind) (cs : List (List PatchToken)) (ns : List Named) → all_of (not_of (Meta k)) cs ≡ Some ns → AllPlain ns
all-plain k [] ns e = let same : [] ≡ ns = cc in subst AllPlain same tt
all-plain k (c ∷ cs) ns e =
    let one = then-made (λ a. option_map (λ more. a ∷ more) (all_of (not_of (Meta k)) cs)) (not_of (Meta k) c) ns e in
    let rest = map-made (λ more. one.from ∷ more) (all_of (not_of (Meta k)) cs) ns one.gives in
    let same : one.from ∷ rest.from ≡ ns = let g = rest.gives in cc in
    subst AllPlain same (not-plain k c one.from one.is, all-plain k cs rest.from rest.is)

one-plain : (k : MetaKind) (ts : List PatchToken) (ns : List Named) → one_not (Meta k) ts ≡ Some ns → AllPlain ns
one-plain k ts ns e =
    let m = map-made (λ n. n ∷ []) (not_of (Meta k) ts) ns e in
    let same : m.from ∷ [] ≡ ns = let g = m.gives in cc in
    subst AllPlain same (not-plain k ts m.from m.is, tt)

braced-plain : (k : MetaKind) (ts : List PatchToken) (ns : List Named) → braced (Meta k) ts ≡ Some ns → AllPlain ns
braced-plain k ts ns e =
    let m = then-made (nots_between (Meta k)) (before_sign (codes "}") ts) ns e in
    all-plain k (chunks false m.from) ns m.gives

nots-plain-by : (k : MetaKind) (t : PatchToken) (ts : List PatchToken) (ns : List Named) (b : Bool)
    → (if b then braced (Meta k) ts else one_not (Meta k) (t ∷ ts)) ≡ Some ns → AllPlain ns
nots-plain-by k t ts ns true e = braced-plain k ts ns e
nots-plain-by k t ts ns false e = one-plain k (t ∷ ts) ns e

nots-plain : (k : MetaKind) (ts : List PatchToken) (ns : List Named) → nots_of (Meta k) ts ≡ Some ns → AllPlain ns
nots-plain k [] ns e = absurd (cc)
nots-plain k (t ∷ ts) ns e = nots-plain-by k t ts ns (is_sign (codes "{") t) e

nots-fit : (k : VarKind) (ts : List PatchToken) (ns : List Named) → nots_of k ts ≡ Some ns → FitNots (Var k) ns
nots-fit Position ts ns e = tt
nots-fit (Meta k) ts ns e = nots-plain k ts ns e

-- ---- items

abbrev Fits : Item → Type 0
Fits i = Fit i.kind i.nots i.wanted

-- it fits, and is of the kind
abbrev FitsAs : DeclKind → Item → Type 0
FitsAs k i = (i.kind ≡ k) × Fit k i.nots i.wanted

as-fits : (k : DeclKind) (i : Item) → FitsAs k i → Fits i
as-fits k i f = subst (λ (j : DeclKind). Fit j i.nots i.wanted) (sym f.0) f.1

-- every expression may be wanted of a variable of any kind
any-fits : (k : DeclKind) → FitWanted k anything
any-fits Symbol = tt
any-fits (Var k) = refl

-- anything may be wanted of an expression
expression-takes : (w : Wanted) → FitWanted (Var (Meta meta.Expr)) w
expression-takes w = or-right (is_anything w) (same_kind (Meta meta.Expr) (Meta meta.Expr)) refl

excepted-fits : (k : DeclKind) (ts : List PatchToken) (x : Named) (i : Item) → excepted_of k ts x ≡ Some i → FitsAs k i
excepted-fits Symbol ts x i e = absurd (cc)
excepted-fits (Var k) ts x i e =
    let m = map-made (λ nots. record { kind = Var k; named = x; nots = nots; wanted = anything }) (nots_of k ts) i e in
    let same : record { kind = Var k; named = x; nots = m.from; wanted = anything } ≡ i = let g = m.gives in cc in
    subst (FitsAs (Var k)) same (refl, (nots-fit k ts m.from m.is, refl))

none-fit : (k : DeclKind) → FitNots k []
none-fit Symbol = tt
none-fit (Var Position) = tt
none-fit (Var (Meta k)) = tt

bare-fits : (k : DeclKind) (ts : List PatchToken) (i : Item) → option_map (bare_item k) (named_of ts) ≡ Some i → FitsAs k i
bare-fits k ts i e =
    let m = map-made (bare_item k) (named_of ts) i e in
    let same : bare_item k m.from ≡ i = let g = m.gives in cc in
    subst (FitsAs k) same (refl, (none-fit k, any-fits k))

plain-fits-by : (k : DeclKind) (x y : PatchToken) (ts : List PatchToken) (i : Item) (b : Bool)
    → (if b then option_and_then (excepted_of k ts) (plain_of x) else option_map (bare_item k) (named_of (x ∷ y ∷ ts))) ≡ Some i → FitsAs k i
plain-fits-by k x y ts i true e = let m = then-made (excepted_of k ts) (plain_of x) i e in excepted-fits k ts m.from i m.gives
plain-fits-by k x y ts i false e = bare-fits k (x ∷ y ∷ ts) i e

plain-as : (k : DeclKind) (ts : List PatchToken) (i : Item) → plain_item k ts ≡ Some i → FitsAs k i
plain-as k [] i e = bare-fits k [] i e
plain-as k (x ∷ []) i e = bare-fits k (x ∷ []) i e
plain-as k (x ∷ y ∷ ts) i e = plain-fits-by k x y ts i (is_sign (codes "!=") y) e

plain-fits : (k : DeclKind) (ts : List PatchToken) (i : Item) → plain_item k ts ≡ Some i → Fits i
plain-fits k ts i e = as-fits k i (plain-as k ts i e)

abbrev Expression : Item → Type 0
Expression = FitsAs (Var (Meta meta.Expr))

pointer-fits : (n : ℕ) (ts : List PatchToken) (i : Item) → pointer_item n ts ≡ Some i → Expression i
pointer-fits n [] i e = absurd (cc)
pointer-fits n (x ∷ []) i e =
    let m = map-made (pointer_to n) (plain_of x) i e in
    let same : pointer_to n m.from ≡ i = let g = m.gives in cc in
    subst Expression same (refl, (tt, expression-takes (pointer_to n m.from).wanted))
pointer-fits n (x ∷ y ∷ ts) i e = absurd (cc)

expression-fits-by : (ts : List PatchToken) (i : Item) (b : Bool)
    → (if b then plain_item (Var (Meta meta.Expr)) ts else pointer_item (count_stars ts) (drop (count_stars ts) ts)) ≡ Some i → Expression i
expression-fits-by ts i true e = plain-as (Var (Meta meta.Expr)) ts i e
expression-fits-by ts i false e = pointer-fits (count_stars ts) (drop (count_stars ts) ts) i e

expression-fits : (ts : List PatchToken) (i : Item) → expression_item ts ≡ Some i → Expression i
expression-fits ts i e = expression-fits-by ts i (eqb (count_stars ts) 0) e

item-fits : (k : DeclKind) (ts : List PatchToken) (i : Item) → item_of k ts ≡ Some i → Fits i
item-fits Symbol ts i e = plain-fits Symbol ts i e
item-fits (Var Position) ts i e = plain-fits (Var Position) ts i e
item-fits (Var (Meta meta.Expr)) ts i e = as-fits (Var (Meta meta.Expr)) i (expression-fits ts i e)
item-fits (Var (Meta meta.Ident)) ts i e = plain-fits (Var (Meta meta.Ident)) ts i e
item-fits (Var (Meta meta.Constant)) ts i e = plain-fits (Var (Meta meta.Constant)) ts i e
item-fits (Var (Meta meta.Typ)) ts i e = plain-fits (Var (Meta meta.Typ)) ts i e
item-fits (Var (Meta meta.Stmt)) ts i e = plain-fits (Var (Meta meta.Stmt)) ts i e
item-fits (Var (Meta meta.ExprList)) ts i e = plain-fits (Var (Meta meta.ExprList)) ts i e
item-fits (Var (Meta meta.Params)) ts i e = plain-fits (Var (Meta meta.Params)) ts i e

items-fit : (k : DeclKind) (cs : List (List PatchToken)) (is : List Item) → all_of (item_of k) cs ≡ Some is → AllFit is
items-fit k [] is e = let same : [] ≡ is = cc in subst AllFit same tt
items-fit k (c ∷ cs) is e =
    let one = then-made (λ a. option_map (λ more. a ∷ more) (all_of (item_of k) cs)) (item_of k c) is e in
    let rest = map-made (λ more. one.from ∷ more) (all_of (item_of k) cs) is one.gives in
    let same : one.from ∷ rest.from ≡ is = let g = rest.gives in cc in
    subst AllFit same (item-fits k c one.from one.is, items-fit k cs rest.from rest.is)

by-fit : (o : Option DeclKind) (ts : List PatchToken) (is : List Item) → items_by o ts ≡ Some is → AllFit is
by-fit None ts is e = absurd (cc)
by-fit (Some k) ts is e = items-fit k (chunks false ts) is e

kind-fit-by : (t : PatchToken) (ts : List PatchToken) (is : List Item) (b : Bool)
    → (if b then items_by (list_kind_of t) (drop 1 ts) else items_by (kind_of t) ts) ≡ Some is → AllFit is
kind-fit-by t ts is true e = by-fit (list_kind_of t) (drop 1 ts) is e
kind-fit-by t ts is false e = by-fit (kind_of t) ts is e

kind-fit : (ts : List PatchToken) (is : List Item) → kind_items ts ≡ Some is → AllFit is
kind-fit [] is e = absurd (cc)
kind-fit (t ∷ ts) is e = kind-fit-by t ts is (is_listed ts) e

-- an item fits, whatever its tokens are
abbrev FitsAny : List PatchToken → Item → Type 0
FitsAny ts i = Fits i

typed-fits : (ts : List PatchToken) (k : ℕ) (t : PatchToken) (x : Named) (w : Wanted)
    → slice_get ts k ≡ Some t → plain_of t ≡ Some x → FitsAny ts (wanted_item w x)
typed-fits ts k t x w e f = (tt, expression-takes w)

untyped-fits : (ts : List PatchToken) (name : NameWanted) (i : Item) → expression_item ts ≡ Some i → FitsAny ts (with_name name i)
untyped-fits ts name i e =
    let f = expression-fits ts i e in
    as-fits (Var (Meta meta.Expr)) (with_name name i) (f.0, (f.1.0, expression-takes (with_name name i).wanted))

zip-fit : (ds : List (List PatchToken)) (is : List Item) → AllZip FitsAny ds is → AllFit is
zip-fit [] [] a = tt
zip-fit [] (i ∷ is) a = absurd a
zip-fit (d ∷ ds) [] a = absurd a
zip-fit (d ∷ ds) (i ∷ is) a = (a.0, zip-fit ds is a.1)

front-fit : (ts : List PatchToken) (is : List Item) → Sources FitsAny typed-fits untyped-fits ts is → AllFit is
front-fit ts is (inl e) = kind-fit ts is e
front-fit ts is (inr o) = zip-fit (declarators 0 (drop o.skipped ts)) is o.each

declared-fit : (types : List (List ℕ)) (part : List PatchToken) (o : Option (List Item)) → IsDeclared types part o → AllFit (items_or_none o)
declared-fit types part None e = tt
declared-fit types part (Some is) e = let d = declares FitsAny typed-fits untyped-fits types part is e in front-fit d.front is d.from

fit-append : (xs ys : List Item) → AllFit xs → AllFit ys → AllFit (xs ++ ys)
fit-append [] ys a b = b
fit-append (x ∷ xs) ys a b = (a.0, fit-append xs ys a.1 b)

-- the items of declarations exclude rules' names only at positions, and only expressions have to be more than that
pub items-fitting : (types : List (List ℕ)) (ps : List (List PatchToken)) (answers : List (Option (List Item))) → AreDeclared types ps answers
    → AllFit (items_of answers)
items-fitting types [] [] a = tt
items-fitting types [] (o ∷ more) a = absurd a
items-fitting types (part ∷ ps) [] a = absurd a
items-fitting types (part ∷ ps) (o ∷ more) a = fit-append (items_or_none o) (items_of more) (declared-fit types part o a.0)
    (items-fitting (with_type_names types (items_or_none o)) ps more a.1)
