-- The declarations of a rule have no more items than tokens, and an item has no more exclusions than tokens.
use Rattle.std.proofs.Common.{◌≡◌, ℕ, suc, ◌+◌, ◌≤◌, Bool, true, false, refl, sym, ap, ◌∙◌, subst, arith, List, [], ◌∷◌, ◌++◌}
use Rattle.std.proofs.Common.{inl, inr, slice_get, length, Option, Some, None, if◌then◌else◌, drop, codes, option_map}
use Rattle.std.specs.Prelude.{option_and_then, eqb, ◌&&◌, not}
use Rattle.std.specs.List.{AllZip}
use Rattle.c_terms.specs.declared.token.MetaKind.TheVariants as meta
use Rattle.smpl_patch.specs.declared.wanted.NameWanted.{NameWanted}
use Rattle.smpl_patch.specs.declared.wanted.Wanted.{Wanted}
use Rattle.std.proofs.lemmas.List.{length-append, length-drop}
use Rattle.smpl_patch.specs.Wants.{anything}
use Rattle.smpl_patch.specs.declared.pattern.VarDecl.{VarDecl}
use Rattle.smpl_patch.specs.declared.pattern.VarKind.{VarKind}
use Rattle.smpl_patch.specs.declared.pattern.VarKind.TheVariants.{Meta, Position}
use Rattle.smpl_lexer.specs.declared.token.PatchToken.{PatchToken}
use Rattle.smpl_lexer.specs.Tokens.{is_sign}
use Rattle.smpl_meta.specs.declared.head.RuleHead.{RuleHead}
use Rattle.smpl_meta.specs.declared.item.Item.{Item}
use Rattle.smpl_meta.specs.declared.item.Named.{Named}
use Rattle.smpl_meta.specs.declared.item.DeclKind.{DeclKind}
use Rattle.smpl_meta.specs.declared.item.DeclKind.TheVariants.{Var, Symbol}
use Rattle.smpl_meta.specs.Known.{var_of}
use Rattle.smpl_meta.specs.Forms.{put, parts, within_after, chunks, before_sign, plain_of, named_of, not_of, all_of, one_not}
use Rattle.smpl_meta.specs.Forms.{nots_between, braced, nots_of, excepted_of, bare_item, item_of, is_listed, kind_of}
use Rattle.smpl_meta.specs.Forms.{list_kind_of, items_by, kind_items, plain_item, count_stars, pointer_to, pointer_item, expression_item}
use Rattle.smpl_meta.specs.TypeNames.{with_type_names}
use Rattle.smpl_meta.specs.Typed.{with_name, declarators, depth_after}
use Rattle.smpl_meta.specs.Declarations.{IsDeclared, AreDeclared, items_or_none}
use Rattle.smpl_meta.proofs.TypedItems.{wanted_item, Sources, declares}
use Rattle.smpl_meta.specs.Decls.{AreAnswers, items_of, texts_of, names_not, var_in, place_not, places_not, inherited_from, var_by, vars_in, vars_of_items}
use Rattle.sound_laws.proofs.SmplSound.FormLemmas.{then-made, map-made}

-- ---- lists of tokens, taken apart

abbrev sizes : List (List PatchToken) → ℕ
sizes [] = 0
sizes (p ∷ ps) = length p + sizes ps

put_long : (t : PatchToken) (ps : List (List PatchToken)) → length (put t ps) ≤ 1 + length ps
put_long t [] = omega arith
put_long t (p ∷ ps) = omega arith

put_sizes : (t : PatchToken) (ps : List (List PatchToken)) → sizes (put t ps) ≡ 1 + sizes ps
put_sizes t [] = omega arith
put_sizes t (p ∷ ps) = omega arith

parts_sizes : (ts : List PatchToken) → sizes (parts ts) ≡ length ts
parts_sizes [] = refl
parts_sizes (t ∷ ts) = by (is_sign (codes ";") t) (parts_sizes ts)
  where
    by : (b : Bool) → sizes (parts ts) ≡ length ts → sizes (if b then (t ∷ []) ∷ parts ts else put t (parts ts)) ≡ suc (length ts)
    by true e = omega (arith, e)
    by false e = omega (arith, e, put_sizes t (parts ts))

chunks_long : (w : Bool) (ts : List PatchToken) → length (chunks w ts) ≤ 1 + length ts
chunks_long w [] = omega arith
chunks_long w (t ∷ ts) = by (is_sign (codes ",") t && not w) (chunks_long w ts) (chunks_long (within_after w t) ts)
  where
    by : (b : Bool) → length (chunks w ts) ≤ 1 + length ts → length (chunks (within_after w t) ts) ≤ 1 + length ts
        → length (if b then [] ∷ chunks w ts else put t (chunks (within_after w t) ts)) ≤ 1 + suc (length ts)
    by true h g = omega (arith, h)
    by false h g = omega (arith, g, put_long t (chunks (within_after w t) ts))

chunks_sizes : (w : Bool) (ts : List PatchToken) → sizes (chunks w ts) ≤ length ts
chunks_sizes w [] = omega arith
chunks_sizes w (t ∷ ts) = by (is_sign (codes ",") t && not w) (chunks_sizes w ts) (chunks_sizes (within_after w t) ts)
  where
    by : (b : Bool) → sizes (chunks w ts) ≤ length ts → sizes (chunks (within_after w t) ts) ≤ length ts
        → sizes (if b then [] ∷ chunks w ts else put t (chunks (within_after w t) ts)) ≤ suc (length ts)
    by true h g = omega (arith, h)
    by false h g = omega (arith, g, put_sizes t (chunks (within_after w t) ts))

before_by : (t : PatchToken) (front : List PatchToken) (b : Bool) → (if b then Some [] else None) ≡ Some front → length front ≤ 0
before_by t front true e = let same : [] ≡ front = cc in omega (arith, ap (λ (l : List PatchToken). length l) same)
before_by t front false e = let no : ⊥ = cc in absurd no

before_long : (text : List ℕ) (ts front : List PatchToken) → before_sign text ts ≡ Some front → suc (length front) ≤ length ts
before_long text [] front e = let no : ⊥ = cc in absurd no
before_long text (t ∷ []) front e = omega (arith, before_by t front (is_sign text t) e)
before_long text (t ∷ u ∷ ts) front e =
    let m = map-made (λ (f : List PatchToken). t ∷ f) (before_sign text (u ∷ ts)) front e in
    let same : t ∷ m.from ≡ front = let g = m.gives in cc in
    omega (arith, before_long text (u ∷ ts) m.from m.is, ap (λ (l : List PatchToken). length l) same)

all_long : {A : Type 0} (read : List PatchToken → Option A) (cs : List (List PatchToken)) (ns : List A) → all_of read cs ≡ Some ns → length ns ≡ length cs
all_long read [] ns e = let same : [] ≡ ns = cc in ap length (sym same)
all_long {A} read (c ∷ cs) ns e =
    let one = then-made (λ a. option_map (λ more. a ∷ more) (all_of read cs)) (read c) ns e in
    let rest = map-made (λ more. one.from ∷ more) (all_of read cs) ns one.gives in
    let same : one.from ∷ rest.from ≡ ns = let g = rest.gives in cc in
    ap length (sym same) ∙ ap suc (all_long read cs rest.from rest.is)

-- ---- exclusions

nots_by : (k : VarKind) (t : PatchToken) (ts : List PatchToken) (ns : List Named) (b : Bool)
    → (if b then braced k ts else one_not k (t ∷ ts)) ≡ Some ns → length ns ≤ 1 + length ts
nots_by k t ts ns true e =
    let m = then-made (nots_between k) (before_sign (codes "}") ts) ns e in
    omega (arith, all_long (not_of k) (chunks false m.from) ns m.gives, chunks_long false m.from, before_long (codes "}") ts m.from m.is)
nots_by k t ts ns false e =
    let m = map-made (λ n. n ∷ []) (not_of k (t ∷ ts)) ns e in
    let same : m.from ∷ [] ≡ ns = let g = m.gives in cc in
    omega (arith, ap (λ (l : List Named). length l) same)

nots_long : (k : VarKind) (ts : List PatchToken) (ns : List Named) → nots_of k ts ≡ Some ns → length ns ≤ 1 + length ts
nots_long k [] ns e = let no : ⊥ = cc in absurd no
nots_long k (t ∷ ts) ns e = omega (arith, nots_by k t ts ns (is_sign (codes "{") t) e)

abbrev HasNots : ℕ → Item → Type 0
HasNots n i = length i.nots ≤ n

excepted_long : (k : DeclKind) (ts : List PatchToken) (x : Named) (i : Item) → excepted_of k ts x ≡ Some i → HasNots (1 + length ts) i
excepted_long Symbol ts x i e = let no : ⊥ = cc in absurd no
excepted_long (Var k) ts x i e =
    let m = map-made (λ nots. record { kind = Var k; named = x; nots = nots; wanted = anything }) (nots_of k ts) i e in
    let same : record { kind = Var k; named = x; nots = m.from; wanted = anything } ≡ i = let g = m.gives in cc in
    subst (HasNots (1 + length ts)) same (nots_long k ts m.from m.is)

bare_long : (n : ℕ) (k : DeclKind) (ts : List PatchToken) (i : Item) → option_map (bare_item k) (named_of ts) ≡ Some i → HasNots n i
bare_long n k ts i e =
    let m = map-made (bare_item k) (named_of ts) i e in
    let same : bare_item k m.from ≡ i = let g = m.gives in cc in
    subst (HasNots n) same (omega arith)

plain_by : (k : DeclKind) (x y : PatchToken) (ts : List PatchToken) (i : Item) (b : Bool)
    → (if b then option_and_then (excepted_of k ts) (plain_of x) else option_map (bare_item k) (named_of (x ∷ y ∷ ts))) ≡ Some i → HasNots (1 + length ts) i
plain_by k x y ts i true e = let m = then-made (excepted_of k ts) (plain_of x) i e in excepted_long k ts m.from i m.gives
plain_by k x y ts i false e = bare_long (1 + length ts) k (x ∷ y ∷ ts) i e

plain_long : (k : DeclKind) (ts : List PatchToken) (i : Item) → plain_item k ts ≡ Some i → HasNots (length ts) i
plain_long k [] i e = bare_long 0 k [] i e
plain_long k (x ∷ []) i e = bare_long 1 k (x ∷ []) i e
plain_long k (x ∷ y ∷ ts) i e = omega (arith, plain_by k x y ts i (is_sign (codes "!=") y) e)

pointer_long : (m n : ℕ) (ts : List PatchToken) (i : Item) → pointer_item n ts ≡ Some i → HasNots m i
pointer_long m n [] i e = let no : ⊥ = cc in absurd no
pointer_long m n (x ∷ []) i e =
    let made = map-made (pointer_to n) (plain_of x) i e in
    let same : pointer_to n made.from ≡ i = let g = made.gives in cc in
    subst (HasNots m) same (omega arith)
pointer_long m n (x ∷ y ∷ ts) i e = let no : ⊥ = cc in absurd no

expression_by : (ts : List PatchToken) (i : Item) (b : Bool)
    → (if b then plain_item (Var (Meta meta.Expr)) ts else pointer_item (count_stars ts) (drop (count_stars ts) ts)) ≡ Some i → HasNots (length ts) i
expression_by ts i true e = plain_long (Var (Meta meta.Expr)) ts i e
expression_by ts i false e = pointer_long (length ts) (count_stars ts) (drop (count_stars ts) ts) i e

expression_long : (ts : List PatchToken) (i : Item) → expression_item ts ≡ Some i → HasNots (length ts) i
expression_long ts i e = expression_by ts i (eqb (count_stars ts) 0) e

item_long : (k : DeclKind) (ts : List PatchToken) (i : Item) → item_of k ts ≡ Some i → HasNots (length ts) i
item_long Symbol ts i e = plain_long Symbol ts i e
item_long (Var Position) ts i e = plain_long (Var Position) ts i e
item_long (Var (Meta meta.Expr)) ts i e = expression_long ts i e
item_long (Var (Meta meta.Ident)) ts i e = plain_long (Var (Meta meta.Ident)) ts i e
item_long (Var (Meta meta.Constant)) ts i e = plain_long (Var (Meta meta.Constant)) ts i e
item_long (Var (Meta meta.Typ)) ts i e = plain_long (Var (Meta meta.Typ)) ts i e
item_long (Var (Meta meta.Stmt)) ts i e = plain_long (Var (Meta meta.Stmt)) ts i e
item_long (Var (Meta meta.ExprList)) ts i e = plain_long (Var (Meta meta.ExprList)) ts i e
item_long (Var (Meta meta.Params)) ts i e = plain_long (Var (Meta meta.Params)) ts i e

-- ---- items

abbrev pub AllNots : ℕ → List Item → Type 0
AllNots n [] = Unit {0}
AllNots n (i ∷ is) = HasNots n i × AllNots n is

more_nots : (n m : ℕ) (is : List Item) → n ≤ m → AllNots n is → AllNots m is
more_nots n m [] h a = tt
more_nots n m (i ∷ is) h a = (omega (arith, a.0, h), more_nots n m is h a.1)

nots_append : (n : ℕ) (is js : List Item) → AllNots n is → AllNots n js → AllNots n (is ++ js)
nots_append n [] js a b = b
nots_append n (i ∷ is) js a b = (a.0, nots_append n is js a.1 b)

all_items : (k : DeclKind) (cs : List (List PatchToken)) (is : List Item) → all_of (item_of k) cs ≡ Some is → AllNots (sizes cs) is
all_items k [] is e = let same : [] ≡ is = cc in subst (AllNots 0) same tt
all_items k (c ∷ cs) is e =
    let one = then-made (λ a. option_map (λ more. a ∷ more) (all_of (item_of k) cs)) (item_of k c) is e in
    let rest = map-made (λ more. one.from ∷ more) (all_of (item_of k) cs) is one.gives in
    let same : one.from ∷ rest.from ≡ is = let g = rest.gives in cc in
    let n = length c + sizes cs in
    subst (AllNots n) same (omega (arith, item_long k c one.from one.is), more_nots (sizes cs) n rest.from (omega arith) (all_items k cs rest.from rest.is))

record FewItems (n : ℕ) (is : List Item) : Type 0 where
  count : length is ≤ n
  nots : AllNots n is

items_few : (o : Option DeclKind) (ts : List PatchToken) (is : List Item) → items_by o ts ≡ Some is → FewItems (1 + length ts) is
items_few None ts is e = let no : ⊥ = cc in absurd no
items_few (Some k) ts is e = record {
  count = omega (arith, all_long (item_of k) (chunks false ts) is e, chunks_long false ts);
  nots = more_nots (sizes (chunks false ts)) (1 + length ts) is (omega (arith, chunks_sizes false ts)) (all_items k (chunks false ts) is e);
}

wider : (n m : ℕ) (is : List Item) → n ≤ m → FewItems n is → FewItems m is
wider n m is h f = record { count = omega (arith, f.count, h); nots = more_nots n m is h f.nots }

drop_short : (ts : List PatchToken) → length (drop 1 ts) ≤ length ts
drop_short [] = omega arith
drop_short (t ∷ ts) = omega arith

front_by : (t : PatchToken) (ts : List PatchToken) (is : List Item) (b : Bool)
    → (if b then items_by (list_kind_of t) (drop 1 ts) else items_by (kind_of t) ts) ≡ Some is → FewItems (1 + length ts) is
front_by t ts is true e = wider (1 + length (drop 1 ts)) (1 + length ts) is (omega (arith, drop_short ts)) (items_few (list_kind_of t) (drop 1 ts) is e)
front_by t ts is false e = items_few (kind_of t) ts is e

kind_few : (ts : List PatchToken) (is : List Item) → kind_items ts ≡ Some is → FewItems (length ts) is
kind_few [] is e = let no : ⊥ = cc in absurd no
kind_few (t ∷ ts) is e = wider (1 + length ts) (length (t ∷ ts)) is (omega arith) (front_by t ts is (is_listed ts) e)

-- ---- declarators

abbrev FewNots : List PatchToken → Item → Type 0
FewNots ts i = HasNots (length ts) i

typed_few : (ts : List PatchToken) (k : ℕ) (t : PatchToken) (x : Named) (w : Wanted)
    → slice_get ts k ≡ Some t → plain_of t ≡ Some x → FewNots ts (wanted_item w x)
typed_few ts k t x w e f = omega arith

untyped_few : (ts : List PatchToken) (name : NameWanted) (i : Item) → expression_item ts ≡ Some i → FewNots ts (with_name name i)
untyped_few ts wanted i e = expression_long ts i e

declarators_long : (depth : ℕ) (ts : List PatchToken) → length (declarators depth ts) ≤ 1 + length ts
declarators_long depth [] = omega arith
declarators_long depth (t ∷ ts) =
    by (eqb depth 0 && is_sign (codes ",") t) (declarators_long depth ts) (declarators_long (depth_after depth t) ts)
  where
    by : (b : Bool) → length (declarators depth ts) ≤ 1 + length ts → length (declarators (depth_after depth t) ts) ≤ 1 + length ts
        → length (if b then [] ∷ declarators depth ts else put t (declarators (depth_after depth t) ts)) ≤ 1 + suc (length ts)
    by true h g = omega (arith, h)
    by false h g = omega (arith, g, put_long t (declarators (depth_after depth t) ts))

declarators_sizes : (depth : ℕ) (ts : List PatchToken) → sizes (declarators depth ts) ≤ length ts
declarators_sizes depth [] = omega arith
declarators_sizes depth (t ∷ ts) =
    by (eqb depth 0 && is_sign (codes ",") t) (declarators_sizes depth ts) (declarators_sizes (depth_after depth t) ts)
  where
    by : (b : Bool) → sizes (declarators depth ts) ≤ length ts → sizes (declarators (depth_after depth t) ts) ≤ length ts
        → sizes (if b then [] ∷ declarators depth ts else put t (declarators (depth_after depth t) ts)) ≤ suc (length ts)
    by true h g = omega (arith, h)
    by false h g = omega (arith, g, put_sizes t (declarators (depth_after depth t) ts))

zip_long : (ds : List (List PatchToken)) (is : List Item) → AllZip FewNots ds is → length is ≡ length ds
zip_long [] [] a = refl
zip_long [] (i ∷ is) a = absurd a
zip_long (d ∷ ds) [] a = absurd a
zip_long (d ∷ ds) (i ∷ is) a = ap suc (zip_long ds is a.1)

zip_nots : (ds : List (List PatchToken)) (is : List Item) → AllZip FewNots ds is → AllNots (sizes ds) is
zip_nots [] [] a = tt
zip_nots [] (i ∷ is) a = absurd a
zip_nots (d ∷ ds) [] a = absurd a
zip_nots (d ∷ ds) (i ∷ is) a =
    (omega (arith, a.0), more_nots (sizes ds) (length d + sizes ds) is (omega arith) (zip_nots ds is a.1))

drop_few : (n : ℕ) (ts : List PatchToken) → length (drop n ts) ≤ length ts
drop_few n ts = omega (arith, length-drop n ts)

front_few : (ts : List PatchToken) (is : List Item) → Sources FewNots typed_few untyped_few ts is → FewItems (1 + length ts) is
front_few ts is (inl e) = wider (length ts) (1 + length ts) is (omega arith) (kind_few ts is e)
front_few ts is (inr o) =
    let rest = drop o.skipped ts in
    let ds = declarators 0 rest in
    record {
      count = omega (arith, zip_long ds is o.each, declarators_long 0 rest, drop_few o.skipped ts);
      nots = more_nots (sizes ds) (1 + length ts) is (omega (arith, declarators_sizes 0 rest, drop_few o.skipped ts)) (zip_nots ds is o.each);
    }

declared_few : (types : List (List ℕ)) (part : List PatchToken) (o : Option (List Item)) → IsDeclared types part o → FewItems (length part) (items_or_none o)
declared_few types part None e = record { count = omega arith; nots = tt }
declared_few types part (Some is) e =
    let d = declares FewNots typed_few untyped_few types part is e in
    wider (1 + length d.front) (length part) is (omega (arith, before_long (codes ";") part d.front d.is)) (front_few d.front is d.from)

all_few : (types : List (List ℕ)) (ps : List (List PatchToken)) (answers : List (Option (List Item))) → AreDeclared types ps answers
    → FewItems (sizes ps) (items_of answers)
all_few types [] [] a = record { count = omega arith; nots = tt }
all_few types [] (o ∷ more) a = absurd a
all_few types (p ∷ ps) [] a = absurd a
all_few types (p ∷ ps) (o ∷ more) a =
    let one = declared_few types p o a.0 in
    let rest = all_few (with_type_names types (items_or_none o)) ps more a.1 in
    let n = length p + sizes ps in
    record {
      count = omega (arith, one.count, rest.count, length-append (items_or_none o) (items_of more));
      nots = nots_append n (items_or_none o) (items_of more)
          (more_nots (length p) n (items_or_none o) (omega arith) one.nots) (more_nots (sizes ps) n (items_of more) (omega arith) rest.nots);
    }

-- ---- variables

abbrev HasFew : ℕ → VarDecl → Type 0
HasFew n d = (length d.not_names ≤ n) × (length d.not_places ≤ n)

abbrev pub AllFew : ℕ → List VarDecl → Type 0
AllFew n [] = Unit {0}
AllFew n (d ∷ ds) = HasFew n d × AllFew n ds

texts_long : (ns : List Named) → length (texts_of ns) ≡ length ns
texts_long [] = refl
texts_long (n ∷ ns) = ap suc (texts_long ns)

names_short : (k : VarKind) (ns : List Named) → length (names_not k ns) ≤ length ns
names_short (Meta k) ns = omega (arith, texts_long ns)
names_short Position ns = omega arith

var_short : (o : Option VarDecl) → length (var_in o) ≤ 1
var_short None = omega arith
var_short (Some d) = omega arith

place_short : (earlier : List RuleHead) (o : Option PatchToken) (x : PatchToken) → length (place_not earlier o x) ≤ 1
place_short earlier None x = omega arith
place_short earlier (Some r) x = var_short (var_of earlier r.token.text x.token.text)

places_short : (earlier : List RuleHead) (ns : List Named) → length (places_not earlier ns) ≤ length ns
places_short earlier [] = omega arith
places_short earlier (n ∷ ns) = omega (
  arith,
  length-append (place_not earlier n.from n.name) (places_not earlier ns),
  place_short earlier n.from n.name,
  places_short earlier ns,
)

record FewVars (count n : ℕ) (ds : List VarDecl) : Type 0 where
  long : length ds ≤ count
  each : AllFew n ds

inherited_few : (n : ℕ) (k : VarKind) (o : Option VarDecl) → FewVars 1 n (inherited_from k o)
inherited_few n k None = record { long = omega arith; each = tt }
inherited_few n k (Some d) = record { long = omega arith; each = ((omega arith, omega arith), tt) }

var_few : (earlier : List RuleHead) (rule n : ℕ) (k : VarKind) (o : Option PatchToken) (i : Item) → HasNots n i → FewVars 1 n (var_by earlier rule k o i)
var_few earlier rule n k None i h =
    record { long = omega arith; each = ((omega (arith, h, names_short k i.nots), omega (arith, h, places_short earlier i.nots)), tt) }
var_few earlier rule n k (Some r) i h = inherited_few n k (var_of earlier r.token.text i.named.name.token.text)

item_few : (earlier : List RuleHead) (rule n : ℕ) (k : DeclKind) (i : Item) → HasNots n i → FewVars 1 n (vars_in earlier rule k i)
item_few earlier rule n Symbol i h = record { long = omega arith; each = tt }
item_few earlier rule n (Var k) i h = var_few earlier rule n k i.named.from i h

few_append : (n : ℕ) (ds es : List VarDecl) → AllFew n ds → AllFew n es → AllFew n (ds ++ es)
few_append n [] es a b = b
few_append n (d ∷ ds) es a b = (a.0, few_append n ds es a.1 b)

vars_few : (earlier : List RuleHead) (rule n : ℕ) (is : List Item) → AllNots n is → FewVars (length is) n (vars_of_items earlier rule is)
vars_few earlier rule n [] a = record { long = omega arith; each = tt }
vars_few earlier rule n (i ∷ is) a =
    let one = item_few earlier rule n i.kind i a.0 in
    let rest = vars_few earlier rule n is a.1 in
    record {
      long = omega (arith, one.long, rest.long, length-append (vars_in earlier rule i.kind i) (vars_of_items earlier rule is));
      each = few_append n (vars_in earlier rule i.kind i) (vars_of_items earlier rule is) one.each rest.each;
    }

pub record Counted (n : ℕ) (ds : List VarDecl) : Type 0 where
  pub long : length ds ≤ n
  pub each : AllFew n ds

-- the variables that tokens declare
pub tokens_count : (earlier : List RuleHead) (rule : ℕ) (ts : List PatchToken) (answers : List (Option (List Item))) → AreAnswers ts answers
    → Counted (length ts) (vars_of_items earlier rule (items_of answers))
tokens_count earlier rule ts answers read =
    let few = all_few [] (parts ts) answers read in
    let fits : sizes (parts ts) ≤ length ts = omega (arith, parts_sizes ts) in
    let vars = vars_few earlier rule (length ts) (items_of answers) (more_nots (sizes (parts ts)) (length ts) (items_of answers) fits few.nots) in
    record { long = omega (arith, vars.long, few.count, fits); each = vars.each }
