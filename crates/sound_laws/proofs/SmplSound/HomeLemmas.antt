-- A variable that a rule declares as inherited, or excludes, is declared by an earlier rule as its own, and takes the same there.
use Rattle.std.proofs.Common.{◌≡◌, ℕ, Bool, true, false, refl, sym, ap, ◌∙◌, subst, true≢false, List, [], ◌∷◌, ◌++◌}
use Rattle.std.proofs.Common.{append_assoc, length, Option, Some, None, if◌then◌else◌, arith, ◌⊎◌, inl, inr}
use Rattle.std.specs.Str.{bytes_eq}
use Rattle.std.proofs.lemmas.Bool.Decides.{nat_tests}
use Rattle.smpl_terms.specs.declared.var.Var.{Var as Variable}
use Rattle.smpl_patch.specs.declared.pattern.VarDecl.{VarDecl}
use Rattle.smpl_patch.specs.declared.pattern.VarKind.{VarKind}
use Rattle.smpl_patch.specs.declared.pattern.VarKind.TheVariants.{Meta, Position}
use Rattle.smpl_patch.specs.declared.wanted.Wanted.{Wanted}
use Rattle.smpl_patch.specs.declared.fault.PatchFault.{PatchFault}
use Rattle.smpl_patch.specs.declared.fault.PatchFault.TheVariants.{KindDiffers}
use Rattle.smpl_lexer.specs.declared.token.PatchToken.{PatchToken}
use Rattle.smpl_meta.specs.declared.head.RuleHead.{RuleHead}
use Rattle.smpl_meta.specs.declared.item.Item.{Item}
use Rattle.smpl_meta.specs.declared.item.Named.{Named}
use Rattle.smpl_meta.specs.declared.item.DeclKind.{DeclKind}
use Rattle.smpl_meta.specs.declared.item.DeclKind.TheVariants.{Var, Symbol}
use Rattle.smpl_meta.specs.Known.{var_named, head_named, var_of, kind_number}
use Rattle.smpl_meta.specs.Decls.{is_kind, from_word, word_fault, found_fault, from_fault, twice_by, is_known, named_faults}
use Rattle.smpl_meta.specs.Decls.{nots_faults, item_faults, items_faults, var_in, place_not, places_not, inherited_from, var_by}
use Rattle.smpl_meta.specs.Decls.{vars_in, vars_of_items}
use Rattle.sound_laws.proofs.SmplSound.NameLemmas.{front-nil, back-nil, found-in, item-rest}
use Rattle.sound_laws.proofs.SmplSound.OwnLemmas.{Is, OwnIn, Home, HomeAll, takes, GoodDecl, GoodDecls, GoodHeads, takes-kind, home-kind}
use Rattle.sound_laws.proofs.SmplSound.OwnLemmas.{home-front, home-here}

-- ---- a variable that is found

-- among declarations, the one that is found
own-found-by : (x : List ℕ) (d f : VarDecl) (ds : List VarDecl) (b : Bool) → (if b then Some d else var_named x ds) ≡ Some f → f.inherited ≡ false
    → (var_named x ds ≡ Some f → OwnIn ds f.var f.kind f.wanted) → Is f.var f.kind f.wanted d ⊎ OwnIn ds f.var f.kind f.wanted
own-found-by x d f ds true e h more = let same : d ≡ f = cc in
    inl (
      ap (λ (y : VarDecl). y.var) same,
      ap (λ (y : VarDecl). y.inherited) same ∙ h,
      ap (λ (y : VarDecl). kind_number y.kind) same,
      ap (λ (y : VarDecl). y.wanted) same,
    )
own-found-by x d f ds false e h more = inr (more e)

own-found : (x : List ℕ) (ds : List VarDecl) (f : VarDecl) → var_named x ds ≡ Some f → f.inherited ≡ false → OwnIn ds f.var f.kind f.wanted
own-found x [] f e h = absurd (cc)
own-found x (d ∷ ds) f e h = own-found-by x d f ds (bytes_eq d.var.name x) e h (λ r. own-found x ds f r h)

good-by : (earlier : List RuleHead) (d f : VarDecl) (ds : List VarDecl) (x : List ℕ) (b : Bool) → GoodDecl earlier d
    → (if b then Some d else var_named x ds) ≡ Some f
    → (var_named x ds ≡ Some f → GoodDecl earlier f) → GoodDecl earlier f
good-by earlier d f ds x true g e more = let same : d ≡ f = cc in subst (λ (y : VarDecl). GoodDecl earlier y) same g
good-by earlier d f ds x false g e more = more e

good-found : (earlier : List RuleHead) (x : List ℕ) (ds : List VarDecl) (f : VarDecl) → GoodDecls earlier ds → var_named x ds ≡ Some f → GoodDecl earlier f
good-found earlier x [] f g e = absurd (cc)
good-found earlier x (d ∷ ds) f g e = good-by earlier d f ds x (bytes_eq d.var.name x) g.0 e (good-found earlier x ds f g.1)

-- the rule of the declaration's variable has it as its own, with what it takes
abbrev pub HomeOf : List RuleHead → VarKind → VarDecl → Type 0
HomeOf earlier k f = Home 0 earlier f.var k f.wanted × (takes k f.wanted ≡ true)

home-in : (pre hs : List RuleHead) (h : RuleHead) (x : List ℕ) (f : VarDecl) → GoodDecls pre h.vars
    → var_named x h.vars ≡ Some f → HomeOf (pre ++ h ∷ hs) f.kind f
home-in pre hs h x f g e = (by f.inherited refl, good.wants)
  where
    good : GoodDecl pre f
    good = good-found pre x h.vars f g e

    by : (b : Bool) → f.inherited ≡ b → Home 0 (pre ++ h ∷ hs) f.var f.kind f.wanted
    by true i = home-front 0 pre (h ∷ hs) f.var f.kind f.wanted (good.inherits i)
    by false i = let r = good.owned i in home-here 0 pre hs h f.var f.kind f.wanted (omega (arith, r)) (own-found x h.vars f e i)

home-named : (pre hs : List RuleHead) (r x : List ℕ) (g : RuleHead) (f : VarDecl) → GoodHeads pre hs → head_named r hs ≡ Some g
    → var_named x g.vars ≡ Some f → HomeOf (pre ++ hs) f.kind f
home-named pre [] r x g f good e v = absurd (cc)
home-named pre (h ∷ hs) r x g f good e v = by (bytes_eq h.name r) e (λ rest. home-named (pre ++ h ∷ []) hs r x g f good.1 rest v)
  where
    by : (b : Bool) → (if b then Some h else head_named r hs) ≡ Some g → (head_named r hs ≡ Some g → HomeOf ((pre ++ h ∷ []) ++ hs) f.kind f)
        → HomeOf (pre ++ h ∷ hs) f.kind f
    by true e more =
        let same : h ≡ g = cc in
        home-in pre hs h x f good.0 (ap (λ (y : RuleHead). var_named x y.vars) same ∙ v)
    by false e more = subst (λ (l : List RuleHead). HomeOf l f.kind f) (append_assoc pre (h ∷ []) hs) (more e)

pub home-of : (earlier : List RuleHead) (r x : List ℕ) (f : VarDecl) → GoodHeads [] earlier → var_of earlier r x ≡ Some f → HomeOf earlier f.kind f
home-of earlier r x f good e = let q = found-in earlier r x f e in home-named [] earlier r x q.head f good q.named q.declared

-- ---- items

-- what an item is not to be has a rule's name only at positions
abbrev pub AllPlain : List Named → Type 0
AllPlain [] = Unit {0}
AllPlain (n ∷ ns) = (n.from ≡ None) × AllPlain ns

abbrev pub FitNots : DeclKind → List Named → Type 0
FitNots (Var (Meta k)) ns = AllPlain ns
FitNots _ ns = Unit {0}

abbrev pub FitWanted : DeclKind → Wanted → Type 0
FitWanted Symbol w = Unit {0}
FitWanted (Var k) w = takes k w ≡ true

abbrev pub Fit : DeclKind → List Named → Wanted → Type 0
Fit k ns w = FitNots k ns × FitWanted k w

abbrev pub AllFit : List Item → Type 0
AllFit [] = Unit {0}
AllFit (i ∷ is) = Fit i.kind i.nots i.wanted × AllFit is

kind-by : (b : Bool) (fs : List PatchFault) (f : PatchFault) → (if b then [] else f ∷ fs) ≡ [] → b ≡ true
kind-by true fs f e = refl
kind-by false fs f e = absurd (cc)

numbers : (k : VarKind) (d : VarDecl) → is_kind (Var k) d.kind ≡ true → kind_number d.kind ≡ kind_number k
numbers k d h = grind (arith, nat_tests)

module _ (earlier : List RuleHead) (good : GoodHeads [] earlier) (rule : ℕ) (number : rule ≡ length earlier) where
  -- what is found is of the kind
  kind-found : (k : VarKind) (r : PatchToken) (d : VarDecl) → found_fault (Var k) r (Some d) ≡ [] → kind_number d.kind ≡ kind_number k
  kind-found k r d e = numbers k d (by (is_kind (Var k) d.kind) e)
    where
      by : (b : Bool) → (if b then [] else KindDiffers r.at ∷ []) ≡ [] → b ≡ true
      by true e = refl
      by false e = absurd (cc)

  found-home : (k : VarKind) (r : PatchToken) (x : List ℕ) (o : Option VarDecl) → var_of earlier r.token.text x ≡ o → found_fault (Var k) r o ≡ []
      → (d : VarDecl) → o ≡ Some d → HomeOf earlier k d
  found-home k r x None h e d s = absurd (cc)
  found-home k r x (Some f) h e d s =
      let same : f ≡ d = cc in
      let kind = kind-found k r f e in
      let there = home-of earlier r.token.text x f good h in
      subst (HomeOf earlier k) same (home-kind 0 earlier f.var f.kind k f.wanted kind there.0, takes-kind f.kind k f.wanted kind there.1)

  -- ---- excluded positions

  no-places : (ns : List Named) → AllPlain ns → places_not earlier ns ≡ []
  no-places [] a = refl
  no-places (n ∷ ns) a = rw a.0 (no-places ns a.1)

  home-append : (xs ys : List Variable) → HomeAll earlier xs → HomeAll earlier ys → HomeAll earlier (xs ++ ys)
  home-append [] ys a b = b
  home-append (x ∷ xs) ys a b = (a.0, home-append xs ys a.1 b)

  from-nil : (k : DeclKind) (n : Named) → named_faults earlier k n ≡ [] → from_fault earlier k n.from n.name ≡ []
  from-nil k n e =
      back-nil (word_fault n.name) (from_fault earlier k n.from n.name)
      (back-nil (from_word n.from) (word_fault n.name ++ from_fault earlier k n.from n.name) e)

  place-home : (n : Named) (f : Option PatchToken) → from_fault earlier (Var Position) f n.name ≡ [] → HomeAll earlier (place_not earlier f n.name)
  place-home n None e = tt
  place-home n (Some r) e = by (var_of earlier r.token.text n.name.token.text) refl e
    where
      by : (o : Option VarDecl) → var_of earlier r.token.text n.name.token.text ≡ o → found_fault (Var Position) r o ≡ [] → HomeAll earlier (var_in o)
      by None h e = tt
      by (Some d) h e = ((d.wanted, (found-home Position r n.name.token.text (Some d) h e d refl).0), tt)

  places-home : (ns : List Named) → nots_faults earlier (Var Position) ns ≡ [] → HomeAll earlier (places_not earlier ns)
  places-home [] e = tt
  places-home (n ∷ ns) e =
      let one = front-nil (named_faults earlier (Var Position) n) (nots_faults earlier (Var Position) ns) e in
      let more = back-nil (named_faults earlier (Var Position) n) (nots_faults earlier (Var Position) ns) e in
      home-append (place_not earlier n.from n.name) (places_not earlier ns) (place-home n n.from (from-nil (Var Position) n one)) (places-home ns more)

  nots-home : (k : VarKind) (ns : List Named) → FitNots (Var k) ns → nots_faults earlier (Var k) ns ≡ [] → HomeAll earlier (places_not earlier ns)
  nots-home Position ns a e = places-home ns e
  nots-home (Meta k) ns a e = subst (λ (l : List Variable). HomeAll earlier l) (sym (no-places ns a)) tt

  -- ---- the variable of an item

  abbrev NothingWrong : DeclKind → Item → Type 0
  NothingWrong k i = (named_faults earlier k i.named ≡ []) × (nots_faults earlier k i.nots ≡ [])

  inherited-good : (k : VarKind) (r : PatchToken) (x : List ℕ) (o : Option VarDecl) → var_of earlier r.token.text x ≡ o → found_fault (Var k) r o ≡ []
      → GoodDecls earlier (inherited_from k o)
  inherited-good k r x None h e = tt
  inherited-good k r x (Some d) h e =
      let there = found-home k r x (Some d) h e d refl in
      (record { owned = λ f. absurd (true≢false f); inherits = λ t. there.0; places = tt; wants = there.1 }, tt)

  by-good : (k : VarKind) (i : Item) (f : Option PatchToken) → Fit (Var k) i.nots i.wanted
      → from_fault earlier (Var k) f i.named.name ≡ [] → nots_faults earlier (Var k) i.nots ≡ []
      → GoodDecls earlier (var_by earlier rule k f i)
  by-good k i None fit e es =
      (record { owned = λ f. number; inherits = λ t. absurd (true≢false (sym t)); places = nots-home k i.nots fit.0 es; wants = fit.1 }, tt)
  by-good k i (Some r) fit e es = inherited-good k r i.named.name.token.text (var_of earlier r.token.text i.named.name.token.text) refl e

  in-good : (k : DeclKind) (i : Item) → Fit k i.nots i.wanted → NothingWrong k i → GoodDecls earlier (vars_in earlier rule k i)
  in-good Symbol i fit e = tt
  in-good (Var k) i fit e = by-good k i i.named.from fit (from-nil (Var k) i.named e.0) e.1

  item-right : (before : List Item) (i : Item) (is : List Item) → items_faults earlier before (i ∷ is) ≡ [] → NothingWrong i.kind i
  item-right before i is e =
      let names = named_faults earlier i.kind i.named in
      let nots = nots_faults earlier i.kind i.nots in
      let f = front-nil (item_faults earlier before i) (items_faults earlier (before ++ i ∷ []) is) e in
      let g = back-nil (twice_by (is_known before i) i) (names ++ nots) f in
      (front-nil names nots g, back-nil names nots g)

  good-append : (xs ys : List VarDecl) → GoodDecls earlier xs → GoodDecls earlier ys → GoodDecls earlier (xs ++ ys)
  good-append [] ys a b = b
  good-append (x ∷ xs) ys a b = (a.0, good-append xs ys a.1 b)

  pub items-good : (before is : List Item) → AllFit is → items_faults earlier before is ≡ [] → GoodDecls earlier (vars_of_items earlier rule is)
  items-good before [] fit e = tt
  items-good before (i ∷ is) fit e =
      good-append (vars_in earlier rule i.kind i) (vars_of_items earlier rule is) (in-good i.kind i fit.0 (item-right before i is e))
      (items-good (before ++ i ∷ []) is fit.1 (item-rest earlier rule before i is e))
