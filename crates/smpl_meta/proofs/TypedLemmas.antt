-- Typed declarations that are read part by part.
use Rattle.std.proofs.Common.{◌≡◌, ℕ, suc, ◌+◌, ◌-◌, ◌<◌, ◌≤◌, inl, inr, ◌&&◌, Bool, true, false, eqb, List, [], ◌∷◌}
use Rattle.std.proofs.Common.{◌++◌, length, take, drop, slice_range, Option, Some, None, Result, Ok, Err, option_map, refl, sym, ap, ◌∙◌, subst}
use Rattle.std.proofs.Common.{get_or, arith, if◌then◌else◌, append_assoc, codes}
use Rattle.std.specs.Prelude.{IfOk, MatchBool, option_and_then}
use Rattle.std.specs.List.{AllZip}
use Rattle.std.proofs.Math.Nat.{lt_of_not-le}
use Rattle.std.proofs.Math.Seq.{take-length}
use Rattle.std.proofs.lemmas.Bool.{false≢true}
use Rattle.std.proofs.lemmas.Bool.Decides.{eqb_tells}
use Rattle.std.proofs.lemmas.List.{take_all, length-drop, drop-drop}
use Rattle.c_terms.specs.declared.token.Token.{Token}
use Rattle.c_terms.specs.declared.tree.Tree.{Tree}
use Rattle.c_terms.specs.Names.{listed_names}
use Rattle.c_rows.specs.declared.kind.Kind.{Kind}
use Rattle.c_rows.specs.declared.kind.Kind.TheVariants as kinds
use Rattle.c_rows.specs.Look.{Names}
use Rattle.c_rows.specs.Depth.{opens_of}
use Rattle.c_expr.specs.declared.fault.ParseFault.{ParseFault}
use Rattle.c_expr.specs.declared.fault.ParseFault.TheVariants.{NoTree, TooDeep}
use Rattle.c_expr.specs.Answer.{Reads}
use Rattle.smpl_patch.specs.declared.wanted.NameWanted.{NameWanted}
use Rattle.smpl_patch.specs.declared.wanted.NameWanted.TheVariants as names
use Rattle.smpl_lexer.specs.declared.token.PatchToken.{PatchToken}
use Rattle.smpl_lexer.specs.Tokens.{is_sign, is_word}
use Rattle.smpl_lexer.proofs.Stops.{at_token}
use Rattle.smpl_meta.specs.declared.item.Item.{Item}
use Rattle.smpl_meta.specs.Forms.{put, all_of, is_kind_word, kind_items}
use Rattle.smpl_meta.specs.Typed.{can_follow, named_after, is_tag_word, specs_from, specs_length, depth_after, declarator_length, declarators}
use Rattle.smpl_meta.specs.Typed.{IsRead, IsPlain, AreSpecs, declarator_item, IsDeclarator, SomeLacks, AreTyped, IsTyped, AreNames}
use Rattle.smpl_meta.specs.Declarations.{AreItems, is_local, AreFrontItems}
use Rattle.smpl_meta.proofs.SplitLemmas.{le_cases, with_chunks, no_chunks}

-- ---- what holds in a branch

pub if_true : (P Q : Type 0) (b : Bool) → b ≡ true → P → MatchBool b P Q
if_true P Q true e p = p
if_true P Q false e p = absurd (cc)

pub if_false : (P Q : Type 0) (b : Bool) → b ≡ false → Q → MatchBool b P Q
if_false P Q true e q = absurd (cc)
if_false P Q false e q = q

pub if_ok : {A E : Type 0} (P Q : A → Type 0) → ((a : A) → P a → Q a) → (r : Result A E) → IfOk r P → IfOk r Q
if_ok P Q f (Ok a) h = f a h
if_ok P Q f (Err e) h = h

-- ---- specifiers

pub specs-follow : (named tag : Bool) (ts : List PatchToken) (i : ℕ) (t : PatchToken) → i < length ts → t ≡ get_or ts i t → can_follow named tag t ≡ true
    → specs_from named tag (drop i ts) ≡ suc (specs_from (named_after named t) (is_tag_word t) (drop (i + 1) ts))
specs-follow named tag ts i t within is e = ap (specs_from named tag) (at_token ts i t within is)
    ∙ ap (λ (b : Bool). if b then suc (specs_from (named_after named t) (is_tag_word t) (drop (i + 1) ts)) else 0) e

pub specs-end : (named tag : Bool) (ts : List PatchToken) (i : ℕ) (t : PatchToken) → i < length ts → t ≡ get_or ts i t → can_follow named tag t ≡ false
    → specs_from named tag (drop i ts) ≡ 0
specs-end named tag ts i t within is e = ap (specs_from named tag) (at_token ts i t within is)
    ∙ ap (λ (b : Bool). if b then suc (specs_from (named_after named t) (is_tag_word t) (drop (i + 1) ts)) else 0) e

-- ---- declarators

pub declarator-follows : (depth : ℕ) (ts : List PatchToken) (i : ℕ) (t : PatchToken) → i < length ts → t ≡ get_or ts i t
    → (eqb depth 0 && is_sign (codes ",") t) ≡ false → declarator_length depth (drop i ts) ≡ suc (declarator_length (depth_after depth t) (drop (i + 1) ts))
declarator-follows depth ts i t within is e = ap (declarator_length depth) (at_token ts i t within is)
    ∙ ap (λ (b : Bool). if b then 0 else suc (declarator_length (depth_after depth t) (drop (i + 1) ts))) e

pub declarator-ends : (depth : ℕ) (ts : List PatchToken) (i : ℕ) (t : PatchToken) → i < length ts → t ≡ get_or ts i t
    → (eqb depth 0 && is_sign (codes ",") t) ≡ true → declarator_length depth (drop i ts) ≡ 0
declarator-ends depth ts i t within is e = ap (declarator_length depth) (at_token ts i t within is)
    ∙ ap (λ (b : Bool). if b then 0 else suc (declarator_length (depth_after depth t) (drop (i + 1) ts))) e

zero_at : (depth : ℕ) (b : Bool) → (eqb depth 0 && b) ≡ true → depth ≡ 0
zero_at depth b e = elim (eqb_tells depth 0) [
  | inl same ↦ same.1
  | inr other ↦ absurd (false≢true (sym (ap (λ (zero : Bool). zero && b) other.0) ∙ e))
]

last_by : (depth : ℕ) (t : PatchToken) (ts : List PatchToken) (b : Bool)
    → (if b then 0 else suc (declarator_length (depth_after depth t) ts)) ≡ suc (length ts)
    → (declarator_length (depth_after depth t) ts ≡ length ts → declarators (depth_after depth t) ts ≡ ts ∷ [])
    → (if b then [] ∷ declarators depth ts else put t (declarators (depth_after depth t) ts)) ≡ (t ∷ ts) ∷ []
last_by depth t ts true e after = absurd (omega arith)
last_by depth t ts false e after = ap (put t) (after (omega arith))

more_by : (depth : ℕ) (t : PatchToken) (ts : List PatchToken) (b : Bool) → (eqb depth 0 && is_sign (codes ",") t) ≡ b
    → (if b then 0 else suc (declarator_length (depth_after depth t) ts)) < suc (length ts)
    → (declarator_length (depth_after depth t) ts < length ts → declarators (depth_after depth t) ts
    ≡ take (declarator_length (depth_after depth t) ts) ts ∷ declarators 0 (drop (suc (declarator_length (depth_after depth t) ts)) ts))
    → (if b then [] ∷ declarators depth ts else put t (declarators (depth_after depth t) ts))
    ≡ take (if b then 0 else suc (declarator_length (depth_after depth t) ts)) (t ∷ ts)
    ∷ declarators 0 (drop (suc (if b then 0 else suc (declarator_length (depth_after depth t) ts))) (t ∷ ts))
more_by depth t ts true is e after = ap (λ (k : ℕ). [] ∷ declarators k ts) (zero_at depth (is_sign (codes ",") t) is)
more_by depth t ts false is e after = ap (put t) (after (omega arith))

-- after the last comma
declarators_last : (depth : ℕ) (ts : List PatchToken) → declarator_length depth ts ≡ length ts → declarators depth ts ≡ ts ∷ []
declarators_last depth [] e = refl
declarators_last depth (t ∷ ts) e = last_by depth t ts (eqb depth 0 && is_sign (codes ",") t) e (λ e. declarators_last (depth_after depth t) ts e)

declarators_more : (depth : ℕ) (ts : List PatchToken) → declarator_length depth ts < length ts
    → declarators depth ts ≡ take (declarator_length depth ts) ts ∷ declarators 0 (drop (suc (declarator_length depth ts)) ts)
declarators_more depth [] e = absurd (omega arith)
declarators_more depth (t ∷ ts) e =
    more_by depth t ts (eqb depth 0 && is_sign (codes ",") t) refl e (λ e. declarators_more (depth_after depth t) ts e)

last_at : (ts : List PatchToken) (n : ℕ) → n ≡ declarator_length 0 ts → n ≡ length ts → declarators 0 ts ≡ ts ∷ []
last_at ts n n_is all = declarators_last 0 ts (sym n_is ∙ all)

more_at : (ts : List PatchToken) (n : ℕ) → n ≡ declarator_length 0 ts → n < length ts → declarators 0 ts ≡ take n ts ∷ declarators 0 (drop (suc n) ts)
more_at ts n n_is less =
    let shorter : declarator_length 0 ts < length ts = subst (λ (k : ℕ). k < length ts) n_is less in
    subst (λ (k : ℕ). declarators 0 ts ≡ take k ts ∷ declarators 0 (drop (suc k) ts)) (sym n_is) (declarators_more 0 ts shorter)

-- ---- declarators, read one by one

module _ (Spells : List PatchToken → Option Item → Type 0) where
  abbrev pub AreSpelled : List (List PatchToken) → List Item → Type 0
  AreSpelled ds items = AllZip (λ d i. Spells d (Some i)) ds items

  -- what is read after a place is what is read of all after the items before it
  pub record ReadSoFar (tokens : List PatchToken) (start : ℕ) (items : List Item) : Type 0 where
    pub within : start ≤ length tokens
    pub some : (more : List Item) → AreSpelled (declarators 0 (drop start tokens)) more → AreSpelled (declarators 0 tokens) (items ++ more)
    pub none : SomeLacks Spells (declarators 0 (drop start tokens)) → SomeLacks Spells (declarators 0 tokens)

  pub read_first : (tokens : List PatchToken) → ReadSoFar tokens 0 []
  read_first tokens = record { within = omega arith; some = λ more are. are; none = λ lacks. lacks }

  first_lacks : (ts : List PatchToken) (n : ℕ) → n ≡ declarator_length 0 ts → n ≤ length ts → Spells (take n ts) None → SomeLacks Spells (declarators 0 ts)
  first_lacks ts n n_is within lacks = elim (le_cases n (length ts) within) [
    | inl less ↦ subst (λ (ds : List (List PatchToken)). SomeLacks Spells ds) (sym (more_at ts n n_is less)) (inl lacks)
    | inr all ↦ subst (λ (ds : List (List PatchToken)). SomeLacks Spells ds) (sym (last_at ts n n_is all))
        (inl (subst (λ (d : List PatchToken). Spells d None) (take_all n ts (omega (arith, all))) lacks))
  ]

  pub read_none : (tokens : List PatchToken) (start : ℕ) (items : List Item) (n : ℕ) → ReadSoFar tokens start items
      → n ≡ declarator_length 0 (drop start tokens) → n ≤ length (drop start tokens) → Spells (take n (drop start tokens)) None
      → SomeLacks Spells (declarators 0 tokens)
  read_none tokens start items n s n_is within lacks = s.none (first_lacks (drop start tokens) n n_is within lacks)

  pub read_last : (tokens : List PatchToken) (start : ℕ) (items : List Item) (x : Item) (n : ℕ) → ReadSoFar tokens start items
      → n ≡ declarator_length 0 (drop start tokens) → n ≡ length (drop start tokens) → Spells (take n (drop start tokens)) (Some x)
      → AreSpelled (declarators 0 tokens) (items ++ x ∷ [])
  read_last tokens start items x n s n_is all is =
      let whole : Spells (drop start tokens) (Some x)
      = subst (λ (d : List PatchToken). Spells d (Some x)) (take_all n (drop start tokens) (omega (arith, all))) is in
      s.some (x ∷ []) (subst (λ (ds : List (List PatchToken)). AreSpelled ds (x ∷ [])) (sym (last_at (drop start tokens) n n_is all)) (whole, tt))

  pub read_more : (tokens : List PatchToken) (start : ℕ) (items : List Item) (x : Item) (n : ℕ) → ReadSoFar tokens start items
      → n ≡ declarator_length 0 (drop start tokens) → n < length (drop start tokens) → Spells (take n (drop start tokens)) (Some x)
      → ReadSoFar tokens (start + (n + 1)) (items ++ x ∷ [])
  read_more tokens start items x n s n_is less is =
      let further : start + suc n ≡ start + (n + 1) = omega arith in
      let step : declarators 0 (drop start tokens) ≡ take n (drop start tokens) ∷ declarators 0 (drop (start + (n + 1)) tokens)
      = more_at (drop start tokens) n n_is less
      ∙ ap (λ (l : List PatchToken). take n (drop start tokens) ∷ declarators 0 l)
      (drop-drop (suc n) start tokens ∙ ap (λ (k : ℕ). drop k tokens) further) in
      record {
        within = omega (arith, less, s.within, length-drop start tokens);
        some = λ more are. subst (λ (l : List Item). AreSpelled (declarators 0 tokens) l) (sym (append_assoc items (x ∷ []) more))
            (s.some (x ∷ more) (subst (λ (ds : List (List PatchToken)). AreSpelled ds (x ∷ more)) (sym step) (is, are)));
        none = λ lacks. s.none (subst (λ (ds : List (List PatchToken)). SomeLacks Spells ds) (sym step) (inr lacks));
      }

-- what is read by a function
pub all_spelled : (read : List PatchToken → Option Item) (ds : List (List PatchToken)) (items : List Item)
    → AllZip (λ d i. Some i ≡ read d) ds items → Some items ≡ all_of read ds
all_spelled read [] [] h = refl
all_spelled read [] (i ∷ is) h = absurd h
all_spelled read (d ∷ ds) [] h = absurd h
all_spelled read (d ∷ ds) (i ∷ is) h =
    ap (λ (o : Option (List Item)). option_map (λ (more : List Item). i ∷ more) o) (all_spelled read ds is h.1)
    ∙ sym (with_chunks read i d ds (sym h.0))

after_none : (o : Option Item) → option_and_then (λ (a : Item). option_map (λ (more : List Item). a ∷ more) None) o ≡ None
after_none None = refl
after_none (Some a) = refl

pub some_lacks : (read : List PatchToken → Option Item) (ds : List (List PatchToken)) → SomeLacks (λ d o. o ≡ read d) ds → None ≡ all_of read ds
some_lacks read [] lacks = absurd lacks
some_lacks read (d ∷ ds) (inl none) = sym (no_chunks read d ds (sym none))
some_lacks read (d ∷ ds) (inr lacks) =
    sym (ap (λ (rest : Option (List Item)). option_and_then (λ (a : Item). option_map (λ (more : List Item). a ∷ more) rest) (read d))
    (sym (some_lacks read ds lacks)) ∙ after_none (read d))

-- ---- what the parsers return

all-left : (n : ℕ) → n - 0 ≡ n
all-left n = omega arith

-- all tokens are a range of them
whole-range : (tokens : List Token) → slice_range tokens 0 (length tokens) ≡ tokens
whole-range tokens = ap (λ n. take n tokens) (all-left (length tokens)) ∙ take-length tokens

-- the range that is read, by the listed names
pub reads-all : (kind : Kind) (names : Names) (tokens : List Token) (r : Result Tree ParseFault) → names ≡ listed_names
    → Reads kind names (slice_range tokens 0 (length tokens)) r → Reads kind listed_names tokens r
reads-all kind names tokens r e h =
    subst (λ (ns : Names). Reads kind ns tokens r) e (subst (λ (ts : List Token). Reads kind names ts r) (whole-range tokens) h)

at-most : (n : ℕ) → (200 < n → ⊥) → n ≤ 200
at-most n refuted = let r : n < 201 = lt_of_not-le (λ (h : 201 ≤ n). refuted (omega (arith, h))) in omega (arith, r)

pub read-found : (kind : Kind) (ts : List Token) (t : Tree) → Reads kind listed_names ts (Ok t) → IsRead kind ts (Some t)
read-found kind ts t h = (h.found, at-most (opens_of ts) (λ deep. let e = h.too_deep.1 deep in absurd (cc)))

pub read-no_tree : (kind : Kind) (ts : List Token) (r : Result Tree ParseFault) → Reads kind listed_names ts r → r ≡ Err NoTree → IsRead kind ts None
read-no_tree kind ts r h e = λ t is. absurd (h.no_tree e t is)

pub read-too_deep : (kind : Kind) (ts : List Token) (r : Result Tree ParseFault) → Reads kind listed_names ts r → r ≡ Err TooDeep → IsRead kind ts None
read-too_deep kind ts r h e = λ t is. h.too_deep.0 e

-- ---- declarations

pub by_tree : (types : List (List ℕ)) (name : NameWanted) (specs : Tree) (ts : List PatchToken) (found : Option Tree) (item : Option Item)
    → IsPlain types kinds.Declarator ts found → item ≡ option_and_then (declarator_item name specs ts) found → IsDeclarator types name specs ts item
by_tree types name specs ts found item h e = (h.0, (h.1.0, e ∙ ap (option_and_then (declarator_item name specs ts)) h.1.1))

pub typed_by : (types : List (List ℕ)) (name : NameWanted) (ts : List PatchToken) (n : ℕ) (specs : Option Tree) (items : Option (List Item))
    → n ≡ specs_length ts → AreSpecs types (take n ts) specs → AreTyped types name specs (drop n ts) items → IsTyped types name ts items
typed_by types name ts n specs items e a b =
    (specs, (subst (λ (k : ℕ). AreSpecs types (take k ts) specs) e a, subst (λ (k : ℕ). AreTyped types name specs (drop k ts) items) e b))

pub front_by : (types : List (List ℕ)) (ts : List PatchToken) (items : Option (List Item))
    → MatchBool (is_local ts) (AreNames types names.Local (drop 2 ts) items) (AreItems types ts items) → AreFrontItems types ts items
front_by types [] items h = h
front_by types (t ∷ []) items h = h
front_by types (t ∷ u ∷ ts) items h = h

-- the items of a declaration by its first token
items_by : (types : List (List ℕ)) (ts : List PatchToken) (t : PatchToken) (items : Option (List Item)) → 0 < length ts → t ≡ get_or ts 0 t
    → MatchBool (is_kind_word t) (items ≡ kind_items ts)
    (MatchBool (is_word (codes "idexpression") t) (AreNames types names.Name (drop 1 ts) items) (IsTyped types names.Any ts items))
    → AreItems types ts items
items_by types [] t items some is h = absurd (omega arith)
items_by types (x ∷ ts) t items some is h =
    subst (λ (y : PatchToken). MatchBool (is_kind_word y) (items ≡ kind_items (x ∷ ts))
    (MatchBool (is_word (codes "idexpression") y) (AreNames types names.Name ts items) (IsTyped types names.Any (x ∷ ts) items))) is h

pub items_of_kind : (types : List (List ℕ)) (ts : List PatchToken) (t : PatchToken) (items : Option (List Item)) → 0 < length ts → t ≡ get_or ts 0 t
    → is_kind_word t ≡ true → items ≡ kind_items ts → AreItems types ts items
items_of_kind types ts t items some is kind e = items_by types ts t items some is
    (if_true (items ≡ kind_items ts)
    (MatchBool (is_word (codes "idexpression") t) (AreNames types names.Name (drop 1 ts) items) (IsTyped types names.Any ts items)) (is_kind_word t) kind e)

pub items_of_names : (types : List (List ℕ)) (ts : List PatchToken) (t : PatchToken) (items : Option (List Item)) → 0 < length ts → t ≡ get_or ts 0 t
    → is_kind_word t ≡ false → is_word (codes "idexpression") t ≡ true → AreNames types names.Name (drop 1 ts) items → AreItems types ts items
items_of_names types ts t items some is kind name a =
    let named : Type 0 = AreNames types names.Name (drop 1 ts) items in
    let typed : Type 0 = IsTyped types names.Any ts items in
    items_by types ts t items some is
    (if_false (items ≡ kind_items ts) (MatchBool (is_word (codes "idexpression") t) named typed) (is_kind_word t) kind
    (if_true named typed (is_word (codes "idexpression") t) name a))

pub items_of_type : (types : List (List ℕ)) (ts : List PatchToken) (t : PatchToken) (items : Option (List Item)) → 0 < length ts → t ≡ get_or ts 0 t
    → is_kind_word t ≡ false → is_word (codes "idexpression") t ≡ false → IsTyped types names.Any ts items → AreItems types ts items
items_of_type types ts t items some is kind name a =
    let named : Type 0 = AreNames types names.Name (drop 1 ts) items in
    let typed : Type 0 = IsTyped types names.Any ts items in
    items_by types ts t items some is
    (if_false (items ≡ kind_items ts) (MatchBool (is_word (codes "idexpression") t) named typed) (is_kind_word t) kind
    (if_false named typed (is_word (codes "idexpression") t) name a))
