-- What holds of sequences of elements, element by element.
use Rattle.std.proofs.Common.{◌≡◌, ℕ, suc, ◌<◌, ◌≤◌, refl, sym, ap, ◌∙◌, subst, arith, List, [], ◌∷◌, ◌++◌, length, Option}
use Rattle.std.proofs.lemmas.Bool.{false≢true}
use Rattle.std.proofs.lemmas.Bool.Decides.{nat_tests}
use Rattle.std.specs.Prelude.{Bool, true, false, not, ◌&&◌, nat_le, nat_lt}
use Rattle.std.specs.List.{list_all}
use Rattle.c_terms.specs.declared.token.Token.{Token}
use Rattle.c_terms.specs.declared.tree.Tree.{Tree}
use Rattle.smpl_patch.specs.declared.pattern.Pattern.{Pattern}
use Rattle.smpl_patch.specs.declared.elem.Dots.{Dots}
use Rattle.smpl_patch.specs.declared.elem.Elem.{Elem}
use Rattle.smpl_patch.specs.declared.elem.Elem.TheVariants as elem
use Rattle.smpl_patch.specs.Bodies.{Element, Atom, Compound, Block, Gap, Nest, AnyOf, AllOf, element, body}
use Rattle.smpl_patch.specs.Shapes.{are_parted, has_no_dots_at_edge, count, is_formed, each_formed, are_formed, is_formed_body}
use Rattle.smpl_patch.specs.Shapes.{option_patterns, patterns_element, patterns_body, patterns_bodies, members, lengths_element}
use Rattle.smpl_patch.specs.Shapes.{lengths_body, lengths_bodies}
use Rattle.smpl_patch.proofs.BodyLemmas.{bodies, dots_of, element-Atom, element-Compound, element-Block, element-Gap}
use Rattle.smpl_patch.proofs.BodyLemmas.{element-Nest, element-AnyOf, element-AllOf}
use Rattle.sound_laws.specs.SmplFormed.Shapes.{Sound}

-- ---- on Bool

pub and_both : (a b : Bool) → a ≡ true → b ≡ true → (a && b) ≡ true
and_both true b h g = g
and_both false b h g = absurd (false≢true h)

pub and_three : (a b c : Bool) → a ≡ true → b ≡ true → c ≡ true → (a && b && c) ≡ true
and_three true true c h g k = k
and_three true false c h g k = absurd (false≢true g)
and_three false b c h g k = absurd (false≢true h)

pub left_true : (a b : Bool) → (a && b) ≡ true → a ≡ true
left_true true b h = refl
left_true false b h = absurd (false≢true h)

pub right_true : (a b : Bool) → (a && b) ≡ true → b ≡ true
right_true true b h = h
right_true false b h = absurd (false≢true h)

pub not_false : (a : Bool) → a ≡ false → not a ≡ true
not_false true h = absurd (false≢true (sym h))
not_false false h = refl

pub not_true : (a : Bool) → not a ≡ true → a ≡ false
not_true true h = absurd (false≢true h)
not_true false h = refl

pub all_append : {A : Type 0} (p : A → Bool) (xs ys : List A) → list_all p xs ≡ true → list_all p ys ≡ true → list_all p (xs ++ ys) ≡ true
all_append p [] ys h g = g
all_append p (x ∷ xs) ys h g = and_both (p x) (list_all p (xs ++ ys)) (left_true (p x) (list_all p xs) h)
    (all_append p xs ys (right_true (p x) (list_all p xs) h) g)

pub all_front : {A : Type 0} (p : A → Bool) (xs ys : List A) → list_all p (xs ++ ys) ≡ true → list_all p xs ≡ true
all_front p [] ys h = refl
all_front p (x ∷ xs) ys h = and_both (p x) (list_all p xs) (left_true (p x) (list_all p (xs ++ ys)) h)
    (all_front p xs ys (right_true (p x) (list_all p (xs ++ ys)) h))

pub all_back : {A : Type 0} (p : A → Bool) (xs ys : List A) → list_all p (xs ++ ys) ≡ true → list_all p ys ≡ true
all_back p [] ys h = h
all_back p (x ∷ xs) ys h = all_back p xs ys (right_true (p x) (list_all p (xs ++ ys)) h)

-- ---- numbers

abbrev pub is_small : ℕ → Bool
is_small n = nat_lt n 4294967296

pub small : (n : ℕ) → n < 4294967296 → is_small n ≡ true
small n h = grind (arith, nat_tests)

pub two : (n : ℕ) → 2 ≤ n → nat_le 2 n ≡ true
two n h = grind (arith, nat_tests)

pub members_are : (es : List Elem) → members (body es) ≡ length es
members_are [] = refl
members_are (e ∷ es) = ap suc (members_are es)

pub count_is : (bs : List (List Elem)) → count (bodies bs) ≡ length bs
count_is [] = refl
count_is (b ∷ bs) = ap suc (count_is bs)

-- ---- patterns

module _ (ok : Token → Bool) (most : ℕ) where
  -- its one form is sound
  pub record Good (p : Pattern) : Type 0 where
    pub form : Tree
    pub are : p.forms ≡ form ∷ []
    pub sound : Sound ok most form

  abbrev pub AllGood : List Pattern → Type 0
  AllGood [] = Unit {0}
  AllGood (p ∷ ps) = Good p × AllGood ps

  pub good_append : (ps qs : List Pattern) → AllGood ps → AllGood qs → AllGood (ps ++ qs)
  good_append [] qs g h = h
  good_append (p ∷ ps) qs g h = (g.0, good_append ps qs g.1 h)

  -- ---- elements

  pub record Fine (x : Elem) : Type 0 where
    pub formed : is_formed (element x) ≡ true
    pub few : list_all is_small (lengths_element (element x)) ≡ true
    pub patterns : AllGood (patterns_element (element x))

  abbrev pub AllFine : List Elem → Type 0
  AllFine [] = Unit {0}
  AllFine (x ∷ xs) = Fine x × AllFine xs

  pub fine_append : (xs ys : List Elem) → AllFine xs → AllFine ys → AllFine (xs ++ ys)
  fine_append [] ys f g = g
  fine_append (x ∷ xs) ys f g = (f.0, fine_append xs ys f.1 g)

  pub all_formed : (xs : List Elem) → AllFine xs → each_formed (body xs) ≡ true
  all_formed [] f = refl
  all_formed (x ∷ xs) f = and_both (is_formed (element x)) (each_formed (body xs)) f.0.formed (all_formed xs f.1)

  pub all_few : (xs : List Elem) → AllFine xs → list_all is_small (lengths_body (body xs)) ≡ true
  all_few [] f = refl
  all_few (x ∷ xs) f = all_append is_small (lengths_element (element x)) (lengths_body (body xs)) f.0.few (all_few xs f.1)

  pub all_good : (xs : List Elem) → AllFine xs → AllGood (patterns_body (body xs))
  all_good [] f = tt
  all_good (x ∷ xs) f = good_append (patterns_element (element x)) (patterns_body (body xs)) f.0.patterns (all_good xs f.1)

  -- a sequence that may stand by itself
  pub record Whole (es : List Elem) : Type 0 where
    pub fine : AllFine es
    pub edges : has_no_dots_at_edge (body es) ≡ true
    pub parted : are_parted (body es) ≡ true
    pub short : length es < 4294967296

  abbrev pub AllWhole : List (List Elem) → Type 0
  AllWhole [] = Unit {0}
  AllWhole (b ∷ bs) = Whole b × AllWhole bs

  pub whole_formed : (es : List Elem) → Whole es → is_formed_body (body es) ≡ true
  whole_formed es w = and_three (has_no_dots_at_edge (body es)) (are_parted (body es)) (each_formed (body es)) w.edges w.parted (all_formed es w.fine)

  pub bodies_formed : (bs : List (List Elem)) → AllWhole bs → are_formed (bodies bs) ≡ true
  bodies_formed [] w = refl
  bodies_formed (b ∷ bs) w = and_both (has_no_dots_at_edge (body b) && are_parted (body b) && each_formed (body b))
      (are_formed (bodies bs)) (whole_formed b w.0) (bodies_formed bs w.1)

  pub bodies_few : (bs : List (List Elem)) → AllWhole bs → list_all is_small (lengths_bodies (bodies bs)) ≡ true
  bodies_few [] w = refl
  bodies_few (b ∷ bs) w =
      and_both (is_small (members (body b))) (list_all is_small (lengths_body (body b) ++ lengths_bodies (bodies bs)))
      (ap is_small (members_are b) ∙ small (length b) w.0.short)
      (all_append is_small (lengths_body (body b)) (lengths_bodies (bodies bs)) (all_few b w.0.fine) (bodies_few bs w.1))

  pub bodies_good : (bs : List (List Elem)) → AllWhole bs → AllGood (patterns_bodies (bodies bs))
  bodies_good [] w = tt
  bodies_good (b ∷ bs) w = good_append (patterns_body (body b)) (patterns_bodies (bodies bs)) (all_good b w.0.fine) (bodies_good bs w.1)

  -- the code of clauses
  pub record GoodDots (d : Dots) : Type 0 where
    pub formed : are_formed (dots_of d).whens ≡ true
    pub few : list_all is_small (count (dots_of d).whens ∷ lengths_bodies (dots_of d).whens) ≡ true
    pub patterns : AllGood (patterns_bodies (dots_of d).whens)

  fine_as : (x : Elem) (e : Element) → element x ≡ e → is_formed e ≡ true → list_all is_small (lengths_element e) ≡ true → AllGood (patterns_element e) → Fine x
  fine_as x e is f l g = record {
    formed = ap is_formed is ∙ f;
    few = ap (λ (d : Element). list_all is_small (lengths_element d)) is ∙ l;
    patterns = subst (λ (d : Element). AllGood (patterns_element d)) (sym is) g;
  }

  pub fine_atom : (p : Pattern) → Good p → Fine (elem.Atom p)
  fine_atom p g = fine_as (elem.Atom p) (Atom p) (element-Atom p) refl refl (g, tt)

  pub fine_gap : (d : Dots) → GoodDots d → Fine (elem.Gap d)
  fine_gap d g = fine_as (elem.Gap d) (Gap (dots_of d).whens (dots_of d).any (dots_of d).strict) (element-Gap d) g.formed g.few g.patterns

  pub fine_block : (o c : Pattern) (b : List Elem) → Good o → Good c → AllFine b → are_parted (body b) ≡ true → length b < 4294967296 → Fine (elem.Block o b c)
  fine_block o c b g h f p s = fine_as (elem.Block o b c) (Block o (body b) c) (element-Block o b c)
      (and_both (are_parted (body b)) (each_formed (body b)) p (all_formed b f))
      (and_both (is_small (members (body b))) (list_all is_small (lengths_body (body b))) (ap is_small (members_are b) ∙ small (length b) s) (all_few b f))
      (g, good_append (patterns_body (body b)) (c ∷ []) (all_good b f) (h, tt))

  pub fine_nest : (plus : Bool) (b : List Elem) (d : Dots) → Whole b → GoodDots d → Fine (elem.Nest plus b d)
  fine_nest plus b d w g = fine_as (elem.Nest plus b d) (Nest plus (body b) (dots_of d).whens (dots_of d).any (dots_of d).strict) (element-Nest plus b d)
      (and_both (has_no_dots_at_edge (body b) && are_parted (body b) && each_formed (body b)) (are_formed (dots_of d).whens) (whole_formed b w) g.formed)
      (and_both (is_small (members (body b))) (list_all is_small (lengths_body (body b) ++ count (dots_of d).whens ∷ lengths_bodies (dots_of d).whens))
      (ap is_small (members_are b) ∙ small (length b) w.short)
      (all_append is_small (lengths_body (body b)) (count (dots_of d).whens ∷ lengths_bodies (dots_of d).whens) (all_few b w.fine) g.few))
      (good_append (patterns_body (body b)) (patterns_bodies (dots_of d).whens) (all_good b w.fine) g.patterns)

  few_of : (bs : List (List Elem)) → AllWhole bs → length bs < 4294967296 → list_all is_small (count (bodies bs) ∷ lengths_bodies (bodies bs)) ≡ true
  few_of bs w s = and_both (is_small (count (bodies bs))) (list_all is_small (lengths_bodies (bodies bs)))
      (ap is_small (count_is bs) ∙ small (length bs) s) (bodies_few bs w)

  choice_formed : (bs : List (List Elem)) → AllWhole bs → 2 ≤ length bs → (nat_le 2 (count (bodies bs)) && are_formed (bodies bs)) ≡ true
  choice_formed bs w t = and_both (nat_le 2 (count (bodies bs))) (are_formed (bodies bs))
      (ap (λ (n : ℕ). nat_le 2 n) (count_is bs) ∙ two (length bs) t) (bodies_formed bs w)

  pub fine_any : (bs : List (List Elem)) → AllWhole bs → 2 ≤ length bs → length bs < 4294967296 → Fine (elem.AnyOf bs)
  fine_any bs w t s = fine_as (elem.AnyOf bs) (AnyOf (bodies bs)) (element-AnyOf bs) (choice_formed bs w t) (few_of bs w s) (bodies_good bs w)

  pub fine_all : (bs : List (List Elem)) → AllWhole bs → 2 ≤ length bs → length bs < 4294967296 → Fine (elem.AllOf bs)
  fine_all bs w t s = fine_as (elem.AllOf bs) (AllOf (bodies bs)) (element-AllOf bs) (choice_formed bs w t) (few_of bs w s) (bodies_good bs w)

  pub fine_head : (h : Pattern) (bs : List (List Elem)) (t : Option Pattern) → Good h → AllWhole bs
      → AllGood (option_patterns t) → length bs < 4294967296 → Fine (elem.Compound h bs t)
  fine_head h bs t g w o s = fine_as (elem.Compound h bs t) (Compound h (bodies bs) t) (element-Compound h bs t) (bodies_formed bs w) (few_of bs w s)
      (g, good_append (patterns_bodies (bodies bs)) (option_patterns t) (bodies_good bs w) o)
