-- What is made for each of several things, one after another.
use Rattle.std.proofs.Common.{◌≡◌, ℕ, zero, suc, ◌+◌, ◌<◌, Bool, true, false, ◌||◌, arith, refl, sym, ap, subst, ◌∙◌, List, [], ◌∷◌, ◌++◌}
use Rattle.std.proofs.Common.{map, length, length-append, take, drop, get_or, nat_lt, cond, ◌&&◌, ◌≤◌, append_assoc, append-nil, Option, None, Some, Result}
use Rattle.std.specs.Result.{IfOk}
use Rattle.std.specs.List.{filter, list_all, list_any}
use Rattle.std.proofs.Math.Seq.{drop-append_seam, drop-append-le}
use Rattle.std.proofs.lemmas.List.{map-append, take_more}
use Rattle.smpl_terms.specs.declared.var.Var.{Var}
use Rattle.pattern_vars.specs.Reads.{has}
use Rattle.smpl_patch.specs.Bodies.{Element}
use Rattle.ctl_formula.specs.Plain.{Plain, True}
use Rattle.ctl_formula.specs.declared.node.Node.{Node}
use Rattle.ctl_formula.specs.Tables.{at, plains, Grows, Makes}
use Rattle.ctl_formula.proofs.TableLemmas.{grows-refl, grows-trans, and-left, and-right, lt-true}
use Rattle.ctl_table.specs.Table as table
use Rattle.ctl_table.specs.declared.follow.DotsContinuation.{DotsContinuation}
use Rattle.ctl_table.specs.declared.follow.Continuation.{Continuation}
use Rattle.ctl_table.specs.declared.follow.Continuation.TheVariants as made
use Rattle.ctl_table.specs.declared.end_atoms.EndAtoms.{EndAtoms}
use Rattle.ctl_table.specs.declared.end_atoms.LastAtoms.{LastAtoms}
use Rattle.ctl_table.specs.EndAtoms.{end_atoms_at, end_atoms_below, names_in, MakesEndAtoms}
use Rattle.ctl_table.specs.Settings.{all_below, parts_at, made_below, all_made_below, some_below, some_at, from_inner}
use Rattle.ctl_table.specs.Settings.{last_atoms_at, last_atoms_below, before_at, before_below, follow_of, next_of, looks_back}
use Rattle.ctl_table.specs.Settings.{behind, Agree, Pairwise, MakesAll, MakesFollow, MakesSome, MakesFollows, MakesLast}
use Rattle.ctl_table.specs.Settings.{MakesBehind, MakesLastAtoms, MakesDeeper, IsSame, MakesSame, dots_below, made_start}
use Rattle.ctl_table.specs.Settings.{next_at}
use Rattle.ctl_table.proofs.MakingLemmas.{both-true, stands-still, lt-test}
use Rattle.ctl_table.proofs.FollowLemmas.{made-stands, made-stays, behind-below, behind-agrees, follow-stays, dots-stand}
use Rattle.ctl_table.proofs.FollowLemmas.{dots-stay, dots-end_atoms, made-dots, made-target}
use Rattle.ctl_table.proofs.EndAtomLemmas.{or-left, or-right, end_atoms-stands, end_atoms-stays, end_atoms-cong, inner-same, in_more}
use Rattle.ctl_table.proofs.RowLemmas.{all-next, all-as, one-more, taken}

-- what holds of all items of a list holds of one of them
pub item-is : {A : Type 0} (p : A → Bool) (xs : List A) (i : ℕ) (x d : A) → i < length xs → x ≡ get_or xs i d → list_all p xs ≡ true → p x ≡ true
item-is p [] i x d l q h = absurd (omega (arith, l))
item-is p (y ∷ xs) zero x d l q h = ap p q ∙ and-left (p y) (list_all p xs) h
item-is p (y ∷ xs) (suc i) x d l q h = item-is p xs i x d (omega (arith, l)) q (and-right (p y) (list_all p xs) h)

pub nexts-stand : (a b : List Node) (fs : List Continuation) → Grows a b → all_made_below (length a) fs ≡ true → all_made_below (length b) fs ≡ true
nexts-stand a b [] g h = refl
nexts-stand a b (f ∷ fs) g h =
    both-true (made_below (length b) f) (all_made_below (length b) fs)
    (made-stands a b f g (and-left (made_below (length a) f) (all_made_below (length a) fs) h))
    (nexts-stand a b fs g (and-right (made_below (length a) f) (all_made_below (length a) fs) h))

-- two functions that are equal at each item that passes the test
pub map-same : {A B : Type 0} (p : A → Bool) (f g : A → B) → ((x : A) → p x ≡ true → f x ≡ g x) → (xs : List A) → list_all p xs ≡ true → map f xs ≡ map g xs
map-same p f g e [] h = refl
map-same p f g e (x ∷ xs) h =
    ap (λ z. z ∷ map f xs) (e x (and-left (p x) (list_all p xs) h))
    ∙ ap (λ zs. g x ∷ zs) (map-same p f g e xs (and-right (p x) (list_all p xs) h))

pub map-map : {A B C : Type 0} (g : B → C) (f : A → B) (xs : List A) → map g (map f xs) ≡ map (λ x. g (f x)) xs
map-map g f [] = refl
map-map g f (x ∷ xs) = ap (λ zs. g (f x) ∷ zs) (map-map g f xs)

-- one more part, in a loop over things
pub map-step : {A : Type 0} (a b c : List Node) (f : A → Plain) (xs : List A) (x d : A) (is next : List ℕ) (i j : ℕ) (g : Plain)
    → i < length xs → x ≡ get_or xs i d → g ≡ f x → next ≡ is ++ j ∷ []
    → MakesAll a b is (map f (take i xs)) → Makes b c j g → MakesAll a c next (map f (take (i + 1) xs))
map-step a b c f xs x d is next i j g l q e o y z =
    let whole : map f (take i xs) ++ g ∷ [] ≡ map f (take (i + 1) xs) =
    ap (λ (v : Plain). map f (take i xs) ++ v ∷ []) (e ∙ ap f q)
    ∙ sym (map-append f (take i xs) (get_or xs i d ∷ []))
    ∙ ap (map f) (sym (take_more xs i d l)) in
    all-next a c is next j (map f (take (i + 1) xs)) o
    (all-as a c (is ++ j ∷ []) (map f (take i xs) ++ g ∷ []) (map f (take (i + 1) xs)) whole (one-more a b c is j (map f (take i xs)) g y z))

-- all things are done
pub map-taken : {A : Type 0} (a b : List Node) (f : A → Plain) (xs : List A) (is : List ℕ) (i : ℕ) → i ≡ length xs
    → MakesAll a b is (map f (take i xs)) → MakesAll a b is (map f xs)
map-taken a b f xs is i e x = subst (λ v. MakesAll a b is (map f v)) (taken i xs e) x

-- what was made, in a table that grew
pub follow-kept : (m : table.Setting) (a b c : List Node) (f : Continuation) (s : table.Start) (e : Option Element → List Var → Plain)
    → MakesFollow m a b f s e → Grows b c → MakesFollow m a c f s e
follow-kept m a b c f s e x g = record {
  within = made-stands b c f g x.within;
  starts = x.starts;
  first = x.first;
  is = λ before t. made-stays b c m before f t g x.within ∙ x.is before t;
  grows = grows-trans a b c x.grows g;
}

-- the formulas may be written in another way, and the first table may be an earlier one
pub follow-as : (m : table.Setting) (a b c : List Node) (f : Continuation) (s : table.Start) (e d : Option Element → List Var → Plain)
    → Grows a b → ((before : Option Element) (t : List Var) → e before t ≡ d before t) → MakesFollow m b c f s e → MakesFollow m a c f s d
follow-as m a b c f s e d g q x = record {
  within = x.within;
  starts = x.starts;
  first = x.first;
  is = λ before t. x.is before t ∙ q before t;
  grows = grows-trans a b c g x.grows;
}

-- pairs

pub pair-as : {A B : Type 0} (p : A → Bool) (r s : A → B → Type 0) → ((x : A) (y : B) → p x ≡ true → r x y → s x y)
    → (xs : List A) (ys : List B) → list_all p xs ≡ true → Pairwise r xs ys → Pairwise s xs ys
pair-as p r s f [] [] h z = tt
pair-as p r s f (x ∷ xs) (y ∷ ys) h z =
    (f x y (and-left (p x) (list_all p xs) h) z.0, pair-as p r s f xs ys (and-right (p x) (list_all p xs) h) z.1)
pair-as p r s f [] (y ∷ ys) h z = absurd z
pair-as p r s f (x ∷ xs) [] h z = absurd z

all-are : {A : Type 0} (xs : List A) → list_all (λ x. true) xs ≡ true
all-are [] = refl
all-are (x ∷ xs) = all-are xs

pub pair-weaker : {A B : Type 0} (r s : A → B → Type 0) → ((x : A) (y : B) → r x y → s x y)
    → (xs : List A) (ys : List B) → Pairwise r xs ys → Pairwise s xs ys
pair-weaker r s f xs ys z = pair-as (λ x. true) r s (λ x y h w. f x y w) xs ys (all-are xs) z

pub pair-more : {A B : Type 0} (r : A → B → Type 0) (xs : List A) (ys : List B) (x : A) (y : B)
    → Pairwise r xs ys → r x y → Pairwise r (xs ++ x ∷ []) (ys ++ y ∷ [])
pair-more r [] [] x y z w = (w, tt)
pair-more r (u ∷ us) (v ∷ vs) x y z w = (z.0, pair-more r us vs x y z.1 w)
pair-more r [] (v ∷ vs) x y z w = absurd z
pair-more r (u ∷ us) [] x y z w = absurd z

pub pair-trans : {A B C : Type 0} (r : A → B → Type 0) (s : B → C → Type 0) (q : A → C → Type 0) → ((x : A) (y : B) (z : C) → r x y → s y z → q x z)
    → (xs : List A) (ys : List B) (zs : List C) → Pairwise r xs ys → Pairwise s ys zs → Pairwise q xs zs
pair-trans r s q f [] [] [] u v = tt
pair-trans r s q f (x ∷ xs) (y ∷ ys) (z ∷ zs) u v = (f x y z u.0 v.0, pair-trans r s q f xs ys zs u.1 v.1)
pair-trans r s q f [] (y ∷ ys) zs u v = absurd u
pair-trans r s q f (x ∷ xs) [] zs u v = absurd u
pair-trans r s q f [] [] (z ∷ zs) u v = absurd v
pair-trans r s q f (x ∷ xs) (y ∷ ys) [] u v = absurd v

pub pair-map : {A B C : Type 0} (r : A → B → Type 0) (f : A → C) (g : B → C) → ((x : A) (y : B) → r x y → g y ≡ f x)
    → (xs : List A) (ys : List B) → Pairwise r xs ys → map g ys ≡ map f xs
pair-map r f g e [] [] z = refl
pair-map r f g e (x ∷ xs) (y ∷ ys) z = ap (λ w. w ∷ map g ys) (e x y z.0) ∙ ap (λ ws. f x ∷ ws) (pair-map r f g e xs ys z.1)
pair-map r f g e [] (y ∷ ys) z = absurd z
pair-map r f g e (x ∷ xs) [] z = absurd z

pub pair-all : {A B : Type 0} (r : A → B → Type 0) (p : B → Bool) → ((x : A) (y : B) → r x y → p y ≡ true)
    → (xs : List A) (ys : List B) → Pairwise r xs ys → list_all p ys ≡ true
pair-all r p e [] [] z = refl
pair-all r p e (x ∷ xs) (y ∷ ys) z = both-true (p y) (list_all p ys) (e x y z.0) (pair-all r p e xs ys z.1)
pair-all r p e [] (y ∷ ys) z = absurd z
pair-all r p e (x ∷ xs) [] z = absurd z

-- the parts of a list, one for each of some things
pub pair-parts : {A : Type 0} (a b : List Node) (f : A → Plain) (xs : List A) (is : List ℕ)
    → Grows a b → all_below (length b) is ≡ true → parts_at b is ≡ map f xs → Pairwise (λ x i. Makes a b i (f x)) xs is
pair-parts a b f [] [] g w e = tt
pair-parts a b f (x ∷ xs) (i ∷ is) g w e = (
  record {
    within = lt-true i (length b) (and-left (nat_lt i (length b)) (all_below (length b) is) w);
    is = ap (λ (z : List Plain). get_or z 0 True) e;
    grows = g;
  },
  pair-parts a b f xs is g (and-right (nat_lt i (length b)) (all_below (length b) is) w) (ap (λ (z : List Plain). drop 1 z) e),
)
pair-parts a b f [] (i ∷ is) g w e = absurd cc
pair-parts a b f (x ∷ xs) [] g w e = absurd cc

-- nothing is made yet
pub no-follows : {A : Type 0} (m : table.Setting) (a : List Node) (s : A → table.Start) (e : A → Option Element → List Var → Plain) (fs : List Continuation)
    → fs ≡ [] → MakesFollows m a a [] fs s e
no-follows m a s e fs q = subst (λ (z : List Continuation). MakesFollows m a a [] z s e) (sym q) (record { each = tt; grows = grows-refl a })

-- one more thing, in a loop over things
pub follows-step : {A : Type 0} (m : table.Setting) (a b c : List Node) (s : A → table.Start) (e : A → Option Element → List Var
    → Plain) (xs : List A) (x d : A)
    (fs next : List Continuation) (i : ℕ) (g : Continuation) → i < length xs → x ≡ get_or xs i d → next ≡ fs ++ g ∷ []
    → MakesFollows m a b (take i xs) fs s e → Grows b c → MakesFollow m a c g (s x) (e x) → MakesFollows m a c (take (i + 1) xs) next s e
follows-step m a b c s e xs x d fs next i g l q o y w z =
    let front = pair-weaker (λ x f. MakesFollow m a b f (s x) (e x)) (λ x f. MakesFollow m a c f (s x) (e x))
    (λ x f u. follow-kept m a b c f (s x) (e x) u w) (take i xs) fs y.each in
    let items : take i xs ++ x ∷ [] ≡ take (i + 1) xs = ap (λ v. take i xs ++ v ∷ []) q ∙ sym (take_more xs i d l) in
    subst (λ (v : List Continuation). MakesFollows m a c (take (i + 1) xs) v s e) (sym o)
    (subst (λ v. MakesFollows m a c v (fs ++ g ∷ []) s e) items (record {
      each = pair-more (λ x f. MakesFollow m a c f (s x) (e x)) (take i xs) fs x g front z;
      grows = grows-trans a b c y.grows w;
    }))

pub follows-taken : {A : Type 0} (m : table.Setting) (a b : List Node) (s : A → table.Start) (e : A → Option Element → List Var
    → Plain) (xs : List A) (fs : List Continuation) (i : ℕ)
    → i ≡ length xs → MakesFollows m a b (take i xs) fs s e → MakesFollows m a b xs fs s e
follows-taken m a b s e xs fs i q x = subst (λ v. MakesFollows m a b v fs s e) (taken i xs q) x

-- all that follows was made in the new table
pub follows-within : {A : Type 0} (m : table.Setting) (a b : List Node) (xs : List A) (fs : List Continuation)
    (s : A → table.Start) (e : A → Option Element → List Var → Plain)
    → MakesFollows m a b xs fs s e → all_made_below (length b) fs ≡ true
follows-within m a b xs fs s e y =
    pair-all (λ x f. MakesFollow m a b f (s x) (e x)) (made_below (length b)) (λ x f u. u.within) xs fs y.each

-- a list of one part
pub only-made : (a b : List Node) (is : List ℕ) (i : ℕ) (f : Plain) → i ≡ get_or is 0 0 → MakesAll a b is (f ∷ []) → Makes a b i f
only-made a b [] i f q x = absurd (let e = x.are in cc)
only-made a b (j ∷ is) i f q x = record {
  within = let w = lt-true j (length b) (and-left (nat_lt j (length b)) (all_below (length b) is) x.within) in omega (arith, q, w);
  is = ap (at (plains b)) q ∙ ap (λ (z : List Plain). get_or z 0 True) x.are;
  grows = x.grows;
}

pub only-one : (a b : List Node) (is : List ℕ) (f : Plain) → MakesAll a b is (f ∷ []) → 0 < length is
only-one a b [] f x = absurd (let e = x.are in cc)
only-one a b (j ∷ is) f x = omega arith

-- what may follow, after an element whose last atoms are made

behind-below-all : (a b : List Node) (o : Option LastAtoms) (fs : List Continuation) → Grows a b
    → all_made_below (length a) fs ≡ true → before_below (length b) o ≡ true
    → all_made_below (length b) (map (behind o) fs) ≡ true
behind-below-all a b o [] g h w = refl
behind-below-all a b o (f ∷ fs) g h w =
    both-true (made_below (length b) (behind o f)) (all_made_below (length b) (map (behind o) fs))
    (behind-below a b o f g (and-left (made_below (length a) f) (all_made_below (length a) fs) h) w)
    (behind-below-all a b o fs g (and-right (made_below (length a) f) (all_made_below (length a) fs) h) w)

behind-agrees-all : (a b : List Node) (m : table.Setting) (e : Element) (s : List Var) (o : Option LastAtoms)
    (fs : List Continuation) → Grows a b → all_made_below (length a) fs ≡ true
    → (list_any looks_back fs ≡ true → (vars : List Var) → before_at (plains b) o (s ++ vars) ≡ table.ends_of_option m true (Some e) (s ++ vars))
    → Pairwise (λ f g. Agree s (next_of (plains b) m g) (follow_of (plains a) m (Some e) f)) fs (map (behind o) fs)
behind-agrees-all a b m e s o [] g h q = tt
behind-agrees-all a b m e s o (f ∷ fs) g h q = (
  behind-agrees a b m e s o f g (and-left (made_below (length a) f) (all_made_below (length a) fs) h)
      (λ d. q (or-left (looks_back f) (list_any looks_back fs) d)),
  behind-agrees-all a b m e s o fs g (and-right (made_below (length a) f) (all_made_below (length a) fs) h)
      (λ d. q (or-right (looks_back f) (list_any looks_back fs) d)),
)

pub all-behind : (a b : List Node) (m : table.Setting) (e : Element) (s : List Var) (o : Option LastAtoms)
    (fs gs : List Continuation) → all_made_below (length a) fs ≡ true
    → MakesLast m e s a b fs o → gs ≡ map (behind o) fs → MakesBehind m e s a b fs gs
all-behind a b m e s o fs gs h x q = record {
  within = ap (all_made_below (length b)) q ∙ behind-below-all a b o fs x.grows h x.within;
  each = subst (λ (z : List Continuation). Pairwise
      (λ f g. Agree s (next_of (plains b) m g) (follow_of (plains a) m (Some e) f)) fs z) (sym q) (behind-agrees-all a b m e s o fs x.grows h x.is);
  grows = x.grows;
}

-- no dots may follow the element
pub last-none : (a : List Node) (m : table.Setting) (e : Element) (s : List Var) (fs : List Continuation)
    → list_any looks_back fs ≡ false → MakesLast m e s a a fs None
last-none a m e s fs h = record { within = refl; is = λ d more. absurd cc; grows = grows-refl a }

-- the element has no such atoms
pub last-empty : (a b : List Node) (m : table.Setting) (e : Element) (s : List Var) (fs : List Continuation)
    → MakesEndAtoms a b None (λ more. table.ends_of_option m true (Some e) (s ++ more)) → MakesLast m e s a b fs None
last-empty a b m e s fs x = record { within = refl; is = λ d more. x.is more; grows = x.grows }

from-same : (fs : List Plain) (n : LastAtoms) (atoms : EndAtoms) (inner : List Var) → n.atoms ≡ atoms → n.inner ≡ []
    → some_at fs n.alone ≡ end_atoms_at fs atoms [] → from_inner fs n inner ≡ end_atoms_at fs atoms inner
from-same fs n atoms [] e q h = h
from-same fs n atoms (x ∷ xs) e q h = ap (λ z. end_atoms_at fs z (n.inner ++ x ∷ xs)) e ∙ ap (λ (z : List Var). end_atoms_at fs atoms (z ++ x ∷ xs)) q

-- they are made
pub last-some : (a b c : List Node) (m : table.Setting) (e : Element) (s : List Var) (fs : List Continuation) (atoms : EndAtoms) (n : LastAtoms)
    → MakesEndAtoms a b (Some atoms) (λ more. table.ends_of_option m true (Some e) (s ++ more)) → MakesLastAtoms b c s atoms n → MakesLast m e s a c fs (Some n)
last-some a b c m e s fs atoms n x y = record {
  within = y.within;
  is = λ d more.
      let inner = filter (has n.names) more in
      let rest : drop n.around (s ++ more) ≡ more = ap (λ k. drop k (s ++ more)) y.around_is ∙ drop-append_seam s more in
      ap (λ (z : List Var). from_inner (plains c) n (filter (has n.names) z)) rest
      ∙ from-same (plains c) n atoms inner y.atoms_are y.inner_is y.alone_is
      ∙ end_atoms-cong (plains c) inner more atoms (λ v h. inner-same n.names more v (y.names_are v ∙ h))
      ∙ end_atoms-stays b c more y.grows atoms x.within
      ∙ x.is more;
  grows = grows-trans a b c x.grows y.grows;
}

pub from-some : (fs : List Plain) (n : LastAtoms) (inner : List Var) → (length inner ≡ 0 → ⊥)
    → from_inner fs n inner ≡ end_atoms_at fs n.atoms (n.inner ++ inner)
from-some fs n [] h = absurd (h refl)
from-some fs n (x ∷ xs) h = refl

-- the atoms, given that these of their variables, known as a set, are quantified inside the element
pub where-made : {E : Type 0} (a b : List Node) (n : LastAtoms) (inner set : List Var) (r : Result (Option ℕ) E) → (length inner ≡ 0 → ⊥)
    → ((y : Var) → has set y ≡ (has n.inner y || has inner y))
    → IfOk r (λ o. MakesSome a b o (end_atoms_at (plains a) n.atoms set)) → IfOk r (λ o. MakesSome a b o (from_inner (plains a) n inner))
where-made a b n inner set r l e x =
    subst (λ z. IfOk r (λ o. MakesSome a b o z))
    (end_atoms-cong (plains a) set (n.inner ++ inner) n.atoms (λ y h. e y ∙ sym (in_more n.inner inner y)) ∙ sym (from-some (plains a) n inner l)) x

-- what is kept of an element's atoms
pub last_atoms-made : (a b : List Node) (s empty first : List Var) (atoms : EndAtoms) (n : LastAtoms)
    → end_atoms_below (length a) atoms ≡ true → n.atoms ≡ atoms → n.inner ≡ [] → empty ≡ [] → first ≡ []
    → ((y : Var) → has n.names y ≡ (has first y || names_in atoms y)) → MakesSome a b n.alone (end_atoms_at (plains a) atoms empty) → n.around ≡ length s
    → MakesLastAtoms a b s atoms n
last_atoms-made a b s empty first atoms n w q i e f h x l = record {
  within = both-true (some_below (length b) n.alone) (end_atoms_below (length b) n.atoms) x.within
      (ap (end_atoms_below (length b)) q ∙ end_atoms-stands a b x.grows atoms w);
  atoms_are = q;
  inner_is = i;
  names_are = λ y. h y ∙ ap (λ (z : List Var). has z y || names_in atoms y) f;
  alone_is = x.is ∙ ap (end_atoms_at (plains a) atoms) e ∙ sym (end_atoms-stays a b [] x.grows atoms w);
  around_is = l;
  grows = x.grows;
}

no-names : (names more : List Var) → length names ≡ 0 → filter (has names) more ≡ []
no-names [] [] l = refl
no-names [] (x ∷ xs) l = no-names [] xs l
no-names (n ∷ ns) more l = absurd (omega (arith, l))

-- atoms without such variables
pub from-nothing : (a : List Node) (n : LastAtoms) (t : List Var) → last_atoms_below (length a) n ≡ true → length n.names ≡ 0
    → MakesSome a a n.alone (last_atoms_at (plains a) n t)
from-nothing a n t h l = record {
  within = and-left (some_below (length a) n.alone) (end_atoms_below (length a) n.atoms) h;
  is = sym (ap (from_inner (plains a) n) (no-names n.names (drop n.around t) l));
  grows = grows-refl a;
}

-- the atoms as they are known from further inside

filter-more : (p : Var → Bool) (xs ys : List Var) → filter p (xs ++ ys) ≡ filter p xs ++ filter p ys
filter-more p [] ys = refl
filter-more p (x ∷ xs) ys = by (p x) (filter-more p xs ys)
  where
    by : (b : Bool) → filter p (xs ++ ys) ≡ filter p xs ++ filter p ys
        → cond b (x ∷ filter p (xs ++ ys)) (filter p (xs ++ ys)) ≡ cond b (x ∷ filter p xs) (filter p xs) ++ filter p ys
    by true r = ap (λ zs. x ∷ zs) r
    by false r = r

deeper-inner : (a b : List Node) (n c : LastAtoms) (found more : List Var) → last_atoms_below (length a) n ≡ true
    → c.atoms ≡ n.atoms → c.inner ≡ n.inner ++ found
    → MakesSome a b c.alone (from_inner (plains a) n found) → from_inner (plains b) c more ≡ from_inner (plains a) n (found ++ more)
deeper-inner a b n c found [] w q i x = x.is ∙ ap (from_inner (plains a) n) (sym (append-nil found))
deeper-inner a b n c found (y ∷ ys) w q i x =
    let l : length (found ++ y ∷ ys) ≡ 0 → ⊥ = λ e. let k = length-append found (y ∷ ys) in omega (arith, e, k) in
    ap (λ (z : List Var). end_atoms_at (plains b) c.atoms (z ++ y ∷ ys)) i
    ∙ ap (λ (z : EndAtoms). end_atoms_at (plains b) z ((n.inner ++ found) ++ y ∷ ys)) q
    ∙ end_atoms-stays a b ((n.inner ++ found) ++ y ∷ ys) x.grows n.atoms (and-right (some_below (length a) n.alone) (end_atoms_below (length a) n.atoms) w)
    ∙ ap (end_atoms_at (plains a) n.atoms) (append_assoc n.inner found (y ∷ ys))
    ∙ sym (from-some (plains a) n (found ++ y ∷ ys) l)

pub deeper-made : (a b : List Node) (s : List Var) (n c : LastAtoms) (around : ℕ) (found : List Var)
    → last_atoms_below (length a) n ≡ true → around ≡ length s → n.around ≤ around
    → found ≡ filter (has n.names) (drop n.around s) → c.atoms ≡ n.atoms → c.names ≡ n.names → c.inner ≡ n.inner ++ found → c.around ≡ around
    → MakesSome a b c.alone (from_inner (plains a) n found) → MakesDeeper a b s n c
deeper-made a b s n c around found w l k f q o i r x = record {
  within = both-true (some_below (length b) c.alone) (end_atoms_below (length b) c.atoms) x.within
      (ap (end_atoms_below (length b)) q ∙ end_atoms-stands a b x.grows n.atoms
      (and-right (some_below (length a) n.alone) (end_atoms_below (length a) n.atoms) w));
  is = λ more.
      let inner = filter (has n.names) more in
      ap (λ ns. from_inner (plains b) c (filter (has ns) (drop c.around (s ++ more)))) o
      ∙ ap (λ (z : List Var). from_inner (plains b) c (filter (has n.names) z)) (ap (λ j. drop j (s ++ more)) (r ∙ l) ∙ drop-append_seam s more)
      ∙ deeper-inner a b n c found inner w q i x
      ∙ ap (λ (z : List Var). from_inner (plains a) n (z ++ inner)) f
      ∙ ap (from_inner (plains a) n) (sym (ap (filter (has n.names)) (drop-append-le n.around s more (omega (arith, l, k)))
      ∙ filter-more (has n.names) (drop n.around s) more));
  grows = x.grows;
}

pub deeper-same : (a : List Node) (s : List Var) (n c : LastAtoms) → last_atoms_below (length a) n ≡ true → c ≡ n → MakesDeeper a a s n c
deeper-same a s n c w e = record {
  within = ap (last_atoms_below (length a)) e ∙ w;
  is = λ more. ap (λ (z : LastAtoms). last_atoms_at (plains a) z (s ++ more)) e;
  grows = grows-refl a;
}

-- what may follow, from further inside

pub same-made : (m : table.Setting) (s : List Var) (a : List Node) (f g : Continuation) → made_below (length a) f ≡ true → g ≡ f → IsSame m s a a f g
same-made m s a f g w e = record {
  within = ap (made_below (length a)) e ∙ w;
  agrees = record {
    starts = ap (λ (z : Continuation). (next_of (plains a) m z).start) e;
    same =
        λ more. ap (λ (z : Continuation). (next_of (plains a) m z).at (s ++ more)) e;
  };
  grows = grows-refl a;
}

pub same-dots : (m : table.Setting) (s : List Var) (a b : List Node) (d e : DotsContinuation) (i : ℕ) (n c : LastAtoms)
    (f : Continuation) → f ≡ made.Dots d i (Some n) → e ≡ d → made_below (length a) f ≡ true
    → MakesDeeper a b s n c → IsSame m s a b f (made.Dots e i (Some c))
same-dots m s a b d e i n c f q u w x =
    let v : made_below (length a) (made.Dots d i (Some n)) ≡ true = ap (made_below (length a)) (sym q) ∙ w in
    let same : (more : List Var) → next_at (plains b) m (made.Dots d i (Some c)) (s ++ more) ≡ next_at (plains a) m (made.Dots d i (Some n)) (s ++ more) =
    λ more.
    dots-stay a b m.forall_walks (before_at (plains b) (Some c)) d i (s ++ more) x.grows (made-dots (length a) d i (Some n) v)
    (made-target (length a) d i (Some n) v)
    ∙ dots-end_atoms (plains a) m.forall_walks (before_at (plains b) (Some c)) (before_at (plains a) (Some n)) d i (s ++ more)
    (ap (before_at (plains b) (Some c)) (append_assoc s more d.here) ∙ x.is (more ++ d.here)
    ∙ sym (ap (before_at (plains a) (Some n)) (append_assoc s more d.here))) in
    record {
      within = ap (λ (z : DotsContinuation). made_below (length b) (made.Dots z i (Some c))) u
          ∙ both-true (dots_below (length b) d && nat_lt i (length b)) (last_atoms_below (length b) c)
          (both-true (dots_below (length b) d) (nat_lt i (length b)) (dots-stand a b d x.grows (made-dots (length a) d i (Some n) v))
          (lt-test i (length b) (stands-still a b i x.grows (made-target (length a) d i (Some n) v)))) x.within;
      agrees = record {
        starts = sym (ap made_start q);
        same = λ more. ap (λ (z : DotsContinuation). next_at (plains b) m (made.Dots z i (Some c)) (s ++ more)) u ∙ same more
            ∙ sym (ap (λ (z : Continuation). next_at (plains a) m z (s ++ more)) q);
      };
      grows = x.grows;
    }

made-more : (n : ℕ) (fs : List Continuation) (g : Continuation) → all_made_below n fs ≡ true → made_below n g ≡ true → all_made_below n (fs ++ g ∷ []) ≡ true
made-more n [] g h w = both-true (made_below n g) true w refl
made-more n (f ∷ fs) g h w =
    both-true (made_below n f) (all_made_below n (fs ++ g ∷ [])) (and-left (made_below n f) (all_made_below n fs) h)
    (made-more n fs g (and-right (made_below n f) (all_made_below n fs) h) w)

same-grow : (m : table.Setting) (s : List Var) (a b c : List Node) → Grows b c → (xs fs : List Continuation) → all_made_below (length b) fs ≡ true
    → Pairwise (λ f g. Agree s (next_of (plains b) m g) (next_of (plains a) m f)) xs fs
    → Pairwise (λ f g. Agree s (next_of (plains c) m g) (next_of (plains a) m f)) xs fs
same-grow m s a b c g [] [] h z = tt
same-grow m s a b c g [] (f ∷ fs) h z = absurd z
same-grow m s a b c g (x ∷ xs) [] h z = absurd z
same-grow m s a b c g (x ∷ xs) (f ∷ fs) h z = (
  subst (λ (k : table.Follow). Agree s k (next_of (plains a) m x))
      (sym (follow-stays b c m f g (and-left (made_below (length b) f) (all_made_below (length b) fs) h))) z.0,
  same-grow m s a b c g xs fs (and-right (made_below (length b) f) (all_made_below (length b) fs) h) z.1,
)

pub no-same : (m : table.Setting) (s : List Var) (a : List Node) (fs : List Continuation) → fs ≡ [] → MakesSame m s a a [] fs
no-same m s a fs q = subst (λ (z : List Continuation). MakesSame m s a a [] z) (sym q) (record { within = refl; each = tt; grows = grows-refl a })

-- one more thing that may follow
pub same-step : (m : table.Setting) (s : List Var) (a b c : List Node) (xs : List Continuation) (x d : Continuation)
    (fs next : List Continuation) (i : ℕ) (g : Continuation)
    → i < length xs → x ≡ get_or xs i d → next ≡ fs ++ g ∷ [] → all_made_below (length a) xs ≡ true
    → MakesSame m s a b (take i xs) fs → IsSame m s b c x g → MakesSame m s a c (take (i + 1) xs) next
same-step m s a b c xs x d fs next i g l q o h y z =
    let one : Agree s (next_of (plains c) m g) (next_of (plains a) m x) =
    subst (λ (k : table.Follow). Agree s (next_of (plains c) m g) k) (follow-stays a b m x y.grows (item-is (made_below (length a)) xs i x d l q h)) z.agrees in
    let items : take i xs ++ x ∷ [] ≡ take (i + 1) xs = ap (λ v. take i xs ++ v ∷ []) q ∙ sym (take_more xs i d l) in
    subst (λ (v : List Continuation). MakesSame m s a c (take (i + 1) xs) v) (sym o)
    (subst (λ v. MakesSame m s a c v (fs ++ g ∷ [])) items (record {
      within = made-more (length c) fs g (nexts-stand b c fs z.grows y.within) z.within;
      each = pair-more (λ f g. Agree s (next_of (plains c) m g) (next_of (plains a) m f)) (take i xs) fs x g
          (same-grow m s a b c z.grows (take i xs) fs y.within y.each) one;
      grows = grows-trans a b c y.grows z.grows;
    }))

pub same-taken : (m : table.Setting) (s : List Var) (a b : List Node) (xs fs : List Continuation) (i : ℕ) → i ≡ length xs
    → MakesSame m s a b (take i xs) fs → MakesSame m s a b xs fs
same-taken m s a b xs fs i q y = subst (λ v. MakesSame m s a b v fs) (taken i xs q) y
