-- The values of a tree, by its parts: itself, its children, its runs, and its tokens.
use Rattle.std.proofs.Common.{◌≡◌, ℕ, suc, zero, Bool, true, false, ◌&&◌, ◌||◌, refl, sym, ap, ◌∙◌, List, [], ◌∷◌, ◌++◌}
use Rattle.std.proofs.Common.{append_assoc, map, take, drop, Some, slice_get, inl, inr, ◌⊎◌, ⊎_elim}
use Rattle.std.specs.List.{list_any}
use Rattle.std.proofs.lemmas.List.Folds.{list_any-append}
use Rattle.c_terms.specs.declared.token.Token.{Token}
use Rattle.c_terms.specs.declared.label.Label.{Label}
use Rattle.c_terms.specs.declared.list.Member.{Member}
use Rattle.c_terms.specs.declared.shape.Shape.TheVariants as shape
use Rattle.c_terms.specs.declared.tree.Tree.{Tree, out-Tree}
use Rattle.c_terms.specs.declared.tree.Tree.TheVariants.{Branch}
use Rattle.c_terms.specs.Trees.{join, leaves}
use Rattle.c_terms.specs.Shapes.{shape_of}
use Rattle.c_terms.specs.Lists.{members, run}
use Rattle.c_terms.specs.Places.{Place, places, places_from, below}
use Rattle.c_terms.proofs.PlaceLaws.{places-Branch}
use Rattle.c_terms.proofs.TreeLemmas.{leaves-Branch}
use Rattle.c_terms.proofs.SameLemmas.{out-Branch}
use Rattle.smpl_terms.specs.declared.value.Value.{Value}
use Rattle.smpl_terms.specs.declared.value.Value.TheVariants as value
use Rattle.smpl_terms.specs.Values.{same}
use Rattle.cfg_build.specs.CfgGraph.Values.{runs_after, runs_from, runs, runs_of_shape, runs_at, terms_at, terms_in}
use Rattle.cfg_build.proofs.CfgGraph.ValueLemmas.{terms-first}
use Rattle.pat_match.specs.Tokens.{id_of, first_id}
use Rattle.pat_match.specs.Valued.{has_value}

-- tests

pub and_left : (a b : Bool) → (a && b) ≡ true → a ≡ true
and_left true b h = refl
and_left false b h = absurd (cc)

pub and_right : (a b : Bool) → (a && b) ≡ true → b ≡ true
and_right true b h = h
and_right false b h = absurd (cc)

pub both_true : (a b : Bool) → a ≡ true → b ≡ true → (a && b) ≡ true
both_true true b h k = k
both_true false b h k = absurd (cc)

pub or_cases : (a b : Bool) → (a || b) ≡ true → (a ≡ true) ⊎ (b ≡ true)
or_cases true b h = inl refl
or_cases false b h = inr h

pub or_left : (a b : Bool) → a ≡ true → (a || b) ≡ true
or_left true b h = refl
or_left false b h = absurd (cc)

pub or_right : (a b : Bool) → b ≡ true → (a || b) ≡ true
or_right true b h = refl
or_right false b h = h

-- lists

any_join : {X : Type 0} (q : X → Bool) (f : Tree → List X) (cs : List Tree) → list_any (λ c. list_any q (f c)) cs ≡ true → list_any q (join (map f cs)) ≡ true
any_join q f [] h = absurd (cc)
any_join q f (c ∷ cs) h = list_any-append q (f c) (join (map f cs)) ∙ ⊎_elim
    (λ a. or_left (list_any q (f c)) (list_any q (join (map f cs))) a)
    (λ b. or_right (list_any q (f c)) (list_any q (join (map f cs))) (any_join q f cs b))
    (or_cases (list_any q (f c)) (list_any (λ c. list_any q (f c)) cs) h)

any_either : {X : Type 0} (f g : X → Bool) (xs : List X) → list_any (λ x. f x || g x) xs ≡ true → (list_any f xs ≡ true) ⊎ (list_any g xs ≡ true)
any_either f g [] h = absurd (cc)
any_either f g (x ∷ xs) h = ⊎_elim
    (λ a. ⊎_elim (λ b. inl (or_left _ _ b)) (λ b. inr (or_left _ _ b)) (or_cases (f x) (g x) a))
    (λ a. ⊎_elim (λ b. inl (or_right _ _ b)) (λ b. inr (or_right _ _ b)) (any_either f g xs a))
    (or_cases (f x || g x) (list_any (λ x. f x || g x) xs) h)

-- the terms of some places

abbrev terms_there : List Place → List Tree
terms_there ps = join (map (λ p. terms_at p.tree) ps)

there-below : (i : ℕ) (ps : List Place) → terms_there (map (below i) ps) ≡ terms_there ps
there-below i [] = refl
there-below i (p ∷ ps) = ap (λ ts. terms_at p.tree ++ ts) (there-below i ps)

there-append : (ps qs : List Place) → terms_there (ps ++ qs) ≡ terms_there ps ++ terms_there qs
there-append [] qs = refl
there-append (p ∷ ps) qs = ap (λ ts. terms_at p.tree ++ ts) (there-append ps qs) ∙ sym (append_assoc (terms_at p.tree) (terms_there ps) (terms_there qs))

there-kids : (k : ℕ) (cs : List Tree) → terms_there (places_from k (map places cs)) ≡ join (map terms_in cs)
there-kids k [] = refl
there-kids k (c ∷ cs) =
    there-append (map (below k) (places c)) (places_from (suc k) (map places cs))
    ∙ ap (λ ts. ts ++ terms_there (places_from (suc k) (map places cs))) (there-below k (places c))
    ∙ ap (λ ts. terms_in c ++ ts) (there-kids (suc k) cs)

terms-Branch : (l : Label) (cs : List Tree) → terms_in (Branch l cs) ≡ terms_at (Branch l cs) ++ join (map terms_in cs)
terms-Branch l cs = ap terms_there (places-Branch l cs) ∙ ap (λ ts. terms_at (Branch l cs) ++ ts) (there-kids 0 cs)

-- a value

abbrev is_term : Value → Tree → Bool
is_term v u = same (value.Term u) v

abbrev is_token : Value → Token → Bool
is_token v a = same (value.Place a.id) v

pub has-self : (t : Tree) (v : Value) → same (value.Term t) v ≡ true → has_value t v ≡ true
has-self t v h =
    let b = terms-first t in
    or_left _ _ (ap (list_any (is_term v)) b.1 ∙ or_left (is_term v t) (list_any (is_term v) b.0) h)

first_any : (ts : List Token) (id : ℕ) (v : Value) → id_of (slice_get ts 0) ≡ Some id → same (value.Place id) v ≡ true → list_any (is_token v) ts ≡ true
first_any [] id v e h = absurd (cc)
first_any (a ∷ ts) id v e h = let g : a.id ≡ id = cc in or_left _ _ (ap (λ n. same (value.Place n) v) g ∙ h)

pub has-first : (t : Tree) (id : ℕ) (v : Value) → first_id t ≡ Some id → same (value.Place id) v ≡ true → has_value t v ≡ true
has-first t id v e h = or_right _ _ (first_any (leaves t) id v e h)

pub has-kid : (l : Label) (cs : List Tree) (v : Value) → list_any (λ c. has_value c v) cs ≡ true → has_value (Branch l cs) v ≡ true
has-kid l cs v h = ⊎_elim
    (λ a. or_left _ _ (ap (list_any (is_term v)) (terms-Branch l cs) ∙ list_any-append (is_term v) (terms_at (Branch l cs)) (join (map terms_in cs))
    ∙ or_right (list_any (is_term v) (terms_at (Branch l cs))) _ (any_join (is_term v) terms_in cs a)))
    (λ b. or_right _ _ (ap (list_any (is_token v)) (leaves-Branch l cs) ∙ any_join (is_token v) leaves cs b))
    (any_either (λ c. list_any (is_term v) (terms_in c)) (λ c. list_any (is_token v) (leaves c)) cs h)

-- runs

after_any : (q : Tree → Bool) (l : Label) (before : List Member) (m : Member) (more after : List Member) → q (run l (before ++ m ∷ more)) ≡ true
    → list_any q (runs_after l before (m ∷ more ++ after)) ≡ true
after_any q l before m [] after h = or_left _ _ h
after_any q l before m (k ∷ more) after h =
    or_right (q (run l (before ++ m ∷ []))) _
    (after_any q l (before ++ m ∷ []) k more after (ap (λ ms. q (run l ms)) (append_assoc before (m ∷ []) (k ∷ more)) ∙ h))

from_any : (q : Tree → Bool) (l : Label) (before : List Member) (m : Member) (more after : List Member) → q (run l (m ∷ more)) ≡ true
    → list_any q (runs_from l (before ++ m ∷ more ++ after)) ≡ true
from_any q l [] m more after h = list_any-append q (runs_after l [] (m ∷ more ++ after)) (runs_from l (more ++ after))
    ∙ or_left _ _ (after_any q l [] m more after h)
from_any q l (b ∷ before) m more after h =
    list_any-append q (runs_after l [] (b ∷ before ++ m ∷ more ++ after)) (runs_from l (before ++ m ∷ more ++ after))
    ∙ or_right (list_any q (runs_after l [] (b ∷ before ++ m ∷ more ++ after))) _ (from_any q l before m more after h)

runs_any : (q : Tree → Bool) (l : Label) (before ms after : List Member) → q (run l ms) ≡ true → list_any q (runs l (before ++ ms ++ after)) ≡ true
runs_any q l before [] after h = or_left _ _ h
runs_any q l before (m ∷ more) after h = or_right (q (run l [])) _ (from_any q l before m more after h)

take_drop : {X : Type 0} (xs : List X) (n : ℕ) → take n xs ++ drop n xs ≡ xs
take_drop xs zero = refl
take_drop [] (suc n) = refl
take_drop (x ∷ xs) (suc n) = ap (λ ys. x ∷ ys) (take_drop xs n)

parted : {X : Type 0} (xs : List X) (j k : ℕ) → take j xs ++ take k (drop j xs) ++ drop k (drop j xs) ≡ xs
parted xs j k =
    append_assoc (take j xs) (take k (drop j xs)) (drop k (drop j xs)) ∙ ap (λ ys. take j xs ++ ys) (take_drop (drop j xs) k) ∙ take_drop xs j

-- a run of members of a list
pub has-run : (l : Label) (cs : List Tree) (v : Value) (j k : ℕ) → shape_of l ≡ shape.List → same (value.Term (run l (take k (drop j (members cs))))) v ≡ true
    → has_value (Branch l cs) v ≡ true
has-run l cs v j k s h =
    let here = runs_any (is_term v) l (take j (members cs)) (take k (drop j (members cs))) (drop k (drop j (members cs))) h in
    let all : list_any (is_term v) (runs l (members cs)) ≡ true = ap (λ ms. list_any (is_term v) (runs l ms)) (sym (parted (members cs) j k)) ∙ here in
    let shaped : list_any (is_term v) (runs_at (out-Tree (Branch l cs))) ≡ true =
    ap (λ layer. list_any (is_term v) (runs_at layer)) (out-Branch l cs) ∙ ap (λ r. list_any (is_term v) (runs_of_shape r l cs)) s ∙ all in
    or_left _ _ (ap (list_any (is_term v)) (terms-Branch l cs) ∙ list_any-append (is_term v) (terms_at (Branch l cs)) (join (map terms_in cs))
    ∙ or_left _ _ (or_right (is_term v (Branch l cs)) _ shaped))
