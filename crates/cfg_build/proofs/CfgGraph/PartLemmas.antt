-- What is inside a label's tree is among the values of its graph.
use Rattle.std.proofs.Common.{◌≡◌, ℕ, zero, suc, refl, sym, ap, ◌∙◌, subst, arith, List, [], ◌∷◌, ◌++◌, append_assoc, map}
use Rattle.std.proofs.Common.{Option, None, Some, slice_get, option_and_then, Contains}
use Rattle.std.proofs.lemmas.List.Elements.{Contains-append_left, Contains-append_right}
use Rattle.c_terms.specs.declared.label.Label.{Label}
use Rattle.c_terms.specs.declared.list.Member.{Member}
use Rattle.c_terms.specs.declared.shape.Shape.TheVariants as shape
use Rattle.c_terms.specs.declared.token.Token.{Token}
use Rattle.c_terms.specs.declared.tree.Tree.{Tree, out-Tree}
use Rattle.c_terms.specs.declared.tree.Tree.TheVariants.{Branch}
use Rattle.c_terms.specs.Trees.{join, leaves}
use Rattle.c_terms.specs.Places.{Place, places, places_from, below, child, subtree}
use Rattle.c_terms.specs.Lists.{members, run}
use Rattle.c_terms.specs.Shapes.{shape_of}
use Rattle.c_terms.proofs.Induct.{tree_cases}
use Rattle.c_terms.proofs.PlaceLaws.{places-Branch}
use Rattle.c_terms.proofs.PlaceLemmas.{child-Leaf, child-Branch}
use Rattle.c_terms.proofs.SameLemmas.{out-Branch}
use Rattle.cfg_build.specs.declared.cfg_graph.label.NodeLabel.{NodeLabel}
use Rattle.cfg_build.specs.CfgGraph.Flow.{Flow}
use Rattle.cfg_build.specs.CfgGraph.Values.{runs_after, runs_from, runs, runs_of_shape, runs_at, terms_at, terms_in, terms_of, places_in, places_of}
use Rattle.cfg_build.proofs.CfgGraph.ValueLemmas.{first, in-join, terms-first}

-- the values of some places
abbrev terms_there : List Place → List Tree
terms_there ps = join (map (λ p. terms_at p.tree) ps)

there-below : (i : ℕ) (ps : List Place) → terms_there (map (below i) ps) ≡ terms_there ps
there-below i [] = refl
there-below i (p ∷ ps) = ap (λ ts. terms_at p.tree ++ ts) (there-below i ps)

there-append : (ps qs : List Place) → terms_there (ps ++ qs) ≡ terms_there ps ++ terms_there qs
there-append [] qs = refl
there-append (p ∷ ps) qs = ap (λ ts. terms_at p.tree ++ ts) (there-append ps qs) ∙ sym (append_assoc (terms_at p.tree) (terms_there ps) (terms_there qs))

there-step : (k : ℕ) (ps : List Place) (more : List Place) → terms_there (map (below k) ps ++ more) ≡ terms_there ps ++ terms_there more
there-step k ps more = there-append (map (below k) ps) more ∙ ap (λ ts. ts ++ terms_there more) (there-below k ps)

in-children : (k : ℕ) (cs : List Tree) (i : ℕ) (c x : Tree) → slice_get cs i ≡ Some c → Contains (terms_in c) x
    → Contains (terms_there (places_from k (map places cs))) x
in-children k [] i c x e h = absurd (cc)
in-children k (d ∷ cs) zero c x e h = let same : c ≡ d = cc in
    subst (λ ts. Contains ts x) (sym (there-step k (places d) (places_from (suc k) (map places cs))))
    (Contains-append_left (terms_in d) (terms_there (places_from (suc k) (map places cs))) x (subst (λ t. Contains (terms_in t) x) same h))
in-children k (d ∷ cs) (suc i) c x e h =
    subst (λ ts. Contains ts x) (sym (there-step k (places d) (places_from (suc k) (map places cs))))
    (Contains-append_right (terms_in d) (terms_there (places_from (suc k) (map places cs))) x (in-children (suc k) cs i c x e h))

none-some : {X : Type 0} {x : X} → None ≡ Some x → ⊥
none-some e = absurd (cc)

-- a child's values are those of the whole
abbrev HoldsChild : Tree → Type 0
HoldsChild t = (i : ℕ) (c x : Tree) → child t i ≡ Some c → Contains (terms_in c) x → Contains (terms_in t) x

in-child : (t : Tree) → HoldsChild t
in-child = tree_cases HoldsChild
    (λ a i c x e h. absurd (none-some (sym (child-Leaf a i) ∙ e)))
    (λ l cs i c x e h. subst (λ ts. Contains ts x) (sym (ap terms_there (places-Branch l cs)))
    (Contains-append_right (terms_at (Branch l cs)) (terms_there (places_from 0 (map places cs))) x (in-children 0 cs i c x (sym (child-Branch l cs i) ∙ e) h)))

-- and so are those of each subtree
below-child : (t s x : Tree) (i : ℕ) (path : List ℕ) → ((c : Tree) → subtree c path ≡ Some s → Contains (terms_in c) x) → (o : Option Tree) → child t i ≡ o
    → option_and_then (λ c. subtree c path) o ≡ Some s → Contains (terms_in t) x
below-child t s x i path inner None o f = absurd (none-some f)
below-child t s x i path inner (Some c) o f = in-child t i c x o (inner c f)

in-subtree : (path : List ℕ) (t s x : Tree) → subtree t path ≡ Some s → Contains (terms_in s) x → Contains (terms_in t) x
in-subtree [] t s x e h = let same : s ≡ t = cc in subst (λ u. Contains (terms_in u) x) same h
in-subtree (i ∷ path) t s x e h = below-child t s x i path (λ c f. in-subtree path c s x f h) (child t i) refl e

itself : (t : Tree) → Contains (terms_in t) t
itself t = let b = terms-first t in subst (λ ts. Contains ts t) (sym b.1) (first t b.0)

-- the run of all members in between, among the runs that begin with those before
in-after : (l : Label) (before : List Member) (m : Member) (more after : List Member)
    → Contains (runs_after l before (m ∷ more ++ after)) (run l (before ++ m ∷ more))
in-after l before m [] after = first (run l (before ++ m ∷ [])) (runs_after l (before ++ m ∷ []) after)
in-after l before m (k ∷ more) after =
    let rest = subst (λ ms. Contains (runs_after l (before ++ m ∷ []) (k ∷ more ++ after)) (run l ms))
    (append_assoc before (m ∷ []) (k ∷ more)) (in-after l (before ++ m ∷ []) k more after) in
    Contains-append_right (run l (before ++ m ∷ []) ∷ []) (runs_after l (before ++ m ∷ []) (k ∷ more ++ after)) (run l (before ++ m ∷ k ∷ more)) rest

in-from : (l : Label) (before : List Member) (m : Member) (more after : List Member) → Contains (runs_from l (before ++ m ∷ more ++ after)) (run l (m ∷ more))
in-from l [] m more after = Contains-append_left (runs_after l [] (m ∷ more ++ after)) (runs_from l (more ++ after))
    (run l (m ∷ more)) (in-after l [] m more after)
in-from l (b ∷ before) m more after = Contains-append_right (runs_after l [] (b ∷ before ++ m ∷ more ++ after))
    (runs_from l (before ++ m ∷ more ++ after)) (run l (m ∷ more)) (in-from l before m more after)

in-runs : (l : Label) (before ms after : List Member) → Contains (runs l (before ++ ms ++ after)) (run l ms)
in-runs l before [] after = first (run l []) (runs_from l (before ++ [] ++ after))
in-runs l before (m ∷ more) after = Contains-append_right (run l [] ∷ []) (runs_from l (before ++ m ∷ more ++ after))
    (run l (m ∷ more)) (in-from l before m more after)

runs-here : (l : Label) (cs : List Tree) (before ms after : List Member) → shape_of l ≡ shape.List
    → members cs ≡ before ++ ms ++ after → Contains (terms_at (Branch l cs)) (run l ms)
runs-here l cs before ms after s e =
    let here = subst (λ k. Contains (runs_of_shape k l cs) (run l ms)) (sym s)
    (subst (λ xs. Contains (runs l xs) (run l ms)) (sym e) (in-runs l before ms after)) in
    let here = subst (λ layer. Contains (runs_at layer) (run l ms)) (sym (out-Branch l cs)) here in
    Contains-append_right (Branch l cs ∷ []) (runs_at (out-Tree (Branch l cs))) (run l ms) here

runs-in : (l : Label) (cs : List Tree) (before ms after : List Member) → shape_of l ≡ shape.List
    → members cs ≡ before ++ ms ++ after → Contains (terms_in (Branch l cs)) (run l ms)
runs-in l cs before ms after s e = subst (λ ts. Contains ts (run l ms)) (sym (ap terms_there (places-Branch l cs)))
    (Contains-append_left (terms_at (Branch l cs)) (terms_there (places_from 0 (map places cs))) (run l ms) (runs-here l cs before ms after s e))

pub subtree-term : (g : Flow) (n : ℕ) (l : NodeLabel) (path : List ℕ) (t : Tree) → slice_get g.labels n ≡ Some l
    → subtree l.tree path ≡ Some t → Contains (terms_of g) t
subtree-term g n l path t e s = in-join (λ l. terms_in l.tree) g.labels n l t e (in-subtree path l.tree t t s (itself t))

pub run-term : (g : Flow) (n : ℕ) (l : NodeLabel) (path : List ℕ) (k : Label) (cs : List Tree) (before ms after : List Member) → slice_get g.labels n ≡ Some l
    → subtree l.tree path ≡ Some (Branch k cs) → shape_of k ≡ shape.List → members cs ≡ before ++ ms ++ after → Contains (terms_of g) (run k ms)
run-term g n l path k cs before ms after e s h m =
    in-join (λ l. terms_in l.tree) g.labels n l (run k ms) e (in-subtree path l.tree (Branch k cs) (run k ms) s (runs-in k cs before ms after h m))

map-contains : (ts : List Token) (a : Token) → Contains ts a → Contains (map (λ (t : Token). t.id) ts) a.id
map-contains [] a h = absurd (omega (arith, h.1))
map-contains (t ∷ ts) a (zero, l, e) = subst (λ (i : ℕ). Contains (t.id ∷ map (λ (t : Token). t.id) ts) i)
    (ap (λ (t : Token). t.id) e) (first t.id (map (λ (t : Token). t.id) ts))
map-contains (t ∷ ts) a (suc i, l, e) = Contains-append_right (t.id ∷ []) (map (λ (t : Token). t.id) ts) a.id (map-contains ts a (i, omega (arith, l), e))

pub token-place : (g : Flow) (n : ℕ) (l : NodeLabel) (a : Token) → slice_get g.labels n ≡ Some l → Contains (leaves l.tree) a → Contains (places_of g) a.id
token-place g n l a e h = in-join places_in g.labels n l a.id e
    (Contains-append_right (l.brace ∷ []) (map (λ (t : Token). t.id) (leaves l.tree)) a.id (map-contains (leaves l.tree) a h))
