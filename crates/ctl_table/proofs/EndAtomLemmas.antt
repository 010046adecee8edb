-- The atoms beside dots: the equations of their definitions, and that they keep their formulas while the table grows.
use Rattle.std.proofs.Common.{◌≡◌, ℕ, zero, suc, ◌<◌, ◌≤◌, Bool, true, false, cond, not, ◌||◌, nat_lt, arith, refl, sym, ap}
use Rattle.std.proofs.Common.{subst, ◌∙◌, List, [], ◌∷◌, ◌++◌, map, length, take, get_or, ◌+◌, Option, Some}
use Rattle.std.specs.List.{filter, list_any}
use Rattle.std.proofs.Math.Seq.{take-length}
use Rattle.std.proofs.lemmas.List.{map-append, take_more}
use Rattle.c_terms.specs.Trees.{greatest}
use Rattle.smpl_terms.specs.declared.var.Var.{Var}
use Rattle.smpl_terms.specs.Vars.{same_var}
use Rattle.smpl_terms.proofs.VarLaws.{same_var-equal, same_var-refl}
use Rattle.pattern_vars.specs.Reads.{has}
use Rattle.ctl_formula.specs.Plain.{Plain}
use Rattle.ctl_formula.specs.declared.node.Node.{Node}
use Rattle.ctl_formula.specs.Tables.{at, plains, Grows}
use Rattle.ctl_formula.proofs.TableLemmas.{and-left, and-right, lt-true}
use Rattle.ctl_table.specs.Table.{Scope, in_scope, exists_all, option_list, or_some}
use Rattle.ctl_table.specs.declared.end_atoms.EndAtoms.{EndAtoms}
use Rattle.ctl_table.specs.declared.end_atoms.EndAtoms.TheOpen.{EndAtoms-F}
use Rattle.ctl_table.specs.declared.end_atoms.EndAtoms.TheViews.{roll-EndAtoms}
use Rattle.ctl_table.specs.declared.end_atoms.EndAtoms.TheVariants.{Atom, Any, rolls-Atom, rolls-Any}
use Rattle.ctl_table.specs.declared.end_atoms.EndAtoms.TheFolds.{fold-EndAtoms, fold-roll-EndAtoms, ind-EndAtoms, claims, map-EndAtoms}
use Rattle.ctl_table.specs.declared.end_atoms.EndAtoms.TheBlock.{the_family, member-EndAtoms}
use denote.Hole.Holds.{Such}
use Rattle.ctl_table.specs.EndAtoms.{end_atoms_step, end_atoms_at, each_end_atoms_at, names_step, names_in, below_step, end_atoms_below, each_end_atoms_below}
use Rattle.ctl_table.proofs.MakingLemmas.{stays, stands-still, lt-test, both-true}

-- induction

abbrev Each : (EndAtoms → Type 0) → List EndAtoms → Type 0
Each P [] = Unit {0}
Each P (b ∷ bs) = P b × Each P bs

abbrev Known : (EndAtoms → Type 0) → Type 0
Known P = Such the_family (claims P) member-EndAtoms

known : (P : EndAtoms → Type 0) (es : List (Known P)) → Each P (map (λ e. e.0) es)
known P [] = tt
known P (e ∷ es) = (e.1, known P es)

layer : (P : EndAtoms → Type 0) → ((i : ℕ) (vars : List Var) → P (Atom i vars)) → ((bs : List EndAtoms) → Each P bs → P (Any bs))
    → (y : EndAtoms-F (Known P)) → P (roll-EndAtoms (map-EndAtoms (Known P) EndAtoms (λ e. e.0) y))
layer P atom any (EndAtoms-F.Atom i vars) = subst P (sym (rolls-Atom i vars)) (atom i vars)
layer P atom any (EndAtoms-F.Any es) = subst P (sym (rolls-Any (map (λ e. e.0) es))) (any (map (λ e. e.0) es) (known P es))

induction : (P : EndAtoms → Type 0) → ((i : ℕ) (vars : List Var) → P (Atom i vars)) → ((bs : List EndAtoms) → Each P bs → P (Any bs)) → (b : EndAtoms) → P b
induction P atom any = ind-EndAtoms P (λ x y e. subst (λ z. P (roll-EndAtoms z)) e (layer P atom any y))

-- equations

pub at-Atom : (fs : List Plain) (i : ℕ) (vars : List Var) (s : Scope)
    → end_atoms_at fs (Atom i vars) s ≡ Some (exists_all (filter (λ x. not (in_scope s x)) vars) (at fs i))
at-Atom fs i vars s = ap (λ z. end_atoms_at fs z s) (sym (rolls-Atom i vars))
    ∙ ap (λ (f : Scope → Option Plain). f s) (fold-roll-EndAtoms (Scope → Option Plain) (end_atoms_step fs) _)

pub at-Any : (fs : List Plain) (bs : List EndAtoms) (s : Scope) → end_atoms_at fs (Any bs) s ≡ or_some (each_end_atoms_at fs bs s)
at-Any fs bs s = ap (λ z. end_atoms_at fs z s) (sym (rolls-Any bs))
    ∙ ap (λ (f : Scope → Option Plain). f s) (fold-roll-EndAtoms (Scope → Option Plain) (end_atoms_step fs) _)

pub below-Atom : (n i : ℕ) (vars : List Var) → end_atoms_below n (Atom i vars) ≡ nat_lt i n
below-Atom n i vars = ap (end_atoms_below n) (sym (rolls-Atom i vars)) ∙ fold-roll-EndAtoms Bool (below_step n) _

pub below-Any : (n : ℕ) (bs : List EndAtoms) → end_atoms_below n (Any bs) ≡ each_end_atoms_below n bs
below-Any n bs = ap (end_atoms_below n) (sym (rolls-Any bs)) ∙ fold-roll-EndAtoms Bool (below_step n) _

-- while the table grows

each-stand : (a b : List Node) (bs : List EndAtoms) → Each (λ d. end_atoms_below (length a) d ≡ true → end_atoms_below (length b) d ≡ true) bs
    → each_end_atoms_below (length a) bs ≡ true → each_end_atoms_below (length b) bs ≡ true
each-stand a b [] e h = refl
each-stand a b (d ∷ bs) e h =
    both-true (end_atoms_below (length b) d) (each_end_atoms_below (length b) bs)
    (e.0 (and-left (end_atoms_below (length a) d) (each_end_atoms_below (length a) bs) h))
    (each-stand a b bs e.1 (and-right (end_atoms_below (length a) d) (each_end_atoms_below (length a) bs) h))

pub end_atoms-stands : (a b : List Node) → Grows a b → (d : EndAtoms) → end_atoms_below (length a) d ≡ true → end_atoms_below (length b) d ≡ true
end_atoms-stands a b g = induction (λ d. end_atoms_below (length a) d ≡ true → end_atoms_below (length b) d ≡ true)
    (λ i vars h. below-Atom (length b) i vars ∙ lt-test i (length b) (stands-still a b i g (lt-true i (length a) (sym (below-Atom (length a) i vars) ∙ h))))
    (λ bs e h. below-Any (length b) bs ∙ each-stand a b bs e (sym (below-Any (length a) bs) ∙ h))

each-stay : (a b : List Node) (s : Scope) (bs : List EndAtoms)
    → Each (λ d. end_atoms_below (length a) d ≡ true → end_atoms_at (plains b) d s ≡ end_atoms_at (plains a) d s) bs
    → each_end_atoms_below (length a) bs ≡ true → each_end_atoms_at (plains b) bs s ≡ each_end_atoms_at (plains a) bs s
each-stay a b s [] e h = refl
each-stay a b s (d ∷ bs) e h =
    ap (λ (z : Option Plain). option_list z ++ each_end_atoms_at (plains b) bs s)
    (e.0 (and-left (end_atoms_below (length a) d) (each_end_atoms_below (length a) bs) h))
    ∙ ap (λ (z : List Plain). option_list (end_atoms_at (plains a) d s) ++ z)
    (each-stay a b s bs e.1 (and-right (end_atoms_below (length a) d) (each_end_atoms_below (length a) bs) h))

pub end_atoms-stays : (a b : List Node) (s : Scope) → Grows a b → (d : EndAtoms) → end_atoms_below (length a) d ≡ true
    → end_atoms_at (plains b) d s ≡ end_atoms_at (plains a) d s
end_atoms-stays a b s g = induction (λ d. end_atoms_below (length a) d ≡ true → end_atoms_at (plains b) d s ≡ end_atoms_at (plains a) d s)
    (λ i vars h.
    at-Atom (plains b) i vars s
    ∙ ap (λ (z : Plain). Some (exists_all (filter (λ x. not (in_scope s x)) vars) z))
    (stays a b i g (lt-true i (length a) (sym (below-Atom (length a) i vars) ∙ h)))
    ∙ sym (at-Atom (plains a) i vars s))
    (λ bs e h. at-Any (plains b) bs s ∙ ap or_some (each-stay a b s bs e (sym (below-Any (length a) bs) ∙ h)) ∙ sym (at-Any (plains a) bs s))

pub each_end_atoms-stand : (a b : List Node) → Grows a b → (bs : List EndAtoms) → each_end_atoms_below (length a) bs ≡ true
    → each_end_atoms_below (length b) bs ≡ true
each_end_atoms-stand a b g [] h = refl
each_end_atoms-stand a b g (d ∷ bs) h =
    both-true (end_atoms_below (length b) d) (each_end_atoms_below (length b) bs)
    (end_atoms-stands a b g d (and-left (end_atoms_below (length a) d) (each_end_atoms_below (length a) bs) h))
    (each_end_atoms-stand a b g bs (and-right (end_atoms_below (length a) d) (each_end_atoms_below (length a) bs) h))

pub each_end_atoms-stay : (a b : List Node) (s : Scope) → Grows a b → (bs : List EndAtoms)
    → each_end_atoms_below (length a) bs ≡ true → each_end_atoms_at (plains b) bs s ≡ each_end_atoms_at (plains a) bs s
each_end_atoms-stay a b s g [] h = refl
each_end_atoms-stay a b s g (d ∷ bs) h =
    ap (λ (z : Option Plain). option_list z ++ each_end_atoms_at (plains b) bs s)
    (end_atoms-stays a b s g d (and-left (end_atoms_below (length a) d) (each_end_atoms_below (length a) bs) h))
    ∙ ap (λ (z : List Plain). option_list (end_atoms_at (plains a) d s) ++ z)
    (each_end_atoms-stay a b s g bs (and-right (end_atoms_below (length a) d) (each_end_atoms_below (length a) bs) h))

-- which variables the atoms have

pub names-Atom : (i : ℕ) (vars : List Var) (x : Var) → names_in (Atom i vars) x ≡ has vars x
names-Atom i vars x = ap (λ z. names_in z x) (sym (rolls-Atom i vars)) ∙ ap (λ (f : Var → Bool). f x) (fold-roll-EndAtoms (Var → Bool) names_step _)

pub names-Any : (bs : List EndAtoms) (x : Var) → names_in (Any bs) x ≡ list_any (λ f. f x) (map names_in bs)
names-Any bs x = ap (λ z. names_in z x) (sym (rolls-Any bs)) ∙ ap (λ (f : Var → Bool). f x) (fold-roll-EndAtoms (Var → Bool) names_step _)

pub or-right : (a b : Bool) → b ≡ true → (a || b) ≡ true
or-right true b h = refl
or-right false b h = h

pub or-left : (a b : Bool) → a ≡ true → (a || b) ≡ true
or-left a b h = ap (λ z. z || b) h

filter-on : (p q : Var → Bool) (vars : List Var) → ((x : Var) → has vars x ≡ true → p x ≡ q x) → filter p vars ≡ filter q vars
filter-on p q [] e = refl
filter-on p q (v ∷ vs) e =
    ap (λ (z : Bool). cond z (v ∷ filter p vs) (filter p vs)) (e v (or-left (same_var v v) (has vs v) (same_var-refl v)))
    ∙ ap (λ (z : List Var). cond (q v) (v ∷ z) z) (filter-on p q vs (λ x h. e x (or-right (same_var v x) (has vs x) h)))

each-cong : (fs : List Plain) (s t : Scope) (bs : List EndAtoms)
    → Each (λ b. ((x : Var) → names_in b x ≡ true → in_scope s x ≡ in_scope t x) → end_atoms_at fs b s ≡ end_atoms_at fs b t) bs
    → ((x : Var) → list_any (λ f. f x) (map names_in bs) ≡ true → in_scope s x ≡ in_scope t x) → each_end_atoms_at fs bs s ≡ each_end_atoms_at fs bs t
each-cong fs s t [] e h = refl
each-cong fs s t (b ∷ bs) e h =
    ap (λ (z : Option Plain). option_list z ++ each_end_atoms_at fs bs s) (e.0 (λ x n. h x (or-left (names_in b x) (list_any (λ f. f x) (map names_in bs)) n)))
    ∙ ap (λ (z : List Plain). option_list (end_atoms_at fs b t) ++ z)
    (each-cong fs s t bs e.1 (λ x n. h x (or-right (names_in b x) (list_any (λ f. f x) (map names_in bs)) n)))

-- two scopes that contain the same ones of the atoms' variables
pub end_atoms-cong : (fs : List Plain) (s t : Scope) (b : EndAtoms)
    → ((x : Var) → names_in b x ≡ true → in_scope s x ≡ in_scope t x) → end_atoms_at fs b s ≡ end_atoms_at fs b t
end_atoms-cong fs s t = induction (λ b. ((x : Var) → names_in b x ≡ true → in_scope s x ≡ in_scope t x) → end_atoms_at fs b s ≡ end_atoms_at fs b t)
    (λ i vars h.
    at-Atom fs i vars s
    ∙ ap (λ (z : List Var). Some (exists_all z (at fs i)))
    (filter-on (λ x. not (in_scope s x)) (λ x. not (in_scope t x)) vars (λ x n. ap not (h x (names-Atom i vars x ∙ n))))
    ∙ sym (at-Atom fs i vars t))
    (λ bs e h.
    at-Any fs bs s ∙ ap or_some (each-cong fs s t bs e (λ x n. h x (names-Any bs x ∙ n))) ∙ sym (at-Any fs bs t))

-- of what is quantified, the variables that the atoms have
pub inner-same : (names more : List Var) (x : Var) → has names x ≡ true → in_scope (filter (has names) more) x ≡ in_scope more x
inner-same names [] x h = refl
inner-same names (y ∷ ys) x h = by (has names y) refl (inner-same names ys x h)
  where
    apart : (b : Bool) → same_var y x ≡ b → has names y ≡ false → b ≡ false
    apart false e n = refl
    apart true e n = absurd (let q : has names y ≡ true = ap (has names) (same_var-equal y x e) ∙ h in cc)

    by : (b : Bool) → has names y ≡ b → in_scope (filter (has names) ys) x ≡ in_scope ys x
        → in_scope (cond b (y ∷ filter (has names) ys) (filter (has names) ys)) x ≡ (same_var y x || in_scope ys x)
    by true e r = ap (λ z. same_var y x || z) r
    by false e r = r ∙ sym (ap (λ z. z || in_scope ys x) (apart (same_var y x) refl e))

-- how deeply these are nested: the measure of a recursion over them

abbrev levels_step : EndAtoms-F ℕ → ℕ
levels_step (EndAtoms-F.Atom i vars) = 0
levels_step (EndAtoms-F.Any ns) = suc (greatest ns)

abbrev pub levels : EndAtoms → ℕ
levels = fold-EndAtoms ℕ levels_step

levels-item : (xs : List EndAtoms) (i : ℕ) (x d : EndAtoms) → i < length xs → x ≡ get_or xs i d → levels x ≤ greatest (map levels xs)
levels-item [] i x d l q = absurd (omega (arith, l))
levels-item (y ∷ xs) zero x d l q = let e = ap levels q in omega (arith, e)
levels-item (y ∷ xs) (suc i) x d l q = let e = levels-item xs i x d (omega (arith, l)) q in omega (arith, e)

pub levels-falls : (b : EndAtoms) (ds xs : List EndAtoms) (i : ℕ) (x d : EndAtoms) → b ≡ Any ds → xs ≡ ds → i < length xs
    → x ≡ get_or xs i d → levels x < levels b
levels-falls b ds xs i x d e q l o =
    let w = levels-item xs i x d l o in
    let v : levels b ≡ suc (greatest (map levels xs)) =
    ap levels e ∙ ap levels (sym (rolls-Any ds)) ∙ fold-roll-EndAtoms ℕ levels_step _ ∙ ap (λ (z : List EndAtoms). suc (greatest (map levels z))) (sym q) in
    omega (arith, w, v)

-- the variables of several, one after another

list_any-more : (fs gs : List (Var → Bool)) (y : Var) → list_any (λ f. f y) (fs ++ gs) ≡ (list_any (λ f. f y) fs || list_any (λ f. f y) gs)
list_any-more [] gs y = refl
list_any-more (f ∷ fs) gs y = ap (λ (z : Bool). f y || z) (list_any-more fs gs y) ∙ or-assoc (f y) (list_any (λ f. f y) fs) (list_any (λ f. f y) gs)
  where
    or-assoc : (a b c : Bool) → (a || (b || c)) ≡ ((a || b) || c)
    or-assoc true b c = refl
    or-assoc false b c = refl

or-last : (a b c : Bool) → ((a || b) || c) ≡ (a || (b || (c || false)))
or-last true b c = refl
or-last false true c = refl
or-last false false true = refl
or-last false false false = refl

pub names-step : (xs : List EndAtoms) (i : ℕ) (x d : EndAtoms) (y : Var) (old before now : Bool) → i < length xs → x ≡ get_or xs i d
    → before ≡ (old || list_any (λ f. f y) (map names_in (take i xs))) → now ≡ (before || names_in x y)
    → now ≡ (old || list_any (λ f. f y) (map names_in (take (i + 1) xs)))
names-step xs i x d y old before now l q h w =
    let front = list_any (λ f. f y) (map names_in (take i xs)) in
    let whole : (front || (names_in x y || false)) ≡ list_any (λ f. f y) (map names_in (take (i + 1) xs)) =
    sym (list_any-more (map names_in (take i xs)) (names_in x ∷ []) y)
    ∙ ap (λ (z : List (Var → Bool)). list_any (λ f. f y) z) (sym (map-append names_in (take i xs) (x ∷ []))
    ∙ ap (map names_in) (ap (λ (z : EndAtoms). take i xs ++ z ∷ []) q ∙ sym (take_more xs i d l))) in
    w ∙ ap (λ (z : Bool). z || names_in x y) h ∙ or-last old front (names_in x y) ∙ ap (λ (z : Bool). old || z) whole

pub names-whole : (b : EndAtoms) (ds xs : List EndAtoms) (i : ℕ) (y : Var) → b ≡ Any ds → xs ≡ ds → i ≡ length xs
    → list_any (λ f. f y) (map names_in (take i xs)) ≡ names_in b y
names-whole b ds xs i y e q l =
    ap (λ (z : List EndAtoms). list_any (λ f. f y) (map names_in z)) (ap (λ (k : ℕ). take k xs) l ∙ take-length xs ∙ q)
    ∙ sym (names-Any ds y) ∙ sym (ap (λ (z : EndAtoms). names_in z y) e)

pub or-nothing : (a : Bool) → a ≡ (a || false)
or-nothing true = refl
or-nothing false = refl

-- what is quantified, and more
pub in_more : (s more : List Var) (x : Var) → in_scope (s ++ more) x ≡ (in_scope s x || in_scope more x)
in_more [] more x = refl
in_more (y ∷ ys) more x = ap (λ (z : Bool). same_var y x || z) (in_more ys more x) ∙ or-assoc (same_var y x) (in_scope ys x) (in_scope more x)
  where
    or-assoc : (a b c : Bool) → (a || (b || c)) ≡ ((a || b) || c)
    or-assoc true b c = refl
    or-assoc false b c = refl
