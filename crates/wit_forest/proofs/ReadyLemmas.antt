-- The preconditions of a step, from those shared by all: the parts of a part are in range, and the sets say what holds
-- there.
use Rattle.std.proofs.Common.{◌≡◌, ℕ, ◌<◌, ◌≤◌, Bool, true, false, nat_lt, refl, ap, ◌∙◌, subst, arith, List, [], length}
use Rattle.std.proofs.Common.{slice_index_or, slice_get, Some, Contains, Result, Ok, Err, IfOk}
use Rattle.std.proofs.lemmas.Bool.Decides.{nat_tests}
use Rattle.std.proofs.lemmas.Option.{get_or_from_slice_get}
use Rattle.cfg_build.specs.CfgGraph.Flow.{Flow, count_of}
use Rattle.smpl_terms.specs.declared.var.Var.{Var}
use Rattle.smpl_terms.specs.declared.value.Value.{Value}
use Rattle.smpl_terms.specs.Environments.{Environment, change}
use Rattle.smpl_patch.specs.Patterns.{sure}
use Rattle.env_sets.specs.Sets.{Entries}
use Rattle.env_sets.specs.States.{set_at}
use Rattle.ctl_formula.specs.Bounds.{bound, guarded}
use Rattle.ctl_formula.specs.Plain.{Exists}
use Rattle.ctl_formula.specs.Tables.{at, plains, plain_of, below}
use Rattle.ctl_formula.specs.Formulas.{FormulaOf, plain}
use Rattle.ctl_formula.specs.declared.node.Node.{Node}
use Rattle.ctl_formula.specs.declared.node.Node.TheVariants as node
use Rattle.ctl_fixpoint.specs.CtlHolds.Parts.{IsPart, EachPattern}
use Rattle.ctl_fixpoint.specs.CtlHolds.BoundLaw.{SureStand}
use Rattle.ctl_fixpoint.proofs.CtlHolds.TestLemmas.{and_left, and_both}
use Rattle.ctl_fixpoint.specs.Steps.{IsGood}
use Rattle.ctl_fixpoint.proofs.StepLemmas.{part_good}
use Rattle.wit_forest.specs.WitSteps.Steps.{kids, told, is_quantifier}
use Rattle.wit_forest.specs.WitSteps.Choices.{chosen, AllRise}
use Rattle.wit_forest.specs.Gathered.{node_at, holds_at, AreReady, InRange, IsBound}
use Rattle.wit_forest.proofs.KidRangeLemmas.{EachKid, each_below, kid_fine}
use Rattle.wit_forest.proofs.AgreeLemmas.{Agree, kids_agree}
use Rattle.wit_forest.proofs.PartLemmas.{each_part}
use Rattle.wit_forest.proofs.TellLemmas.{told_is_holds}
use Rattle.wit_forest.proofs.ValueLemmas.{values_told}

is_lt : (i k : ℕ) → i < k → nat_lt i k ≡ true
is_lt i k h = grind (arith, nat_tests)

pub below_all : (k : ℕ) (x : Node) → EachKid (λ i. i < k) x → below k x ≡ true
below_all k node.True e = refl
below_all k (node.Atom p) e = refl
below_all k node.EarlyExit e = refl
below_all k (node.BraceOpen p v) e = refl
below_all k (node.BraceClose p v) e = refl
below_all k (node.Inside b) e = refl
below_all k (node.Outside b) e = refl
below_all k (node.Not i) e = is_lt i k e
below_all k (node.And i j) e = and_both _ _ (is_lt i k e.0) (is_lt j k e.1)
below_all k (node.Or i j) e = and_both _ _ (is_lt i k e.0) (is_lt j k e.1)
below_all k (node.AX i) e = is_lt i k e
below_all k (node.EX i) e = is_lt i k e
below_all k (node.AU i j) e = and_both _ _ (is_lt i k e.0) (is_lt j k e.1)
below_all k (node.EU i j) e = and_both _ _ (is_lt i k e.0) (is_lt j k e.1)
below_all k (node.After i) e = is_lt i k e
below_all k (node.InBranch v i) e = is_lt i k e
below_all k (node.Exists x i) e = is_lt i k e

each_kid : (P Q R : ℕ → Type 0) → ((i : ℕ) → P i → Q i → R i) → (x : Node) → EachKid P x → EachKid Q x → EachKid R x
each_kid P Q R h node.True a b = tt
each_kid P Q R h (node.Atom p) a b = tt
each_kid P Q R h node.EarlyExit a b = tt
each_kid P Q R h (node.BraceOpen p v) a b = tt
each_kid P Q R h (node.BraceClose p v) a b = tt
each_kid P Q R h (node.Inside y) a b = tt
each_kid P Q R h (node.Outside y) a b = tt
each_kid P Q R h (node.Not i) a b = h i a b
each_kid P Q R h (node.And i j) a b = (h i a.0 b.0, h j a.1 b.1)
each_kid P Q R h (node.Or i j) a b = (h i a.0 b.0, h j a.1 b.1)
each_kid P Q R h (node.AX i) a b = h i a b
each_kid P Q R h (node.EX i) a b = h i a b
each_kid P Q R h (node.AU i j) a b = (h i a.0 b.0, h j a.1 b.1)
each_kid P Q R h (node.EU i j) a b = (h i a.0 b.0, h j a.1 b.1)
each_kid P Q R h (node.After i) a b = h i a b
each_kid P Q R h (node.InBranch v i) a b = h i a b
each_kid P Q R h (node.Exists x i) a b = h i a b

-- two facts about an `Ok` result, combined
pub of_both : {X E : Type 0} (r : Result X E) (P Q R : X → Type 0) → ((x : X) → P x → Q x → R x) → IfOk r P → IfOk r Q → IfOk r R
of_both (Ok x) P Q R h p q = h x p q
of_both (Err e) P Q R h p q = p

pub no_quantifier : (n : Node) → ((x : Var) (j : ℕ) → n ≡ node.Exists x j → ⊥) → is_quantifier n ≡ false
no_quantifier (node.Exists x j) h = absurd (h x j refl)
no_quantifier _ h = refl

pub node_read : (g : Flow) (f : FormulaOf) (i : ℕ) (x : Node) → slice_get f.nodes i ≡ Some x → node_at g f i ≡ x
node_read g f i x h = get_or_from_slice_get f.nodes i x node.True h

module _ (g : Flow) (f : FormulaOf) (rows : List (List Entries)) (ready : AreReady g f rows) (most i s : ℕ) (r : InRange g f most i s) where
  pub row_there : i < length rows
  row_there = let l = r.within in let p = ready.sets.parts in omega (arith, l, p)

  pub node_there : s < length (slice_index_or rows i [])
  node_there = let l = r.node in let p = ready.sets.nodes i r.within in omega (arith, l, p)

  pub all_wide : (k : ℕ) → k < length rows → length (slice_index_or rows k []) ≡ count_of g
  all_wide k l = let p = ready.sets.parts in ready.sets.nodes k (omega (arith, l, p))

  good : IsGood f.decls f.tokens (at (plains f.nodes) i)
  good = part_good f.decls f.tokens (at (plains f.nodes) i) (plain f)
      (record { guarded_by_parts = ready.formula.guarded_by_parts; stand = ready.stand }) r.part

  pub part_stands : EachPattern (SureStand f.decls f.tokens) (at (plains f.nodes) i)
  part_stands = good.stand

  -- the values that the set assigns are those under which the part holds
  pub values_hold : (x : Var) → IsBound f x i → AllRise (set_at rows i s) → (env : Environment) (v : Value)
      → chosen x env (set_at rows i s) v ≡ holds_at g f (change env x v) i s
  values_hold x b rise env v = values_told g f rows ready.sound ready.sets most i s r part_stands x b rise env v

  module _ (x : Node) (is : at (plains f.nodes) i ≡ plain_of (plains f.nodes) x) (low : below i x ≡ true) where
    abbrev OfPart : ℕ → Type 0
    OfPart k = IsPart (at (plains f.nodes) k) (plain f)

    each_of_part : EachKid OfPart x
    each_of_part = each_part (plains f.nodes) (plain f) x (subst (λ h. IsPart h (plain f)) is r.part)

    pub below_rows : below (length rows) x ≡ true
    below_rows = below_all (length rows) x (each_kid (λ k. k < i) OfPart (λ k. k < length rows)
        (λ k l p. let here = row_there in omega (arith, l, here)) x (each_below i x low) each_of_part)

    -- in range, up to the part itself
    abbrev Fine : ℕ → Type 0
    Fine k = (k < length f.nodes) × (k ≤ i) × OfPart k

    each_fine : EachKid Fine x
    each_fine = each_kid (λ k. k < i) OfPart Fine
        (λ k l p. let w = r.within in (omega (arith, l, w), omega (arith, l), p)) x (each_below i x low) each_of_part

    pub kid_in_range : (H : ℕ → ℕ → Bool) (k : ℕ × ℕ) → Contains (kids g H x i s) k → InRange g f i k.0 k.1
    kid_in_range H k c =
        let fine = kid_fine g ready.sound H Fine x i s r.node each_fine (λ u. (r.within, omega arith, r.part)) k c in
        record { within = fine.0.0; low = fine.0.1; part = fine.0.2; node = fine.1 }

    -- an item of the list of parts that it leads to
    pub item_in_range : (env : Environment) (ks : List (ℕ × ℕ)) → ks ≡ kids g (told rows env) x i s → (k : ℕ × ℕ) → Contains ks k → InRange g f i k.0 k.1
    item_in_range env ks e k c = kid_in_range (told rows env) k (subst (λ l. Contains l k) e c)

    -- a part's own part
    pub own_in_range : (v : Var) (j : ℕ) → x ≡ node.Exists v j → InRange g f j j s
    own_in_range v j e =
        let fine : Fine j = subst (EachKid Fine) e each_fine in
        record { within = fine.0; low = omega arith; part = fine.2; node = r.node }

    pub own_below : (v : Var) (j : ℕ) → x ≡ node.Exists v j → j < i
    own_below v j e = subst (EachKid (λ k. k < i)) e (each_below i x low)

    pub own_bound : (v : Var) (j : ℕ) → x ≡ node.Exists v j → IsBound f v j
    own_bound v j e =
        let shape : at (plains f.nodes) i ≡ Exists v (at (plains f.nodes) j) = is ∙ ap (plain_of (plains f.nodes)) e in
        and_left (bound (sure f.decls f.tokens) (at (plains f.nodes) j) v) _
        (subst (λ h. guarded (sure f.decls f.tokens) h ≡ true) shape good.guarded_by_parts)

    -- the node leads to the same parts by the sets as by where its parts hold
    pub kids_told : (env : Environment) → kids g (told rows env) x i s ≡ kids g (holds_at g f env) x i s
    kids_told env =
        let at_part : (k : ℕ) → k < length f.nodes → OfPart k → Agree g ready.sound (told rows env) (holds_at g f env) k =
        λ k l p t lt. told_is_holds g f rows ready.sound ready.sets k t l p lt env in
        kids_agree g ready.sound (told rows env) (holds_at g f env) x i s r.node
        (each_kid (λ k. k < i) OfPart (Agree g ready.sound (told rows env) (holds_at g f env))
        (λ k l p. let w = r.within in at_part k (omega (arith, l, w)) p) x (each_below i x low) each_of_part)
        (λ u. at_part i r.within r.part)
