-- What is explored stays explored when states and trees are added, and growth is transitive.
use Rattle.std.proofs.Common.{ℕ, ◌≤◌, sym, subst, arith, List}
use Rattle.cfg_build.specs.CfgGraph.Flow.{Flow}
use Rattle.smpl_terms.specs.Environments.{Environment}
use Rattle.smpl_patch.specs.declared.witness.Witness.{Witness}
use Rattle.smpl_patch.specs.declared.witness.Witness.TheVariants.{Bind}
use Rattle.ctl_formula.specs.Formulas.{FormulaOf}
use Rattle.wit_forest.specs.declared.states.State.{State}
use Rattle.wit_forest.specs.Gathered.{Covered, InRange, IsExplored, Grows, forest_at}
use Rattle.smpl_terms.specs.Environments.{change}
use Rattle.wit_forest.proofs.AddLemmas.{covered_more}

module _ (g : Flow) (f : FormulaOf) where
  covered_grows : (most : ℕ) (states more : List State) (found trees : List Witness) → Grows g f most states more found trees
      → (i s : ℕ) (env : Environment) → Covered states i s env → Covered more i s env
  covered_grows most states more found trees r i s env c =
      subst (λ l. Covered l i s env) (sym r.longer) (covered_more states r.rest i s env c)

  pub explored_more : (most : ℕ) (states more : List State) (found trees : List Witness) → Grows g f most states more found trees
      → (i s : ℕ) (env : Environment) → IsExplored g f states found i s env → IsExplored g f more trees i s env
  explored_more most states more found trees r i s env ex = record {
    own = λ z h. r.kept z (ex.own z h);
    kid = λ k c. covered_grows most states more found trees r k.0 k.1 env (ex.kid k c);
    hidden = λ x j q b v m h. covered_grows most states more found trees r j s (change env x v) (ex.hidden x j q b v m h);
    shown = λ x j q b v m h. r.kept (Bind s x v (forest_at g f j s (change env x v))) (ex.shown x j q b v m h);
  }

  pub range_more : (least most i s : ℕ) → least ≤ most → InRange g f least i s → InRange g f most i s
  range_more least most i s le r = record {
    within = r.within;
    low = (let l = r.low in omega (arith, le, l));
    part = r.part;
    node = r.node;
  }

  pub grows_more : (least most : ℕ) (states more : List State) (found trees : List Witness) → least ≤ most → Grows g f least states more found trees
      → Grows g f most states more found trees
  grows_more least most states more found trees le r = record {
    rest = r.rest;
    longer = r.longer;
    kept = r.kept;
    range = λ one c. range_more least most one.part one.node le (r.range one c);
  }
