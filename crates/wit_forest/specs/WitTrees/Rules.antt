-- The witnesses of a rule in one item: by nodes, then by the values of the exported variables, which range over all values
-- of the graph in order, the first variable slowest. Each has its forest.
use Rattle.std.specs.Prelude.{ℕ, ◌+◌, List, [], ◌∷◌, map}
use Rattle.std.specs.List.{filter, flat_map}
use Rattle.std.specs.declared.cmp.Ordering.{Ordering}
use Rattle.std.specs.declared.cmp.Ordering.TheVariants.{Less, Equal, Greater}
use Rattle.cfg_build.specs.CfgGraph.Flow.{Flow, count_of}
use Rattle.smpl_terms.specs.declared.var.Var.{Var}
use Rattle.smpl_terms.specs.declared.value.Value.{Value}
use Rattle.smpl_terms.specs.Vars.{with_pair}
use Rattle.smpl_terms.specs.Values.{value_order}
use Rattle.smpl_terms.specs.Environments.{total}
use Rattle.smpl_patch.specs.declared.pattern.PatToken.{PatToken}
use Rattle.smpl_patch.specs.declared.pattern.VarDecl.{VarDecl}
use Rattle.smpl_patch.specs.declared.witness.RuleWitness.{RuleWitness}
use Rattle.ctl_formula.specs.Plain.{Plain}
use Rattle.ctl_fixpoint.specs.CtlHolds.Values.{values_of}
use Rattle.ctl_fixpoint.specs.CtlHolds.Rounds.{holds}
use Rattle.wit_forest.specs.WitTrees.Forest.{numbers}
use Rattle.wit_forest.specs.WitTrees.Graphs.{forest_of}

abbrev pub value_placed : Ordering → Value → Value → List Value → List Value → List Value
value_placed Less v u us more = v ∷ u ∷ us
value_placed Equal v u us more = u ∷ us
value_placed Greater v u us more = u ∷ more

abbrev pub put_value : Value → List Value → List Value
put_value v [] = v ∷ []
put_value v (u ∷ us) = value_placed (value_order v u) v u us (put_value v us)

-- the values in order, each once
abbrev pub in_order : List Value → List Value
in_order [] = []
in_order (v ∷ vs) = put_value v (in_order vs)

-- the environment with each choice of values of the variables
abbrev pub choices : List Value → List Var → List (Var × Value) → List (List (Var × Value))
choices values [] env = env ∷ []
choices values (x ∷ xs) env = flat_map (λ v. choices values xs (with_pair env x v)) values

module _ (decls : List VarDecl) (tokens : List PatToken) (g : Flow) (f : Plain) (exports : List Var) (rule item : ℕ) where
  abbrev pub witness_at : ℕ → List (Var × Value) → RuleWitness
  witness_at s env = record {
    rule = rule;
    item = item;
    node = s;
    env = env;
    forest = forest_of decls tokens g f s (total env);
  }

  abbrev pub witnesses_at : ℕ → List (Var × Value) → List RuleWitness
  witnesses_at s env = map (witness_at s)
      (filter (λ e. holds decls tokens g (count_of g + 1) f s (total e)) (choices (in_order (values_of g)) exports env))

  -- env gives the inherited variables their values
  abbrev pub witnesses_of : List (Var × Value) → List RuleWitness
  witnesses_of env = flat_map (λ s. witnesses_at s env) (numbers (count_of g))
