-- Environments that give metavariables only terms, and touches at which the metavariables that a pattern uses have terms.
use Rattle.std.specs.Prelude.{◌≡◌, ◌++◌, Bool, true, false, List, Contains, Some, slice_get}
use Rattle.c_terms.specs.declared.tree.Tree.{Tree}
use Rattle.c_terms.specs.Places.{Place}
use Rattle.cpp_lines.specs.declared.reading.Item.{Item}
use Rattle.cfg_build.specs.declared.cfg_graph.label.NodeLabel.{NodeLabel}
use Rattle.cfg_build.specs.CfgGraph.Flow.{Flow}
use Rattle.smpl_terms.specs.declared.var.Var.{Var}
use Rattle.smpl_terms.specs.declared.value.Value.{Value}
use Rattle.smpl_terms.specs.declared.value.Value.TheVariants.{Term}
use Rattle.smpl_terms.specs.Environments.{value_in}
use Rattle.smpl_patch.specs.declared.pattern.Pattern.{Pattern}
use Rattle.smpl_patch.specs.declared.rule.Rule.{Rule}
use Rattle.smpl_patch.specs.Bodies.{body}
use Rattle.smpl_patch.specs.Shapes.{patterns_body}
use Rattle.smpl_patch.specs.Patterns.{used}
use Rattle.pat_match.specs.Spots.{seats}
use Rattle.pattern_vars.specs.Reads.{is_declared}
use Rattle.wit_forest.specs.WitTrees.Forest.{is_hidden}
use Rattle.env_parts.specs.Parts.{Pairs}
use Rattle.rule_envs.specs.declared.file_env.FileEnv.{FileEnv}
use Rattle.edit_marks.specs.EditWalk.Touches.{Touched}
use Rattle.rule_chain.specs.FileWitnesses.Seen.{seen_graph}
use Rattle.insert_laws.specs.TermLaws.Terms.{is_term, IsNoPosition}

-- if the environment has a value for a variable that passes, the value is a term
abbrev pub GivesTerms : (Var → Bool) → Pairs → Type 0
GivesTerms metas env = (x : Var) → metas x ≡ true → (v : Value) → value_in env x ≡ Some v → is_term v ≡ true

abbrev pub CarriesTerms : (Var → Bool) → FileEnv → Type 0
CarriesTerms metas c = GivesTerms metas c.env

-- the variables that pass are positions at no token of the rule, and none is the hidden variable of a block
pub record AreMetas (metas : Var → Bool) (rule : Rule) : Type 0 where
  pub no_positions : (x : Var) → metas x ≡ true → IsNoPosition rule.tokens x
  pub not_hidden : (x : Var) → metas x ≡ true → is_hidden x ≡ false

-- the touch is of a node of its item's graph as the rule sees it, and its path leads to a subtree with which the pattern is compared there
pub record StandsAt (rule : Rule) (items : List Item) (p : Pattern) (t : Touched) : Type 0 where
  pub graph : Flow
  pub graph_is : seen_graph rule items t.item ≡ Some graph
  pub label : NodeLabel
  pub label_is : slice_get graph.labels t.node ≡ Some label
  pub seat : Place
  pub seat_is : Contains (seats p.spot label.kind label.tree) seat
  pub path_is : t.path ≡ label.path ++ seat.path

-- The touch is one of an atom of the rule's body, in these items. Each variable of the rule that passes and is used in the
-- atom's pattern, including in plus code, has a value at the touch, and it is a term.
pub record ShowsTerms (metas : Var → Bool) (rule : Rule) (items : List Item) (t : Touched) : Type 0 where
  pub pattern : Pattern
  pub among : Contains (patterns_body (body rule.body)) pattern
  pub atom : pattern.atom ≡ t.atom
  pub stands : StandsAt rule items pattern t
  pub each : (x : Var) → used rule.vars rule.tokens pattern x ≡ true → metas x ≡ true → is_declared rule.vars x ≡ true
      → (u : Tree) × (value_in t.env x ≡ Some (Term u))
