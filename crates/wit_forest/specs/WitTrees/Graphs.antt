-- Forests over the nodes of a graph.
use Rattle.std.specs.Prelude.{ℕ, ◌+◌, if◌then◌else◌, Option, None, Some, List, [], map, slice_get}
use Rattle.c_types.specs.Tables.{ItemTypes}
use Rattle.cfg_build.specs.declared.cfg_graph.label.NodeLabel.{NodeLabel}
use Rattle.cfg_build.specs.CfgGraph.Flow.{Flow, count_of}
use Rattle.smpl_terms.specs.Environments.{Environment}
use Rattle.smpl_patch.specs.declared.pattern.Pattern.{Pattern}
use Rattle.smpl_patch.specs.declared.pattern.PatToken.{PatToken}
use Rattle.smpl_patch.specs.declared.pattern.VarDecl.{VarDecl}
use Rattle.smpl_patch.specs.declared.witness.Witness.{Witness}
use Rattle.pat_match.specs.Matching.{aligns}
use Rattle.ctl_formula.specs.Plain.{Plain}
use Rattle.ctl_fixpoint.specs.CtlHolds.Values.{values_of}
use Rattle.ctl_fixpoint.specs.CtlHolds.Rounds.{holds}
use Rattle.wit_forest.specs.WitTrees.Marks.{is_touched}
use Rattle.wit_forest.specs.WitTrees.Forest.{World, forest}

module _ (decls : List VarDecl) (tokens : List PatToken) where
  -- the places where the pattern is aligned, given the types that are known
  abbrev pub paths_at : ItemTypes → Pattern → Environment → Option NodeLabel → List (List ℕ)
  paths_at types p env None = []
  paths_at types p env (Some l) = map (λ a. a.path) (aligns decls tokens types env p l)

  -- the nodes of a graph: an until considers walks of at most one more node than there are
  abbrev pub world_of : Flow → World
  world_of g = record {
    graph = g;
    values = values_of g;
    holds = holds decls tokens g (count_of g + 1);
    touches = λ p s env. if is_touched tokens p then paths_at g.types p env (slice_get g.labels s) else [];
    decls = decls;
  }

  abbrev pub forest_of : Flow → Plain → ℕ → Environment → List Witness
  forest_of g = forest (world_of g)
