-- What the nodes of a table touch: for atoms and braces each place where they are aligned, and nothing else.
use Rattle.std.specs.Prelude.{ℕ, List, [], map}
use Rattle.cfg_build.specs.CfgGraph.Flow.{Flow}
use Rattle.smpl_terms.specs.Environments.{Environment}
use Rattle.smpl_patch.specs.declared.pattern.Pattern.{Pattern}
use Rattle.smpl_patch.specs.declared.pattern.PatToken.{PatToken}
use Rattle.smpl_patch.specs.declared.pattern.VarDecl.{VarDecl}
use Rattle.smpl_patch.specs.declared.witness.Witness.{Witness}
use Rattle.smpl_patch.specs.declared.witness.Witness.TheVariants.{Touch}
use Rattle.ctl_formula.specs.declared.node.Node.{Node}
use Rattle.ctl_formula.specs.declared.node.Node.TheVariants as node
use Rattle.wit_forest.specs.WitTrees.Graphs.{world_of}

module _ (decls : List VarDecl) (tokens : List PatToken) (g : Flow) where
  abbrev pub touches_of : Pattern → ℕ → Environment → List Witness
  touches_of p s env = map (λ path. Touch s p.atom path) ((world_of decls tokens g).touches p s env)

  abbrev pub own_touches : Node → ℕ → Environment → List Witness
  own_touches (node.Atom p) s env = touches_of p s env
  own_touches (node.BraceOpen p b) s env = touches_of p s env
  own_touches (node.BraceClose p b) s env = touches_of p s env
  own_touches _ s env = []
