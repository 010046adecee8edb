use Rattle.std.proofs.Common.{◌≡◌, List, drop}
use Rattle.c_terms.specs.declared.tree.Tree.{Tree}
use Rattle.c_terms.specs.Names.{listed_names}
use Rattle.smpl_body.specs.Spelled.{AreRead}
use Rattle.smpl_body.specs.SoFar.{WithCodes}
use Rattle.smpl_body.proofs.spelled.put_codes.Given as goal

abbrev pub invariant-loop-code : goal.invariant-loop-code
invariant-loop-code l = record {
  into : (all : List Tree) → WithCodes l.trees.items all (drop l.code-index l.codes) → WithCodes l.fn.trees.items all l.codes;
  none : ((ts : List Tree) → AreRead (drop l.code-index l.codes) ts → ⊥) → (ts : List Tree) → AreRead l.codes ts → ⊥;
  names : l.names ≡ listed_names;
}
