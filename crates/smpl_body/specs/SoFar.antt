-- What is kept while trees are read: the body's tree first, then those of the pieces of code.
use Rattle.std.specs.Prelude.{◌≡◌, ⊤, List, [], ◌∷◌, ◌++◌}
use Rattle.c_terms.specs.declared.tree.Tree.{Tree}
use Rattle.smpl_meta.specs.declared.patterns.Placed.{Placed}
use Rattle.smpl_body.specs.declared.smpl_when.cutting.Code.{Code}
use Rattle.smpl_body.specs.Spelled.{AreRead}
use Rattle.smpl_patch.specs.declared.elem.Elem.{Elem}
use Rattle.smpl_body.specs.declared.smpl_when.clauses.WhenFlags.{WhenFlags}
use Rattle.smpl_body.specs.Bodies.{Spells, body_elements}

-- the trees of the pieces of code follow the trees before
pub record WithCodes (before all : List Tree) (codes : List Code) : Type 0 where
  pub trees : List Tree
  pub is : all ≡ before ++ trees
  pub are : AreRead codes trees

-- the first tree spells the body, and the others the code of its clauses
pub record AllSpell (ps : List Placed) (all : List Tree) : Type 0 where
  pub body : Tree
  pub codes : List Tree
  pub is : all ≡ body ∷ codes
  pub spells : Spells ps body codes

-- the elements, if there is a first tree
abbrev pub IsMade : List WhenFlags → List Tree → List Elem → Type 0
IsMade said [] es = ⊤
IsMade said (t ∷ cs) es = es ≡ body_elements said t cs
