-- The parts of a node are parts of the formula, if the node is one.
use Rattle.std.proofs.Common.{ℕ, inl, inr, refl, List}
use Rattle.ctl_formula.specs.Plain.{Plain, True, Atom, EarlyExit, BraceOpen, BraceClose, Inside, Outside, Not, And, Or, AX, EX, AU, EU, After, InBranch, Exists}
use Rattle.ctl_formula.specs.Tables.{at, plain_of}
use Rattle.ctl_formula.specs.declared.node.Node.{Node}
use Rattle.ctl_formula.specs.declared.node.Node.TheVariants as node
use Rattle.ctl_fixpoint.specs.CtlHolds.Parts.{IsPart}
use Rattle.wit_forest.proofs.KidRangeLemmas.{EachKid}
use Rattle.wit_forest.proofs.TellLemmas.{part_trans}

pub part_itself : (f : Plain) → IsPart f f
part_itself True = refl
part_itself (Atom p) = refl
part_itself EarlyExit = refl
part_itself (BraceOpen p v) = refl
part_itself (BraceClose p v) = refl
part_itself (Inside b) = refl
part_itself (Outside b) = refl
part_itself (Not f) = inl refl
part_itself (And f h) = inl refl
part_itself (Or f h) = inl refl
part_itself (AX f) = inl refl
part_itself (EX f) = inl refl
part_itself (AU f h) = inl refl
part_itself (EU f h) = inl refl
part_itself (After f) = inl refl
part_itself (InBranch i f) = inl refl
part_itself (Exists x f) = inl refl

module _ (fs : List Plain) (whole : Plain) where
  abbrev pub OfWhole : ℕ → Type 0
  OfWhole i = IsPart (at fs i) whole

  pub each_part : (n : Node) → IsPart (plain_of fs n) whole → EachKid OfWhole n
  each_part node.True p = tt
  each_part (node.Atom q) p = tt
  each_part node.EarlyExit p = tt
  each_part (node.BraceOpen q v) p = tt
  each_part (node.BraceClose q v) p = tt
  each_part (node.Inside b) p = tt
  each_part (node.Outside b) p = tt
  each_part (node.Not i) p = part_trans (at fs i) (Not (at fs i)) whole (inr (part_itself (at fs i))) p
  each_part (node.And i j) p = (
    part_trans (at fs i) (And (at fs i) (at fs j)) whole (inr (inl (part_itself (at fs i)))) p,
    part_trans (at fs j) (And (at fs i) (at fs j)) whole (inr (inr (part_itself (at fs j)))) p,
  )
  each_part (node.Or i j) p = (
    part_trans (at fs i) (Or (at fs i) (at fs j)) whole (inr (inl (part_itself (at fs i)))) p,
    part_trans (at fs j) (Or (at fs i) (at fs j)) whole (inr (inr (part_itself (at fs j)))) p,
  )
  each_part (node.AX i) p = part_trans (at fs i) (AX (at fs i)) whole (inr (part_itself (at fs i))) p
  each_part (node.EX i) p = part_trans (at fs i) (EX (at fs i)) whole (inr (part_itself (at fs i))) p
  each_part (node.AU i j) p = (
    part_trans (at fs i) (AU (at fs i) (at fs j)) whole (inr (inl (part_itself (at fs i)))) p,
    part_trans (at fs j) (AU (at fs i) (at fs j)) whole (inr (inr (part_itself (at fs j)))) p,
  )
  each_part (node.EU i j) p = (
    part_trans (at fs i) (EU (at fs i) (at fs j)) whole (inr (inl (part_itself (at fs i)))) p,
    part_trans (at fs j) (EU (at fs i) (at fs j)) whole (inr (inr (part_itself (at fs j)))) p,
  )
  each_part (node.After i) p = part_trans (at fs i) (After (at fs i)) whole (inr (part_itself (at fs i))) p
  each_part (node.InBranch v i) p = part_trans (at fs i) (InBranch v (at fs i)) whole (inr (part_itself (at fs i))) p
  each_part (node.Exists x i) p = part_trans (at fs i) (Exists x (at fs i)) whole (inr (part_itself (at fs i))) p
