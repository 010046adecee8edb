-- Plain formulas, and how large they are.
use Rattle.std.specs.Prelude.{ℕ, ◌+◌, max, Bool, ◌&&◌, nat_le}
use Rattle.smpl_terms.specs.declared.var.Var.{Var}
use Rattle.smpl_patch.specs.declared.pattern.Pattern.{Pattern}

pub data Plain : Type 0 where
  True : Plain
  Atom : Pattern → Plain
  -- the node begins a body that leaves the function
  EarlyExit : Plain
  -- a brace, and the variable whose value is the place of the `{`
  BraceOpen : Pattern → Var → Plain
  BraceClose : Pattern → Var → Plain
  -- the node is in the block whose `{` is the variable's value; the node is neither in that block nor at its `}`
  Inside : Var → Plain
  Outside : Var → Plain
  Not : Plain → Plain
  And : Plain → Plain → Plain
  Or : Plain → Plain → Plain
  AX : Plain → Plain
  EX : Plain → Plain
  AU : Plain → Plain → Plain
  EU : Plain → Plain → Plain
  -- at the node past the statement; at the statement's body with this number
  After : Plain → Plain
  InBranch : ℕ → Plain → Plain
  Exists : Var → Plain → Plain

-- how many subformulas there are, f itself included; a part that occurs twice counts twice
abbrev pub size : Plain → ℕ
size True = 1
size (Atom p) = 1
size EarlyExit = 1
size (BraceOpen p b) = 1
size (BraceClose p b) = 1
size (Inside b) = 1
size (Outside b) = 1
size (Not f) = 1 + size f
size (And f g) = 1 + size f + size g
size (Or f g) = 1 + size f + size g
size (AX f) = 1 + size f
size (EX f) = 1 + size f
size (AU f g) = 1 + size f + size g
size (EU f g) = 1 + size f + size g
size (After f) = 1 + size f
size (InBranch i f) = 1 + size f
size (Exists x f) = 1 + size f

-- the largest number of subformulas around any one subformula
abbrev pub depth : Plain → ℕ
depth True = 0
depth (Atom p) = 0
depth EarlyExit = 0
depth (BraceOpen p b) = 0
depth (BraceClose p b) = 0
depth (Inside b) = 0
depth (Outside b) = 0
depth (Not f) = 1 + depth f
depth (And f g) = 1 + max (depth f) (depth g)
depth (Or f g) = 1 + max (depth f) (depth g)
depth (AX f) = 1 + depth f
depth (EX f) = 1 + depth f
depth (AU f g) = 1 + max (depth f) (depth g)
depth (EU f g) = 1 + max (depth f) (depth g)
depth (After f) = 1 + depth f
depth (InBranch i f) = 1 + depth f
depth (Exists x f) = 1 + depth f

-- the largest number of subformulas that a formula may have, and of those around one
abbrev pub most_parts : ℕ
most_parts = 100000

abbrev pub most_around : ℕ
most_around = 4000

abbrev pub fits : Plain → Bool
fits f = nat_le (size f) most_parts && nat_le (depth f) most_around
