-- The parts of a formula, their numbers in its table, and its patterns.
use Rattle.std.specs.Prelude.{◌≡◌, ℕ, ◌<◌, ◌⊎◌, List, length}
use Rattle.std.specs.Coded.{×_prop, Unit-prop}
use Rattle.smpl_patch.specs.declared.pattern.Pattern.{Pattern}
use Rattle.ctl_formula.specs.Plain.{Plain, True, Atom, EarlyExit, BraceOpen, BraceClose, Inside, Outside, Not, And, Or, AX, EX, AU}
use Rattle.ctl_formula.specs.Plain.{EU, After, InBranch, Exists}
use Rattle.ctl_formula.specs.declared.node.Node.{Node}
use Rattle.ctl_formula.specs.declared.node.Node.TheVariants as node
use Rattle.ctl_formula.specs.Tables.{at, plains}

-- h is f, or a part of one of its parts
abbrev pub IsPart : Plain → Plain → Type 0
IsPart h True = h ≡ True
IsPart h (Atom p) = h ≡ Atom p
IsPart h EarlyExit = h ≡ EarlyExit
IsPart h (BraceOpen p b) = h ≡ BraceOpen p b
IsPart h (BraceClose p b) = h ≡ BraceClose p b
IsPart h (Inside b) = h ≡ Inside b
IsPart h (Outside b) = h ≡ Outside b
IsPart h (Not f) = (h ≡ Not f) ⊎ IsPart h f
IsPart h (And f k) = (h ≡ And f k) ⊎ (IsPart h f ⊎ IsPart h k)
IsPart h (Or f k) = (h ≡ Or f k) ⊎ (IsPart h f ⊎ IsPart h k)
IsPart h (AX f) = (h ≡ AX f) ⊎ IsPart h f
IsPart h (EX f) = (h ≡ EX f) ⊎ IsPart h f
IsPart h (AU f k) = (h ≡ AU f k) ⊎ (IsPart h f ⊎ IsPart h k)
IsPart h (EU f k) = (h ≡ EU f k) ⊎ (IsPart h f ⊎ IsPart h k)
IsPart h (After f) = (h ≡ After f) ⊎ IsPart h f
IsPart h (InBranch i f) = (h ≡ InBranch i f) ⊎ IsPart h f
IsPart h (Exists x f) = (h ≡ Exists x f) ⊎ IsPart h f

-- P holds of each pattern of the formula
abbrev pub EachPattern : (Pattern → Type 0) → Plain → Type 0
EachPattern P True = Unit {0}
EachPattern P (Atom p) = P p
EachPattern P EarlyExit = Unit {0}
EachPattern P (BraceOpen p b) = P p
EachPattern P (BraceClose p b) = P p
EachPattern P (Inside b) = Unit {0}
EachPattern P (Outside b) = Unit {0}
EachPattern P (Not f) = EachPattern P f
EachPattern P (And f h) = EachPattern P f × EachPattern P h
EachPattern P (Or f h) = EachPattern P f × EachPattern P h
EachPattern P (AX f) = EachPattern P f
EachPattern P (EX f) = EachPattern P f
EachPattern P (AU f h) = EachPattern P f × EachPattern P h
EachPattern P (EU f h) = EachPattern P f × EachPattern P h
EachPattern P (After f) = EachPattern P f
EachPattern P (InBranch i f) = EachPattern P f
EachPattern P (Exists x f) = EachPattern P f

-- this has one proof, if P has one for each pattern
pub each_pattern-prop : (P : Pattern → Type 0) → ((p : Pattern) → IsProp (P p)) → (f : Plain) → IsProp (EachPattern P f)
each_pattern-prop P h True = Unit-prop
each_pattern-prop P h (Atom p) = h p
each_pattern-prop P h EarlyExit = Unit-prop
each_pattern-prop P h (BraceOpen p b) = h p
each_pattern-prop P h (BraceClose p b) = h p
each_pattern-prop P h (Inside b) = Unit-prop
each_pattern-prop P h (Outside b) = Unit-prop
each_pattern-prop P h (Not f) = each_pattern-prop P h f
each_pattern-prop P h (And f k) = ×_prop (each_pattern-prop P h f) (each_pattern-prop P h k)
each_pattern-prop P h (Or f k) = ×_prop (each_pattern-prop P h f) (each_pattern-prop P h k)
each_pattern-prop P h (AX f) = each_pattern-prop P h f
each_pattern-prop P h (EX f) = each_pattern-prop P h f
each_pattern-prop P h (AU f k) = ×_prop (each_pattern-prop P h f) (each_pattern-prop P h k)
each_pattern-prop P h (EU f k) = ×_prop (each_pattern-prop P h f) (each_pattern-prop P h k)
each_pattern-prop P h (After f) = each_pattern-prop P h f
each_pattern-prop P h (InBranch i f) = each_pattern-prop P h f
each_pattern-prop P h (Exists x f) = each_pattern-prop P h f

-- P holds of the pattern of a node of a table, if the node has one
abbrev pub OwnPattern : (Pattern → Type 0) → Node → Type 0
OwnPattern P (node.Atom p) = P p
OwnPattern P (node.BraceOpen p b) = P p
OwnPattern P (node.BraceClose p b) = P p
OwnPattern P _ = Unit {0}

-- some node of the table is the formula
abbrev pub HasNumber : List Node → Plain → Type 0
HasNumber nodes h = (i : ℕ) × (i < length nodes) × (at (plains nodes) i ≡ h)
