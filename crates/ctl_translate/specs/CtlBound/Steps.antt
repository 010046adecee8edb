-- What a node says, given what its parts say and what it names: neither patterns nor variables are needed for that.
use Rattle.std.specs.Prelude.{◌≡◌, ℕ, Bool, true, false, not, ◌&&◌, ◌||◌, nat_lt, List, Some, slice_get, slice_index_or}
use Rattle.ctl_formula.specs.declared.node.Node.{Node}
use Rattle.ctl_formula.specs.declared.node.Node.TheVariants as node
use Rattle.ctl_translate.specs.declared.ctl_bound.masks.Binds.{Binds}
use Rattle.ctl_translate.specs.declared.ctl_bound.steps.Step.{Step}
use Rattle.ctl_translate.specs.declared.ctl_bound.steps.Step.TheVariants as step

abbrev pub step_of : Node → Step
step_of node.True = step.True
step_of (node.Atom p) = step.Atom
step_of node.EarlyExit = step.Atom
step_of (node.BraceOpen p b) = step.Atom
step_of (node.BraceClose p b) = step.Atom
step_of (node.Inside b) = step.Atom
step_of (node.Outside b) = step.Atom
step_of (node.Not f) = step.Not f
step_of (node.And f g) = step.And f g
step_of (node.Or f g) = step.Or f g
step_of (node.AX f) = step.Next f
step_of (node.EX f) = step.Next f
step_of (node.AU f g) = step.Until f g
step_of (node.EU f g) = step.Until f g
step_of (node.After f) = step.Moved f
step_of (node.InBranch b f) = step.Moved f
step_of (node.Exists y f) = step.Exists f

-- the numbers of its parts are below n
abbrev pub is_below : ℕ → Step → Bool
is_below n step.True = true
is_below n step.Atom = true
is_below n (step.Not f) = nat_lt f n
is_below n (step.And f g) = nat_lt f n && nat_lt g n
is_below n (step.Or f g) = nat_lt f n && nat_lt g n
is_below n (step.Next f) = nat_lt f n
is_below n (step.Until f g) = nat_lt f n && nat_lt g n
is_below n (step.Moved f) = nat_lt f n
is_below n (step.Exists f) = nat_lt f n

-- the parts of each are earlier ones
abbrev pub AreOrdered : List Step → Type 0
AreOrdered steps = (i : ℕ) (s : Step) → slice_get steps i ≡ Some s → is_below i s ≡ true

-- what `true` says
abbrev pub of_true : Binds
of_true = record { holding = false; failing = true; guarded = true }

-- what a part says, by its number
abbrev pub said_at : List Binds → ℕ → Binds
said_at known f = slice_index_or known f of_true

-- what a step says about a variable, given what earlier ones say about it and whether its node names it
abbrev pub says : List Binds → Bool → Step → Binds
says known own step.True = of_true
says known own step.Atom = record { holding = own; failing = false; guarded = true }
says known own (step.Not f) = record {
  holding = (said_at known f).failing;
  failing = (said_at known f).holding;
  guarded = (said_at known f).guarded;
}
says known own (step.And f g) = record {
  holding = (said_at known f).holding || (said_at known g).holding;
  failing = (said_at known f).failing && (said_at known g).failing;
  guarded = (said_at known f).guarded && (said_at known g).guarded;
}
says known own (step.Or f g) = record {
  holding = (said_at known f).holding && (said_at known g).holding;
  failing = (said_at known f).failing || (said_at known g).failing;
  guarded = (said_at known f).guarded && (said_at known g).guarded;
}
says known own (step.Next f) = said_at known f
says known own (step.Until f g) = record {
  holding = (said_at known g).holding;
  failing = (said_at known g).failing;
  guarded = (said_at known f).guarded && (said_at known g).guarded;
}
says known own (step.Moved f) = record {
  holding = (said_at known f).holding;
  failing = false;
  guarded = (said_at known f).guarded;
}
says known own (step.Exists f) = record {
  holding = (said_at known f).holding && not own;
  failing = (said_at known f).failing && not own;
  guarded = (not own || (said_at known f).holding) && (said_at known f).guarded;
}
