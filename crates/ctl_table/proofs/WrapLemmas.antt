-- The parts that dots are made of.
use Rattle.std.proofs.Common.{◌≡◌, Bool, true, ap}
use Rattle.ctl_formula.specs.Plain.{Plain, And, Or, AU, EU, Not}
use Rattle.ctl_table.specs.Table as table

pub until-all : (forall_walks strict : Bool) (d t : Plain) → forall_walks ≡ true
    → table.until forall_walks strict d t ≡ And (AU d (table.or_early_exit strict t)) (EU d t)
until-all forall_walks strict d t e = ap (λ b. table.until b strict d t) e

pub nested-plus : (forall_walks plus strict : Bool) (d p t : Plain) → plus ≡ true
    → table.nested forall_walks plus strict d p t ≡ And (table.until forall_walks strict (And d (Or p (Not p))) t) (EU d (And (And d p) (EU d t)))
nested-plus forall_walks plus strict d p t e = ap (λ b. table.nested forall_walks b strict d p t) e
