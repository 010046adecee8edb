-- Witnesses by the number of their rule.
use Rattle.std.specs.Borrow.{Bor}
use Rattle.std.specs.Prelude.{◌≡◌, map, Vec, ℕ, ◌<◌, eqb, List, [], get_or, length}
use Rattle.std.specs.List.{filter}
use Rattle.smpl_patch.specs.declared.witness.RuleWitness.{RuleWitness}

-- the witnesses of rule n
abbrev pub own : ℕ → List RuleWitness → List RuleWitness
own n witnesses = filter (λ w. eqb w.rule n) witnesses

-- one group for each of `count` rules, with the rule's witnesses
pub record AreGroups (count : ℕ) (witnesses : List RuleWitness) (groups : List (List RuleWitness)) : Type 0 where
  pub many : length groups ≡ count
  pub each : (n : ℕ) → n < count → get_or groups n [] ≡ own n witnesses

-- the witnesses that lists of borrows lead to
abbrev pub shown_groups : {Z : Type 0} → List (Vec (Bor RuleWitness) Z) → List (List RuleWitness)
shown_groups groups = map (λ group. map (λ w. w.now) group.items) groups
