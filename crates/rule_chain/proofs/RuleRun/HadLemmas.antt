-- Whether a rule has had a witness.
use Rattle.std.proofs.Common.{◌≡◌, ◌<◌, ℕ, refl, arith, List, [], ◌∷◌, ◌++◌, length}
use Rattle.smpl_patch.specs.declared.witness.RuleWitness.{RuleWitness}
use Rattle.rule_chain.specs.RuleRun.OneRule.{had_after}

pub had_none : (had : List ℕ) (number : ℕ) (ws : List RuleWitness) → length ws ≡ 0 → had_after had number ws ≡ had
had_none had number [] e = refl
had_none had number (w ∷ ws) e = absurd (omega arith)

pub had_some : (had : List ℕ) (number : ℕ) (ws : List RuleWitness) → 0 < length ws → had_after had number ws ≡ had ++ number ∷ []
had_some had number [] lt = absurd (omega arith)
had_some had number (w ∷ ws) lt = refl
