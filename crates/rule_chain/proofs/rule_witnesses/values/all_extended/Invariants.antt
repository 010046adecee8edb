use Rattle.std.proofs.Common.{List, [], ◌∷◌, drop}
use Rattle.env_parts.specs.Parts.{Pairs}
use Rattle.env_sets.specs.Sets.{Entries}
use Rattle.rule_chain.specs.RuleWitnesses.Opened.{AreOpen}
use Rattle.rule_chain.specs.RuleWitnesses.Extended.{AreChoices}
use Rattle.rule_chain.proofs.RuleWitnesses.ExtendLemmas.{AllNew}
use Rattle.rule_chain.proofs.rule_witnesses.values.all_extended.Given as goal

abbrev pub invariant-loop-i : goal.invariant-loop-i
invariant-loop-i l = record {
  new : AllNew (drop l.i l.vars) l.envs.items;
  back : (set : Entries) → AreOpen set l.vars l.sets → (result : List Pairs) → AreChoices set (drop l.i l.vars) l.envs.items result
      → AreChoices set l.vars (l.env ∷ []) result;
}
