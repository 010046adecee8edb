use Rattle.std.proofs.Common.{ap, ◌∙◌, List, map}
use Rattle.smpl_patch.specs.declared.witness.RuleWitness.{RuleWitness}
use Rattle.rule_envs.specs.FileEnvs as envs
use Rattle.rule_chain.proofs.FileWitnesses.AddLemmas.{join_next, part_next}
use Rattle.rule_chain.proofs.file_witnesses.whole.joined.Goals as goal

pub loop-list-preserved : goal.loop-list-preserved
loop-list-preserved c = record {
  witnesses = join_next c.loop-list.witnesses c.append.new.self c.in-Some.list c.loop-list.yielded c.loop-list.invariant.witnesses c.in_ok-append.ensures;
  parts = part_next c.args.exports.now c.loop-list.parts c.push.new.self c.in_ok-part.part c.in-Some.list c.loop-list.yielded c.loop-list.invariant.parts
      c.in_ok-push.ensures.ok
      (c.in_ok-part.ensures.envs ∙ ap (λ (ws : List RuleWitness). envs.exported c.args.exports.now (map (λ w. w.env) ws)) c.as_slice.ensures);
}
