use Rattle.std.proofs.Common.{ap, sym, map, ◌∙◌}
use Rattle.std.proofs.lemmas.Result.{IfOk-weaker}
use Rattle.rule_envs.specs.Shares.{bare_file_env}
use Rattle.rule_chain.proofs.PassLemmas.{resting, resting_untouched, resting_text, resting_told, resting_findings}
use Rattle.rule_chain.proofs.passing.untouched.Goals as goal

pub returns : goal.returns
returns c =
    let bytes = c.args.bytes.items in
    IfOk-weaker c.answer.result _ _
    (λ applied h choice. (
      resting bytes,
      (
        resting_untouched bytes,
        h choice (resting bytes)
            (resting_findings bytes _ (ap (map bare_file_env) c.in_ok-first_file_envs.ensures.file_envs) c.new.ensures c.new-2.ensures)
            (resting_text bytes) (resting_told bytes choice ∙ sym c.new-3.ensures),
      ),
    )) c.answer.ensures
