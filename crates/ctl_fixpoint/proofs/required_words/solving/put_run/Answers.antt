use Rattle.std.proofs.Common.{◌||◌, ap}
use Rattle.env_sets.specs.Sets.{set_denotes}
use Rattle.ctl_fixpoint.proofs.RequiredWords.FormGroupLemmas.{run-skipped}
use Rattle.ctl_fixpoint.proofs.required_words.solving.put_run.Goals as goal

pub returns-then-is_absent-clause-meaning : goal.returns-then-is_absent-clause-meaning
returns-then-is_absent-clause-meaning c = λ env. ap (λ b. set_denotes c.args.entries.now.items env || b)
    (run-skipped c.args.target.now.context.now.decls.now c.args.target.now.context.now.tokens.now c.args.target.now.context.now.types.now env
    c.args.target.now.p.now
    c.args.target.now.role c.args.target.now.tree.now c.args.form_group.now.word
    c.args.first c.args.form_group.now.end c.requires.in_order c.requires.run (c.is_absent.ensures c.if-is_absent.true))
