use Rattle.std.proofs.Common.{◌≡◌, ◌++◌, List, refl}
use Rattle.std.proofs.lemmas.Result.{IfOk-weaker}
use Rattle.smpl_patch.specs.declared.rule.Rule.{Rule}
use Rattle.rule_chain.specs.RuleWords.{kept_on}
use Rattle.rule_chain.specs.Stops.{AreNumbered, told_last}
use Rattle.rule_chain.proofs.WordLemmas.{last_needed, last_all, last_none}
use Rattle.rule_chain.proofs.notes.with_last.Goals as goal

pub returns-in-All : goal.returns-in-All
returns-in-All c = λ ran numbered.
    let rules = c.args.rules.now in
    let reading = c.args.reading.now in
    last_all rules.unread rules.patch.now.rules rules.prepared.now.rules rules.words.now reading.file.now reading.loaded reading.number ran
    c.args.skipped c.args.skipped c.in-All.is refl

pub returns-in-None : goal.returns-in-None
returns-in-None c = λ ran numbered.
    let rules = c.args.rules.now in
    let reading = c.args.reading.now in
    last_none rules.unread rules.patch.now.rules rules.prepared.now.rules rules.words.now reading.file.now reading.loaded reading.number ran
    c.args.skipped c.args.skipped c.in-None.is refl

pub returns-in-Needed : goal.returns-in-Needed
returns-in-Needed c =
    let rules = c.args.rules.now in
    let reading = c.args.reading.now in
    IfOk-weaker c.with_needed.result
    (λ now. now ≡ c.args.skipped ++ kept_on rules.words.now c.args.ran.now reading.loaded reading.number reading.file.now)
    (λ now. (ran_rules : List Rule) → AreNumbered rules.patch.now.rules ran_rules c.args.ran.now
    → now ≡ c.args.skipped ++ told_last rules.unread ran_rules reading.loaded reading.number reading.file.now)
    (λ now e ran numbered.
    last_needed rules.unread rules.patch.now.rules rules.prepared.now.rules rules.words.now reading.file.now reading.loaded reading.number ran
    c.args.skipped now c.in-Needed.is rules.prepared_are rules.words_are c.args.ran.now numbered e) c.with_needed.ensures
