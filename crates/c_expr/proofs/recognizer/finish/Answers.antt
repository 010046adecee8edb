use Rattle.std.proofs.Common.{[], refl, ap, ◌∙◌}
use Rattle.c_rows.specs.Facts.{branch_facts, allows_facts}
use Rattle.c_expr.proofs.RecognizerLemmas.{finish_done, finish_over}
use Rattle.c_expr.proofs.recognizer.finish.Goals as goal

pub returns-then-spot-most-clause-refused : goal.returns-then-spot-most-clause-refused
returns-then-spot-most-clause-refused c = record { fault = refl; none = finish_over c.args.most [] c.args.rule c.args.spot.now c.if-spot-most.true }

pub returns-clause-found : goal.returns-clause-found
returns-clause-found c =
    finish_done c.args.most [] c.args.rule c.args.spot.now c.allows_facts.result c.branch_facts.result _ refl refl refl refl
    (c.branch_facts.ensures.value ∙ ap (branch_facts c.args.rule) c.as_slice-parts.ensures.value)
    (c.allows_facts.ensures.value ∙ ap (allows_facts c.args.rule) c.as_slice-parts.ensures.value) c.if-not-allows_facts.false c.if-spot-most.false
