use Rattle.spatch_run.proofs.RunEnds.StatusLemmas.{is_fine, is_found, is_refused}
use Rattle.spatch_run.proofs.run_ends.laws.runs_are_complete.Goals as goal

pub returns-clause-fine : goal.returns-clause-fine
returns-clause-fine c = λ words before now old new status patch lines defined mode names acts some calm ends ready there none unhit.
    is_fine c.acts_are_one_list.ensures.files words before now old new status patch lines defined mode names acts some calm ends ready there none unhit

pub returns-clause-hit : goal.returns-clause-hit
returns-clause-hit c = λ words before now old new status patch lines defined mode names acts some calm ends ready there none hit.
    is_found c.acts_are_one_list.ensures.files words before now old new status patch lines defined mode names acts some calm ends ready there
    c.acts_are_one_list.ensures.treated none hit

pub returns-clause-refused : goal.returns-clause-refused
returns-clause-refused c = λ words before now old new status patch lines defined mode names acts some calm ends ready there refused.
    is_refused c.acts_are_one_list.ensures.files words before now old new status patch lines defined mode names acts some calm ends ready there
    c.acts_are_one_list.ensures.treated refused
