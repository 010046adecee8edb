use Rattle.std.proofs.Common.{None, Some}
use Rattle.spatch_run.proofs.Beginning.{unfed_first, follows_refusal}
use Rattle.spatch_run.proofs.Few.{none_asked}
use Rattle.spatch_run.proofs.stages.follow_words.Goals as goal

pub follow_texts-requires-clause-texts : goal.follow_texts-requires-clause-texts
follow_texts-requires-clause-texts g c κs within =
    let p = rw c.in-Ok-Some.field-0-is at c.in-Ok-Some.ensures in
    rw (c.deref.ensures.value, p.0) p.1

pub text_fault-fault-requires : goal.text_fault-fault-requires
text_fault-fault-requires g c = rw c.in-Ok-None.field-0-is at c.in-Ok-None.ensures

pub returns-in-Err-clause-ends : goal.returns-in-Err-clause-ends
returns-in-Err-clause-ends g c =
    unfed_first _ _ _

pub returns-in-Ok-None-clause-ends : goal.returns-in-Ok-None-clause-ends
returns-in-Ok-None-clause-ends g c =
    follows_refusal c.args.words.now (Some c.text_fault-fault.result)
    (none_asked c.args.words.now (rw c.in-Ok-None.field-0-is at c.in-Ok-None.ensures)) c.text_fault-fault.ensures.fault (c.refuse_words.ensures.ends _ _ _ _ _)

pub returns-in-Ok-Some-clause-ends : goal.returns-in-Ok-Some-clause-ends
returns-in-Ok-Some-clause-ends g c =
    let p = rw c.in-Ok-Some.field-0-is at c.in-Ok-Some.ensures in
    rw (c.deref.ensures.value, p.0) at c.follow_texts.ensures.ends
