use Rattle.std.proofs.Common.{◌++◌, ap, ◌∙◌, sym}
use Rattle.smpl_body.proofs.SmplElem.CountLemmas.{join-last}
use Rattle.smpl_body.proofs.smpl_elem.sequence.joined.Goals as goal

pub loop-part-preserved : goal.loop-part-preserved
loop-part-preserved c = c.in_ok-append.ensures ∙ ap (λ a. a ++ c.in-Some.part) c.loop-part.invariant ∙ sym (join-last c.loop-part.yielded c.in-Some.part)
