use Rattle.std.proofs.Common.{◌∙◌}
use Rattle.std.proofs.lemmas.Result.{IfOk-weaker}
use Rattle.run_words.specs.Forms.{shown_walk}
use Rattle.run_words.proofs.Told.{walked}
use Rattle.run_words.proofs.walk.first_fault.Goals as goal

pub returns : goal.returns
returns c = IfOk-weaker c.ended.result _ _
    (λ f h. h ∙ walked c.args.words.now c.loop-word.word-index (shown_walk c.loop-word.walk) c.loop-word-test.false c.loop-word.invariant) c.ended.ensures
