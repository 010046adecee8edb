use Rattle.edit_marks.proofs.Tidied.WalkLemmas.{made_fit, made_plain}
use Rattle.edit_marks.proofs.tidy.walk.tidied_edits.Goals as goal

pub returns-clause-fit : goal.returns-clause-fit
returns-clause-fit c = made_fit c.args.witnesses.now c.args.rule.now c.args.items.now c.args.nodes.now c.args.lexed.now c.in_ok-made.made c.in_ok-made.ensures

pub returns-clause-plain : goal.returns-clause-plain
returns-clause-plain c = λ sound.
    made_plain c.args.witnesses.now c.args.rule.now c.args.items.now c.args.nodes.now c.args.lexed.now c.in_ok-made.made c.in_ok-made.ensures sound
