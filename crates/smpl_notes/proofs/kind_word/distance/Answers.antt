use Rattle.std.proofs.Common.{◌∙◌, ap}
use Rattle.smpl_notes.specs.KindWords.{distance}
use Rattle.smpl_notes.proofs.kind_word.distance.Goals as goal

pub returns : goal.returns
unfolding distance
returns c = c.in_ok-generic_levenshtein.ensures.value ∙ ap (distance c.args.word.now) c.text.ensures.text
