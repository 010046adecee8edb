use Rattle.std.proofs.Common.{◌∙◌, ap}
use Rattle.run_words.specs.OptionNames.{distance}
use Rattle.run_words.proofs.Told.{near_other, near_spelled}
use Rattle.run_words.proofs.option_name.is_near.Goals as goal

pub returns-then-is_spelling : goal.returns-then-is_spelling
returns-then-is_spelling c =
    near_spelled c.args.word.now c.args.option c.is_spelling.result c.is_spelling.ensures c.if-is_spelling.true

pub returns-else-is_spelling : goal.returns-else-is_spelling
returns-else-is_spelling c =
    near_other c.args.word.now c.args.option c.is_spelling.result c.in_ok-distance.distance c.is_spelling.ensures c.if-is_spelling.false
    (c.in_ok-distance.ensures.value ∙ ap (distance c.args.word.now) c.text.ensures.text)
