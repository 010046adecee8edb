use Rattle.std.proofs.Common.{◌≡◌, drop}
use Rattle.smpl_notes.specs.Names.{declared_words, words_from}
use Rattle.smpl_notes.proofs.words.declared_words.Given as goal

abbrev pub invariant-loop-r : goal.invariant-loop-r
invariant-loop-r l = words_from l.words (drop l.r-index l.rules) ≡ declared_words l.rules
