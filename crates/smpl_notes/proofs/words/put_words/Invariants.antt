use Rattle.std.proofs.Common.{◌≡◌, drop}
use Rattle.smpl_notes.specs.Names.{with_words}
use Rattle.smpl_notes.proofs.words.put_words.Given as goal

abbrev pub invariant-loop-t : goal.invariant-loop-t
invariant-loop-t l = with_words l.words (drop l.t-index l.tokens) ≡ with_words l.initial.words l.tokens
