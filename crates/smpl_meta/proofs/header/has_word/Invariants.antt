use Rattle.std.proofs.Common.{◌≡◌, drop}
use Rattle.smpl_meta.specs.Heads.{has_word}
use Rattle.smpl_meta.proofs.header.has_word.Given as goal

abbrev pub invariant-loop-t : goal.invariant-loop-t
invariant-loop-t l = has_word l.text (drop l.t-index l.tokens) ≡ has_word l.text l.tokens
