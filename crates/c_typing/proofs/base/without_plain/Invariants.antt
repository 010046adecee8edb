use Rattle.std.proofs.Common.{◌≡◌, take}
use Rattle.c_typing.specs.Base.{without_plain}
use Rattle.c_typing.proofs.base.without_plain.Given as goal

abbrev pub invariant-loop-word : goal.invariant-loop-word
invariant-loop-word l = l.kept ≡ without_plain (take l.word-index l.words)
