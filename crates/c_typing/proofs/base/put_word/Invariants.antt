use Rattle.std.proofs.Common.{◌≡◌, ◌++◌, take}
use Rattle.c_typing.specs.Base.{times}
use Rattle.c_typing.proofs.base.put_word.Given as goal

abbrev pub invariant-loop-child : goal.invariant-loop-child
invariant-loop-child l = l.found ≡ l.initial.found ++ times l.word (take l.child-index l.children)
