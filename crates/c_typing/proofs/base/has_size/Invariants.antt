use Rattle.std.proofs.Common.{◌≡◌, false, take}
use Rattle.std.specs.List.{list_any}
use Rattle.c_typing.specs.Base.{is_size}
use Rattle.c_typing.proofs.base.has_size.Given as goal

abbrev pub invariant-loop-word : goal.invariant-loop-word
invariant-loop-word l = list_any is_size (take l.word-index l.words) ≡ false
