use Rattle.std.proofs.Common.{◌≡◌, false, take}
use Rattle.std.specs.Prelude.{codes}
use Rattle.std.specs.List.{list_any}
use Rattle.c_typing.specs.Base.{is_keyword}
use Rattle.c_typing.proofs.base.is_typedef.Given as goal

abbrev pub invariant-loop-child : goal.invariant-loop-child
invariant-loop-child l = list_any (is_keyword (codes "typedef")) (take l.child-index l.child-items) ≡ false
