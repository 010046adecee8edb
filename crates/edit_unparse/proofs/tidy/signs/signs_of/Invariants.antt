use Rattle.std.proofs.Common.{◌≡◌, map, take}
use Rattle.edit_unparse.specs.Tidy.Commas.{sign_of}
use Rattle.edit_unparse.specs.Tidy.Made.{part_in}
use Rattle.edit_unparse.proofs.tidy.signs.signs_of.Given as goal

abbrev pub invariant-loop-part : goal.invariant-loop-part
invariant-loop-part l = l.signs.items ≡ map (λ p. sign_of (part_in l.lexed p)) (take l.part-index l.parts)
