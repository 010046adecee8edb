use Rattle.std.proofs.Common.{◌≡◌, ◌++◌, drop}
use Rattle.std.specs.List.{flat_map}
use Rattle.outer_io.specs.EscapedNames.Escapes.{escaped_byte}
use Rattle.outer_io.proofs.escaped_names.escaped_name.Given as goal

abbrev pub invariant-loop-byte : goal.invariant-loop-byte
invariant-loop-byte l = l.escaped.items ++ flat_map escaped_byte (drop l.byte-index l.name) ≡ l.initial.escaped.items ++ flat_map escaped_byte l.name
