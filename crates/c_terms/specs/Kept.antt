-- The bytes of a text, as it keeps them.
use Rattle.std.specs.Prelude.{ℕ, List, take}
use Rattle.std.specs.Arc.{arc_slice_items}
use Rattle.c_terms.specs.declared.text.Kept.{Kept}
use Rattle.c_terms.specs.declared.text.Kept.TheVariants.{Short, Long}

abbrev pub kept_bytes : Kept → List ℕ
kept_bytes (Short s) = take s.len s.bytes
kept_bytes (Long shared) = arc_slice_items shared
