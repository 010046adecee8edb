-- What contracts see of a list that copies share.
use Rattle.std.specs.Prelude.{List, [], Option, Some, None, Vec}
use Rattle.std.specs.declared.sync.Arc.{Arc}

-- the items, if there are any
abbrev pub items_of : {T Z Y : Type 0} → Option (Arc (Vec T Z) Y) → List T
items_of None = []
items_of (Some shared) = shared.value.items
