use Rattle.read_laws.proofs.IsoOnce.ExpandLemmas.{bodies-once, patch-once, many-once, expanded-apart}
use Rattle.read_laws.proofs.iso_once.patches_are_expanded_once.Goals as goal

pub returns : goal.returns
returns c = record { bodies = bodies-once; whole = patch-once; rule = many-once; apart = expanded-apart }
