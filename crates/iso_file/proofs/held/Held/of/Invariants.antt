use Rattle.std.proofs.Common.{◌≡◌, ◌||◌, ℕ, List, drop}
use Rattle.c_terms.specs.Names.{has_name}
use Rattle.iso_file.specs.Lost.{stands_in}
use Rattle.iso_file.proofs.held.Held.of.Given as goal

abbrev pub invariant-loop-t : goal.invariant-loop-t
invariant-loop-t l = (text : List ℕ) → has_name l.held text || stands_in (drop l.t-index l.tokens) text ≡ stands_in l.tokens text
