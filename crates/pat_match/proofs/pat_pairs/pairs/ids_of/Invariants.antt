use Rattle.std.proofs.Common.{◌≡◌, ◌++◌, drop}
use Rattle.c_terms.specs.Trees.{leaves}
use Rattle.pat_match.specs.PatPairs.Pairs.{ids_of}
use Rattle.pat_match.proofs.pat_pairs.pairs.ids_of.Given as goal

abbrev pub invariant-loop-token : goal.invariant-loop-token
invariant-loop-token l = l.ids ++ ids_of (drop l.token-index l.token-items) ≡ ids_of (leaves l.tree)
