use Rattle.std.proofs.Common.{◌≡◌, false, take}
use Rattle.std.specs.List.{list_any}
use Rattle.c_terms.specs.Same.{same_bytes}
use Rattle.pat_match.proofs.kinds.is_excepted.Given as goal

abbrev pub invariant-loop-name : goal.invariant-loop-name
invariant-loop-name l = list_any (λ n. same_bytes n l.token.text) (take l.name-index l.name-items) ≡ false
