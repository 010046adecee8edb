use Rattle.std.proofs.Common.{◌≡◌, false, take, bytes_eq}
use Rattle.std.specs.List.{list_any}
use Rattle.run_words.proofs.walk.is_among.Given as goal

-- none so far is the name
abbrev pub invariant-loop-other : goal.invariant-loop-other
invariant-loop-other l = list_any (λ n. bytes_eq l.name n.now) (take l.other-index l.names) ≡ false
