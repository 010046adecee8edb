use Rattle.std.proofs.Common.{◌≡◌, ◌++◌, drop}
use Rattle.smpl_body.specs.Bodies.{nested_hosts}
use Rattle.smpl_body.proofs.edges.put_nested.Given as goal

abbrev pub invariant-loop-code : goal.invariant-loop-code
invariant-loop-code l = l.found ++ nested_hosts (drop l.code-index l.codes) ≡ l.initial.found ++ nested_hosts l.codes
