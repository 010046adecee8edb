use Rattle.std.proofs.Common.{◌≡◌, take, map}
use Rattle.c_file.specs.Tokens.{token_at}
use Rattle.c_file.proofs.token.tokens_in.Given as goal

abbrev pub invariant-loop-number : goal.invariant-loop-number
invariant-loop-number l = l.tokens.items ≡ map (token_at l.visible.pieces) (take l.number-index l.numbers)
