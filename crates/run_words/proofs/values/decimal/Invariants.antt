use Rattle.std.proofs.Common.{◌≡◌, ◌<◌, ◌^◌, drop}
use Rattle.run_words.specs.Values.{number_in}
use Rattle.run_words.proofs.Numbers.{number_from}
use Rattle.run_words.proofs.values.decimal.Given as goal

-- the digits so far and the remaining ones represent the number
abbrev pub invariant-loop-b : goal.invariant-loop-b
invariant-loop-b l = record { same : number_in l.digits ≡ number_from l.n (drop l.b-index l.digits); small : l.n < 2 ^ 64 }
