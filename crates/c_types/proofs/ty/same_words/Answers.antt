use Rattle.std.proofs.Common.{arith}
use Rattle.c_types.proofs.TypeLemmas.{words-uneven}
use Rattle.c_types.proofs.ty.same_words.Goals as goal

pub returns-then-a-b : goal.returns-then-a-b
returns-then-a-b c = words-uneven c.args.a.now c.args.b.now (λ e. omega (arith, e))
