use Rattle.std.proofs.Common.{arith}
use Rattle.c_terms.proofs.SameLemmas.{bytes-uneven}
use Rattle.c_terms.proofs.same.same_text.Goals as goal

pub returns-then-a-b : goal.returns-then-a-b
returns-then-a-b c = record { value = bytes-uneven c.args.a.now c.args.b.now (λ e. omega (arith, e)) }
