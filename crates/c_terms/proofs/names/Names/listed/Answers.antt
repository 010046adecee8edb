use Rattle.std.proofs.Common.{arith}
use Rattle.c_terms.specs.Names.{listed_names}
use Rattle.c_terms.proofs.NamesLemmas.{added-more}
use Rattle.c_terms.proofs.names.Names.listed.Goals as goal

pub loop-i-preserved : goal.loop-i-preserved
loop-i-preserved c =
    added-more listed_names c.loop-i.names c.add.new.self c.loop-i.i c.listed_name.result.now c.in_ok-from_bytes.field-0 (omega arith)
    c.loop-i.invariant c.listed_name.ensures c.in_ok-from_bytes.ensures.bytes c.in_ok-add.ensures.ok
