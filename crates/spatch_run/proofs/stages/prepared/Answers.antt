use Rattle.std.proofs.Common.{sym, ◌∙◌}
use Rattle.std.proofs.lemmas.Bool.{false≢true}
use Rattle.spatch_run.proofs.stages.prepared.Goals as goal

pub prove-unreachable-requires : goal.prove-unreachable-requires
prove-unreachable-requires c =
    let memory = c.is_no_memory_for_formulas-is_memory.ensures.1 (c.requires.formulas c.in-Err.fault c.in-Err.ensures.fault) in
    absurd (false≢true (sym c.if-prove.true ∙ memory))
