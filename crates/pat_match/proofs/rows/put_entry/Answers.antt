use Rattle.std.proofs.Common.{ap, ◌∙◌, arith}
use Rattle.std.specs.List.{list_all}
use Rattle.env_sets.specs.Sets.{set_denotes, set_vars}
use Rattle.pat_match.specs.Rows.{set_at}
use Rattle.pat_match.proofs.EveryLemmas.{set_at-set, set_at-past, all_set}
use Rattle.pat_match.proofs.rows.put_entry.Goals as goal

pub returns-then-taken-len-clause-meaning : goal.returns-then-taken-len-clause-meaning
returns-then-taken-len-clause-meaning c = λ n env lt.
    set_at-past _ _ c.args.entry.now.taken n _ (omega (arith, c.if-taken-len.true, c.len.ensures, c.args.sets.now.ok.0)) lt

pub returns-clause-meaning : goal.returns-clause-meaning
returns-clause-meaning c = λ n env lt. set_at-set c.args.sets.now.items c.args.entry.now.taken n c.in_ok-set.set env _
    (set_denotes c.args.entry.now.set env) (omega (arith, c.if-taken-len.false, c.len.ensures, c.args.sets.now.ok.0)) (c.in_ok-set.ensures.meaning env)
    (ap (λ s. set_denotes s env) c.set_at.ensures.value
    ∙ ap (λ l. set_at l c.args.entry.now.taken env) c.as_slice.ensures.value)

pub returns-clause-vars : goal.returns-clause-vars
returns-clause-vars c = λ t all here. all_set (set_vars t) c.args.sets.now.items c.args.entry.now.taken c.in_ok-set.set all
    (c.in_ok-set.ensures.vars t (c.set_at.ensures.vars t (ap (list_all (set_vars t)) c.as_slice.ensures.value ∙ all)) here)
