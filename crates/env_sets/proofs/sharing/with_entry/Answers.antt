use Rattle.std.proofs.Common.{◌++◌, ap, ◌∙◌}
use Rattle.env_sets.specs.Sets.{set_denotes}
use Rattle.env_sets.proofs.AddedLemmas.{covered}
use Rattle.env_sets.proofs.SharingLemmas.{with_rest, with_rest_vars, first_holds}
use Rattle.env_sets.proofs.sharing.with_entry.Goals as goal

pub returns-then-first_cover-clause-meaning : goal.returns-then-first_cover-clause-meaning
returns-then-first_cover-clause-meaning c = λ env.
    ap (λ es. set_denotes es env) c.in_ok-copy.ensures.same
    ∙ covered _ _ (λ k. first_holds c.args.set.now c.by_order.result.0.now c.by_order.result.1.now env c.by_order.ensures.entries
    (c.first_cover.ensures c.if-first_cover.true env k))

pub returns-in_ok-put_entries-in-Some-clause-meaning : goal.returns-in_ok-put_entries-in-Some-clause-meaning
returns-in_ok-put_entries-in-Some-clause-meaning c = λ env.
    with_rest c.args.set.now c.by_order.result.0.now c.put_entries.new.out.items c.with_blocks.result c.by_order.result.1.now c.in-Some.rest c.args.e.now env
    c.by_order.ensures.entries (c.in_ok-put_entries-in-Some.ensures
    ∙ ap (λ es. es ++ c.by_order.result.0.now) c.in_ok-copies-in-Some.ensures.items) c.with_blocks.ensures.entries
    ((rw c.in-Some.is at c.in_ok-blocks_with.ensures.meaning) env)

pub returns-in_ok-put_entries-in-Some-clause-vars : goal.returns-in_ok-put_entries-in-Some-clause-vars
returns-in_ok-put_entries-in-Some-clause-vars c = λ t h k.
    with_rest_vars c.args.set.now c.by_order.result.0.now c.put_entries.new.out.items c.with_blocks.result c.by_order.result.1.now c.in-Some.rest t
    c.by_order.ensures.entries (c.in_ok-put_entries-in-Some.ensures
    ∙ ap (λ es. es ++ c.by_order.result.0.now) c.in_ok-copies-in-Some.ensures.items) c.with_blocks.ensures.entries
    (λ all. (rw c.in-Some.is at c.in_ok-blocks_with.ensures.vars) t all k) h

pub with_blocks-requires : goal.with_blocks-requires
with_blocks-requires c = rw c.in-Some.is at c.in_ok-blocks_with.ensures.order
