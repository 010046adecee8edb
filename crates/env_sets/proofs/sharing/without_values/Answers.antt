use Rattle.std.proofs.Common.{not, sym}
use Rattle.std.specs.List.{list_any}
use Rattle.smpl_terms.specs.Values.{same}
use Rattle.env_sets.proofs.SharingLemmas.{rest_alone, rest_alone_vars}
use Rattle.env_sets.proofs.sharing.without_values.Goals as goal

pub with_blocks-requires : goal.with_blocks-requires
with_blocks-requires c = rw c.in-Some.is at c.in_ok-blocks_outside.ensures.order

pub returns-in-Some-clause-meaning : goal.returns-in-Some-clause-meaning
returns-in-Some-clause-meaning c = λ env.
    rest_alone c.args.set.now c.by_order.result.0.now c.with_blocks.result c.new.result.items c.by_order.result.1.now c.in-Some.left
    (not (list_any (λ v. same v (env c.args.x.now)) c.args.values.now)) env c.by_order.ensures.entries (sym c.if-not-is_empty.ensures)
    c.new.ensures.items c.with_blocks.ensures.entries ((rw c.in-Some.is at c.in_ok-blocks_outside.ensures.meaning) env)

pub returns-in-Some-clause-vars : goal.returns-in-Some-clause-vars
returns-in-Some-clause-vars c = λ t h.
    rest_alone_vars c.args.set.now c.by_order.result.0.now c.with_blocks.result c.new.result.items c.by_order.result.1.now c.in-Some.left t
    c.by_order.ensures.entries (sym c.if-not-is_empty.ensures) c.new.ensures.items c.with_blocks.ensures.entries
    ((rw c.in-Some.is at c.in_ok-blocks_outside.ensures.vars) t) h
