use Rattle.std.proofs.Common.{refl, arith, length, take, drop, ◌-◌, [], ◌++◌, ◌||◌, sym, ap, ◌∙◌}
use Rattle.env_sets.specs.Sets.{set_denotes}
use Rattle.env_sets.specs.Blocks.{all_entries}
use Rattle.env_sets.proofs.BlockLemmas.{after_step, after_block, with_first, nothing_of_own}
use Rattle.env_sets.proofs.same.after.Goals as goal

pub loop-own-preserved-in-len1-up : goal.loop-own-preserved-in-len1-up
loop-own-preserved-in-len1-up c = λ env r h.
    c.loop-own.invariant env r
    (after_block c.loop-own.left.now c.block-item.result c.loop-own.rest.now
    (take (length c.loop-own.rest.now - 1) (drop 1 c.loop-own.rest.now)) env (set_denotes c.loop-own.own.now env || r)
    (sym c.is_empty.ensures ∙ c.if-is_empty.true)
    (with_first c.loop-own.rest.now [] c.loop-own.rest.now
    (take (length c.loop-own.rest.now - 1) (drop 1 c.loop-own.rest.now)) c.block-item.result refl c.in-len1-up.len_at_least c.block-item.is refl)
    (ap (λ b. set_denotes (b ++ all_entries (take (length c.loop-own.rest.now - 1) (drop 1 c.loop-own.rest.now))) env) (sym c.as_slice-left.ensures.items) ∙ h))

pub loop-own-preserved : goal.loop-own-preserved
loop-own-preserved c = λ env r h.
    c.loop-own.invariant env r
    (after_step c.loop-own.own.now c.split_at.result.0.now c.split_at.result.1.now c.loop-own.left.now
    c.split_at-else-is_empty.result.0.now c.split_at-else-is_empty.result.1.now c.loop-own.rest.now env r
    c.split_at.ensures.by_index.0 c.split_at-else-is_empty.ensures.by_index.0 (c.if-not-same_entries.ensures refl env) h)

pub returns : goal.returns
returns c = λ env.
    c.loop-own.invariant env (set_denotes (c.loop-own.left.now ++ all_entries c.loop-own.rest.now) env)
    (nothing_of_own c.loop-own.own.now env (set_denotes (c.loop-own.left.now ++ all_entries c.loop-own.rest.now) env) (omega arith))
