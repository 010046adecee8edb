use Rattle.std.proofs.Common.{◌≡◌, ◌++◌, refl, ap, sym, ◌∙◌, subst}
use Rattle.smpl_terms.specs.Values.{same}
use Rattle.env_sets.specs.Sets.{set_denotes, set_vars}
use Rattle.env_sets.specs.Ascending.{Ascend}
use Rattle.env_sets.specs.Blocks.{all_entries}
use Rattle.env_sets.proofs.BlockLemmas.{blocks_ascend, blocks_in_order, all_parts_of_three, ascend_without}
use Rattle.env_sets.proofs.RemovedLemmas.{without_meaning, without_vars, nothing_taken}
use Rattle.env_sets.proofs.removed.without_in_block.Goals as goal

pub returns-then-is_empty-clause-meaning : goal.returns-then-is_empty-clause-meaning
returns-then-is_empty-clause-meaning c = λ env.
    let front = c.split_at.result.0.now in
    let fixed = c.split_at-2.result.0.now in
    let back = c.split_at-2.result.1.now in
    let xs = all_entries c.args.before.now ++ front in
    let ys = back ++ all_entries c.args.after.now in
    let parts : all_entries c.args.blocks.now ≡ xs ++ (fixed ++ ys) =
    all_parts_of_three c.args.blocks.now c.args.before.now c.args.after.now c.args.block.now front c.split_at.result.1.now fixed back c.requires.parts
    (sym c.as_slice-entries.ensures.items ∙ c.split_at.ensures.by_index.0) c.split_at-2.ensures.by_index.0 in
    ap (λ bs. set_denotes (all_entries bs) env) c.in_ok-share.ensures.same
    ∙ nothing_taken (all_entries c.args.blocks.now) xs fixed ys env (same c.args.v.now (env c.args.x.now)) parts
    (sym c.is_empty.ensures ∙ c.if-is_empty.true)
    (without_meaning (all_entries c.args.blocks.now) xs fixed ys env (same c.args.v.now (env c.args.x.now)) parts
    (blocks_ascend c.args.blocks.now c.requires.order)
    (λ k. ap (λ es. set_denotes es env) c.split_at-2.ensures.front ∙ c.count_at.ensures.fixed env k)
    (c.if-not-ends_below.ensures refl env) (c.if-not-begins_above.ensures refl env))

pub returns-clause-meaning : goal.returns-clause-meaning
returns-clause-meaning c = λ env.
    let front = c.split_at.result.0.now in
    let fixed = c.split_at-2.result.0.now in
    let back = c.split_at-2.result.1.now in
    let xs = all_entries c.args.before.now ++ front in
    let ys = back ++ all_entries c.args.after.now in
    let parts : all_entries c.args.blocks.now ≡ xs ++ (fixed ++ ys) =
    all_parts_of_three c.args.blocks.now c.args.before.now c.args.after.now c.args.block.now front c.split_at.result.1.now fixed back c.requires.parts
    (sym c.as_slice-entries.ensures.items ∙ c.split_at.ensures.by_index.0) c.split_at-2.ensures.by_index.0 in
    ap (λ es. set_denotes es env) c.in_ok-without_between.ensures
    ∙ without_meaning (all_entries c.args.blocks.now) xs fixed ys env (same c.args.v.now (env c.args.x.now)) parts
    (blocks_ascend c.args.blocks.now c.requires.order)
    (λ k. ap (λ es. set_denotes es env) c.split_at-2.ensures.front ∙ c.count_at.ensures.fixed env k)
    (c.if-not-ends_below.ensures refl env) (c.if-not-begins_above.ensures refl env)

pub returns-clause-vars : goal.returns-clause-vars
returns-clause-vars c = λ t h.
    let front = c.split_at.result.0.now in
    let fixed = c.split_at-2.result.0.now in
    let back = c.split_at-2.result.1.now in
    let xs = all_entries c.args.before.now ++ front in
    let ys = back ++ all_entries c.args.after.now in
    let parts : all_entries c.args.blocks.now ≡ xs ++ (fixed ++ ys) =
    all_parts_of_three c.args.blocks.now c.args.before.now c.args.after.now c.args.block.now front c.split_at.result.1.now fixed back c.requires.parts
    (sym c.as_slice-entries.ensures.items ∙ c.split_at.ensures.by_index.0) c.split_at-2.ensures.by_index.0 in
    ap (set_vars t) c.in_ok-without_between.ensures
    ∙ without_vars (all_entries c.args.blocks.now) xs fixed ys t parts h

pub returns-clause-order : goal.returns-clause-order
returns-clause-order c =
    let front = c.split_at.result.0.now in
    let fixed = c.split_at-2.result.0.now in
    let back = c.split_at-2.result.1.now in
    let xs = all_entries c.args.before.now ++ front in
    let ys = back ++ all_entries c.args.after.now in
    let parts : all_entries c.args.blocks.now ≡ xs ++ (fixed ++ ys) =
    all_parts_of_three c.args.blocks.now c.args.before.now c.args.after.now c.args.block.now front c.split_at.result.1.now fixed back c.requires.parts
    (sym c.as_slice-entries.ensures.items ∙ c.split_at.ensures.by_index.0) c.split_at-2.ensures.by_index.0 in
    blocks_in_order c.in_ok-without_between.field-0 (subst Ascend (sym c.in_ok-without_between.ensures)
    (ascend_without xs fixed ys (subst Ascend parts (blocks_ascend c.args.blocks.now c.requires.order))))
