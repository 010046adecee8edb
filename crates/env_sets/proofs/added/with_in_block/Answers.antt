use Rattle.std.proofs.Common.{◌++◌, ap, sym, ◌∙◌, subst}
use Rattle.env_sets.specs.Sets.{set_denotes, set_vars}
use Rattle.env_sets.specs.Ascending.{Ascend}
use Rattle.env_sets.specs.Blocks.{all_entries}
use Rattle.env_sets.proofs.BlockLemmas.{blocks_ascend, blocks_in_order, all_parts, front_holds, ascend_with}
use Rattle.env_sets.proofs.AddedLemmas.{covered, with_meaning, with_vars}
use Rattle.env_sets.proofs.added.with_in_block.Goals as goal

pub returns-then-last_covers-clause-meaning : goal.returns-then-last_covers-clause-meaning
returns-then-last_covers-clause-meaning c = λ env.
    let front = c.split_at.result.0.now in
    let back = c.split_at.result.1.now in
    let parts = all_parts c.args.blocks.now c.args.before.now c.args.after.now c.args.block.now front back c.requires.parts
    (sym c.as_slice-entries.ensures.items ∙ c.split_at.ensures.by_index.0) in
    ap (λ bs. set_denotes (all_entries bs) env) c.in_ok-share.ensures.same
    ∙ covered _ _ (λ k. front_holds (all_entries c.args.blocks.now) (all_entries c.args.before.now) front (back ++ all_entries c.args.after.now) env parts
    (c.last_covers.ensures c.if-last_covers.true env k))

pub returns-then-may_begin-clause-meaning : goal.returns-then-may_begin-clause-meaning
returns-then-may_begin-clause-meaning c = λ env.
    let front = c.split_at.result.0.now in
    let back = c.split_at.result.1.now in
    let parts = all_parts c.args.blocks.now c.args.before.now c.args.after.now c.args.block.now front back c.requires.parts
    (sym c.as_slice-entries.ensures.items ∙ c.split_at.ensures.by_index.0) in
    ap (λ es. set_denotes es env) c.in_ok-with_between.ensures
    ∙ with_meaning (all_entries c.args.blocks.now) (all_entries c.args.before.now ++ front) (back ++ all_entries c.args.after.now) c.args.e.now env parts

pub returns-then-may_begin-clause-vars : goal.returns-then-may_begin-clause-vars
returns-then-may_begin-clause-vars c = λ t h k.
    let front = c.split_at.result.0.now in
    let back = c.split_at.result.1.now in
    let parts = all_parts c.args.blocks.now c.args.before.now c.args.after.now c.args.block.now front back c.requires.parts
    (sym c.as_slice-entries.ensures.items ∙ c.split_at.ensures.by_index.0) in
    ap (set_vars t) c.in_ok-with_between.ensures
    ∙ with_vars (all_entries c.args.blocks.now) (all_entries c.args.before.now ++ front) (back ++ all_entries c.args.after.now) c.args.e.now t parts h k

pub returns-then-may_begin-clause-order : goal.returns-then-may_begin-clause-order
returns-then-may_begin-clause-order c =
    let front = c.split_at.result.0.now in
    let back = c.split_at.result.1.now in
    let parts = all_parts c.args.blocks.now c.args.before.now c.args.after.now c.args.block.now front back c.requires.parts
    (sym c.as_slice-entries.ensures.items ∙ c.split_at.ensures.by_index.0) in
    blocks_in_order c.in_ok-with_between.field-0 (subst Ascend (sym c.in_ok-with_between.ensures)
    (ascend_with (all_entries c.args.before.now ++ front) (back ++ all_entries c.args.after.now) c.args.e.now
    (subst Ascend parts (blocks_ascend c.args.blocks.now c.requires.order))
    (c.may_end.ensures c.if-may_end.true) (c.may_begin.ensures c.if-may_begin.true)))
