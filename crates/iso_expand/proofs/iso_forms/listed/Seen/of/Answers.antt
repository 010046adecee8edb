use Rattle.std.proofs.Common.{ap, ◌∙◌}
use Rattle.c_terms.specs.Names.{with_name}
use Rattle.iso_expand.proofs.IsoForms.SeenLemmas.{seen_step}
use Rattle.iso_expand.proofs.iso_forms.listed.Seen.of.Goals as goal

pub loop-tree-preserved : goal.loop-tree-preserved
loop-tree-preserved c t =
    seen_step c.args.list.now c.loop-tree.tree-index c.tree-item.result c.loop-tree.seen c.add.new.self t c.loop-tree-test.true c.tree-item.is
    (c.in_ok-add.ensures ∙ ap (with_name c.loop-tree.seen) c.in_ok-spelled.ensures) (c.loop-tree.invariant t)
