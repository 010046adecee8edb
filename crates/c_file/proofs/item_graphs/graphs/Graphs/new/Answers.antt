use Rattle.std.proofs.Common.{ap, ◌∙◌, length}
use Rattle.c_file.proofs.ItemGraphs.PoolLemmas.{made_places, typed_places}
use Rattle.c_file.proofs.ItemGraphs.ReachLemmas.{reached_new}
use Rattle.c_file.proofs.item_graphs.graphs.Graphs.new.Goals as goal

pub invariant_of-result : goal.invariant_of-result
invariant_of-result c =
    let items = c.args.file.now.items in
    let all = ap length c.items-count.ensures.items in (
      made_places items c.in_ok-made.made (c.in_ok-made.ensures.count ∙ all) c.in_ok-made.ensures.none,
      typed_places items c.in_ok-typed.typed (c.in_ok-typed.ensures.count ∙ all) c.in_ok-typed.ensures.none,
      reached_new items c.new-reached.result c.new-reached.ensures.first c.new-reached.ensures.none,
    )
