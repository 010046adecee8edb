use Rattle.std.proofs.Common.{◌<◌, ap, ◌∙◌, length, arith}
use Rattle.std.specs.Prelude.{slice_get}
use Rattle.c_file.specs.ItemGraphs.Pool.{Pool}
use Rattle.c_file.specs.ItemGraphs.Typed.{typed_graph}
use Rattle.c_file.proofs.ItemGraphs.PoolLemmas.{typed_set, set_made, set_kept, typed_kept}
use Rattle.c_file.proofs.item_graphs.graphs.Graphs.make_typed.Goals as goal

pub graph_with_types-requires : goal.graph_with_types-requires
graph_with_types-requires c =
    let n = ap (λ (p : Pool). length p.items) c.self.view_is in record { within = omega (arith, n, c.requires); before = c.self.invariant.2 }

pub invariant_of-self : goal.invariant_of-self
invariant_of-self c = (c.self.invariant.0, c.self.invariant.1, c.graph_with_types.ensures.after)

pub returns-in_err-graph-clause-kept : goal.returns-in_err-graph-clause-kept
returns-in_err-graph-clause-kept c = rw (← c.self.view_is) (λ typed k h. h)

pub set-requires : goal.set-requires
set-requires c = let n = ap (λ (p : Pool). length p.items) c.self.view_is in omega (arith, n, c.self.invariant.1.all, c.requires)

pub invariant_of-self-2 : goal.invariant_of-self-2
invariant_of-self-2 c =
    let items = c.self.inside.file.now.items in
    let n = ap (λ (p : Pool). length p.items) c.self.view_is in
    let lt : c.args.i < length c.self.inside.typed = omega (arith, n, c.self.invariant.1.all, c.requires) in (
      c.self.invariant.0,
      rw c.set.ensures (typed_set items c.self.inside.typed c.args.i c.in_ok-graph.graph c.self.invariant.1 c.in_ok-graph.ensures.graph lt),
      c.in_ok-graph.ensures.after,
    )

pub returns-clause-made : goal.returns-clause-made
returns-clause-made c =
    let items = c.self.inside.file.now.items in
    let n = ap (λ (p : Pool). length p.items) c.self.view_is in
    let lt : c.args.i < length c.self.inside.typed = omega (arith, n, c.self.invariant.1.all, c.requires) in
    ap (λ gs. slice_get gs c.args.i) c.set.ensures
    ∙ set_made c.self.inside.typed (typed_graph items) c.args.i c.in_ok-graph.graph c.in_ok-graph.ensures.graph lt

pub returns-clause-kept : goal.returns-clause-kept
returns-clause-kept c =
    let items = c.self.inside.file.now.items in
    rw (← c.self.view_is) (typed_kept items c.self.inside.made c.self.inside.typed c.set.new.self
    (λ k h. ap (λ gs. slice_get gs k) c.set.ensures
    ∙ set_kept c.self.inside.typed (typed_graph items) c.args.i c.in_ok-graph.graph c.in_ok-graph.ensures.graph k h))
