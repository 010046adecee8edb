use Rattle.std.proofs.Common.{◌≡◌, ap, ◌∙◌}
use Rattle.c_file.specs.ItemGraphs.Pool.{Pool, graphs_in}
use Rattle.c_file.proofs.ItemGraphs.PoolLemmas.{typed_in, plain_in, own_in}
use Rattle.c_file.proofs.item_graphs.graphs.Graphs.graphs.Goals as goal

pub returns-then-typed : goal.returns-then-typed
returns-then-typed c =
    let own = c.self.inside in
    let same : c.as_slice.result.now ≡ graphs_in c.args.typed c.args.self.now
    = c.as_slice.ensures ∙ (ap (λ (p : Pool). p.typed) c.self.view_is ∙ typed_in c.args.typed c.args.self.now c.if-typed.true) in
    record {
      places = same;
      own = own_in own.file.now.items own.made own.typed c.args.self.now c.self.view_is c.self.invariant.0 c.self.invariant.1 c.args.typed _ same;
    }

pub returns-else-typed : goal.returns-else-typed
returns-else-typed c =
    let own = c.self.inside in
    let same : c.as_slice-else-typed.result.now ≡ graphs_in c.args.typed c.args.self.now
    = c.as_slice-else-typed.ensures ∙ (ap (λ (p : Pool). p.graphs) c.self.view_is ∙ plain_in c.args.typed c.args.self.now c.if-typed.false) in
    record {
      places = same;
      own = own_in own.file.now.items own.made own.typed c.args.self.now c.self.view_is c.self.invariant.0 c.self.invariant.1 c.args.typed _ same;
    }
