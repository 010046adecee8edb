use Rattle.std.proofs.Common.{◌<◌, length, arith}
use Rattle.ctl_formula.specs.Tables.{at, plains}
use Rattle.ctl_formula.proofs.CountLemmas.{depth-at, depth-few, index-within}
use Rattle.ctl_formula.proofs.parts.Parts.depth.Goals as goal

pub returns-clause-depth : goal.returns-clause-depth
returns-clause-depth c =
    let n : c.args.i < length c.self.inside.parts.items = index-within c.self.inside.parts.items _ c.args.i
    c.self.view_is c.requires in
    depth-at c.self.inside.parts.items c.args.self.now c.args.i c.index.result.now c.self.view_is c.self.invariant n
    c.index.ensures

pub returns-clause-few : goal.returns-clause-few
returns-clause-few c =
    let n : c.args.i < length c.self.inside.parts.items = index-within c.self.inside.parts.items _ c.args.i
    c.self.view_is c.requires in
    let e = depth-at c.self.inside.parts.items c.args.self.now c.args.i c.index.result.now c.self.view_is
    c.self.invariant n c.index.ensures in
    let f = depth-few (at (plains c.args.self.now) c.args.i) in
    omega (arith, e, f)
