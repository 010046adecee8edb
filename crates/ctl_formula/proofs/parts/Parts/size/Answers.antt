use Rattle.std.proofs.Common.{◌<◌, length, arith}
use Rattle.ctl_formula.specs.Tables.{at, plains}
use Rattle.ctl_formula.proofs.CountLemmas.{size-at, size-few, index-within}
use Rattle.ctl_formula.proofs.parts.Parts.size.Goals as goal

pub returns-clause-size : goal.returns-clause-size
returns-clause-size c =
    let n : c.args.i < length c.self.inside.parts.items = index-within c.self.inside.parts.items _ c.args.i
    c.self.view_is c.requires in
    size-at c.self.inside.parts.items c.args.self.now c.args.i c.index.result.now c.self.view_is c.self.invariant n
    c.index.ensures

pub returns-clause-few : goal.returns-clause-few
returns-clause-few c =
    let n : c.args.i < length c.self.inside.parts.items = index-within c.self.inside.parts.items _ c.args.i
    c.self.view_is c.requires in
    let e = size-at c.self.inside.parts.items c.args.self.now c.args.i c.index.result.now c.self.view_is
    c.self.invariant n c.index.ensures in
    let f = size-few (at (plains c.args.self.now) c.args.i) in
    omega (arith, e, f)
