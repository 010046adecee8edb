use Rattle.std.proofs.Common.{◌<◌, length}
use Rattle.ctl_formula.proofs.CountLemmas.{node-is, node-below, index-within}
use Rattle.ctl_formula.proofs.parts.Parts.node.Goals as goal

pub returns-clause-is : goal.returns-clause-is
returns-clause-is c =
    let n : c.args.i < length c.self.inside.parts.items = index-within c.self.inside.parts.items _ c.args.i
    c.self.view_is c.requires in
    node-is c.self.inside.parts.items c.args.self.now c.args.i c.index.result.now c.self.view_is c.self.invariant n
    c.index.ensures

pub returns-clause-kids : goal.returns-clause-kids
returns-clause-kids c =
    let n : c.args.i < length c.self.inside.parts.items = index-within c.self.inside.parts.items _ c.args.i
    c.self.view_is c.requires in
    node-below c.self.inside.parts.items c.args.self.now c.args.i c.index.result.now c.self.view_is c.self.invariant
    n c.index.ensures
