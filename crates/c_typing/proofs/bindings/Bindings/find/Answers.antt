use Rattle.std.proofs.Common.{arith}
use Rattle.c_typing.proofs.EntryLemmas.{found_none, found_within}
use Rattle.c_typing.proofs.bindings.Bindings.find.Goals as goal

pub returns-then-last-eq0 : goal.returns-then-last-eq0
returns-then-last-eq0 c =
    rw (← c.self.view_is) (found_none c.self.inside.lasts c.self.inside.entries.items c.args.name.now c.get-last.result c.self.invariant
    c.get-last.ensures c.if-last-eq0.true)

pub index-requires : goal.index-requires
index-requires c =
    let within = found_within c.self.inside.lasts c.self.inside.entries.items c.args.name.now c.get-last.result c.self.invariant c.get-last.ensures in
    omega (arith, within, c.self.inside.entries.ok.0, c.if-last-eq0.false)
