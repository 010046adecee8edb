use Rattle.std.proofs.Common.{ap}
use Rattle.c_types.proofs.TableLemmas.{put-known, put-new}
use Rattle.c_types.proofs.table.TypeTable.put.Goals as goal

pub returns-then-contains_key-clause-ok : goal.returns-then-contains_key-clause-ok
returns-then-contains_key-clause-ok c =
    let p = put-known c.self.inside.types.entries c.args.key c.args.ty c.contains_key.result c.contains_key.ensures c.if-contains_key.true in
    rw (← c.self.view_is) (λ j. record { trees = p j; locals = c.self.inside.locals.keys })

pub returns-clause-ok : goal.returns-clause-ok
returns-clause-ok c =
    let p = put-new c.self.inside.types.entries c.args.key c.args.ty c.contains_key.result c.contains_key.ensures c.if-contains_key.false
    c.insert.new.self.entries c.in_ok-insert.ensures.entries in
    rw (← c.self.view_is) (λ j. record { trees = p j; locals = c.self.inside.locals.keys })
