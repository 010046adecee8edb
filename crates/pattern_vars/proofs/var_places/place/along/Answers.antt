use Rattle.std.proofs.Common.{arith}
use Rattle.pattern_vars.specs.VarPlaces.Scopes.{joined}
use Rattle.pattern_vars.proofs.VarPlaces.ScopeLemmas.{scoped-none, scoped-within, scoped-more, scoped-end}
use Rattle.pattern_vars.proofs.var_places.place.along.Goals as goal

pub loop-share-init : goal.loop-share-init
loop-share-init c =
    let scope = joined c.args.inside.now.outer in
    scoped-none c.args.shares.now scope c.args.inside.now.vars c.new-found.result.items c.requires.vars c.new-found.ensures.items

pub overflow_add-count : goal.overflow_add-count
overflow_add-count c =
    let scope = joined c.args.inside.now.outer in
    let within = scoped-within c.args.shares.now scope c.args.inside.now.vars c.loop-share.share-index c.loop-share.count
    c.loop-share.found.items c.share-item.result
    c.loop-share-test.true c.share-item.is c.loop-share.invariant in
    omega (arith, within, c.len-count.ensures, c.requires.fits)

pub loop-share-preserved : goal.loop-share-preserved
loop-share-preserved c =
    let scope = joined c.args.inside.now.outer in
    scoped-more c.args.shares.now scope c.args.inside.now.vars c.loop-share.share-index c.loop-share.count c.len-count.result c.loop-share.found.items
    c.push.new.self.items c.share-item.result c.in_ok-place.place c.loop-share-test.true c.share-item.is c.len-count.ensures c.in_ok-place.ensures
    c.in_ok-push.ensures.items c.loop-share.invariant

pub returns : goal.returns
returns c =
    let scope = joined c.args.inside.now.outer in
    scoped-end c.args.shares.now scope c.args.inside.now.vars c.loop-share.share-index c.loop-share.count
    c.loop-share.found.items (omega arith) c.loop-share.invariant
