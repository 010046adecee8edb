use Rattle.std.proofs.Common.{◌≡◌, ◌∙◌, sym, ap, length, arith}
use Rattle.std.proofs.lemmas.List.{nil_from_length}
use Rattle.smpl_patch.specs.Bodies.{body}
use Rattle.pattern_vars.specs.VarPlaces.Places.{reading_at}
use Rattle.pattern_vars.specs.VarPlaces.Homes.{home_in, shares_from}
use Rattle.pattern_vars.proofs.VarPlaces.ShareLemmas.{sorted-step, sorted-none}
use Rattle.pattern_vars.proofs.var_places.place.sorted.Goals as goal

pub returns-then-vars-eq0 : goal.returns-then-vars-eq0
returns-then-vars-eq0 c =
    let home = home_in (reading_at c.args.reader.now) 0 (body c.args.b.now) in
    let none : length c.args.vars.now ≡ 0 = omega arith in
    c.in_ok-found.ensures ∙ sym (sorted-none home 0 c.args.b.now)
    ∙ ap (shares_from home 0 (body c.args.b.now)) (sym (nil_from_length c.args.vars.now none))

pub loop-x-init : goal.loop-x-init
loop-x-init c = c.in_ok-found.ensures ∙ sym (sorted-none (home_in (reading_at c.args.reader.now) 0 (body c.args.b.now)) 0 c.args.b.now)

pub loop-x-preserved : goal.loop-x-preserved
loop-x-preserved c =
    sorted-step (home_in (reading_at c.args.reader.now) 0 (body c.args.b.now))
    (body c.args.b.now) c.args.vars.now c.loop-x.x-index c.x-item.result c.in_ok-home.home
    c.loop-x.found.items c.put_var.new.shares.items c.loop-x-test.true c.x-item.is
    (c.in_ok-home.ensures ∙ c.in_ok-homes.ensures c.x-item.result) c.loop-x.invariant c.in_ok-put_var.ensures
