use Rattle.std.proofs.Common.{◌≡◌, ◌∙◌, sym, ap}
use Rattle.ctl_formula.specs.Plain as plain
use Rattle.ctl_table.specs.Table as table
use Rattle.ctl_formula.specs.Tables.{at, plains, Grows}
use Rattle.ctl_formula.proofs.TableLemmas.{grows-trans}
use Rattle.ctl_table.proofs.MakingLemmas.{made-up, stays, and-of, au-of}
use Rattle.ctl_table.proofs.WrapLemmas.{until-all}
use Rattle.ctl_table.proofs.wrap.until.Goals as goal

pub returns : goal.returns
returns c =
    let m1 = c.in_ok-some.ensures.made in
    let t1 = stays c.args.parts.now c.push.new.self c.args.t m1.grows c.requires.t in
    let m2 = c.in_ok-to.ensures.made in
    let g2 : Grows c.args.parts.now c.or_early_exit.new.parts = grows-trans c.args.parts.now c.push.new.self c.or_early_exit.new.parts m1.grows m2.grows in
    let d2 = stays c.args.parts.now c.or_early_exit.new.parts c.args.d g2 c.requires.d in
    let to2 : (at (plains c.or_early_exit.new.parts) c.in_ok-to.to)
    ≡ (table.or_early_exit c.args.strict (at (plains c.args.parts.now) c.args.t)) = m2.is ∙ ap (table.or_early_exit c.args.strict) t1 in
    let all2 = au-of (at (plains c.or_early_exit.new.parts) c.args.d) (at (plains c.or_early_exit.new.parts) c.in_ok-to.to)
    (at (plains c.args.parts.now) c.args.d) (table.or_early_exit c.args.strict (at (plains c.args.parts.now) c.args.t)) d2 to2 in
    let m3 = c.in_ok-all.ensures.made in
    let g3 : Grows c.args.parts.now c.push-2.new.self = grows-trans c.args.parts.now c.or_early_exit.new.parts c.push-2.new.self g2 m3.grows in
    let some3 : (at (plains c.push-2.new.self) c.in_ok-some.some)
    ≡ plain.EU (at (plains c.args.parts.now) c.args.d) (at (plains c.args.parts.now) c.args.t) =
    stays c.push.new.self c.push-2.new.self c.in_ok-some.some
    (grows-trans c.push.new.self c.or_early_exit.new.parts c.push-2.new.self m2.grows m3.grows) m1.within ∙ m1.is in
    let all3 : (at (plains c.push-2.new.self) c.in_ok-all.all)
    ≡ plain.AU (at (plains c.args.parts.now) c.args.d) (table.or_early_exit c.args.strict (at (plains c.args.parts.now) c.args.t)) = m3.is ∙ all2 in
    let e = and-of (at (plains c.push-2.new.self) c.in_ok-all.all) (at (plains c.push-2.new.self) c.in_ok-some.some)
    (plain.AU (at (plains c.args.parts.now) c.args.d)
    (table.or_early_exit c.args.strict (at (plains c.args.parts.now) c.args.t)))
    (plain.EU (at (plains c.args.parts.now) c.args.d) (at (plains c.args.parts.now) c.args.t)) all3 some3
    ∙ sym (until-all c.args.forall_walks c.args.strict (at (plains c.args.parts.now) c.args.d)
    (at (plains c.args.parts.now) c.args.t) c.if-not-forall_walks.false) in
    record { made = made-up c.args.parts.now c.push-2.new.self c.push-3.new.self c.push-3.result _ _ g3 e c.push-3.ensures.made }
