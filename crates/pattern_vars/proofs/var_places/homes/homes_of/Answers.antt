use Rattle.std.proofs.Common.{◌≡◌, ◌<◌, ◌-◌, ℕ, ap, sym, ◌∙◌, subst, arith, drop, length, List}
use Rattle.smpl_patch.specs.declared.elem.Elem.{Elem}
use Rattle.smpl_patch.specs.Bodies.{body}
use Rattle.pattern_vars.specs.Keys.{value_of}
use Rattle.pattern_vars.proofs.SetLemmas.{drop-end}
use Rattle.pattern_vars.specs.VarPlaces.Places.{reading_at}
use Rattle.pattern_vars.specs.VarPlaces.Homes.{home_in, AreHomes}
use Rattle.pattern_vars.proofs.VarPlaces.HomeLemmas.{homes-behind, homes-from}
use Rattle.pattern_vars.proofs.var_places.homes.homes_of.Goals as goal

pub loop-i-init : goal.loop-i-init
loop-i-init c = (
  omega arith,
  λ x. ap (λ es. value_of es x) c.new-homes.ensures.empty
      ∙ ap (λ (es : List Elem). home_in (reading_at c.args.reader.now) (length c.args.b.now) (body es) x) (sym (drop-end c.args.b.now)),
)

pub put_homes-requires : goal.put_homes-requires
put_homes-requires c =
    homes-behind (reading_at c.args.reader.now) c.args.b.now c.loop-i.i c.loop-i.homes.entries (omega (arith, c.loop-i-test.true)) c.loop-i.invariant.1

pub loop-i-preserved : goal.loop-i-preserved
loop-i-preserved c =
    let k = c.loop-i.i - 1 in
    let l : k < length c.args.b.now = omega (arith, c.loop-i.invariant.0, c.loop-i-test.true) in (
      omega (arith, c.loop-i.invariant.0),
      homes-from (reading_at c.args.reader.now) c.args.b.now k c.index-b-i.result c.put_homes.new.homes.entries l c.index-b-i.is c.in_ok-put_homes.ensures,
    )

pub returns : goal.returns
returns c =
    let z : c.loop-i.i ≡ 0 = omega (arith, c.loop-i-test.false) in
    subst (λ (n : ℕ). AreHomes c.loop-i.homes.entries (reading_at c.args.reader.now) n (body (drop n c.args.b.now))) z c.loop-i.invariant.1
