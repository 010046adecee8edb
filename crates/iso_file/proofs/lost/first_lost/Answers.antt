use Rattle.std.proofs.Common.{◌≡◌, ◌+◌, length, None, false, is_some, subst, arith}
use Rattle.std.proofs.lemmas.Result.{IfOk-weaker}
use Rattle.iso_file.specs.Stepped.{IsLostFrom, IsLost, IsUnbroken, IsBreak, IsFirstBreak}
use Rattle.iso_file.proofs.Chain.{keeps_all, next_lost, none_of}
use Rattle.iso_file.proofs.lost.first_lost.Goals as goal

pub returns-in-None : goal.returns-in-None
returns-in-None c =
    let vars = c.args.vars.now in
    let sides = c.args.sides.now in
    let arrows = c.args.both.now in
    let unbroken : IsUnbroken vars sides arrows (length arrows) = subst (λ o. IsFirstBreak vars sides arrows o) c.in-None.is c.in_ok-first_break.ensures in
    keeps_all vars sides arrows (length arrows) unbroken (omega (arith, c.requires))

pub returns-else-is_some : goal.returns-else-is_some
returns-else-is_some c =
    let vars = c.args.vars.now in
    let sides = c.args.sides.now in
    let arrows = c.args.both.now in
    let k = c.in-Some.k in
    let broken : IsBreak vars sides arrows k = subst (λ o. IsFirstBreak vars sides arrows o) c.in-Some.is c.in_ok-first_break.ensures in
    let absent : is_some c.in_ok-lost-in-Some.lost ≡ false = cc (c.is_some.ensures, c.if-is_some.false) in
    let none : IsLostFrom vars sides arrows k None =
    subst (λ o. IsLostFrom vars sides arrows k o) (none_of c.in_ok-lost-in-Some.lost absent) c.in_ok-lost-in-Some.ensures in
    IfOk-weaker c.lost_from-else-is_some.result (λ lost. IsLostFrom vars sides arrows (k + 1) lost) (λ lost. IsLost vars sides arrows lost)
    (λ found h. next_lost vars sides arrows k found c.requires broken none h) c.lost_from-else-is_some.ensures
