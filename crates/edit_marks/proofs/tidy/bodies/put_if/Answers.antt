use Rattle.std.proofs.Common.{◌==◌, ℕ, refl, sym, ap}
use Rattle.edit_marks.specs.Tidy.Bodies.{is_one}
use Rattle.edit_marks.proofs.Tidied.FlagLemmas.{adds_always, adds_same}
use Rattle.edit_marks.proofs.tidy.bodies.put_if.Goals as goal

pub returns-in-Some : goal.returns-in-Some
returns-in-Some c =
    adds_same c.args.flags.now.items c.put.new.flags.items (λ n. c.in-Some.token == n) (is_one c.args.token)
    (λ n. ap (λ o. is_one o n) (sym c.in-Some.is)) (adds_always c.args.flags.now.items c.put.new.flags.items c.in-Some.token _ refl c.put.ensures)
