use Rattle.std.proofs.Common.{◌<◌, ℕ, sym, subst, length}
use Rattle.std.specs.Prelude.{Option, IfSome}
use Rattle.edit_marks.proofs.EditWalk.NumberLemmas.{number_within}
use Rattle.edit_marks.proofs.edit_walk.numbers.Numbers.find.Goals as goal

pub returns-clause-within : goal.returns-clause-within
returns-clause-within c =
    let keys = c.args.self.now in
    subst (λ (o : Option ℕ). IfSome o (λ n. n < length keys)) (sym c.look_up-number.ensures) (number_within keys c.args.key)
