use Rattle.std.proofs.Common.{◌<◌, ◌∙◌, ap, get_or, length, arith}
use Rattle.c_typing.proofs.NumberLemmas.{number-within, found-place, none-found}
use Rattle.c_typing.proofs.numbers.Numbers.get.Goals as goal

pub returns-in-Some : goal.returns-in-Some
returns-in-Some c =
    let numbers = c.self.inside.numbers.items in
    let keys = c.self.inside.names.keys in
    let known : c.in-Some.i < length keys = c.in-Some.ensures.within in
    let within : c.in-Some.i < length numbers = omega (arith, known, c.self.invariant) in
    let at = found-place (λ k. k.items) keys numbers c.args.name.now c.in-Some.i c.in-Some.ensures.index in
    rw (← c.self.view_is) (number-within numbers c.in-Some.i c.index.result.now within c.index.ensures ∙ ap (λ i. get_or numbers i 0) at)

pub returns-in-None : goal.returns-in-None
returns-in-None c =
    rw (← c.self.view_is) (none-found (λ k. k.items) c.self.inside.names.keys c.self.inside.numbers.items c.args.name.now c.self.invariant
    c.in-None.ensures.index)
