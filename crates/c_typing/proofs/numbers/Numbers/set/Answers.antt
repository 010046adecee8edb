use Rattle.std.proofs.Common.{◌≡◌, ◌<◌, ap, subst, sym, ◌∙◌, map, length, get_or, arith}
use Rattle.std.specs.Prelude.{slice_set as set}
use Rattle.std.proofs.lemmas.List.{length-map}
use Rattle.c_typing.specs.Numbers.{number_of}
use Rattle.c_typing.proofs.NumberLemmas.{place, found-place, none-found, known-set}
use Rattle.c_typing.proofs.numbers.Numbers.set.Goals as goal

pub returns-in-Some : goal.returns-in-Some
returns-in-Some c = λ x.
    let names = map (λ k. k.items) c.self.inside.names.keys in
    let numbers = c.self.inside.numbers.items in
    let name = c.args.name.now in
    let even : length numbers ≡ length names = c.self.invariant ∙ sym (length-map c.self.inside.names.keys (λ k. k.items)) in
    let at : c.in-Some.i ≡ place names name =
    found-place (λ k. k.items) c.self.inside.names.keys numbers name c.in-Some.i c.in-Some.ensures.index in
    let within : c.in-Some.i < length c.self.inside.names.keys = c.in-Some.ensures.within in
    let lt : place names name < length names = omega (arith, at, within, length-map c.self.inside.names.keys (λ k. k.items)) in
    rw (← c.self.view_is) (ap (λ i. get_or (set numbers i c.args.number) (place names x) 0) at ∙ known-set names numbers name x c.args.number even lt)

pub returns-in-None : goal.returns-in-None
returns-in-None c = λ x.
    let name = c.args.name.now in
    let known : 0 < number_of (record { names = map (λ k. k.items) c.self.inside.names.keys; numbers = c.self.inside.numbers.items }) name =
    subst (λ v. 0 < number_of v name) (sym c.self.view_is) c.requires in
    absurd (omega (
      arith,
      known,
      none-found (λ k. k.items) c.self.inside.names.keys c.self.inside.numbers.items name c.self.invariant
          c.in-None.ensures.index,
    ))
