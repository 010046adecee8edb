use Rattle.std.proofs.Common.{◌≡◌, ◌<◌, [], ◌∷◌, ◌++◌, ap, sym, ◌∙◌, map, length, get_or, arith, length-append}
use Rattle.std.specs.Prelude.{slice_set as set}
use Rattle.std.proofs.lemmas.List.{length-map}
use Rattle.c_typing.proofs.NumberLemmas.{place, found-place, place-end, put-key, known-set, new-put}
use Rattle.c_typing.proofs.numbers.Numbers.put.Goals as goal

pub returns-in-Some-clause-ok : goal.returns-in-Some-clause-ok
returns-in-Some-clause-ok c = λ x.
    let names = map (λ k. k.items) c.self.inside.names.keys in
    let numbers = c.self.inside.numbers.items in
    let name = c.args.name.now in
    let even : length numbers ≡ length names = c.self.invariant ∙ sym (length-map c.self.inside.names.keys (λ k. k.items)) in
    let at : c.in-Some.i ≡ place names name =
    found-place (λ k. k.items) c.self.inside.names.keys numbers name c.in-Some.i c.in-Some.ensures.index in
    let within : c.in-Some.i < length c.self.inside.names.keys = c.in-Some.ensures.within in
    let lt : place names name < length names = omega (arith, at, within, length-map c.self.inside.names.keys (λ k. k.items)) in
    rw (← c.self.view_is) (ap (λ i. get_or (set numbers i c.args.number) (place names x) 0) at ∙ known-set names numbers name x c.args.number even lt)

pub returns-in_ok-insert-in-None-clause-ok : goal.returns-in_ok-insert-in-None-clause-ok
returns-in_ok-insert-in-None-clause-ok c = λ x.
    let names = map (λ k. k.items) c.self.inside.names.keys in
    let numbers = c.self.inside.numbers.items in
    let name = c.args.name.now in
    let even : length numbers ≡ length names = c.self.invariant ∙ sym (length-map c.self.inside.names.keys (λ k. k.items)) in
    let more : c.push_reserved.new.self.items ≡ numbers ++ c.args.number ∷ [] =
    c.push_reserved.ensures.items ∙ ap (λ l. l ++ c.args.number ∷ []) c.in_ok-reserve-in-None.ensures.items in
    let named : map (λ k. k.items) c.insert.new.self.keys ≡ names ++ name ∷ [] =
    ap (map (λ k. k.items)) c.in_ok-insert-in-None.ensures.keys
    ∙ put-key (λ k. k.items) c.self.inside.names.keys name c.in-None.ensures.index c.in_ok-key-in-None.key c.in_ok-key-in-None.ensures.items in
    rw (← c.self.view_is) ((λ j. get_or (more j) (place (named j) x) 0) ∙ new-put names numbers name x c.args.number even
    (place-end (λ k. k.items) c.self.inside.names.keys name c.in-None.ensures.index))

pub invariant_of-self-in-None : goal.invariant_of-self-in-None
invariant_of-self-in-None c =
    let keys = c.self.inside.names.keys in
    let numbers = c.self.inside.numbers.items in
    let more : c.push_reserved.new.self.items ≡ numbers ++ c.args.number ∷ [] =
    c.push_reserved.ensures.items ∙ ap (λ l. l ++ c.args.number ∷ []) c.in_ok-reserve-in-None.ensures.items in
    let named : map (λ k. k.items) c.insert.new.self.keys ≡ map (λ k. k.items) keys ++ c.args.name.now ∷ [] =
    ap (map (λ k. k.items)) c.in_ok-insert-in-None.ensures.keys
    ∙ put-key (λ k. k.items) keys c.args.name.now c.in-None.ensures.index c.in_ok-key-in-None.key c.in_ok-key-in-None.ensures.items in
    omega (
      arith,
      c.self.invariant,
      simp length-append at (ap length more),
      simp length-append at (ap length named),
      length-map c.insert.new.self.keys (λ k. k.items),
      length-map keys (λ k. k.items),
    )
