use Rattle.std.proofs.Common.{refl, sym, ap, ◌∙◌, subst, List, length}
use Rattle.std.specs.Prelude.{None}
use Rattle.std.specs.List.{list_any}
use Rattle.std.specs.List.Sorted.{IsNonDecreasingBy}
use Rattle.std.proofs.lemmas.Option.{slice_get_past, slice_get_read}
use Rattle.edit_unparse.specs.declared.tidy.parts.Origin.{Origin}
use Rattle.edit_unparse.specs.Tidy.Fallen.{is_here, origin_number}
use Rattle.edit_unparse.proofs.SortedPlaces.{has_own, rise_own}
use Rattle.edit_unparse.proofs.tidy.fallen.Fallen.has_added.Goals as goal

pub has_here-requires : goal.has_here-requires
has_here-requires c =
    let all = c.deref.result.now in
    let there = slice_get_read all (length all) c.args.edit c.in-Some.own.now refl c.in-Some.ensures.lookup.3.0 c.in-Some.ensures.lookup.1 in
    subst (λ (l : List Origin). IsNonDecreasingBy origin_number l) (sym c.as_slice.ensures.value)
    (rise_own c.args.edit c.args.self.now.added.items all c.in-Some.own.now c.deref.ensures.value there (c.args.self.now.rise c.args.edit))

pub returns-in-Some : goal.returns-in-Some
returns-in-Some c =
    let all = c.deref.result.now in
    let there = slice_get_read all (length all) c.args.edit c.in-Some.own.now refl c.in-Some.ensures.lookup.3.0 c.in-Some.ensures.lookup.1 in
    c.has_here.ensures
    ∙ ap (list_any (is_here c.args.insert c.args.offset)) c.as_slice.ensures.value
    ∙ has_own c.args.edit c.args.insert c.args.offset c.args.self.now.added.items all _ c.deref.ensures.value there

pub returns-in-None : goal.returns-in-None
returns-in-None c =
    has_own c.args.edit c.args.insert c.args.offset c.args.self.now.added.items c.deref.result.now None c.deref.ensures.value
    (slice_get_past c.deref.result.now c.args.edit c.in-None.ensures.lookup.3)
