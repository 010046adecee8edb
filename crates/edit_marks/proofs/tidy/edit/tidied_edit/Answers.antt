use Rattle.std.proofs.Common.{◌≡◌, ℕ, List, sym, ap, subst, ◌∙◌}
use Rattle.std.specs.Prelude.{Contains, ◌↔◌}
use Rattle.std.specs.List.Sorted.{IsStrictlyIncreasing}
use Rattle.edit_marks.specs.declared.spot.PlusSpot.{PlusSpot}
use Rattle.edit_marks.specs.declared.tidy.edges.PlacedBlock.{PlacedBlock}
use Rattle.edit_marks.specs.Removals.{minus_tokens}
use Rattle.edit_marks.specs.Tidy.Neighbours.{AreInPlace}
use Rattle.edit_marks.specs.Tidy.Edits.{touch_of, blocks_at, tidy_inserts}
use Rattle.edit_marks.proofs.Tidied.EditLemmas.{blocks_in_place}
use Rattle.edit_marks.proofs.tidy.edit.tidied_edit.Goals as goal

pub inserts_of-requires-clause-rise : goal.inserts_of-requires-clause-rise
inserts_of-requires-clause-rise c = subst IsStrictlyIncreasing (sym c.deref-2.ensures.value) c.in_ok-removed.ensures.rise

pub inserts_of-requires-clause-in_place : goal.inserts_of-requires-clause-in_place
inserts_of-requires-clause-in_place c =
    let decls = c.args.decls.now in
    let tokens = c.args.tokens.now in
    let env = c.args.env.now in
    subst AreInPlace (sym (c.deref-3.ensures.value ∙ c.in_ok-blocks.ensures ∙ ap (blocks_at decls tokens env) c.deref.ensures.value))
    (blocks_in_place decls tokens env c.in_ok-spots.spots.items c.in_ok-spots.ensures.sorted)

pub returns : goal.returns
returns c =
    let decls = c.args.decls.now in
    let tokens = c.args.tokens.now in
    let env = c.args.env.now in
    let at = c.args.at.now in
    let blocks : c.deref-3.result.now ≡ blocks_at decls tokens env c.in_ok-spots.spots.items =
    c.deref-3.ensures.value ∙ c.in_ok-blocks.ensures ∙ ap (blocks_at decls tokens env) c.deref.ensures.value in
    record {
      rise = subst IsStrictlyIncreasing (sym c.from_vec.ensures) c.in_ok-removed.ensures.rise;
      removed = subst (λ (l : List ℕ). (n : ℕ) → Contains l n ↔ Contains (minus_tokens tokens c.args.pairs.now) n)
          (sym c.from_vec.ensures) c.in_ok-removed.ensures.same;
      spots = c.in_ok-spots.spots.items;
      all = c.in_ok-spots.ensures.all;
      sorted = c.in_ok-spots.ensures.sorted;
      inserts = c.from_vec-2.ensures ∙ c.in_ok-inserts.ensures
          ∙ (λ i. tidy_inserts at.ids.now at.files.now (touch_of at) ((c.deref-2.ensures.value ∙ sym c.from_vec.ensures) i) (blocks i) 0 (blocks i));
    }
