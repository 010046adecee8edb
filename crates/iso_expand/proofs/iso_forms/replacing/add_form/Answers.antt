use Rattle.std.proofs.Common.{◌≡◌, ◌+◌, ◌<◌, List, Option, Some, None, length, get_or, drop, refl, sym, ap, ◌∙◌}
use Rattle.std.proofs.lemmas.Result.{err_from_is_err_and}
use Rattle.c_terms.specs.declared.tree.Tree.{Tree}
use Rattle.iso_expand.specs.declared.iso_forms.matching.Bound.{Bound}
use Rattle.iso_expand.specs.IsoForms.Replacing.{targets_from, targets, replaced, by_sides, becomes}
use Rattle.iso_expand.specs.IsoForms.Forms.{with_forms}
use Rattle.iso_expand.proofs.IsoForms.ListLemmas.{item_along, within_along}
use Rattle.iso_expand.proofs.IsoForms.ListedLemmas.{forms-extend, extends-along, extends-trans, refused_more, refused_along, side_more, kept}
use Rattle.iso_expand.proofs.IsoForms.ListedLemmas.{replaced_along, targets_along, tree_along}
use Rattle.iso_expand.proofs.iso_forms.replacing.add_form.Goals as goal
use Rattle.iso_expand.proofs.iso_forms.replacing.add_form.Goals.{in-Some+in_ok-add_targets, in_default}

none_of : (o : Option (List Bound)) → ((bound : List Bound) → o ≡ Some bound → ⊥) → o ≡ None
none_of None h = refl
none_of (Some bound) h = absurd (h bound refl)

pub returns-in_err-add_targets-clause-refused : goal.returns-in_err-add_targets-clause-refused
returns-in_err-add_targets-clause-refused c t at =
    let tokens = c.args.tokens.now in
    let iso = c.args.iso.now in
    let i = c.loop-i.i in
    let base = c.args.forms.now.list in
    let list = c.loop-i.forms.list in
    let s = c.side-item.result in
    let u = c.index-as_slice-k.result in
    let here : i < length iso.sides = within_along c.as_slice-side-items.result.now iso.sides i c.as_slice-side-items.ensures c.loop-i-test.true in
    let is : s ≡ get_or iso.sides i s = item_along c.as_slice-side-items.result.now iso.sides i s c.as_slice-side-items.ensures c.side-item.is in
    let tree : u ≡ t =
    tree_along base list c.as_slice.result.now c.args.k t u c.loop-i.invariant.extends c.requires.within at c.as_slice.ensures c.index-as_slice-k.is in
    let found : replaced tokens iso.vars s t ≡ Some c.in-Some.bound =
    replaced_along tokens iso.vars c.as_slice-in-loop-i.result.now s t u c.in_ok-bound.field-0 (Some c.in-Some.bound) c.as_slice-in-loop-i.ensures tree
    c.in_ok-bound.ensures c.in-Some.is in
    let made_by = targets_from iso.both c.as_slice-in-Some.result.now c.first_id-id.result i 0 iso.sides in
    let all = with_forms base (becomes tokens iso t) in
    let one = with_forms list (targets iso t i (replaced tokens iso.vars s t)) in
    let rest = by_sides tokens iso t (i + 1) (drop (i + 1) iso.sides) in
    let same : with_forms list made_by ≡ one =
    targets_along iso list c.in-Some.bound c.as_slice-in-Some.result.now c.first_id-id.result i t u (replaced tokens iso.vars s t) c.as_slice-in-Some.ensures
    c.first_id-id.ensures tree found in
    let p = err_from_is_err_and c.from_residual-in_err-add_targets.result c.from_residual-in_err-add_targets.ensures.1 in
    rw (p.1, p.2) (refused_more c.args.limit one all c.in_err-add_targets.field-0.0
    (extends-along one (with_forms one rest) all (forms-extend one rest)
    (sym (side_more tokens iso t iso.sides i s list here is) ∙ c.loop-i.invariant.rest t at))
    (refused_along c.args.limit (with_forms list made_by) one c.in_err-add_targets.field-0.0 same c.in_err-add_targets.ensures.refused))

pub loop-i-preserved : goal.loop-i-preserved
loop-i-preserved c =
    let tokens = c.args.tokens.now in
    let iso = c.args.iso.now in
    let i = c.loop-i.i in
    let base = c.args.forms.now.list in
    let list = c.loop-i.forms.list in
    let s = c.side-item.result in
    let u = c.index-as_slice-k.result in
    let here : i < length iso.sides = within_along c.as_slice-side-items.result.now iso.sides i c.as_slice-side-items.ensures c.loop-i-test.true in
    let is : s ≡ get_or iso.sides i s = item_along c.as_slice-side-items.result.now iso.sides i s c.as_slice-side-items.ensures c.side-item.is in
    elim c.match-branch-2.branch [
      | in-Some+in_ok-add_targets w ↦
          let made_by = targets_from iso.both w.as_slice-in-Some.result.now c.first_id-id.result i 0 iso.sides in
          let k = kept c.args.limit w.add_targets.new.forms c.match-branch-2.forms (with_forms list made_by) w.forms-is w.in_ok-add_targets.ensures.forms in
          record {
            has = k.0;
            extends = extends-trans base list c.match-branch-2.forms.list c.loop-i.invariant.extends
                (extends-along list (with_forms list made_by) c.match-branch-2.forms.list (forms-extend list made_by) (sym k.1));
            rest = λ t at.
                let tree : u ≡ t =
                tree_along base list c.as_slice.result.now c.args.k t u c.loop-i.invariant.extends c.requires.within at
                c.as_slice.ensures c.index-as_slice-k.is in
                let found : replaced tokens iso.vars s t ≡ Some w.in-Some.bound =
                replaced_along tokens iso.vars c.as_slice-in-loop-i.result.now s t u c.in_ok-bound.field-0
                (Some w.in-Some.bound) c.as_slice-in-loop-i.ensures tree
                c.in_ok-bound.ensures w.in-Some.is in
                let same : with_forms list made_by ≡ with_forms list (targets iso t i (replaced tokens iso.vars s t)) =
                targets_along iso list w.in-Some.bound w.as_slice-in-Some.result.now c.first_id-id.result i t u (replaced tokens iso.vars s t)
                w.as_slice-in-Some.ensures c.first_id-id.ensures tree found in
                ap (λ (l : List Tree). with_forms l (by_sides tokens iso t (i + 1) (drop (i + 1) iso.sides))) (k.1 ∙ same)
                ∙ sym (side_more tokens iso t iso.sides i s list here is) ∙ c.loop-i.invariant.rest t at;
          }
      | in_default w ↦
          let k = kept c.args.limit c.loop-i.forms c.match-branch-2.forms list w.forms-is c.loop-i.invariant.has in
          record {
            has = k.0;
            extends = extends-along base list c.match-branch-2.forms.list c.loop-i.invariant.extends (sym k.1);
            rest = λ t at.
                let tree : u ≡ t =
                tree_along base list c.as_slice.result.now c.args.k t u c.loop-i.invariant.extends c.requires.within at
                c.as_slice.ensures c.index-as_slice-k.is in
                let none : c.in_ok-bound.field-0 ≡ None = none_of c.in_ok-bound.field-0 w.in_default.not-Some in
                let found : replaced tokens iso.vars s t ≡ None =
                replaced_along tokens iso.vars c.as_slice-in-loop-i.result.now s t u c.in_ok-bound.field-0 None
                c.as_slice-in-loop-i.ensures tree c.in_ok-bound.ensures none in
                ap (λ (l : List Tree). with_forms l (by_sides tokens iso t (i + 1) (drop (i + 1) iso.sides)))
                (k.1 ∙ ap (λ (o : Option (List Bound)). with_forms list (targets iso t i o)) (sym found))
                ∙ sym (side_more tokens iso t iso.sides i s list here is) ∙ c.loop-i.invariant.rest t at;
          }
    ]
