use Rattle.std.proofs.Common.{◌≡◌, ◌+◌, Bool, true, false, List, drop, length, get_or, ◌<◌, sym, ap, subst, ◌∙◌}
use Rattle.std.proofs.lemmas.Result.{err_from_is_err_and}
use Rattle.c_terms.specs.declared.tree.Tree.{Tree}
use Rattle.iso_expand.specs.IsoForms.Replacing.{targets_from, may_become}
use Rattle.iso_expand.specs.IsoForms.Forms.{with_form, with_forms}
use Rattle.iso_expand.specs.IsoForms.Stepped.{IsLowest}
use Rattle.iso_expand.proofs.IsoForms.ListLemmas.{item_along, within_along}
use Rattle.iso_expand.proofs.IsoForms.ListedLemmas.{forms-extend, extends-along, refused_more, target_more, target_none, kept}
use Rattle.iso_expand.proofs.iso_forms.replacing.add_targets.Goals as goal
use Rattle.iso_expand.proofs.iso_forms.replacing.add_targets.Goals.{then-may_become+in_ok-tree+in_ok-add, else-may_become}

pub returns-in_err-add-clause-refused : goal.returns-in_err-add-clause-refused
returns-in_err-add-clause-refused c =
    let iso = c.args.iso.now in
    let low = subst (λ (bs : List Bool). IsLowest bs c.args.i c.lowest-low.result) c.as_slice.ensures c.lowest-low.ensures in
    let bound = c.args.bound.now in
    let j = c.loop-j.j in
    let list = c.loop-j.forms.list in
    let s = c.side-item.result in
    let here : j < length iso.sides = within_along c.as_slice-side-items.result.now iso.sides j c.as_slice-side-items.ensures c.loop-j-test.true in
    let is : s ≡ get_or iso.sides j s = item_along c.as_slice-side-items.result.now iso.sides j s c.as_slice-side-items.ensures c.side-item.is in
    let all = with_forms c.args.forms.now.list (targets_from iso.both bound c.args.id c.args.i 0 iso.sides) in
    let rest = targets_from iso.both bound c.args.id c.args.i (j + 1) (drop (j + 1) iso.sides) in
    let may : may_become iso.both c.args.i j ≡ true = cc (c.may_become.ensures iso.both low, c.if-may_become.true) in
    let more = target_more iso.both bound c.args.id c.args.i iso.sides j s c.in_ok-tree.tree list here is may c.in_ok-tree.ensures in
    let p = err_from_is_err_and c.from_residual-in_err-add.result c.from_residual-in_err-add.ensures.1 in
    rw (p.1, p.2) (refused_more c.args.limit (with_form list c.in_ok-tree.tree) all c.in_err-add.field-0.0
    (extends-along (with_form list c.in_ok-tree.tree) (with_forms (with_form list c.in_ok-tree.tree) rest) all
    (forms-extend (with_form list c.in_ok-tree.tree) rest)
    (sym more ∙ c.loop-j.invariant.rest)) c.in_err-add.ensures.refused)

pub loop-j-preserved : goal.loop-j-preserved
loop-j-preserved c =
    let iso = c.args.iso.now in
    let low = subst (λ (bs : List Bool). IsLowest bs c.args.i c.lowest-low.result) c.as_slice.ensures c.lowest-low.ensures in
    let bound = c.args.bound.now in
    let j = c.loop-j.j in
    let list = c.loop-j.forms.list in
    let s = c.side-item.result in
    let here : j < length iso.sides = within_along c.as_slice-side-items.result.now iso.sides j c.as_slice-side-items.ensures c.loop-j-test.true in
    let is : s ≡ get_or iso.sides j s = item_along c.as_slice-side-items.result.now iso.sides j s c.as_slice-side-items.ensures c.side-item.is in
    elim c.if-may_become.branch [
      | then-may_become+in_ok-tree+in_ok-add w ↦
          let k = kept c.args.limit w.add.new.self c.if-may_become.forms (with_form list w.in_ok-tree.tree) w.forms-is w.in_ok-add.ensures.forms in
          let may : may_become iso.both c.args.i j ≡ true = cc (c.may_become.ensures iso.both low, w.if-may_become.true) in
          record {
            has = k.0;
            rest = ap (λ (l : List Tree). with_forms l (targets_from iso.both bound c.args.id c.args.i (j + 1) (drop (j + 1) iso.sides))) k.1
                ∙ sym (target_more iso.both bound c.args.id c.args.i iso.sides j s w.in_ok-tree.tree list here is may w.in_ok-tree.ensures)
                ∙ c.loop-j.invariant.rest;
          }
      | else-may_become w ↦
          let k = kept c.args.limit c.loop-j.forms c.if-may_become.forms list w.forms-is c.loop-j.invariant.has in
          let may : may_become iso.both c.args.i j ≡ false = cc (c.may_become.ensures iso.both low, w.if-may_become.false) in
          record {
            has = k.0;
            rest = ap (λ (l : List Tree). with_forms l (targets_from iso.both bound c.args.id c.args.i (j + 1) (drop (j + 1) iso.sides))) k.1
                ∙ sym (target_none iso.both bound c.args.id c.args.i iso.sides j s list here is may)
                ∙ c.loop-j.invariant.rest;
          }
    ]
