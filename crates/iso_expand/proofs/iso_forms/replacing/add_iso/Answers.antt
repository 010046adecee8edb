use Rattle.std.proofs.Common.{◌+◌, ◌<◌, List, length, map, drop, refl, sym, ap, arith, ◌∙◌}
use Rattle.std.proofs.lemmas.Result.{err_from_is_err_and}
use Rattle.c_terms.specs.declared.tree.Tree.{Tree}
use Rattle.c_terms.specs.Trees.{join}
use Rattle.iso_expand.specs.IsoForms.Replacing.{becomes}
use Rattle.iso_expand.specs.IsoForms.Forms.{with_forms, with_iso}
use Rattle.iso_expand.proofs.IsoForms.ListedLemmas.{forms-extend, extends-along, extends-trans, refused_more, tree_more, stays_at, found_at, kept}
use Rattle.iso_expand.proofs.iso_forms.replacing.add_iso.Goals as goal

pub returns-in_err-add_form-clause-refused : goal.returns-in_err-add_form-clause-refused
returns-in_err-add_form-clause-refused c =
    let tokens = c.args.tokens.now in
    let iso = c.args.iso.now in
    let k = c.loop-k.k in
    let base = c.args.forms.now.list in
    let list = c.loop-k.forms.list in
    let here : k < length base = omega (arith, c.len-k-end.ensures) in
    let x = found_at base k here in
    let at = stays_at base list k x.0 c.loop-k.invariant.extends x.1 in
    let all = with_iso tokens base iso in
    let one = with_forms list (becomes tokens iso x.0) in
    let rest = join (map (becomes tokens iso) (drop (k + 1) base)) in
    let p = err_from_is_err_and c.from_residual.result c.from_residual.ensures.1 in
    rw (p.1, p.2) (refused_more c.args.limit one all c.in_err-add_form.field-0.0
    (extends-along one (with_forms one rest) all (forms-extend one rest) (sym (tree_more tokens iso base list k x.0 here x.2) ∙ c.loop-k.invariant.rest))
    (c.in_err-add_form.ensures.refused x.0 at))

pub loop-k-preserved : goal.loop-k-preserved
loop-k-preserved c =
    let tokens = c.args.tokens.now in
    let iso = c.args.iso.now in
    let k = c.loop-k.k in
    let base = c.args.forms.now.list in
    let list = c.loop-k.forms.list in
    let here : k < length base = omega (arith, c.len-k-end.ensures) in
    let x = found_at base k here in
    let at = stays_at base list k x.0 c.loop-k.invariant.extends x.1 in
    let one = with_forms list (becomes tokens iso x.0) in
    let h = kept c.args.limit c.add_form.new.forms c.add_form.new.forms one refl (c.in_ok-add_form.ensures.forms x.0 at) in
    record {
      has = h.0;
      extends = extends-trans base list c.add_form.new.forms.list c.loop-k.invariant.extends
          (extends-along list one c.add_form.new.forms.list (forms-extend list (becomes tokens iso x.0)) (sym h.1));
      rest = ap (λ (l : List Tree). with_forms l (join (map (becomes tokens iso) (drop (k + 1) base)))) h.1
          ∙ sym (tree_more tokens iso base list k x.0 here x.2) ∙ c.loop-k.invariant.rest;
    }
