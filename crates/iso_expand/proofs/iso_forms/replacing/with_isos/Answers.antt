use Rattle.std.proofs.Common.{◌+◌, List, drop, sym, ap, ◌∙◌}
use Rattle.std.proofs.lemmas.Result.{err_from_is_err_and}
use Rattle.c_terms.specs.declared.tree.Tree.{Tree}
use Rattle.iso_expand.specs.IsoForms.Forms.{with_iso, with_isos}
use Rattle.iso_expand.proofs.IsoForms.ListLemmas.{drop_item}
use Rattle.iso_expand.proofs.IsoForms.ListedLemmas.{isos-extend, extends-along, refused_more}
use Rattle.iso_expand.specs.IsoForms.Stepped.{may_grow}
use Rattle.iso_expand.proofs.IsoForms.LabelLemmas.{unchanged}
use Rattle.iso_expand.proofs.iso_forms.replacing.with_isos.Goals as goal

pub returns-in_err-add_iso-clause-refused : goal.returns-in_err-add_iso-clause-refused
returns-in_err-add_iso-clause-refused c =
    let tokens = c.args.tokens.now in
    let isos = c.args.isos.now in
    let i = c.loop-iso.iso-index in
    let list = c.loop-iso.forms.list in
    let one = with_iso tokens list c.iso-item.result in
    let all = with_isos tokens c.args.list isos in
    let rest = drop (i + 1) isos in
    let p = err_from_is_err_and c.from_residual-in_err-add_iso.result c.from_residual-in_err-add_iso.ensures.1 in
    rw (p.1, p.2) (refused_more c.args.limit one all c.in_err-add_iso.field-0.0
    (extends-along one (with_isos tokens one rest) all (isos-extend tokens one rest)
    (ap (with_isos tokens list) (sym (drop_item isos i c.iso-item.result c.loop-iso-test.true c.iso-item.is)) ∙ c.loop-iso.invariant.rest
    ∙ ap (λ (ts : List Tree). with_isos tokens ts isos) c.in_ok-forms.ensures.is))
    c.in_err-add_iso.ensures.refused)

pub returns-then-not-may_grow-clause-all : goal.returns-then-not-may_grow-clause-all
returns-then-not-may_grow-clause-all c =
    sym (unchanged c.args.tokens.now c.args.isos.now c.args.list
    (ap (may_grow c.args.isos.now) (sym c.as_slice.ensures) ∙ sym c.if-not-may_grow.ensures))
