use Rattle.std.proofs.Common.{◌≡◌, List, [], drop, sym, ap, subst, ◌∙◌, arith, IfOk, IfErr}
use Rattle.std.proofs.lemmas.List.{drop_all}
use Rattle.std.proofs.lemmas.Result.{err_from_is_err_and}
use Rattle.c_terms.specs.declared.tree.Tree.{Tree}
use Rattle.c_terms.specs.declared.tree.Tree.TheVariants.{Branch}
use Rattle.iso_expand.specs.IsoForms.Forms.{forms, of_choices, Refused}
use Rattle.iso_expand.specs.IsoForms.Stepped.{grown}
use Rattle.iso_expand.proofs.IsoForms.FormLemmas.{child_more, grow_refused, child_refused, more_choices, whole_branch, refused_tree}
use Rattle.iso_expand.proofs.iso_forms.forms.+forms_of.Goals as goal

pub returns-in_err-ways-in-Branch-clause-refused : goal.returns-in_err-ways-in-Branch-clause-refused
returns-in_err-ways-in-Branch-clause-refused t c =
    let tokens = c.args.tokens.now in
    let isos = c.args.isos.now in
    let l = c.in-Branch.label in
    let cs = c.as_slice-child-items.result.now in
    let tree : c.args.tree.now ≡ Branch l cs = c.in-Branch.is ∙ ap (Branch l) (sym c.as_slice-child-items.ensures) in
    let p = err_from_is_err_and c.from_residual-in_err-ways-in-Branch.result c.from_residual-in_err-ways-in-Branch.ensures.1 in
    rw (p.1, p.2) (refused_tree tokens isos c.args.limit c.args.tree.now (Branch l cs) c.in_err-ways-in-Branch.field-0.0 tree
    (child_refused tokens isos c.args.limit l cs c.loop-child.child-index c.child-item.result c.loop-child.choices.items c.in_err-ways-in-Branch.field-0.0
    c.loop-child-test.true c.child-item.is c.loop-child.invariant.some c.loop-child.invariant.rest c.in_err-ways-in-Branch.ensures.refused))

pub returns-in_err-choices-in-Branch-2-clause-refused : goal.returns-in_err-choices-in-Branch-2-clause-refused
returns-in_err-choices-in-Branch-2-clause-refused t c =
    let tokens = c.args.tokens.now in
    let isos = c.args.isos.now in
    let l = c.in-Branch.label in
    let cs = c.as_slice-child-items.result.now in
    let css = c.loop-child.choices.items in
    let ways = c.in_ok-ways-in-Branch.ways in
    let tree : c.args.tree.now ≡ Branch l cs = c.in-Branch.is ∙ ap (Branch l) (sym c.as_slice-child-items.ensures) in
    let f = c.in_err-choices-in-Branch-2.field-0.0 in
    let r : Refused c.args.limit (grown css ways) f = c.in_err-choices-in-Branch-2.ensures.refused in
    let p = err_from_is_err_and c.from_residual-in_err-choices-in-Branch-2.result c.from_residual-in_err-choices-in-Branch-2.ensures.1 in
    rw (p.1, p.2) (refused_tree tokens isos c.args.limit c.args.tree.now (Branch l cs) f tree
    (grow_refused tokens isos c.args.limit l cs c.loop-child.child-index c.child-item.result css ways f
    c.loop-child-test.true c.child-item.is c.in_ok-ways-in-Branch.ensures.forms c.loop-child.invariant.rest r))

pub loop-child-preserved : goal.loop-child-preserved
loop-child-preserved t c =
    let tokens = c.args.tokens.now in
    let isos = c.args.isos.now in
    let cs = c.as_slice-child-items.result.now in
    let css = c.loop-child.choices.items in
    let next = c.in_ok-choices-in-Branch-2.choices.items in
    let ways = c.in_ok-ways-in-Branch.ways in
    let w : ways ≡ forms tokens isos c.child-item.result = c.in_ok-ways-in-Branch.ensures.forms in
    let n : next ≡ grown css ways = c.in_ok-choices-in-Branch-2.ensures.all in
    record {
      rest = sym (child_more tokens isos cs c.loop-child.child-index c.child-item.result css next ways c.loop-child-test.true
          c.child-item.is w n) ∙ c.loop-child.invariant.rest;
      few = c.in_ok-choices-in-Branch-2.ensures.few;
      some = more_choices tokens isos css next ways c.child-item.result c.loop-child.invariant.some w n;
    }

pub returns-after-loop-child-clause-forms : goal.returns-after-loop-child-clause-forms
returns-after-loop-child-clause-forms t c =
    let tokens = c.args.tokens.now in
    let isos = c.args.isos.now in
    let l = c.in-Branch.label in
    let cs = c.as_slice-child-items.result.now in
    let tree : c.args.tree.now ≡ Branch l cs = c.in-Branch.is ∙ ap (Branch l) (sym c.as_slice-child-items.ensures) in
    let none : drop c.loop-child.child-index cs ≡ [] = drop_all c.loop-child.child-index cs (omega arith) in
    let all : of_choices tokens isos l c.loop-child.choices.items ≡ forms tokens isos c.args.tree.now =
    whole_branch tokens isos l cs (drop c.loop-child.child-index cs) c.loop-child.choices.items none c.loop-child.invariant.rest
    ∙ ap (forms tokens isos) (sym tree) in
    subst (λ (xs : List Tree). IfOk c.branch_forms.result (λ (ts : List Tree). ts ≡ xs)) all c.branch_forms.ensures.all

pub returns-after-loop-child-clause-refused : goal.returns-after-loop-child-clause-refused
returns-after-loop-child-clause-refused t c =
    let tokens = c.args.tokens.now in
    let isos = c.args.isos.now in
    let l = c.in-Branch.label in
    let cs = c.as_slice-child-items.result.now in
    let tree : c.args.tree.now ≡ Branch l cs = c.in-Branch.is ∙ ap (Branch l) (sym c.as_slice-child-items.ensures) in
    let none : drop c.loop-child.child-index cs ≡ [] = drop_all c.loop-child.child-index cs (omega arith) in
    let all : of_choices tokens isos l c.loop-child.choices.items ≡ forms tokens isos c.args.tree.now =
    whole_branch tokens isos l cs (drop c.loop-child.child-index cs) c.loop-child.choices.items none c.loop-child.invariant.rest
    ∙ ap (forms tokens isos) (sym tree) in
    subst (λ (xs : List Tree). IfErr c.branch_forms.result (Refused c.args.limit xs)) all c.branch_forms.ensures.refused
