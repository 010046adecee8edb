use Rattle.std.proofs.Common.{◌≡◌, ◌-◌, ℕ, List, sym, ap, subst, ◌∙◌}
use Rattle.std.specs.Prelude.{Option, None, fold, slice_get}
use Rattle.std.proofs.lemmas.Result.{IfOk-weaker}
use Rattle.c_terms.specs.declared.token.Token.{Token}
use Rattle.c_terms.specs.declared.tree.Tree.{Tree}
use Rattle.edit_marks.specs.declared.tidy.shape.LeafRange.{LeafRange}
use Rattle.edit_bodies.specs.Laid.{IsReading}
use Rattle.edit_bodies.specs.Looks.{row_of, some_token}
use Rattle.edit_bodies.specs.Scenes.{SeesRow, leaves_of, lesser, statements_of, text_in}
use Rattle.edit_bodies.proofs.SeeLemmas.{sees_broken, sees_none, sees_pair}
use Rattle.edit_bodies.proofs.see.see_statement.Goals as goal

pub returns-in_default : goal.returns-in_default
returns-in_default c = λ old same.
    let s = c.args.scene.now in
    let none : c.in_ok-tree.field-0 ≡ None = cc in
    let read = subst (λ (o : Option Tree). IsReading c.args.names.now c.in_ok-row.row.tokens.items o) none
    (subst (λ (ts : List Token). IsReading c.args.names.now ts c.in_ok-tree.field-0) c.deref.ensures.value c.in_ok-tree.ensures) in
    sees_broken s c.args.place.now.body.now old c.args.seen same c.args.names.now c.in_ok-row.row c.with_broken.result c.in_ok-row.ensures read
    c.with_broken.ensures.braces
    (c.with_broken.ensures.broken
    ∙ ap (λ (o : Option ℕ). fold lesser c.args.seen.broken (some_token o))
    (c.last_leaf.ensures ∙ ap (λ (r : LeafRange). slice_get (leaves_of s) (r.to - 1)) c.requires.range))

pub returns-then-needs_braces : goal.returns-then-needs_braces
returns-then-needs_braces c = λ old same.
    let s = c.args.scene.now in
    let b = c.args.place.now.body.now in
    let tree = c.in-Some.tree in
    let read = subst (λ (o : Option Tree). IsReading c.args.names.now c.in_ok-row.row.tokens.items o) c.in-Some.is
    (subst (λ (ts : List Token). IsReading c.args.names.now ts c.in_ok-tree.field-0) c.deref.ensures.value c.in_ok-tree.ensures) in
    let needs = sym c.needs_braces.ensures ∙ c.if-needs_braces.true in
    IfOk-weaker c.with_pair.result _ (SeesRow s c.args.names.now b old)
    (λ new made. sees_pair s b old c.args.seen same c.args.names.now c.in_ok-row.row tree new c.in_ok-row.ensures read needs c.args.place.now.lead made
    c.requires.lead)
    (c.with_pair.ensures (row_of (text_in s) (leaves_of s) (statements_of s) b c.args.seen.braces) c.in_ok-row.ensures)

pub returns : goal.returns
returns c = λ old same.
    let b = c.args.place.now.body.now in
    let tree = c.in-Some.tree in
    let read = subst (λ (o : Option Tree). IsReading c.args.names.now c.in_ok-row.row.tokens.items o) c.in-Some.is
    (subst (λ (ts : List Token). IsReading c.args.names.now ts c.in_ok-tree.field-0) c.deref.ensures.value c.in_ok-tree.ensures) in
    let needs = sym c.needs_braces.ensures ∙ c.if-needs_braces.false in
    sees_none c.args.scene.now b old c.args.seen same c.args.names.now c.in_ok-row.row tree c.in_ok-row.ensures read needs
