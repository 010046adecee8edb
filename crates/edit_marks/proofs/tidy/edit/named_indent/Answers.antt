use Rattle.std.proofs.Common.{◌≡◌, List, ℕ, sym, ap, subst, ◌∙◌}
use Rattle.std.specs.Prelude.{Option, IfOk, option_and_then}
use Rattle.std.specs.Option.{option_copied}
use Rattle.c_terms.specs.declared.tree.Tree.{Tree}
use Rattle.edit_marks.specs.Tidy.Edits.{touch_of}
use Rattle.edit_marks.specs.Tidy.Reach.{indent_of, reach_of}
use Rattle.edit_marks.proofs.tidy.edit.named_indent.Goals as goal

pub returns-in-Some : goal.returns-in-Some
returns-in-Some c =
    let at = c.args.at.now in
    let ids = at.ids.now in
    let files = at.files.now in
    let t = touch_of at in
    let tree = c.in-Some.tree.now in
    subst (λ (o : Option (List ℕ)). IfOk c.indent_of.result (λ indent. indent ≡ o))
    (ap (indent_of ids files tree) c.reach_of-length.ensures.reach
    ∙ sym (ap (λ (o : Option Tree). option_and_then (λ x. indent_of ids files x (reach_of c.args.anchor t.inside t.depth x t.path)) o)
    (ap option_copied c.in-Some.is)))
    c.indent_of.ensures
