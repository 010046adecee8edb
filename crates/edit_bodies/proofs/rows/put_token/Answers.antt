use Rattle.std.proofs.Common.{◌++◌, List, false, true, subst}
use Rattle.edit_unparse.specs.declared.tidy.plan.Placed.{Placed}
use Rattle.edit_bodies.specs.Rows.{own_token, row_side}
use Rattle.edit_bodies.specs.Scenes.{AddsRow, text_in}
use Rattle.edit_bodies.proofs.RowLemmas.{adds_both}
use Rattle.edit_bodies.proofs.rows.put_token.Goals as goal

pub returns : goal.returns
returns c =
    let text = text_in c.args.scene.now in
    let signs = c.args.braces.now in
    let n = c.args.token in
    let old = c.args.row.now in
    let first = c.put_side.new.row in
    let last = c.put_side-2.new.row in
    let behind = row_side text signs n true c.args.behind.now in
    let before : AddsRow (row_side text signs n false (text.inserts n false)) old first =
    subst (λ (ps : List Placed). AddsRow (row_side text signs n false ps) old first) c.at-before.ensures c.in_ok-put_side.ensures in
    adds_both (row_side text signs n false (text.inserts n false)) (own_token text n ++ behind) old first last before
    (adds_both (own_token text n) behind first c.put_own.new.row last c.in_ok-put_own.ensures c.in_ok-put_side-2.ensures)
