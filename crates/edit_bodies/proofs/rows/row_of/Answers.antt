use Rattle.std.proofs.Common.{ℕ, List, refl, subst, sym, true}
use Rattle.std.specs.Prelude.{Option, None}
use Rattle.edit_unparse.specs.declared.tidy.plan.Placed.{Placed}
use Rattle.edit_bodies.specs.declared.rows.Row.{Row}
use Rattle.edit_bodies.specs.Rows.{row_lead, row_side, row_tokens}
use Rattle.edit_bodies.specs.Scenes.{AddsRow, text_in}
use Rattle.edit_bodies.proofs.RowLemmas.{adds_none, none_left, row_from}
use Rattle.edit_bodies.proofs.rows.row_of.Goals as goal
use Rattle.edit_bodies.proofs.rows.row_of.Goals.{in-Some+in_ok-put_side, in_default}

pub returns : goal.returns
returns c =
    let text = text_in c.args.scene.now in
    let signs = c.args.braces.now in
    let lead = row_lead text signs c.args.lead in
    let start : Row = record { tokens = c.new.result; end = None } in
    let first : AddsRow lead start c.match-lead.row = elim c.match-lead.branch [
      | in-Some+in_ok-put_side w ↦
          let row = w.put_side.new.row in
          let side : AddsRow (row_side text signs w.in-Some.token true (text.inserts w.in-Some.token true)) start row =
          subst (λ (ps : List Placed). AddsRow (row_side text signs w.in-Some.token true ps) start row) w.at-inserts.ensures w.in_ok-put_side.ensures in
          subst (λ (r : Row). AddsRow lead start r) (sym w.row-is)
          (subst (λ (o : Option ℕ). AddsRow (row_lead text signs o) start row) (sym w.in-Some.is) side)
      | in_default w ↦
          subst (λ (r : Row). AddsRow lead start r) (sym w.row-is)
          (subst (λ (o : Option ℕ). AddsRow (row_lead text signs o) start start) (none_left c.args.lead w.in_default.not-Some) (adds_none start))
    ] in
    row_from lead (row_tokens text signs c.args.behind.now c.args.tokens.now) start c.match-lead.row c.put_tokens.new.row c.new.ensures.items refl first
    c.in_ok-put_tokens.ensures
