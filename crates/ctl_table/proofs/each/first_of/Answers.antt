use Rattle.std.proofs.Common.{◌∙◌, ◌∷◌, ◌++◌, ℕ, List, [], ap, subst, length}
use Rattle.std.proofs.lemmas.List.{map-append}
use Rattle.std.proofs.lemmas.Result.{IfOk-weaker}
use Rattle.ctl_formula.specs.Plain.{Plain}
use Rattle.ctl_formula.specs.Tables.{at, plains, Makes}
use Rattle.ctl_table.specs.Table as table
use Rattle.ctl_table.specs.Settings.{all_below, parts_at}
use Rattle.ctl_table.specs.Columns.{column}
use Rattle.ctl_table.proofs.RowLemmas.{all-more}
use Rattle.ctl_table.proofs.each.first_of.Goals as goal

pub first_branch-requires-clause-with : goal.first_branch-requires-clause-with
first_branch-requires-clause-with c =
    let n = length c.args.parts.now in
    ap (all_below n) (c.as_slice.ensures.value ∙ c.in_ok-push.ensures.items ∙ ap (λ (z : List ℕ). z ++ c.args.end ∷ []) c.in_ok-with.ensures)
    ∙ all-more n (column c.args.j c.args.rows.now) c.args.end c.requires.with c.requires.end

pub returns : goal.returns
returns c =
    let a = c.args.parts.now in
    let rows = column c.args.j c.args.rows.now in
    let with_is =
    ap (parts_at a) (c.as_slice.ensures.value ∙ c.in_ok-push.ensures.items ∙ ap (λ (z : List ℕ). z ++ c.args.end ∷ []) c.in_ok-with.ensures)
    ∙ map-append (at (plains a)) rows (c.args.end ∷ []) in
    record {
      made = IfOk-weaker c.first_branch.result _ _
          (λ i h. subst (λ (z : List Plain). Makes a c.first_branch.new.parts i (table.any_of (table.choices [] z (parts_at a c.args.alone.now)))) with_is h)
          c.first_branch.ensures.made;
    }
