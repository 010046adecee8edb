use Rattle.std.proofs.Common.{◌∙◌, ◌+◌, ap, arith, get_or, length, map, refl, subst, ℕ}
use Rattle.std.specs.List.{range_with_len}
use Rattle.ctl_formula.specs.Tables.{plains}
use Rattle.ctl_formula.proofs.TableLemmas.{grows-length}
use Rattle.ctl_table.specs.Settings.{all_below, MakesAll}
use Rattle.ctl_table.specs.Columns.{column, first_of_column}
use Rattle.ctl_table.proofs.MakingLemmas.{all-stand}
use Rattle.ctl_table.proofs.RowLemmas.{init-all}
use Rattle.ctl_table.proofs.ColumnLemmas.{column-within, column-long, below-in, first-step}
use Rattle.ctl_table.proofs.each.first_branches.Goals as goal

pub column-requires : goal.column-requires
column-requires c = column-long (length c.args.parts.now) (c.args.last + 1) c.args.last c.args.rows.now (omega arith) c.requires.within

pub loop-j-init : goal.loop-j-init
loop-j-init c = init-all c.args.parts.now _ (cc)

pub first_of-requires : goal.first_of-requires
first_of-requires c =
    let a = c.args.parts.now in
    let b = c.loop-j.parts in
    let rows = c.args.rows.now in
    let width = c.args.last + 1 in
    record {
      longer = column-long (length a) width c.loop-j.j rows (omega (arith, c.loop-j-test.true, c.requires.most)) c.requires.within;
      with = all-stand a b (column c.loop-j.j rows) c.loop-j.invariant.grows
          (column-within (length a) width c.loop-j.j rows (omega (arith, c.loop-j-test.true, c.requires.most)) c.requires.within);
      alone = ap (all_below (length b)) (c.as_slice-alone.ensures.value ∙ c.in_ok-lone.ensures)
          ∙ all-stand a b (column c.args.last rows) c.loop-j.invariant.grows
          (column-within (length a) width c.args.last rows (omega arith) c.requires.within);
      end = below-in (length a) (length b) c.args.ends.now c.loop-j.j c.loop-j-test.true (grows-length a b c.loop-j.invariant.grows) c.requires.ends;
    }

pub loop-j-preserved : goal.loop-j-preserved
loop-j-preserved c =
    let a = c.args.parts.now in
    let rows = c.args.rows.now in
    let width = c.args.last + 1 in
    first-step a c.loop-j.parts c.first_of.new.parts rows c.args.ends.now c.args.last c.loop-j.j c.in_ok-f.f (get_or c.args.ends.now c.loop-j.j 0)
    c.loop-j.made.items _ c.as_slice-alone.result.now
    (c.as_slice-alone.ensures.value ∙ c.in_ok-lone.ensures) c.in_ok-push.ensures.items refl
    (below-in (length a) (length a) c.args.ends.now c.loop-j.j c.loop-j-test.true (omega arith) c.requires.ends)
    (column-within (length a) width c.loop-j.j rows (omega (arith, c.loop-j-test.true, c.requires.most)) c.requires.within)
    (column-within (length a) width c.args.last rows (omega arith) c.requires.within)
    c.loop-j.invariant c.in_ok-f.ensures.made

pub returns : goal.returns
returns c = record {
  made = subst (λ (z : ℕ). MakesAll c.args.parts.now c.loop-j.parts c.loop-j.made.items
      (map (first_of_column (plains c.args.parts.now) c.args.rows.now c.args.ends.now c.args.last) (range_with_len 0 z))) (omega arith) c.loop-j.invariant;
}
