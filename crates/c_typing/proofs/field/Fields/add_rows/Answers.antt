use Rattle.std.proofs.Common.{refl, arith}
use Rattle.c_typing.proofs.FieldLemmas.{keeps-same, keeps-more, rows-more, rows-end}
use Rattle.c_typing.proofs.field.Fields.add_rows.Goals as goal

pub loop-row-init : goal.loop-row-init
loop-row-init c = record { done = refl; kept = keeps-same c.args.self.now }

pub loop-row-preserved : goal.loop-row-preserved
loop-row-preserved c = record {
  done = rows-more c.args.is_union c.args.tag.now c.args.rows.now c.loop-row.row-index c.row-item.result _ c.loop-row.self
      c.add_declared.new.self c.loop-row-test.true c.row-item.is c.in_ok-add_declared.ensures.ok c.loop-row.invariant.done;
  kept = keeps-more c.args.self.now c.loop-row.self c.add_declared.new.self c.loop-row.invariant.kept c.add_declared.ensures.kept;
}

pub returns-in_err-add_declared-clause-kept : goal.returns-in_err-add_declared-clause-kept
returns-in_err-add_declared-clause-kept c =
    keeps-more c.args.self.now c.loop-row.self c.add_declared.new.self c.loop-row.invariant.kept c.add_declared.ensures.kept

pub returns-clause-ok : goal.returns-clause-ok
returns-clause-ok c =
    rows-end c.args.is_union c.args.tag.now c.args.rows.now c.loop-row.row-index _ c.loop-row.self (omega arith) c.loop-row.invariant.done
