use Rattle.std.proofs.Common.{◌≡◌, ◌-◌, List, length, refl, subst, sym}
use Rattle.std.proofs.lemmas.Option.{slice_get_read}
use Rattle.std.specs.Prelude.{Some, slice_get, Option}
use Rattle.c_expr.specs.declared.memo.Entry.{Entry}
use Rattle.c_expr.specs.declared.memo.Recognizer.{Recognizer}
use Rattle.c_expr.specs.Recognizers.{Known, AreRight}
use Rattle.c_expr.proofs.MemoLemmas.{right_known}
use Rattle.c_expr.proofs.memo.Memo.recall.Goals as goal

pub returns-then-most-entry : goal.returns-then-most-entry
returns-then-most-entry c = λ from seen right.
    let es = c.deref-in-loop-number.result.now in
    let i = c.loop-number.number - 1 in
    let entry = c.in_ok-entry.field-0.now in
    let found = c.in_ok-entry.ensures.lookup in
    let got : slice_get es i ≡ Some entry = slice_get_read es (length es) i entry refl found.3.0 found.1 in
    let here : AreRight from seen es = subst (λ (xs : List Entry). AreRight from seen xs) (sym c.deref-in-loop-number.ensures.value) right in
    subst (λ (o : Option Recognizer). Known c.args.most c.args.kind seen c.args.at o) (sym c.low.ensures)
    (right_known from seen es i entry c.args.most c.args.at c.args.kind c.is_same.result here got c.if-entry-at.true
    c.is_same.ensures c.if-is_same.true c.if-most-entry.true)
