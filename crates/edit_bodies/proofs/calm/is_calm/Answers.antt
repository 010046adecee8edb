use Rattle.std.proofs.Common.{List, ℕ, false, subst, sym, ◌∙◌}
use Rattle.edit_unparse.specs.Tidy.Fair.{behind_strays}
use Rattle.edit_bodies.specs.Calm.{AreSetCounts, behind_lines}
use Rattle.edit_bodies.proofs.CalmLemmas.{calm_else, calm_then, closed, not_closed, out_of_order}
use Rattle.edit_bodies.proofs.calm.is_calm.Goals as goal

pub returns-then-has_none : goal.returns-then-has_none
returns-then-has_none c = λ pieces are.
    let h = closed pieces c.args.list c.as_slice.result.now c.flag_at.result c.flag_at.ensures (c.as_slice.ensures.value ∙ are.closings)
    c.if-not-flag_at.false c.if-list.false in
    let strays = subst (λ (cs : List ℕ). AreSetCounts (behind_strays false pieces) cs) (sym c.as_slice-2.ensures.value) are.strays in
    let lines = subst (λ (cs : List ℕ). AreSetCounts (behind_lines false pieces) cs) (sym c.as_slice-then-has_none.ensures.value) are.lines in
    calm_then pieces c.args.list c.has_none.result c.has_none-then-has_none.result h
    (c.has_none.ensures (behind_strays false pieces) strays h.in_strays) c.if-has_none.true
    (c.has_none-then-has_none.ensures (behind_lines false pieces) lines h.in_lines)

pub returns-else-has_none : goal.returns-else-has_none
returns-else-has_none c = λ pieces are.
    let h = closed pieces c.args.list c.as_slice.result.now c.flag_at.result c.flag_at.ensures (c.as_slice.ensures.value ∙ are.closings)
    c.if-not-flag_at.false c.if-list.false in
    let strays = subst (λ (cs : List ℕ). AreSetCounts (behind_strays false pieces) cs) (sym c.as_slice-2.ensures.value) are.strays in
    calm_else pieces c.args.list c.has_none.result h (c.has_none.ensures (behind_strays false pieces) strays h.in_strays) c.if-has_none.false

pub returns-then-list : goal.returns-then-list
returns-then-list c = λ pieces are. out_of_order pieces c.args.list c.if-list.true

pub returns-then-not-flag_at : goal.returns-then-not-flag_at
returns-then-not-flag_at c = λ pieces are.
    not_closed pieces c.args.list c.as_slice.result.now c.flag_at.result c.flag_at.ensures (c.as_slice.ensures.value ∙ are.closings) c.if-not-flag_at.true
