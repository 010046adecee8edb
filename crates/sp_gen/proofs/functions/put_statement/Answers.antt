use Rattle.std.proofs.Common.{◌≡◌, ◌++◌, ◌%◌, sym, ap, ◌∙◌, codes}
use Rattle.std.specs.Fmt.{decimal}
use Rattle.sp_gen.specs.Generated.{next_state}
use Rattle.sp_gen.proofs.Statements.{put_in, at_ok, is_assignment, is_plain, after_assignment, after_plain}
use Rattle.sp_gen.proofs.functions.put_statement.Goals as goal

pub returns-then-drawn-eq-ASSIGNMENT-clause-text : goal.returns-then-drawn-eq-ASSIGNMENT-clause-text
returns-then-drawn-eq-ASSIGNMENT-clause-text c =
    let s = c.args.draws.now.state in
    let three : next_state s % 6 ≡ 3 = sym c.draw-drawn.ensures.value ∙ c.if-drawn-eq-ASSIGNMENT.true in
    let number : c.draw.result ≡ next_state (next_state s) % 10 = c.draw.ensures.value ∙ ap (λ k. next_state k % 10) c.draw-drawn.ensures.state in
    put_in c.put_assignment.result _ _ _ _ c.put_assignment.ensures
    (ap (λ n. codes "\ta = g(a, " ++ decimal n ++ codes ");\n") number ∙ sym (is_assignment s three))

pub returns-then-drawn-eq-ASSIGNMENT-clause-state : goal.returns-then-drawn-eq-ASSIGNMENT-clause-state
returns-then-drawn-eq-ASSIGNMENT-clause-state c =
    let s = c.args.draws.now.state in
    let three : next_state s % 6 ≡ 3 = sym c.draw-drawn.ensures.value ∙ c.if-drawn-eq-ASSIGNMENT.true in
    at_ok c.put_assignment.result _ (c.draw.ensures.state ∙ ap next_state c.draw-drawn.ensures.state ∙ sym (after_assignment s three))

pub returns-clause-text : goal.returns-clause-text
returns-clause-text c =
    let s = c.args.draws.now.state in
    put_in c.put.result _ _ _ _ c.put.ensures
    (c.plain_text.ensures ∙ sym (is_plain s c.draw-drawn.result (sym c.draw-drawn.ensures.value) c.if-drawn-eq-ASSIGNMENT.false))

pub returns-clause-state : goal.returns-clause-state
returns-clause-state c =
    let s = c.args.draws.now.state in
    at_ok c.put.result _ (c.draw-drawn.ensures.state ∙ sym (after_plain s c.draw-drawn.result (sym c.draw-drawn.ensures.value) c.if-drawn-eq-ASSIGNMENT.false))
