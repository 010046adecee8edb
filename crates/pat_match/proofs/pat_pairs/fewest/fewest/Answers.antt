use Rattle.std.proofs.Common.{arith, ◌+◌, refl, sym, ap, ◌∙◌, suc, length, take}
use Rattle.smpl_terms.specs.Environments.{total}
use Rattle.pat_match.specs.Rows.{row_at}
use Rattle.pat_match.specs.PatPairs.Pairs.{takes_first}
use Rattle.pat_match.proofs.PatPairs.PairLemmas.{takes_test, still_none, least_found}
use Rattle.pat_match.proofs.pat_pairs.fewest.fewest.Goals as goal

pub returns-then-branch-clause-value : goal.returns-then-branch-clause-value
returns-then-branch-clause-value c =
    let test = takes_test c.args.bound.now.context.now.decls.now c.args.bound.now.context.now.tokens.now c.args.bound.now.context.now.types.now
    (total c.args.bound.now.env.now) c.args.child.now.label c.args.child.now.forms.now c.args.child.now.i
    (c.args.child.now.i + 1) c.loop-k.k c.args.child.now.form.now c.args.members.now (take c.loop-k.k c.args.members.now)
    c.in_ok-row.row.items c.in_ok-flags.flags.items c.in_ok-takes_if.field-0 c.index.result.now (omega arith) (omega (arith, c.loop-k-test.true))
    c.in_ok-row.ensures.meaning c.in_ok-flags.ensures.length
    (λ n less. c.in_ok-flags.ensures.flags n less ∙ ap (λ r. row_at r n (total c.args.bound.now.env.now)) c.as_slice.ensures.value)
    refl c.index.ensures c.in_ok-takes_if.ensures in
    sym (least_found (takes_first c.args.bound.now.context.now.decls.now c.args.bound.now.context.now.tokens.now c.args.bound.now.context.now.types.now
    (total c.args.bound.now.env.now) c.args.child.now.label c.args.child.now.forms.now
    c.args.child.now.i c.args.child.now.form.now c.args.members.now) (suc (length c.args.members.now)) c.loop-k.k
    (omega (arith, c.loop-k-test.true)) c.loop-k.invariant (sym test ∙ c.if-branch.true))

pub loop-k-preserved : goal.loop-k-preserved
loop-k-preserved c =
    let test = takes_test c.args.bound.now.context.now.decls.now c.args.bound.now.context.now.tokens.now c.args.bound.now.context.now.types.now
    (total c.args.bound.now.env.now) c.args.child.now.label c.args.child.now.forms.now c.args.child.now.i
    (c.args.child.now.i + 1) c.loop-k.k c.args.child.now.form.now c.args.members.now (take c.loop-k.k c.args.members.now)
    c.in_ok-row.row.items c.in_ok-flags.flags.items c.in_ok-takes_if.field-0 c.index.result.now (omega arith) (omega (arith, c.loop-k-test.true))
    c.in_ok-row.ensures.meaning c.in_ok-flags.ensures.length
    (λ n less. c.in_ok-flags.ensures.flags n less ∙ ap (λ r. row_at r n (total c.args.bound.now.env.now)) c.as_slice.ensures.value)
    refl c.index.ensures c.in_ok-takes_if.ensures in
    still_none (takes_first c.args.bound.now.context.now.decls.now c.args.bound.now.context.now.tokens.now c.args.bound.now.context.now.types.now
    (total c.args.bound.now.env.now) c.args.child.now.label c.args.child.now.forms.now
    c.args.child.now.i c.args.child.now.form.now c.args.members.now) c.loop-k.k (c.loop-k.k + 1) c.in_ok-takes_if.field-0 (omega arith)
    c.loop-k.invariant test c.if-branch.false
