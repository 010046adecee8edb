use Rattle.std.proofs.Common.{◌≡◌, ◌≤◌, ◌∙◌, length, refl, arith}
use Rattle.std.proofs.lemmas.Result.{IfOk-weaker}
use Rattle.ctl_fixpoint.specs.RequiredWords.FormGroups.{fits_some}
use Rattle.ctl_fixpoint.proofs.RequiredWords.FormGroupLemmas.{read-at, tried-all, covers-at, covers-all}
use Rattle.ctl_fixpoint.proofs.required_words.solving.solve_runs.Goals as goal

pub put_run-requires-clause-run : goal.put_run-requires-clause-run
put_run-requires-clause-run c =
    (covers-at c.args.target.now.p.now.spot c.args.target.now.p.now.forms c.args.form_groups.now c.loop-n.n
    c.index-form_groups-n.result c.loop-n.next (length c.args.target.now.p.now.forms)
    (read-at c.args.form_groups.now c.args.form_groups.now c.loop-n.n c.index-form_groups-n.result refl c.loop-n-test.true c.index-form_groups-n.is)
    c.loop-n.invariant.covers).2

pub returns-clause-meaning : goal.returns-clause-meaning
returns-clause-meaning c =
    let le : length c.args.form_groups.now ≤ c.loop-n.n = omega (arith, c.loop-n-test.false) in
    IfOk-weaker c.union.result _ _
    (λ r h env. h env ∙ tried-all (fits_some c.args.target.now.context.now.decls.now c.args.target.now.context.now.tokens.now
    c.args.target.now.context.now.types.now
    env c.args.target.now.p.now c.args.target.now.role c.args.target.now.tree.now)
    c.args.target.now.p.now.forms c.loop-n.next _ _
    (covers-all c.args.target.now.p.now.spot c.args.target.now.p.now.forms c.args.form_groups.now c.loop-n.n c.loop-n.next
    (length c.args.target.now.p.now.forms) le c.loop-n.invariant.covers)
    (c.loop-n.invariant.meaning env))
    c.union.ensures.meaning
