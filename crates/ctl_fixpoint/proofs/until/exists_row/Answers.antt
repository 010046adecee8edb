use Rattle.std.proofs.Common.{◌≡◌, ◌<◌, ◌+◌, ◌||◌, true, [], length, sym, ap, ◌∙◌, subst, arith}
use Rattle.std.specs.Bool.{Decides}
use Rattle.std.proofs.lemmas.List.{get_or_read}
use Rattle.smpl_terms.specs.Vars.{same_var}
use Rattle.smpl_terms.specs.Environments.{Environment, change}
use Rattle.env_sets.specs.Sets.{Entries, set_denotes, set_vars, ForSomeValue}
use Rattle.ctl_fixpoint.specs.Steps.{set_of, row_vars, Projects}
use Rattle.ctl_fixpoint.proofs.RowLemmas.{Projects-push, row_vars-at, row_vars-push}
use Rattle.ctl_fixpoint.proofs.until.exists_row.Goals as goal

pub loop-set-preserved : goal.loop-set-preserved
loop-set-preserved c =
    let x = c.args.x.now in
    let row = c.args.row.now in
    let i = c.loop-set.set-index in
    let r = c.in_ok-project.field-0 in
    let lt : i < length row = omega arith in
    let item : c.set-item.result ≡ set_of row i = get_or_read row i c.set-item.result lt c.set-item.is [] in
    let items = c.in_ok-push.ensures.items in
    record {
      gives = subst (λ s. Projects (i + 1) x row s) (sym items)
          (Projects-push i x row c.loop-set.sets.items r c.loop-set.invariant.gives
          (subst
          (λ (a : Entries). (env : Environment) → Decides (set_denotes r env) (ForSomeValue (λ v. set_denotes a (change env x v))))
          item c.in_ok-project.ensures.meaning));
      vars = λ test h. subst (λ s. row_vars test s ≡ true) (sym items)
          (row_vars-push test c.loop-set.sets.items r (c.loop-set.invariant.vars test h)
          (c.in_ok-project.ensures.vars test
          (ap (set_vars (λ y. test y || same_var y x)) item ∙ row_vars-at (λ y. test y || same_var y x) row i h lt)));
    }
