use Rattle.std.proofs.Common.{◌++◌, ◌∷◌, [], true, false, ap, sym, ◌∙◌, arith, append-nil}
use Rattle.env_sets.specs.Bounds.{is_not}
use Rattle.env_sets.proofs.SplitLemmas.{where_step}
use Rattle.env_sets.proofs.parts.where_other.Goals as goal
use Rattle.env_sets.proofs.parts.where_other.Goals.{then-is_open+in_ok-without+in_ok-push, else-is_open}

pub loop-e-preserved : goal.loop-e-preserved
loop-e-preserved c =
    elim c.if-is_open.branch [
      | then-is_open+in_ok-without+in_ok-push w ↦
          where_step c.args.x.now is_not c.args.a.now c.loop-e.e-index c.e-item.result c.loop-e.entries.items _ true (omega arith) c.e-item.is
          (sym w.if-is_open.true ∙ c.is_open.ensures) c.loop-e.invariant
          (ap (λ v. v.items) w.entries-is ∙ w.in_ok-push.ensures.items ∙ ap (λ e. c.loop-e.entries.items ++ e ∷ []) w.in_ok-without.ensures.pairs)
      | else-is_open w ↦
          where_step c.args.x.now is_not c.args.a.now c.loop-e.e-index c.e-item.result c.loop-e.entries.items _ false (omega arith) c.e-item.is
          (sym w.if-is_open.false ∙ c.is_open.ensures) c.loop-e.invariant
          (ap (λ v. v.items) w.entries-is ∙ sym (append-nil c.loop-e.entries.items))
    ]
