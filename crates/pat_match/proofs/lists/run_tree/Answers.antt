use Rattle.std.proofs.Common.{◌∙◌, ◌++◌, ap, [], ◌∷◌, arith}
use Rattle.c_terms.specs.Lists.{comma_kids}
use Rattle.c_terms.proofs.ListLemmas.{run-next, run-first}
use Rattle.pat_match.proofs.lists.run_tree.Goals as goal
use Rattle.pat_match.proofs.lists.run_tree.Goals.{then-i-gt0+in_ok-push_comma, else-i-gt0}

pub loop-i-preserved : goal.loop-i-preserved
loop-i-preserved c =
    let pushed = c.in_ok-push.ensures.ok ∙ ap (λ t. c.if-i-gt0.children ++ t ∷ []) (c.in_ok-copy.ensures.same ∙ c.tree.ensures) in
    elim c.if-i-gt0.branch [
      | then-i-gt0+in_ok-push_comma w ↦
          pushed ∙ run-next c.args.members.now c.loop-i.i c.index-members-i.result c.if-i-gt0.children (omega arith) c.loop-i-test.true c.index-members-i.is
          (w.children-is ∙ w.in_ok-push_comma.ensures ∙ ap (λ ts. ts ++ comma_kids c.index-members-i.result.comma) c.loop-i.invariant)
      | else-i-gt0 w ↦
          pushed ∙ run-first c.args.members.now c.loop-i.i c.index-members-i.result c.if-i-gt0.children (omega arith) c.loop-i-test.true c.index-members-i.is
          (w.children-is ∙ c.loop-i.invariant)
    ]
