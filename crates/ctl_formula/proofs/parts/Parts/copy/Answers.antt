use Rattle.std.proofs.Common.{◌++◌, ◌∙◌, [], ◌∷◌, ap, List}
use Rattle.ctl_formula.specs.declared.node.Node.{Node}
use Rattle.ctl_formula.proofs.CountLemmas.{take-next}
use Rattle.ctl_formula.proofs.parts.Parts.copy.Goals as goal

pub loop-i-preserved : goal.loop-i-preserved
loop-i-preserved c =
    c.in_ok-put.ensures.ok ∙ ap (λ (z : List Node). z ++ c.in_ok-node.node ∷ []) (c.remember.ensures.same ∙ c.loop-i.invariant)
    ∙ take-next c.args.self.now c.loop-i.i c.in_ok-node.node c.node.result.now c.node.ensures.node
    c.in_ok-node.ensures.same
