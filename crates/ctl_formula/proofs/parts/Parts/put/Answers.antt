use Rattle.ctl_formula.proofs.CountLemmas.{counted-push}
use Rattle.ctl_formula.proofs.parts.Parts.put.Goals as goal

pub invariant_of-self-2 : goal.invariant_of-self-2
invariant_of-self-2 c =
    counted-push c.self.inside.parts.items c.push.new.self.items c.args.self.now
    (record { node = c.args.node; size = c.args.count; depth = c.args.around }) c.self.view_is c.self.invariant
    c.requires.below c.requires.count c.requires.around c.in_ok-push.ensures.items
