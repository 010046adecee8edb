use Rattle.pattern_vars.proofs.VarPlaces.ShareLemmas.{empty-step}
use Rattle.pattern_vars.proofs.var_places.place.empty_shares.Goals as goal

pub loop-i-preserved : goal.loop-i-preserved
loop-i-preserved c =
    empty-step c.loop-i._i c.new.result c.new-in-loop-i.result c.loop-i.found.items c.push.new.self.items c.new.ensures
    c.new-in-loop-i.ensures c.loop-i.invariant
    c.in_ok-push.ensures.items
