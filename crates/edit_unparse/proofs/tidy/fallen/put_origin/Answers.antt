use Rattle.std.proofs.Common.{arith}
use Rattle.edit_unparse.proofs.PlaceLemmas.{place_put}
use Rattle.edit_unparse.proofs.tidy.fallen.put_origin.Goals as goal

pub returns-in_ok-push-clause-places : goal.returns-in_ok-push-clause-places
returns-in_ok-push-clause-places c = λ edit insert offset less.
    place_put edit insert offset c.args.origin.edit c.args.places.now.items c.index_mut.result.now c.push.new.self c.args.origin
    (omega (arith, c.if-origin-len.true, c.len.ensures)) (grind (arith, c.index_mut.ensures.value)) c.in_ok-push.ensures.items
