use Rattle.std.proofs.Common.{◌<◌, length, refl, arith}
use Rattle.pattern_vars.proofs.VarPlaces.ShareLemmas.{put-beyond, put-at}
use Rattle.pattern_vars.proofs.var_places.place.put_at.Goals as goal

pub returns-then-h-len : goal.returns-then-h-len
returns-then-h-len c = put-beyond c.args.h c.args.x.now c.args.shares.now.items 0 (omega arith)

pub returns : goal.returns
returns c =
    let ss = c.args.shares.now.items in
    let was = c.index_mut-share.result.now in
    let within : c.args.h.place < length ss = omega (arith, c.if-h-len.false, c.len.ensures, c.args.shares.now.ok.0) in
    put-at c.args.h c.args.x.now ss _ was was c.put_share.new.share within c.index_mut-share.ensures.value c.in_ok-put_share.ensures refl
