use Rattle.std.proofs.Common.{Bool, ap}
use Rattle.edit_unparse.specs.Output.{kept}
use Rattle.edit_unparse.specs.Tidy.Fallen.{no_origins}
use Rattle.edit_unparse.specs.Tidy.Made.{piece_or}
use Rattle.edit_unparse.proofs.Oks.{ok_more}
use Rattle.edit_unparse.proofs.tidy.pieces.put_stays.Goals as goal

pub returns-clause-parts : goal.returns-clause-parts
returns-clause-parts c = λ pieces.
    ok_more c.put_old.result _ _ _ _ (c.put_old.ensures.parts pieces)
    (ap (λ (b : Bool). kept b c.args.here.number (piece_or pieces c.args.here.number)) c.if-goes.ensures)

pub returns-clause-origins : goal.returns-clause-origins
returns-clause-origins c = λ p.
    ok_more c.put_old.result _ _ _ _ c.put_old.ensures.origins (ap (λ (b : Bool). no_origins (kept b c.args.here.number p)) c.if-goes.ensures)
