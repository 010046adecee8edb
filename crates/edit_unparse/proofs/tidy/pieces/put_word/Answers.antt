use Rattle.edit_unparse.proofs.Oks.{ok_three}
use Rattle.edit_unparse.proofs.tidy.pieces.put_word.Goals as goal

pub returns-clause-parts : goal.returns-clause-parts
returns-clause-parts c = λ pieces.
    ok_three c.put_at-2.result _ _ _ _ _ _ _ (c.put_at-2.ensures.parts pieces) (c.in_ok-put_stays.ensures.parts pieces)
    (c.in_ok-put_at.ensures.parts pieces)

pub returns-clause-origins : goal.returns-clause-origins
returns-clause-origins c = λ e p.
    ok_three c.put_at-2.result _ _ _ _ _ _ _ (c.put_at-2.ensures.origins e) (c.in_ok-put_stays.ensures.origins p) (c.in_ok-put_at.ensures.origins e)
