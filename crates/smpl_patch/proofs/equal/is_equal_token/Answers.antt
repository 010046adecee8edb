use Rattle.std.proofs.Common.{◌≡◌, ◌∙◌, ap, sym, subst, true}
use Rattle.smpl_patch.proofs.EqualLemmas.{token-equal, token-found}
use Rattle.smpl_patch.proofs.equal.is_equal_token.Goals as goal

pub returns-then-a-b : goal.returns-then-a-b
returns-then-a-b c = record {
  equal = λ h. token-equal c.args.a.now c.args.b.now c.if-a-b.true (sym c.is_same_token.ensures.value ∙ h);
  found = λ e. c.is_same_token.ensures.value ∙ token-found c.args.a.now c.args.b.now e;
}
