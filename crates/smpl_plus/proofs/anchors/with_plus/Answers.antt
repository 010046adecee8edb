use Rattle.std.proofs.Common.{refl, subst}
use Rattle.smpl_plus.specs.SoFar.{IsOpen}
use Rattle.smpl_plus.proofs.Closing.{open-new, open-more}
use Rattle.smpl_plus.proofs.anchors.with_plus.Goals as goal

pub returns-in_ok-push-in-Some : goal.returns-in_ok-push-in-Some
returns-in_ok-push-in-Some c = λ vars ps b n kept before is.
    open-more vars ps b n c.args.l.now c.args.line c.in-Some.block
    (record {
      before = c.in-Some.block.before;
      at = c.in-Some.block.at;
      many = c.in-Some.block.many;
      other = c.first_other-other.result;
      lines = c.push-in-Some.new.self;
    })
    (subst (IsOpen vars ps b) c.in-Some.is kept) refl refl refl c.first_other-other.ensures c.in_ok-push-in-Some.ensures.ok is
