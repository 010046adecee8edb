use Rattle.std.proofs.lemmas.Bool.Decides.{same_from_decides}
use Rattle.c_show.specs.Joint.{runs_together}
use Rattle.c_show.proofs.Together.{runs_together-decides}
use Rattle.c_show.proofs.joint.runs_together.Goals as goal

pub returns : goal.returns
returns c = record {
  value = same_from_decides c.parts.result (runs_together c.args.left.now c.args.right.now) c.parts.ensures
      (runs_together-decides c.args.left.now c.args.right.now);
}
