use Rattle.std.proofs.Common.{refl}
use Rattle.smpl_patch.specs.declared.pattern.PatToken.{PatToken}
use Rattle.smpl_plus.proofs.PlusOnce.{anchored_keep}
use Rattle.smpl_plus.proofs.tokens_keep_their_lines.Goals as goal

pub returns : goal.returns
returns c = record {
  marks = anchored_keep (λ (t : PatToken). t.mark) (λ b t. refl) (λ b t. refl);
  positions = anchored_keep (λ (t : PatToken). t.positions) (λ b t. refl) (λ b t. refl);
}
