use Rattle.sound_laws.proofs.SmplLeaves.BodyLemmas.{body_kept, read_kept}
use Rattle.sound_laws.proofs.smpl_leaves.no_token_is_lost.Goals as goal

pub returns : goal.returns
returns c = record { body = body_kept; read = read_kept }
