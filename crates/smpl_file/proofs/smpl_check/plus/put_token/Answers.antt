use Rattle.pattern_vars.specs.Reads.{has}
use Rattle.pattern_vars.proofs.SetLemmas.{put-two}
use Rattle.smpl_patch.specs.Patterns.{in_block}
use Rattle.smpl_file.proofs.smpl_check.plus.put_token.Goals as goal

pub returns : goal.returns
returns c y =
    put-two (has c.args.set.now y) (has c.put_block.new.set y) (has c.put_block-2.new.set y) (in_block c.args.decls.now y c.args.token.now.before)
    (in_block c.args.decls.now y c.args.token.now.after) (c.in_ok-put_block.ensures y) (c.in_ok-put_block-2.ensures y)
