use Rattle.std.proofs.Common.{◌≡◌, true, false}
use Rattle.smpl_lexer.specs.Tokens.{is_name}
use Rattle.c_terms.specs.Names.{with_name}
use Rattle.iso_file.proofs.HeldLemmas.{held_step, held_skip}
use Rattle.iso_file.proofs.held.Held.of.Goals as goal
use Rattle.iso_file.proofs.held.Held.of.Goals.{then-is_name+in_ok-add, else-is_name}

pub loop-t-preserved : goal.loop-t-preserved
loop-t-preserved c text =
    let t = c.t-item.result in
    elim c.if-is_name.branch [
      | then-is_name+in_ok-add w ↦
          let name : is_name t ≡ true = cc (c.is_name.ensures.value, w.if-is_name.true) in
          let more : c.if-is_name.held ≡ with_name c.loop-t.held t.token.text = cc (w.in_ok-add.ensures, w.as_bytes.ensures.bytes, w.held-is) in
          held_step c.args.tokens.now c.loop-t.t-index t c.loop-t.held c.if-is_name.held text c.loop-t-test.true c.t-item.is name more (c.loop-t.invariant text)
      | else-is_name w ↦
          let name : is_name t ≡ false = cc (c.is_name.ensures.value, w.if-is_name.false) in
          held_skip c.args.tokens.now c.loop-t.t-index t c.loop-t.held c.if-is_name.held text c.loop-t-test.true c.t-item.is
          name w.held-is (c.loop-t.invariant text)
    ]
