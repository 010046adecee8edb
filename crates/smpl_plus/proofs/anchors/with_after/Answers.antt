use Rattle.std.proofs.Common.{◌<◌, ◌≤◌, length, sym, ap, ◌∙◌, arith, set}
use Rattle.smpl_patch.specs.declared.pattern.PatToken.{PatToken}
use Rattle.smpl_plus.specs.Anchors.{with_after}
use Rattle.smpl_plus.proofs.Closing.{changed-set, changed_past}
use Rattle.smpl_plus.proofs.anchors.with_after.Goals as goal

pub returns : goal.returns
returns c =
    let ts = c.args.tokens.items in
    let n = c.args.n in
    let t = c.index_mut-t.result.now in
    let within : n < length ts = omega (arith, c.if-n-len.false, c.len.ensures, c.args.tokens.ok.0) in
    sym (changed-set (with_after c.args.block) n ts t within ∙ ap (λ (x : PatToken). set ts n (with_after c.args.block x)) (sym c.index_mut-t.ensures.value))

pub returns-then-n-len : goal.returns-then-n-len
returns-then-n-len c =
    let ts = c.args.tokens.items in
    let past : length ts ≤ c.args.n = omega (arith, c.if-n-len.true, c.len.ensures, c.args.tokens.ok.0) in
    sym (changed_past (with_after c.args.block) c.args.n ts past)
