use Rattle.std.proofs.Common.{◌≡◌, ℕ, ◌+◌, ◌-◌, ◌<◌, ◌≤◌, arith, subst, length, drop}
use Rattle.smpl_patch.specs.Bodies.{body}
use Rattle.ctl_translate.specs.Deep.{levels_body}
use Rattle.smpl_patch.proofs.Weights.{body-at}
use Rattle.ctl_translate.proofs.DeepLemmas.{levels-more}
use Rattle.ctl_translate.proofs.deep.+levels.Goals as goal

pub levels_body-levels_element-levels-requires : goal.levels_body-levels_element-levels-requires
levels_body-levels_element-levels-requires t c =
    let l : c.loop-i.i - 1 < length c.args.b.now = omega (arith, c.loop-i.invariant.0) in
    let w = body-at c.args.b.now (c.loop-i.i - 1) c.index-b-i.result l c.index-b-i.is in
    (omega (arith, w), tt)

pub levels_body-loop-i-preserved : goal.levels_body-loop-i-preserved
levels_body-loop-i-preserved t c =
    let l : c.loop-i.i - 1 < length c.args.b.now = omega (arith, c.loop-i.invariant.0) in
    let n : c.loop-i.i ≡ c.loop-i.i - 1 + 1 = omega arith in
    let P : ℕ → Type 0 = λ z. c.loop-i.levels ≤ levels_body (body (drop z c.args.b.now)) c.args.after in
    let h : c.loop-i.levels ≤ levels_body (body (drop (c.loop-i.i - 1 + 1) c.args.b.now)) c.args.after = subst P n c.loop-i.invariant.1 in (
      omega (arith, c.loop-i.invariant.0),
      levels-more c.args.b.now c.index-b-i.result (c.loop-i.i - 1) c.args.after c.loop-i.levels c.levels_element-levels.result
          l c.index-b-i.is h c.levels_element-levels.ensures,
    )
