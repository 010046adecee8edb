use Rattle.std.proofs.Common.{◌<◌, ◌≤◌, length, sym, ap, ◌∙◌, arith, set}
use Rattle.smpl_body.specs.declared.smpl_when.clauses.WhenFlags.{WhenFlags}
use Rattle.smpl_body.specs.SmplWhen.Cutting.{say_code}
use Rattle.smpl_body.proofs.SmplWhen.Changing.{changed-set, changed_past}
use Rattle.smpl_body.proofs.smpl_when.clauses.Clauses.with_code.Goals as goal

pub returns : goal.returns
returns c =
    let ts = c.self.inside.said.items in
    let n = c.args.host in
    let t = c.index_mut-s.result.now in
    let within : n < length ts = omega (arith, c.if-at-len.false, c.len.ensures, c.self.inside.said.ok.0) in
    rw (c.in_ok-push.ensures.ok, ← c.self.view_is)
    (ap (λ (s : WhenFlags). set ts n (say_code c.args.code s)) c.index_mut-s.ensures.value ∙ sym (changed-set (say_code c.args.code) n ts t within))

pub returns-then-at-len : goal.returns-then-at-len
returns-then-at-len c =
    let ts = c.self.inside.said.items in
    let past : length ts ≤ c.args.host = omega (arith, c.if-at-len.true, c.len.ensures, c.self.inside.said.ok.0) in
    rw (← c.self.view_is) (sym (changed_past (say_code c.args.code) c.args.host ts past))
