use Rattle.std.proofs.Common.{[], refl, arith}
use Rattle.ctl_table.specs.Table as table
use Rattle.ctl_table.proofs.RowLemmas.{init-all}
use Rattle.ctl_table.proofs.EachLemmas.{map-step, map-taken}
use Rattle.ctl_table.proofs.each.no_branches.Goals as goal

pub loop-next-init : goal.loop-next-init
loop-next-init c = init-all c.args.parts.now _ (cc)

pub loop-next-preserved : goal.loop-next-preserved
loop-next-preserved c =
    let x = c._next-item.result in
    map-step c.args.parts.now c.loop-next.parts c.first_branch.new.parts (λ n. table.any_of []) c.args.nexts.now x x
    c.loop-next.made.items _ c.loop-next._next-index c.in_ok-f.f (table.any_of [])
    c.loop-next-test.true c._next-item.is refl c.in_ok-push.ensures.items c.loop-next.invariant c.in_ok-f.ensures.made

pub returns : goal.returns
returns c = record {
  made = map-taken c.args.parts.now c.loop-next.parts (λ n. table.any_of [])
      c.args.nexts.now c.loop-next.made.items c.loop-next._next-index (omega arith) c.loop-next.invariant;
}
