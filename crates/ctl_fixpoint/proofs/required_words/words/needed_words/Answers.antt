use Rattle.std.proofs.Common.{◌≤◌, ◌&&◌, arith, length}
use Rattle.std.specs.List.{list_any}
use Rattle.ctl_formula.specs.Formulas.{plain}
use Rattle.ctl_fixpoint.specs.RequiredWords.Words.{needs}
use Rattle.ctl_fixpoint.specs.RequiredWords.Standing.{stands_at}
use Rattle.ctl_fixpoint.proofs.RequiredWords.NeedLemmas.{node_more, nodes_all}
use Rattle.ctl_fixpoint.proofs.required_words.words.needed_words.Goals as goal

pub loop-i-preserved : goal.loop-i-preserved
loop-i-preserved c = λ w.
    node_more w (needs w (plain c.args.f.now)) c.args.f.now.nodes c.loop-i.i c.node.result.now c.loop-i.found c.put_node.new.found
    (needs w (plain c.args.f.now) && list_any (stands_at w) c.args.f.now.nodes)
    c.node.ensures.node (c.in_ok-put_node.ensures w) (c.loop-i.invariant w)

pub returns : goal.returns
returns c =
    let le : length c.args.f.now.nodes ≤ c.loop-i.i = omega arith in
    record { words = λ w. nodes_all w c.args.f.now.nodes c.args.f.now.root c.loop-i.i c.loop-i.found le (c.loop-i.invariant w) }
