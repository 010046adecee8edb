use Rattle.std.proofs.Common.{◌≡◌, ◌<◌, ap, ◌∙◌, arith, length, take, map}
use Rattle.ctl_formula.specs.Tables.{at, plains}
use Rattle.ctl_fixpoint.specs.RequiredWords.Words.{needs}
use Rattle.ctl_fixpoint.proofs.RequiredWords.NeedLemmas.{known-more, known-all, known-within}
use Rattle.ctl_fixpoint.proofs.required_words.needs.needs.Goals as goal

pub loop-i-preserved : goal.loop-i-preserved
loop-i-preserved c =
    let h : c.loop-i.i < length c.args.f.now.nodes = omega arith in
    known-more (needs c.args.word.now) c.args.f.now.nodes c.loop-i.i
    c.loop-i.known.items c.push.new.self.items c.needs_of.result c.node-node.result.now
    h c.node-node.ensures.kids c.node-node.ensures.is c.in_ok-push.ensures.items c.loop-i.invariant
    (c.needs_of.ensures (take c.loop-i.i (plains c.args.f.now.nodes)) (c.as_slice.ensures.value ∙ c.loop-i.invariant))

pub part_needs-requires : goal.part_needs-requires
part_needs-requires c =
    let ns = c.args.f.now.nodes in
    let e : c.loop-i.known.items ≡ map (needs c.args.word.now) (plains ns) =
    known-all (needs c.args.word.now) ns c.loop-i.i c.loop-i.known.items (omega arith) c.loop-i.invariant in
    known-within (needs c.args.word.now) ns c.loop-i.known.items c.as_slice-all.result.now c.root-root.result
    c.root-root.ensures.within c.as_slice-all.ensures.value e

pub returns : goal.returns
returns c =
    let ns = c.args.f.now.nodes in
    let e : c.loop-i.known.items ≡ map (needs c.args.word.now) (plains ns) =
    known-all (needs c.args.word.now) ns c.loop-i.i c.loop-i.known.items (omega arith) c.loop-i.invariant in
    c.part_needs.ensures (plains ns) (c.as_slice-all.ensures.value ∙ e)
    ∙ ap (λ r. needs c.args.word.now (at (plains ns) r)) c.root-root.ensures.root
