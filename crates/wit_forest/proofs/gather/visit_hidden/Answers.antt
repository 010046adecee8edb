use Rattle.std.proofs.Common.{◌<◌, ◌≤◌, ap, ◌∙◌, arith, length}
use Rattle.std.specs.List.{list_any}
use Rattle.smpl_terms.specs.declared.value.Value.{Value}
use Rattle.smpl_terms.specs.Values.{same}
use Rattle.smpl_terms.specs.Environments.{change, total}
use Rattle.wit_forest.proofs.HiddenLemmas.{hidden_there, hidden_all, hidden_grows}
use Rattle.wit_forest.proofs.LoopLemmas.{put_none, put_more}
use Rattle.wit_forest.proofs.gather.visit_hidden.Goals as goal

pub loop-v-init : goal.loop-v-init
loop-v-init c =
    put_none c.args.g.now c.args.f.now {X = Value} (λ v. c.args.part) (λ v. c.args.node) (λ v. change (total c.args.env.now) c.args.x.now v)
    c.args.part c.deref-v-items.result.now c.args.states.now

pub loop-v-preserved : goal.loop-v-preserved
loop-v-preserved c =
    let lt : c.loop-v.v-index < length c.deref-v-items.result.now = omega arith in
    put_more c.args.g.now c.args.f.now {X = Value} (λ v. c.args.part) (λ v. c.args.node) (λ v. change (total c.args.env.now) c.args.x.now v)
    c.args.part c.deref-v-items.result.now c.loop-v.v-index c.args.states.now c.loop-v.states c.add.new.self c.v-item.result c.in_ok-inner.inner
    lt c.v-item.is c.loop-v.invariant (λ i y. c.in_ok-inner.ensures.value y i) c.in_ok-add.ensures.added c.in_ok-add.ensures.covered c.requires.range

pub returns-clause-there : goal.returns-clause-there
returns-clause-there c =
    let le : length c.deref-v-items.result.now ≤ c.loop-v.v-index = omega arith in
    hidden_there c.args.g.now c.args.f.now c.args.sets.now c.requires.ready c.args.x.now c.args.part c.args.node (total c.args.env.now) c.requires.range
    c.requires.bound c.requires.hidden c.deref-v-items.result.now
    (λ v. ap (λ us. list_any (λ u. same u v) us) c.deref-v-items.ensures.value ∙ c.in_ok-values.ensures.values v)
    c.loop-v.v-index c.args.states.now c.loop-v.states le c.loop-v.invariant

pub returns-clause-done : goal.returns-clause-done
returns-clause-done c =
    let le : length c.deref-v-items.result.now ≤ c.loop-v.v-index = omega arith in
    hidden_all c.args.g.now c.args.f.now c.args.sets.now c.requires.ready c.args.x.now c.args.part c.args.node (total c.args.env.now) c.requires.range
    c.requires.bound c.requires.hidden c.deref-v-items.result.now
    (λ v. ap (λ us. list_any (λ u. same u v) us) c.deref-v-items.ensures.value ∙ c.in_ok-values.ensures.values v)
    c.loop-v.v-index c.args.states.now c.loop-v.states le c.loop-v.invariant

pub returns-clause-grows : goal.returns-clause-grows
returns-clause-grows c =
    let le : length c.deref-v-items.result.now ≤ c.loop-v.v-index = omega arith in
    hidden_grows c.args.g.now c.args.f.now c.args.sets.now c.requires.ready c.args.x.now c.args.part c.args.node (total c.args.env.now) c.requires.range
    c.requires.bound c.requires.hidden c.deref-v-items.result.now
    (λ v. ap (λ us. list_any (λ u. same u v) us) c.deref-v-items.ensures.value ∙ c.in_ok-values.ensures.values v)
    c.loop-v.v-index c.args.states.now c.loop-v.states le c.loop-v.invariant
