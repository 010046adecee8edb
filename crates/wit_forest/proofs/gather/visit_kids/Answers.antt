use Rattle.std.proofs.Common.{◌≡◌, ℕ, ◌<◌, ◌≤◌, ◌||◌, sym, ap, ◌∙◌, refl, subst, arith, List, length, get_or, Contains}
use Rattle.std.specs.List.{list_any}
use Rattle.smpl_terms.specs.Environments.{total}
use Rattle.wit_forest.specs.WitSteps.Steps.{kids}
use Rattle.wit_forest.specs.WitOrder.Forests.{has}
use Rattle.wit_forest.specs.Gathered.{node_at, holds_at, forest_at}
use Rattle.wit_forest.proofs.AddLemmas.{of_state}
use Rattle.wit_forest.proofs.LoopLemmas.{any_default, put_none, put_more, put_there, put_done, grows_with}
use Rattle.wit_forest.proofs.ReadyLemmas.{node_read, item_in_range, kids_told}
use Rattle.wit_forest.proofs.gather.visit_kids.Goals as goal

pub loop-kid-init : goal.loop-kid-init
loop-kid-init c =
    put_none c.args.g.now c.args.f.now {X = ℕ × ℕ} (λ k. k.0) (λ k. k.1) (λ k. total c.args.env.now) c.args.part c.deref-kid-items.result.now c.args.states.now

pub loop-kid-preserved : goal.loop-kid-preserved
loop-kid-preserved c =
    let items = c.deref-kid-items.result.now in
    let lt : c.loop-kid.kid-index < length items = omega arith in
    let kid = get_or items c.loop-kid.kid-index (0, 0) in
    let is : kid ≡ get_or items c.loop-kid.kid-index kid = any_default items c.loop-kid.kid-index (0, 0) kid lt in
    put_more c.args.g.now c.args.f.now {X = ℕ × ℕ} (λ k. k.0) (λ k. k.1) (λ k. total c.args.env.now) c.args.part items c.loop-kid.kid-index
    c.args.states.now c.loop-kid.states c.add.new.self kid c.args.env.now
    lt is c.loop-kid.invariant refl c.in_ok-add.ensures.added c.in_ok-add.ensures.covered
    (item_in_range c.args.g.now c.args.f.now c.args.sets.now c.requires.ready c.args.part c.args.part c.args.node c.requires.range
    c.node.result.now c.node.ensures.is c.node.ensures.kids (total c.args.env.now) items (c.deref-kid-items.ensures.value ∙ c.in_ok-kids.ensures.kids)
    kid (c.loop-kid.kid-index, lt, sym is))

pub returns-clause-there : goal.returns-clause-there
returns-clause-there c = λ z.
    let items = c.deref-kid-items.result.now in
    let le : length items ≤ c.loop-kid.kid-index = omega arith in
    let g = c.args.g.now in
    let f = c.args.f.now in
    let env = total c.args.env.now in
    let node = c.node.result.now in
    let told_kids = kids_told g f c.args.sets.now c.requires.ready c.args.part c.args.part c.args.node c.requires.range node
    c.node.ensures.is c.node.ensures.kids env in
    let here = ap (λ y. kids g (holds_at g f env) y c.args.part c.args.node) (sym (node_read g f c.args.part node c.node.ensures.node)) in
    put_there g f {X = ℕ × ℕ} (λ k. k.0) (λ k. k.1)
    (λ k. env) c.args.part items c.loop-kid.kid-index c.args.states.now c.loop-kid.states le c.loop-kid.invariant z
    ∙ ap (λ (l : List (ℕ × ℕ)). list_any (of_state g f z) c.args.states.now || list_any (λ (k : ℕ × ℕ). has (forest_at g f k.0 k.1 env) z) l)
    (c.deref-kid-items.ensures.value ∙ c.in_ok-kids.ensures.kids ∙ told_kids ∙ here)

pub returns-clause-done : goal.returns-clause-done
returns-clause-done c = λ k m.
    let items = c.deref-kid-items.result.now in
    let le : length items ≤ c.loop-kid.kid-index = omega arith in
    let g = c.args.g.now in
    let f = c.args.f.now in
    let env = total c.args.env.now in
    let node = c.node.result.now in
    let told_kids = kids_told g f c.args.sets.now c.requires.ready c.args.part c.args.part c.args.node c.requires.range node
    c.node.ensures.is c.node.ensures.kids env in
    let here = ap (λ y. kids g (holds_at g f env) y c.args.part c.args.node) (sym (node_read g f c.args.part node c.node.ensures.node)) in
    let same_items : items ≡ kids g (holds_at g f env) (node_at g f c.args.part) c.args.part c.args.node =
    c.deref-kid-items.ensures.value ∙ c.in_ok-kids.ensures.kids ∙ told_kids ∙ here in
    put_done g f {X = ℕ × ℕ} (λ k. k.0) (λ k. k.1)
    (λ k. env) c.args.part items c.loop-kid.kid-index c.args.states.now c.loop-kid.states le c.loop-kid.invariant k
    (subst (λ (l : List (ℕ × ℕ)). Contains l k) (sym same_items) m)

pub returns-clause-grows : goal.returns-clause-grows
returns-clause-grows c = λ found. grows_with c.args.g.now c.args.f.now c.args.part c.args.states.now c.loop-kid.states found c.loop-kid.invariant.grows
