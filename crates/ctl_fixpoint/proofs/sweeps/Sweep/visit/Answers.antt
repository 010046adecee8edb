use Rattle.std.proofs.Common.{◌≡◌, ◌+◌, ◌<◌, [], List, length, get_or, refl, sym, ap, ◌∙◌, arith}
use Rattle.std.proofs.lemmas.List.{get_or_read}
use Rattle.std.proofs.Math.ListN.{set}
use Rattle.env_sets.specs.Sets.{Entries, set_denotes}
use Rattle.smpl_terms.specs.Environments.{Environment}
use Rattle.ctl_fixpoint.specs.Steps.{set_of, row_vars}
use Rattle.ctl_fixpoint.specs.Sweeps.{Sweeping, round_of}
use Rattle.ctl_fixpoint.proofs.SweepLemmas.{visit_same, visit_changed}
use Rattle.ctl_fixpoint.proofs.sweeps.Sweep.visit.Goals as goal

pub returns-then-same_set : goal.returns-then-same_set
returns-then-same_set c =
    let inner = c.self.inside in
    let sets : inner.sets.items ≡ c.args.self.now.sets = ap (λ (w : Sweeping). w.sets) c.self.view_is in
    let seen : inner.seen.items ≡ c.args.self.now.seen = ap (λ (w : Sweeping). w.seen) c.self.view_is in
    let changed : inner.changed.items ≡ c.args.self.now.changed = ap (λ (w : Sweeping). w.changed) c.self.view_is in
    let clock : inner.clock ≡ c.args.self.now.clock = ap (λ (w : Sweeping). w.clock) c.self.view_is in
    let read : c.deref.result.now ≡ c.args.self.now.sets = c.deref.ensures.value ∙ sets in
    let lt : c.args.s < length inner.sets.items =
    omega (arith, ap length sets, c.requires.node, c.requires.sweep.sets_each) in
    let old : c.index.result.now ≡ set_of c.args.self.now.sets c.args.s =
    get_or_read inner.sets.items c.args.s c.index.result.now lt c.index.ensures [] ∙ ap (λ l. set_of l c.args.s) sets in
    let alike = c.same_set.ensures.meaning c.if-same_set.true in
    visit_same c.args.g.now c.requires.sound c.args.every c.args.way.now c.args.end.now c.args.self.now c.requires.sweep
    c.args.s c.requires.node _ sets (ap (λ l. set l c.args.s inner.clock) seen ∙ ap (set c.args.self.now.seen c.args.s) clock)
    changed clock
    (λ env.
    ap (λ (e : Entries). set_denotes e env) (sym old) ∙ sym (alike env) ∙ c.in_ok-set.ensures.gives env
    ∙ ap (λ x. round_of c.args.g.now c.args.every c.args.way.now c.args.end.now x c.args.s env) read)

pub returns : goal.returns
returns c =
    let inner = c.self.inside in
    let sets : inner.sets.items ≡ c.args.self.now.sets = ap (λ (w : Sweeping). w.sets) c.self.view_is in
    let seen : inner.seen.items ≡ c.args.self.now.seen = ap (λ (w : Sweeping). w.seen) c.self.view_is in
    let changed : inner.changed.items ≡ c.args.self.now.changed = ap (λ (w : Sweeping). w.changed) c.self.view_is in
    let clock : inner.clock ≡ c.args.self.now.clock = ap (λ (w : Sweeping). w.clock) c.self.view_is in
    let read : c.deref.result.now ≡ c.args.self.now.sets = c.deref.ensures.value ∙ sets in
    visit_changed c.args.g.now c.requires.sound c.args.every c.args.way.now c.args.end.now c.args.self.now c.requires.sweep
    c.args.s c.requires.node _ c.in_ok-set.set (ap (λ l. set l c.args.s c.in_ok-set.set) sets)
    (ap (λ l. set l c.args.s inner.clock) seen ∙ ap (set c.args.self.now.seen c.args.s) clock)
    (ap (λ l. set l c.args.s (inner.clock + 1)) changed
    ∙ ap (λ n. set c.args.self.now.changed c.args.s (n + 1)) clock)
    (ap (λ n. n + 1) clock)
    (λ env. c.in_ok-set.ensures.gives env
    ∙ ap (λ x. round_of c.args.g.now c.args.every c.args.way.now c.args.end.now x c.args.s env) read)
    (λ test u v h. c.in_ok-set.ensures.vars test u v (ap (row_vars test) read ∙ h))
