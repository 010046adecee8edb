use Rattle.std.proofs.Common.{◌≡◌, ◌∙◌, sym, ap, length}
use Rattle.ctl_formula.specs.Plain.{Plain}
use Rattle.ctl_formula.specs.Plain as plain
use Rattle.ctl_table.specs.Table as table
use Rattle.ctl_formula.specs.Tables.{at, plains, Grows}
use Rattle.ctl_formula.proofs.TableLemmas.{grows-trans}
use Rattle.ctl_table.proofs.MakingLemmas.{made-up, made-then, stays, and-of, or-of, eu-of, both-true, lt-test, stands-still}
use Rattle.ctl_table.proofs.WrapLemmas.{nested-plus}
use Rattle.ctl_table.proofs.wrap.nested.Goals as goal

pub returns-then-not-plus : goal.returns-then-not-plus
returns-then-not-plus c =
    let m1 = c.in_ok-no.ensures.made in
    let g1 : Grows c.args.parts.now c.push.new.self = m1.grows in
    let e2 = or-of (at (plains c.push.new.self) c.args.p) (at (plains c.push.new.self) c.in_ok-no.no)
    (at (plains c.args.parts.now) c.args.p) (plain.Not (at (plains c.args.parts.now) c.args.p))
    (stays c.args.parts.now c.push.new.self c.args.p g1 c.requires.p) m1.is in
    let m2 = c.in_ok-either.ensures.made in
    let g2 : Grows c.args.parts.now c.push-2.new.self = grows-trans c.args.parts.now c.push.new.self c.push-2.new.self g1 m2.grows in
    let either2 : (at (plains c.push-2.new.self) c.in_ok-either.either)
    ≡ (plain.Or (at (plains c.args.parts.now) c.args.p) (plain.Not (at (plains c.args.parts.now) c.args.p))) = m2.is ∙ e2 in
    let e3 = and-of (at (plains c.push-2.new.self) c.args.d) (at (plains c.push-2.new.self) c.in_ok-either.either)
    (at (plains c.args.parts.now) c.args.d)
    (plain.Or (at (plains c.args.parts.now) c.args.p) (plain.Not (at (plains c.args.parts.now) c.args.p)))
    (stays c.args.parts.now c.push-2.new.self c.args.d g2 c.requires.d) either2 in
    let m3 = c.in_ok-through.ensures.made in
    let g3 : Grows c.args.parts.now c.push-3.new.self = grows-trans c.args.parts.now c.push-2.new.self c.push-3.new.self g2 m3.grows in
    let through3 : (at (plains c.push-3.new.self) c.in_ok-through.through)
    ≡ (plain.And (at (plains c.args.parts.now) c.args.d)
    (plain.Or (at (plains c.args.parts.now) c.args.p) (plain.Not (at (plains c.args.parts.now) c.args.p)))) = m3.is ∙ e3 in
    let e4 : table.until c.args.forall_walks c.args.strict (at (plains c.push-3.new.self) c.in_ok-through.through)
    (at (plains c.push-3.new.self) c.args.t)
    ≡ (table.until c.args.forall_walks c.args.strict
    (plain.And (at (plains c.args.parts.now) c.args.d)
    (plain.Or (at (plains c.args.parts.now) c.args.p) (plain.Not (at (plains c.args.parts.now) c.args.p)))) (at (plains c.args.parts.now) c.args.t)) =
    ap (λ (z : Plain). table.until c.args.forall_walks c.args.strict z (at (plains c.push-3.new.self) c.args.t)) through3
    ∙ ap (λ (z : Plain). table.until c.args.forall_walks c.args.strict
    (plain.And (at (plains c.args.parts.now) c.args.d)
    (plain.Or (at (plains c.args.parts.now) c.args.p) (plain.Not (at (plains c.args.parts.now) c.args.p)))) z)
    (stays c.args.parts.now c.push-3.new.self c.args.t g3 c.requires.t) in
    let m4 = c.in_ok-f.ensures.made in
    record {
      made = made-then c.args.parts.now c.push-3.new.self c.until.new.parts c.in_ok-f.f _
          (table.nested c.args.forall_walks c.args.plus c.args.strict (at (plains c.args.parts.now) c.args.d)
          (at (plains c.args.parts.now) c.args.p) (at (plains c.args.parts.now) c.args.t)) g3 m4
          (e4 ∙ ap (λ b. table.nested c.args.forall_walks b c.args.strict (at (plains c.args.parts.now) c.args.d)
          (at (plains c.args.parts.now) c.args.p) (at (plains c.args.parts.now) c.args.t)) (sym c.if-not-plus.true));
    }

pub push-requires-7 : goal.push-requires-7
push-requires-7 c =
    let m1 = c.in_ok-no.ensures.made in
    let g1 : Grows c.args.parts.now c.push.new.self = m1.grows in
    let e2 = or-of (at (plains c.push.new.self) c.args.p) (at (plains c.push.new.self) c.in_ok-no.no)
    (at (plains c.args.parts.now) c.args.p) (plain.Not (at (plains c.args.parts.now) c.args.p))
    (stays c.args.parts.now c.push.new.self c.args.p g1 c.requires.p) m1.is in
    let m2 = c.in_ok-either.ensures.made in
    let g2 : Grows c.args.parts.now c.push-2.new.self = grows-trans c.args.parts.now c.push.new.self c.push-2.new.self g1 m2.grows in
    let either2 : (at (plains c.push-2.new.self) c.in_ok-either.either)
    ≡ (plain.Or (at (plains c.args.parts.now) c.args.p) (plain.Not (at (plains c.args.parts.now) c.args.p))) = m2.is ∙ e2 in
    let e3 = and-of (at (plains c.push-2.new.self) c.args.d) (at (plains c.push-2.new.self) c.in_ok-either.either)
    (at (plains c.args.parts.now) c.args.d)
    (plain.Or (at (plains c.args.parts.now) c.args.p) (plain.Not (at (plains c.args.parts.now) c.args.p)))
    (stays c.args.parts.now c.push-2.new.self c.args.d g2 c.requires.d) either2 in
    let m3 = c.in_ok-through.ensures.made in
    let g3 : Grows c.args.parts.now c.push-3.new.self = grows-trans c.args.parts.now c.push-2.new.self c.push-3.new.self g2 m3.grows in
    let through3 : (at (plains c.push-3.new.self) c.in_ok-through.through)
    ≡ (plain.And (at (plains c.args.parts.now) c.args.d)
    (plain.Or (at (plains c.args.parts.now) c.args.p) (plain.Not (at (plains c.args.parts.now) c.args.p)))) = m3.is ∙ e3 in
    let e4 : table.until c.args.forall_walks c.args.strict (at (plains c.push-3.new.self) c.in_ok-through.through)
    (at (plains c.push-3.new.self) c.args.t)
    ≡ (table.until c.args.forall_walks c.args.strict
    (plain.And (at (plains c.args.parts.now) c.args.d)
    (plain.Or (at (plains c.args.parts.now) c.args.p) (plain.Not (at (plains c.args.parts.now) c.args.p)))) (at (plains c.args.parts.now) c.args.t)) =
    ap (λ (z : Plain). table.until c.args.forall_walks c.args.strict z (at (plains c.push-3.new.self) c.args.t)) through3
    ∙ ap (λ (z : Plain). table.until c.args.forall_walks c.args.strict
    (plain.And (at (plains c.args.parts.now) c.args.d)
    (plain.Or (at (plains c.args.parts.now) c.args.p) (plain.Not (at (plains c.args.parts.now) c.args.p)))) z)
    (stays c.args.parts.now c.push-3.new.self c.args.t g3 c.requires.t) in
    let m4 = c.in_ok-f.ensures.made in
    let g4 : Grows c.args.parts.now c.until.new.parts = grows-trans c.args.parts.now c.push-3.new.self c.until.new.parts g3 m4.grows in
    let f4 : (at (plains c.until.new.parts) c.in_ok-f.f)
    ≡ (table.until c.args.forall_walks c.args.strict
    (plain.And (at (plains c.args.parts.now) c.args.d)
    (plain.Or (at (plains c.args.parts.now) c.args.p) (plain.Not (at (plains c.args.parts.now) c.args.p))))
    (at (plains c.args.parts.now) c.args.t)) = m4.is ∙ e4 in
    let e5 = eu-of (at (plains c.until.new.parts) c.args.d) (at (plains c.until.new.parts) c.args.t)
    (at (plains c.args.parts.now) c.args.d) (at (plains c.args.parts.now) c.args.t)
    (stays c.args.parts.now c.until.new.parts c.args.d g4 c.requires.d) (stays c.args.parts.now c.until.new.parts c.args.t g4 c.requires.t) in
    let m5 = c.in_ok-rest.ensures.made in
    let g5 : Grows c.args.parts.now c.push-4.new.self = grows-trans c.args.parts.now c.until.new.parts c.push-4.new.self g4 m5.grows in
    let rest5 : (at (plains c.push-4.new.self) c.in_ok-rest.rest)
    ≡ (plain.EU (at (plains c.args.parts.now) c.args.d) (at (plains c.args.parts.now) c.args.t)) = m5.is ∙ e5 in
    let e6 = and-of (at (plains c.push-4.new.self) c.args.d) (at (plains c.push-4.new.self) c.args.p)
    (at (plains c.args.parts.now) c.args.d) (at (plains c.args.parts.now) c.args.p)
    (stays c.args.parts.now c.push-4.new.self c.args.d g5 c.requires.d) (stays c.args.parts.now c.push-4.new.self c.args.p g5 c.requires.p) in
    let m6 = c.in_ok-here.ensures.made in
    let g6 : Grows c.args.parts.now c.push-5.new.self = grows-trans c.args.parts.now c.push-4.new.self c.push-5.new.self g5 m6.grows in
    let here6 : (at (plains c.push-5.new.self) c.in_ok-here.here)
    ≡ (plain.And (at (plains c.args.parts.now) c.args.d) (at (plains c.args.parts.now) c.args.p)) = m6.is ∙ e6 in
    let rest6 : (at (plains c.push-5.new.self) c.in_ok-rest.rest)
    ≡ (plain.EU (at (plains c.args.parts.now) c.args.d) (at (plains c.args.parts.now) c.args.t)) =
    stays c.push-4.new.self c.push-5.new.self c.in_ok-rest.rest m6.grows m5.within ∙ rest5 in
    let e7 = and-of (at (plains c.push-5.new.self) c.in_ok-here.here) (at (plains c.push-5.new.self) c.in_ok-rest.rest)
    (plain.And (at (plains c.args.parts.now) c.args.d) (at (plains c.args.parts.now) c.args.p))
    (plain.EU (at (plains c.args.parts.now) c.args.d) (at (plains c.args.parts.now) c.args.t)) here6 rest6 in
    let m7 = c.in_ok-both.ensures.made in
    let g7 : Grows c.args.parts.now c.push-6.new.self = grows-trans c.args.parts.now c.push-5.new.self c.push-6.new.self g6 m7.grows in
    let both7 : (at (plains c.push-6.new.self) c.in_ok-both.both)
    ≡ (plain.And (plain.And (at (plains c.args.parts.now) c.args.d) (at (plains c.args.parts.now) c.args.p))
    (plain.EU (at (plains c.args.parts.now) c.args.d) (at (plains c.args.parts.now) c.args.t))) = m7.is ∙ e7 in
    both-true _ _ (lt-test c.args.d (length c.push-6.new.self)
    (stands-still c.args.parts.now c.push-6.new.self c.args.d g7 c.requires.d)) (lt-test c.in_ok-both.both (length c.push-6.new.self) m7.within)

pub returns : goal.returns
returns c =
    let m1 = c.in_ok-no.ensures.made in
    let g1 : Grows c.args.parts.now c.push.new.self = m1.grows in
    let e2 = or-of (at (plains c.push.new.self) c.args.p) (at (plains c.push.new.self) c.in_ok-no.no)
    (at (plains c.args.parts.now) c.args.p) (plain.Not (at (plains c.args.parts.now) c.args.p))
    (stays c.args.parts.now c.push.new.self c.args.p g1 c.requires.p) m1.is in
    let m2 = c.in_ok-either.ensures.made in
    let g2 : Grows c.args.parts.now c.push-2.new.self = grows-trans c.args.parts.now c.push.new.self c.push-2.new.self g1 m2.grows in
    let either2 : (at (plains c.push-2.new.self) c.in_ok-either.either)
    ≡ (plain.Or (at (plains c.args.parts.now) c.args.p) (plain.Not (at (plains c.args.parts.now) c.args.p))) = m2.is ∙ e2 in
    let e3 = and-of (at (plains c.push-2.new.self) c.args.d) (at (plains c.push-2.new.self) c.in_ok-either.either)
    (at (plains c.args.parts.now) c.args.d)
    (plain.Or (at (plains c.args.parts.now) c.args.p) (plain.Not (at (plains c.args.parts.now) c.args.p)))
    (stays c.args.parts.now c.push-2.new.self c.args.d g2 c.requires.d) either2 in
    let m3 = c.in_ok-through.ensures.made in
    let g3 : Grows c.args.parts.now c.push-3.new.self = grows-trans c.args.parts.now c.push-2.new.self c.push-3.new.self g2 m3.grows in
    let through3 : (at (plains c.push-3.new.self) c.in_ok-through.through)
    ≡ (plain.And (at (plains c.args.parts.now) c.args.d)
    (plain.Or (at (plains c.args.parts.now) c.args.p) (plain.Not (at (plains c.args.parts.now) c.args.p)))) = m3.is ∙ e3 in
    let e4 : table.until c.args.forall_walks c.args.strict (at (plains c.push-3.new.self) c.in_ok-through.through)
    (at (plains c.push-3.new.self) c.args.t)
    ≡ (table.until c.args.forall_walks c.args.strict
    (plain.And (at (plains c.args.parts.now) c.args.d)
    (plain.Or (at (plains c.args.parts.now) c.args.p) (plain.Not (at (plains c.args.parts.now) c.args.p)))) (at (plains c.args.parts.now) c.args.t)) =
    ap (λ (z : Plain). table.until c.args.forall_walks c.args.strict z (at (plains c.push-3.new.self) c.args.t)) through3
    ∙ ap (λ (z : Plain). table.until c.args.forall_walks c.args.strict
    (plain.And (at (plains c.args.parts.now) c.args.d)
    (plain.Or (at (plains c.args.parts.now) c.args.p) (plain.Not (at (plains c.args.parts.now) c.args.p)))) z)
    (stays c.args.parts.now c.push-3.new.self c.args.t g3 c.requires.t) in
    let m4 = c.in_ok-f.ensures.made in
    let g4 : Grows c.args.parts.now c.until.new.parts = grows-trans c.args.parts.now c.push-3.new.self c.until.new.parts g3 m4.grows in
    let f4 : (at (plains c.until.new.parts) c.in_ok-f.f)
    ≡ (table.until c.args.forall_walks c.args.strict
    (plain.And (at (plains c.args.parts.now) c.args.d)
    (plain.Or (at (plains c.args.parts.now) c.args.p) (plain.Not (at (plains c.args.parts.now) c.args.p))))
    (at (plains c.args.parts.now) c.args.t)) = m4.is ∙ e4 in
    let e5 = eu-of (at (plains c.until.new.parts) c.args.d) (at (plains c.until.new.parts) c.args.t)
    (at (plains c.args.parts.now) c.args.d) (at (plains c.args.parts.now) c.args.t)
    (stays c.args.parts.now c.until.new.parts c.args.d g4 c.requires.d) (stays c.args.parts.now c.until.new.parts c.args.t g4 c.requires.t) in
    let m5 = c.in_ok-rest.ensures.made in
    let g5 : Grows c.args.parts.now c.push-4.new.self = grows-trans c.args.parts.now c.until.new.parts c.push-4.new.self g4 m5.grows in
    let rest5 : (at (plains c.push-4.new.self) c.in_ok-rest.rest)
    ≡ (plain.EU (at (plains c.args.parts.now) c.args.d) (at (plains c.args.parts.now) c.args.t)) = m5.is ∙ e5 in
    let e6 = and-of (at (plains c.push-4.new.self) c.args.d) (at (plains c.push-4.new.self) c.args.p)
    (at (plains c.args.parts.now) c.args.d) (at (plains c.args.parts.now) c.args.p)
    (stays c.args.parts.now c.push-4.new.self c.args.d g5 c.requires.d) (stays c.args.parts.now c.push-4.new.self c.args.p g5 c.requires.p) in
    let m6 = c.in_ok-here.ensures.made in
    let g6 : Grows c.args.parts.now c.push-5.new.self = grows-trans c.args.parts.now c.push-4.new.self c.push-5.new.self g5 m6.grows in
    let here6 : (at (plains c.push-5.new.self) c.in_ok-here.here)
    ≡ (plain.And (at (plains c.args.parts.now) c.args.d) (at (plains c.args.parts.now) c.args.p)) = m6.is ∙ e6 in
    let rest6 : (at (plains c.push-5.new.self) c.in_ok-rest.rest)
    ≡ (plain.EU (at (plains c.args.parts.now) c.args.d) (at (plains c.args.parts.now) c.args.t)) =
    stays c.push-4.new.self c.push-5.new.self c.in_ok-rest.rest m6.grows m5.within ∙ rest5 in
    let e7 = and-of (at (plains c.push-5.new.self) c.in_ok-here.here) (at (plains c.push-5.new.self) c.in_ok-rest.rest)
    (plain.And (at (plains c.args.parts.now) c.args.d) (at (plains c.args.parts.now) c.args.p))
    (plain.EU (at (plains c.args.parts.now) c.args.d) (at (plains c.args.parts.now) c.args.t)) here6 rest6 in
    let m7 = c.in_ok-both.ensures.made in
    let g7 : Grows c.args.parts.now c.push-6.new.self = grows-trans c.args.parts.now c.push-5.new.self c.push-6.new.self g6 m7.grows in
    let both7 : (at (plains c.push-6.new.self) c.in_ok-both.both)
    ≡ (plain.And (plain.And (at (plains c.args.parts.now) c.args.d) (at (plains c.args.parts.now) c.args.p))
    (plain.EU (at (plains c.args.parts.now) c.args.d) (at (plains c.args.parts.now) c.args.t))) = m7.is ∙ e7 in
    let e8 = eu-of (at (plains c.push-6.new.self) c.args.d) (at (plains c.push-6.new.self) c.in_ok-both.both)
    (at (plains c.args.parts.now) c.args.d)
    (plain.And (plain.And (at (plains c.args.parts.now) c.args.d) (at (plains c.args.parts.now) c.args.p))
    (plain.EU (at (plains c.args.parts.now) c.args.d) (at (plains c.args.parts.now) c.args.t)))
    (stays c.args.parts.now c.push-6.new.self c.args.d g7 c.requires.d) both7 in
    let m8 = c.in_ok-some.ensures.made in
    let g8 : Grows c.args.parts.now c.push-7.new.self = grows-trans c.args.parts.now c.push-6.new.self c.push-7.new.self g7 m8.grows in
    let some8 : (at (plains c.push-7.new.self) c.in_ok-some.some)
    ≡ (plain.EU (at (plains c.args.parts.now) c.args.d)
    (plain.And (plain.And (at (plains c.args.parts.now) c.args.d) (at (plains c.args.parts.now) c.args.p))
    (plain.EU (at (plains c.args.parts.now) c.args.d) (at (plains c.args.parts.now) c.args.t)))) = m8.is ∙ e8 in
    let h6 : Grows c.until.new.parts c.push-5.new.self = grows-trans c.until.new.parts c.push-4.new.self c.push-5.new.self m5.grows m6.grows in
    let h7 : Grows c.until.new.parts c.push-6.new.self = grows-trans c.until.new.parts c.push-5.new.self c.push-6.new.self h6 m7.grows in
    let h8 : Grows c.until.new.parts c.push-7.new.self = grows-trans c.until.new.parts c.push-6.new.self c.push-7.new.self h7 m8.grows in
    let f8 : (at (plains c.push-7.new.self) c.in_ok-f.f)
    ≡ (table.until c.args.forall_walks c.args.strict
    (plain.And (at (plains c.args.parts.now) c.args.d)
    (plain.Or (at (plains c.args.parts.now) c.args.p) (plain.Not (at (plains c.args.parts.now) c.args.p))))
    (at (plains c.args.parts.now) c.args.t)) = stays c.until.new.parts c.push-7.new.self c.in_ok-f.f h8 m4.within ∙ f4 in
    let e9 = and-of (at (plains c.push-7.new.self) c.in_ok-f.f) (at (plains c.push-7.new.self) c.in_ok-some.some)
    (table.until c.args.forall_walks c.args.strict
    (plain.And (at (plains c.args.parts.now) c.args.d)
    (plain.Or (at (plains c.args.parts.now) c.args.p) (plain.Not (at (plains c.args.parts.now) c.args.p))))
    (at (plains c.args.parts.now) c.args.t))
    (plain.EU (at (plains c.args.parts.now) c.args.d)
    (plain.And (plain.And (at (plains c.args.parts.now) c.args.d) (at (plains c.args.parts.now) c.args.p))
    (plain.EU (at (plains c.args.parts.now) c.args.d) (at (plains c.args.parts.now) c.args.t)))) f8 some8
    ∙ sym (nested-plus c.args.forall_walks c.args.plus c.args.strict (at (plains c.args.parts.now) c.args.d)
    (at (plains c.args.parts.now) c.args.p) (at (plains c.args.parts.now) c.args.t) c.if-not-plus.false) in
    record { made = made-up c.args.parts.now c.push-7.new.self c.push-8.new.self c.push-8.result _ _ g8 e9 c.push-8.ensures.made }
