use Rattle.std.proofs.Common.{arith, ◌≡◌, ◌&&◌, false, sym, ap, subst, ◌∙◌}
use Rattle.std.proofs.lemmas.Bool.{false≢true}
use Rattle.smpl_terms.specs.Vars.{same_var, var_order, Rising, place_of}
use Rattle.smpl_terms.proofs.VarLaws.{same_var-equal, var_order-same}
use Rattle.smpl_terms.proofs.PairLemmas.{Rising-insert_at, Rising-set, place-le-length}
use Rattle.env_sets.specs.Bounds.{fits}
use Rattle.env_sets.specs.Sets.{entry_denotes, entry_vars}
use Rattle.env_sets.proofs.LoopLemmas.{all_fails_at_both}
use Rattle.env_sets.proofs.PairLemmas.{insert_meaning, insert_vars, set_meaning, set_vars_kept, one_place}
use Rattle.env_sets.proofs.entries.Entry.bounded.Goals as goal
use Rattle.env_sets.proofs.entries.Entry.bounded.Goals.{else-at-len-via-then-at-len+else-same_var, else-at-len-via-else-at-len}

pub of-requires : goal.of-requires
of-requires c =
    let here = same_var-equal c.index.result.now.0 c.args.v.now (sym c.same_var.ensures.value ∙ c.if-same_var.true) ∙ sym c.in_ok-x.ensures.same in
    record {
      rising = Rising-set c.in_ok-pairs.pairs.items c.place-at.result c.in_ok-x.x c.in-Some.both c.index.result.now
          (subst Rising (sym c.in_ok-pairs.ensures.pairs) c.into_vec.ensures.rising) (omega arith) (ap (λ p. p.0) (sym c.index.ensures) ∙ here);
    }

pub insert-requires : goal.insert-requires
insert-requires c = let h = place-le-length c.args.v.now c.deref.result.now in omega (arith, c.deref.ensures.len, c.place-at.ensures)

pub of-requires-else-at-len : goal.of-requires-else-at-len
of-requires-else-at-len c =
    let at : c.place-at.result ≡ place_of c.in_ok-x.x c.in_ok-pairs.pairs.items =
    c.place-at.ensures ∙ (λ i. place_of (sym c.in_ok-x.ensures.same i) (c.deref.ensures.value i)) in
    record {
      rising = subst Rising (sym c.in_ok-insert.ensures.items)
          (elim c.else-at-len.branch [
            | else-at-len-via-then-at-len+else-same_var w ↦
                Rising-insert_at c.in_ok-x.x c.in_ok-copy.field-0 w.index.result.now c.in_ok-pairs.pairs.items c.place-at.result
                at (subst Rising (sym c.in_ok-pairs.ensures.pairs) c.into_vec.ensures.rising)
                (λ lt e. false≢true (
                sym (sym w.same_var.ensures.value ∙ w.if-same_var.false)
                ∙ ap (same_var w.index.result.now.0) (sym c.in_ok-x.ensures.same)
                ∙ var_order-same w.index.result.now.0 c.in_ok-x.x (ap (λ p. var_order p.0 c.in_ok-x.x) w.index.ensures ∙ e)))
            | else-at-len-via-else-at-len w ↦
                Rising-insert_at c.in_ok-x.x c.in_ok-copy.field-0
                (c.in_ok-x.x, c.in_ok-copy.field-0) c.in_ok-pairs.pairs.items c.place-at.result at
                (subst Rising (sym c.in_ok-pairs.ensures.pairs) c.into_vec.ensures.rising)
                (λ lt e. absurd (omega arith))
          ]);
    }

pub returns-in-None-clause-meaning : goal.returns-in-None-clause-meaning
returns-in-None-clause-meaning c = λ env.
    let here = same_var-equal c.index.result.now.0 c.args.v.now (sym c.same_var.ensures.value ∙ c.if-same_var.true) in
    let same_item = one_place c.in_ok-pairs.pairs.items c.place-at.result c.index.result.now c.index-then-same_var.result.now
    (omega arith) c.index.ensures c.index-then-same_var.ensures in
    let bounds = c.in_ok-found.ensures (env c.args.v.now) in
    let nothing : false ≡ (fits (env c.args.v.now) c.index-then-same_var.result.now.1
    && fits (env c.args.v.now) c.args.bound.now) = rw c.in-None.is at bounds in
    all_fails_at_both (λ p. fits (env p.0) p.1) c.in_ok-pairs.pairs.items c.args.self c.place-at.result c.index.result.now
    (fits (env c.args.v.now) c.args.bound.now) (omega arith) c.index.ensures (c.in_ok-pairs.ensures.pairs ∙ c.self.view_is)
    (nothing ∙ (λ i. fits (env (sym here i)) (sym same_item i).1 && fits (env c.args.v.now) c.args.bound.now))

pub returns-in_ok-map-in-Some-clause-meaning : goal.returns-in_ok-map-in-Some-clause-meaning
returns-in_ok-map-in-Some-clause-meaning c = λ env.
    let here = same_var-equal c.index.result.now.0 c.args.v.now (sym c.same_var.ensures.value ∙ c.if-same_var.true) ∙ sym c.in_ok-x.ensures.same in
    let same_item = one_place c.in_ok-pairs.pairs.items c.place-at.result c.index.result.now c.index-then-same_var.result.now
    (omega arith) c.index.ensures c.index-then-same_var.ensures in
    ap (λ ps. entry_denotes ps env) c.in_ok-map-in-Some.ensures.pairs
    ∙ set_meaning c.in_ok-pairs.pairs.items c.args.self c.place-at.result c.in_ok-x.x c.in-Some.both c.args.bound.now c.index.result.now
    (omega arith) c.index.ensures here
    (λ y. let bounds = c.in_ok-found.ensures y in
    let both : fits y c.in-Some.both ≡ (fits y c.index-then-same_var.result.now.1 && fits y c.args.bound.now) = rw c.in-Some.is at bounds in
    both ∙ ap (λ d. fits y d.1 && fits y c.args.bound.now) (sym same_item)) (c.in_ok-pairs.ensures.pairs ∙ c.self.view_is) env
    ∙ ap (λ x. entry_denotes c.args.self env && fits (env x) c.args.bound.now) c.in_ok-x.ensures.same

pub returns-in_ok-map-in-Some-clause-vars : goal.returns-in_ok-map-in-Some-clause-vars
returns-in_ok-map-in-Some-clause-vars c =
    λ t h k. ap (entry_vars t) c.in_ok-map-in-Some.ensures.pairs
    ∙ set_vars_kept c.in_ok-pairs.pairs.items c.args.self c.place-at.result c.in_ok-x.x c.in-Some.both c.index.result.now
    (omega arith) (c.in_ok-pairs.ensures.pairs ∙ c.self.view_is) t h (ap t c.in_ok-x.ensures.same ∙ k)

pub returns-in_ok-map-clause-meaning : goal.returns-in_ok-map-clause-meaning
returns-in_ok-map-clause-meaning c = λ env.
    ap (λ ps. entry_denotes ps env) c.in_ok-map.ensures.pairs
    ∙ insert_meaning c.in_ok-pairs.pairs.items c.args.self c.insert.new.self.items c.place-at.result c.in_ok-x.x c.in_ok-copy.field-0 c.args.bound.now
    c.in_ok-insert.ensures.items c.in_ok-copy.ensures.same (c.in_ok-pairs.ensures.pairs ∙ c.self.view_is) env
    ∙ ap (λ x. entry_denotes c.args.self env && fits (env x) c.args.bound.now) c.in_ok-x.ensures.same

pub returns-in_ok-map-clause-vars : goal.returns-in_ok-map-clause-vars
returns-in_ok-map-clause-vars c = λ t h k.
    ap (entry_vars t) c.in_ok-map.ensures.pairs
    ∙ insert_vars c.in_ok-pairs.pairs.items c.args.self c.insert.new.self.items c.place-at.result c.in_ok-x.x
    c.in_ok-copy.field-0 c.in_ok-insert.ensures.items (c.in_ok-pairs.ensures.pairs ∙ c.self.view_is) t h (ap t c.in_ok-x.ensures.same ∙ k)
