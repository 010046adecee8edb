use Rattle.std.proofs.Common.{◌≡◌, ℕ, ◌+◌, ◌<◌, Bool, ◌&&◌, true, false, not, refl, sym, ap, ◌∙◌, arith, List, length, get_or, take}
use Rattle.std.specs.List.{list_all}
use Rattle.smpl_terms.specs.declared.value.Value.TheVariants.{Place}
use Rattle.smpl_terms.specs.Values.{same}
use Rattle.env_sets.specs.Sets.{set_denotes}
use Rattle.env_sets.proofs.LoopLemmas.{all_step, both_parts}
use Rattle.pat_match.proofs.tokens.with_nots.Goals as goal

and_third : (a b c : Bool) → ((a && b) && c) ≡ (a && (b && c))
and_third true b c = refl
and_third false b c = refl

-- one more variable that is not the place
all_next : {X : Type 0} (q : X → Bool) (xs : List X) (i : ℕ) (x : X) (set new old other : Bool) → i < length xs
    → x ≡ get_or xs i x → new ≡ (old && other) → other ≡ q x → old ≡ (set && list_all q (take i xs))
    → new ≡ (set && list_all q (take (i + 1) xs))
all_next q xs i x set new old other lt is e f g =
    e ∙ (λ k. g k && f k) ∙ and_third set (list_all q (take i xs)) (q x)
    ∙ ap (λ b. set && b) (sym (all_step q xs i x lt is))

pub loop-y-preserved : goal.loop-y-preserved
loop-y-preserved c =
    let lt : c.loop-y.y-index < length c.args.vars.now = omega arith in
    record {
      meaning = λ env. all_next (λ y. not (same (Place c.args.id) (env y))) c.args.vars.now c.loop-y.y-index c.y-item.result (set_denotes c.args.set env)
          (set_denotes c.in_ok-out.out env) (set_denotes c.loop-y.out env) (set_denotes c.in_ok-other.other env) lt c.y-item.is
          (c.in_ok-out.ensures.meaning env) (c.in_ok-other.ensures.meaning env) (c.loop-y.invariant.meaning env);
      vars = λ t h all.
          let parts = both_parts (list_all t (take c.loop-y.y-index c.args.vars.now)) (t c.y-item.result)
          (sym (all_step t c.args.vars.now c.loop-y.y-index c.y-item.result lt c.y-item.is) ∙ all) in
          c.in_ok-out.ensures.vars t (c.loop-y.invariant.vars t h parts.0) (c.in_ok-other.ensures.vars t parts.1);
    }
