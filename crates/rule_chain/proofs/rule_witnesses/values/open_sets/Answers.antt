use Rattle.std.proofs.Common.{◌≡◌, ◌<◌, ◌+◌, ◌-◌, [], ◌∷◌, ◌++◌, ap, ◌∙◌, sym, subst, arith, length, drop, get_or}
use Rattle.std.proofs.lemmas.List.{get_or_read, length_push}
use Rattle.env_sets.specs.Laws.{IsProjection}
use Rattle.rule_chain.specs.RuleWitnesses.Opened.{IsOpen}
use Rattle.rule_chain.proofs.RuleWitnesses.ExtendLemmas.{open_first, open_step}
use Rattle.rule_chain.proofs.rule_witnesses.values.open_sets.Goals as goal

pub loop-i-init : goal.loop-i-init
loop-i-init c =
    let items : c.push.new.self.items ≡ c.args.set.now ∷ [] =
    c.in_ok-push.ensures.items ∙ (λ i. c.new-sets.ensures.items i ++ c.in_ok-copy.ensures.same i ∷ []) in
    record { len = ap length items; each = open_first c.args.set.now c.args.vars.now c.push.new.self.items items }

pub loop-i-preserved : goal.loop-i-preserved
loop-i-preserved c =
    let set = c.args.set.now in
    let vars = c.args.vars.now in
    let sets = c.loop-i.sets.items in
    let lt : c.loop-i.i < length vars = omega arith in
    let low : c.loop-i.i < length sets = omega (arith, c.loop-i.invariant.len) in
    let items : c.push-in-loop-i.new.self.items ≡ sets ++ c.in_ok-next.next ∷ [] = c.in_ok-push-2.ensures.items in
    let last = get_or_read sets c.loop-i.i c.index.result.now low c.index.ensures [] in
    record {
      len = ap length items ∙ length_push sets c.in_ok-next.next ∙ ap (λ n. n + 1) c.loop-i.invariant.len;
      each = λ k le. subst (λ l. IsOpen set (drop (length vars - k) vars) (get_or l k [])) (sym items)
          (open_step set vars sets c.in_ok-next.next c.loop-i.i c.index-vars-vars.result lt c.index-vars-vars.is c.loop-i.invariant.len
          c.loop-i.invariant.each (subst (λ o. IsProjection c.index-vars-vars.result o c.in_ok-next.next) last c.in_ok-next.ensures.meaning) k le);
    }
