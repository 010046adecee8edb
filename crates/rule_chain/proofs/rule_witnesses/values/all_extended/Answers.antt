use Rattle.std.proofs.Common.{◌≡◌, ◌<◌, ◌+◌, None, sym, subst, arith, length, drop}
use Rattle.std.specs.List.{All}
use Rattle.smpl_terms.specs.Environments.{value_in}
use Rattle.rule_chain.specs.RuleWitnesses.Extended.{AreExtended}
use Rattle.rule_chain.proofs.RuleWitnesses.ExtendLemmas.{new_at, new_rest, new_extended, choices_step}
use Rattle.rule_chain.proofs.rule_witnesses.values.all_extended.Goals as goal

pub extended-requires : goal.extended-requires
extended-requires c =
    let vars = c.args.vars.now in
    let x = c.index-vars-i.result in
    let lt : c.loop-i.i < length vars = omega arith in
    record {
      absent = subst (λ es. All (λ e. value_in e x ≡ None) es) (sym c.as_slice.ensures.value)
          (new_at x (drop (c.loop-i.i + 1) vars) c.loop-i.envs.items
          (new_rest vars c.loop-i.i x c.loop-i.envs.items lt c.index-vars-i.is c.loop-i.invariant.new));
    }

pub loop-i-preserved : goal.loop-i-preserved
loop-i-preserved c =
    let vars = c.args.vars.now in
    let x = c.index-vars-i.result in
    let o = c.index-sets-vars.result in
    let i = c.loop-i.i in
    let envs = c.loop-i.envs.items in
    let more = c.in_ok-envs.envs.items in
    let lt : i < length vars = omega arith in
    let given : AreExtended o x envs more = subst (λ es. AreExtended o x es more) c.as_slice.ensures.value c.in_ok-envs.ensures in
    record {
      new = new_extended o x (drop (i + 1) vars) envs more (new_rest vars i x envs lt c.index-vars-i.is c.loop-i.invariant.new) given;
      back = λ set h result later. c.loop-i.invariant.back set h result
          (choices_step set vars c.args.sets.now i x o envs more result lt c.index-vars-i.is c.index-sets-vars.is h given later);
    }
