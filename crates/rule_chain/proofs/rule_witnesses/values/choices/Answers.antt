use Rattle.std.proofs.Common.{◌≡◌, [], ◌∷◌, List, sym, ap, ◌∙◌, cond, subst, length, map}
use Rattle.std.specs.List.{filter}
use Rattle.std.proofs.lemmas.Bool.{eqb-true}
use Rattle.std.proofs.lemmas.List.{nil_from_length}
use Rattle.std.proofs.lemmas.Result.{IfOk-weaker}
use Rattle.smpl_terms.specs.declared.value.Value.{Value}
use Rattle.smpl_terms.specs.Environments.{total}
use Rattle.env_parts.specs.Parts.{bare_env}
use Rattle.env_sets.specs.Sets.{Entries, set_denotes}
use Rattle.wit_forest.specs.WitTrees.Rules as rules
use Rattle.rule_chain.specs.RuleWitnesses.Choices.{Leaves}
use Rattle.rule_chain.specs.RuleWitnesses.Opened.{AreOpen}
use Rattle.rule_chain.specs.RuleWitnesses.Extended.{AreChoices}
use Rattle.rule_chain.proofs.RuleWitnesses.ExtendLemmas.{all_open, all_choices, no_choices, empty_set}
use Rattle.rule_chain.proofs.rule_witnesses.values.choices.Goals as goal

pub returns-then-is_none : goal.returns-then-is_none
returns-then-is_none c = record {
  envs = λ values leaves. ap (map bare_env) c.new.ensures.items
      ∙ empty_set c.args.set.now (c.is_none.ensures.none c.if-is_none.true) (rules.choices (rules.in_order values) c.args.vars.now c.args.env.now);
}

pub returns-then-is_empty : goal.returns-then-is_empty
returns-then-is_empty c =
    let set = c.args.set.now in
    let env = c.args.env.now in
    let none : c.args.vars.now ≡ [] =
    nil_from_length c.args.vars.now (eqb-true (length c.args.vars.now) 0 (sym c.is_empty.ensures ∙ c.if-is_empty.true)) in
    record {
      envs = IfOk-weaker c.itself.result
          (λ envs. envs.items ≡ cond (set_denotes set (total env)) (env ∷ []) [])
          (λ envs. (values : List Value) → Leaves values c.args.vars.now set env
          → map bare_env envs.items
          ≡ map bare_env (filter (λ e. set_denotes set (total e)) (rules.choices (rules.in_order values) c.args.vars.now env)))
          (λ envs h values leaves. ap (map bare_env) h
          ∙ sym (ap (λ vars. map bare_env (filter (λ e. set_denotes set (total e)) (rules.choices (rules.in_order values) vars env)))
          none))
          c.itself.ensures;
    }

pub returns-then-not-denotes : goal.returns-then-not-denotes
returns-then-not-denotes c =
    let last = all_open c.args.set.now c.args.vars.now c.in_ok-sets.sets.items c.index.result.now c.in_ok-sets.ensures c.index.ensures in
    record {
      envs = λ values leaves. ap (map bare_env) c.new-then-not-denotes.ensures.items
          ∙ no_choices c.args.set.now c.args.vars.now c.args.env.now c.index.result.now last c.requires.new
          (sym c.denotes.ensures.meaning ∙ c.if-not-denotes.true) values;
    }

pub returns : goal.returns
returns c =
    let set = c.args.set.now in
    let vars = c.args.vars.now in
    let env = c.args.env.now in
    let last = all_open set vars c.in_ok-sets.sets.items c.index.result.now c.in_ok-sets.ensures c.index.ensures in
    record {
      envs = IfOk-weaker c.all_extended.result
          (λ envs. (s : Entries) → AreOpen s vars c.as_slice.result.now → AreChoices s vars (env ∷ []) envs.items)
          (λ envs. (values : List Value) → Leaves values vars set env
          → map bare_env envs.items ≡ map bare_env (filter (λ e. set_denotes set (total e)) (rules.choices (rules.in_order values) vars env)))
          (λ envs h values leaves. all_choices set vars env c.index.result.now last envs.items c.requires.new
          (sym c.denotes.ensures.meaning ∙ c.if-not-denotes.false)
          (h set (subst (AreOpen set vars) (sym c.as_slice.ensures.value) c.in_ok-sets.ensures)) values leaves)
          c.all_extended.ensures;
    }
