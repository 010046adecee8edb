-- What is found in one item, and which values of exported variables witnesses have.
use Rattle.std.proofs.Common.{◌≡◌, ◌<◌, ◌≤◌, ℕ, nat_lt, refl, sym, ap, ◌∙◌, arith, true, false, Some, List, [], ◌∷◌, map}
use Rattle.std.proofs.lemmas.Bool.Decides.{nat_tests}
use Rattle.cpp_lines.specs.declared.reading.Item.{Item}
use Rattle.cfg_build.specs.CfgGraph.Flow.{Flow}
use Rattle.smpl_patch.specs.declared.rule.Rule.{Rule}
use Rattle.smpl_patch.specs.declared.witness.RuleWitness.{RuleWitness}
use Rattle.env_parts.specs.Parts.{Pairs, bare_env}
use Rattle.ctl_formula.specs.Formulas.{FormulaOf}
use Rattle.ctl_translate.specs.Answers.{IsFormulaOf}
use Rattle.wit_forest.specs.WitTrees.Rules as rules
use Rattle.rule_envs.specs.FileEnvs as envs
use Rattle.rule_envs.proofs.BareLemmas.{exported-bare}
use Rattle.rule_chain.specs.RuleWitnesses.Bare.{bare_witness}
use Rattle.rule_chain.specs.RuleWitnesses.Jobs.{touches_and_binds, witnesses_of}
use Rattle.rule_chain.proofs.RuleWitnesses.JobLemmas.{witnesses_bare, nodes-same}
use Rattle.rule_chain.specs.FileWitnesses.Found.{witnesses_in, is_large, found_under, brings}

-- ---- one item

within_most : (n : ℕ) → n ≤ 1000000 → nat_lt 1000000 n ≡ false
within_most n h = grind (arith, nat_tests)

beyond_most : (n : ℕ) → 1000000 < n → nat_lt 1000000 n ≡ true
beyond_most n h = grind (arith, nat_tests)

module _ (number : ℕ) (rule : Rule) (f : FormulaOf) (is : IsFormulaOf rule f) (g : Flow) (item : ℕ) (env : Pairs) where
  pub one_item : map bare_witness (witnesses_of f g rule.exports number item env)
      ≡ map bare_witness (witnesses_in number rule item (Some g) (bare_env env))
  one_item =
      witnesses_bare f g rule.exports number item env
      ∙ (λ i. map bare_witness (rules.witnesses_of (is.decls i) (is.tokens i) g (is.formula i) rule.exports number item (bare_env env)))

  size : touches_and_binds (witnesses_of f g rule.exports number item env) ≡ touches_and_binds (witnesses_in number rule item (Some g) (bare_env env))
  size = nodes-same (witnesses_of f g rule.exports number item env) (witnesses_in number rule item (Some g) (bare_env env)) one_item

  pub one_few : touches_and_binds (witnesses_of f g rule.exports number item env) ≤ 1000000 → is_large number rule item (Some g) (bare_env env) ≡ false
  one_few h = ap (λ n. nat_lt 1000000 n) (sym size) ∙ within_most (touches_and_binds (witnesses_of f g rule.exports number item env)) h

  pub one_large : 1000000 < touches_and_binds (witnesses_of f g rule.exports number item env) → is_large number rule item (Some g) (bare_env env) ≡ true
  one_large h = ap (λ n. nat_lt 1000000 n) (sym size) ∙ beyond_most (touches_and_binds (witnesses_of f g rule.exports number item env)) h

-- ---- values of exported variables

bare_envs : (ws : List RuleWitness) → map bare_env (map (λ (w : RuleWitness). w.env) ws) ≡ map (λ (w : RuleWitness). w.env) (map bare_witness ws)
bare_envs [] = refl
bare_envs (w ∷ ws) = ap (λ es. bare_env w.env ∷ es) (bare_envs ws)

pub one_brings : (number : ℕ) (rule : Rule) (items : List Item) (e : Pairs) (found : List RuleWitness) (part : List Pairs)
    → part ≡ envs.exported rule.exports (map (λ (w : RuleWitness). w.env) found) → map bare_witness found ≡ found_under number rule items (bare_env e)
    → map bare_env part ≡ brings number rule items (bare_env e)
one_brings number rule items e found part is h =
    ap (map bare_env) is ∙ exported-bare rule.exports (map (λ (w : RuleWitness). w.env) found)
    ∙ ap (envs.exported rule.exports) (bare_envs found ∙ ap (map (λ (w : RuleWitness). w.env)) h)
