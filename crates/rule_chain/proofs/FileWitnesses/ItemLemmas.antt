-- What the jobs find in all items, under one environment.
use Rattle.std.proofs.Common.{◌≡◌, ◌<◌, ◌≤◌, ◌+◌, ℕ, zero, suc, nat_lt, Bool, true, false, ◌||◌, refl, sym, ap, ap₂, ◌∙◌, subst}
use Rattle.std.proofs.Common.{arith, Bor, Option, None, Some, List, [], ◌∷◌, ◌++◌, length, map, get_or}
use Rattle.std.specs.Prelude.{slice_get}
use Rattle.std.specs.List.{flat_map}
use Rattle.std.proofs.lemmas.List.{map-append}
use Rattle.cpp_lines.specs.declared.reading.Item.{Item}
use Rattle.cfg_build.specs.CfgGraph.Flow.{Flow}
use Rattle.c_file.proofs.ItemGraphs.GraphLemmas.{graph_count, graph_or}
use Rattle.smpl_patch.specs.Wants.{ask_types}
use Rattle.smpl_patch.specs.declared.rule.Rule.{Rule}
use Rattle.smpl_patch.specs.declared.witness.RuleWitness.{RuleWitness}
use Rattle.smpl_terms.specs.declared.var.Var.{Var}
use Rattle.ctl_formula.specs.Formulas.{FormulaOf}
use Rattle.ctl_translate.specs.Answers.{IsFormulaOf}
use Rattle.env_parts.specs.Parts.{Pairs, bare_env}
use Rattle.par_match.specs.declared.fault.JobFault.{JobFault as Stop}
use Rattle.par_match.specs.declared.fault.JobFault.TheVariants.{Worker}
use Rattle.par_match.specs.Answers.{IsWhy, IsFirst}
use Rattle.rule_chain.specs.RuleWitnesses.Bare.{bare_witness}
use Rattle.rule_chain.specs.RuleWitnesses.Jobs.{touches_and_binds}
use Rattle.rule_chain.specs.declared.rule_witnesses.fault.ItemFault.{ItemFault as Fault}
use Rattle.rule_chain.specs.declared.rule_witnesses.fault.ItemFault.TheVariants.{TooMany}
use Rattle.rule_chain.specs.FileWitnesses.Seen.{seen_graph, seen_graphs}
use Rattle.rule_chain.specs.FileWitnesses.Found.{witnesses_in, is_large, found_from, is_large_from, found_under, is_large_under}
use Rattle.rule_chain.specs.FileWitnesses.Jobs.{found_by, AreFoundBy}
use Rattle.rule_chain.specs.FileWitnesses.Lent.{lent_graph, AreLent}
use Rattle.rule_chain.proofs.FileWitnesses.FoundLemmas.{one_item, one_few, one_large}

-- ---- one item after another

module _ (number : ℕ) (rule : Rule) (env : Pairs) where
  -- what is found in the item with this number
  abbrev at_item : Option Flow → ℕ → List RuleWitness
  at_item graph at = witnesses_in number rule at graph env

  joined_from : {A : Type 0} (part : A → List RuleWitness) (at : ℕ) (graphs : List (Option Flow)) (answers : List A) → length answers ≡ length graphs
      → ((j : ℕ) (a : A) → slice_get answers j ≡ Some a
      → map bare_witness (part a) ≡ map bare_witness (witnesses_in number rule (at + j) (get_or graphs j None) env))
      → map bare_witness (flat_map part answers) ≡ found_from number rule at graphs env
  joined_from part at [] [] same each = refl
  joined_from part at [] (a ∷ rest) same each = absurd (omega (arith, same))
  joined_from part at (x ∷ xs) [] same each = absurd (omega (arith, same))
  joined_from part at (x ∷ xs) (a ∷ rest) same each =
      let here : at + 0 ≡ at = omega arith in
      map-append bare_witness (part a) (flat_map part rest)
      ∙ ap₂ (λ us ws. us ++ ws)
      (each 0 a refl ∙ ap (λ (n : ℕ). map bare_witness (at_item x n)) here)
      (joined_from part (suc at) xs rest (omega (arith, same))
      (λ j b e.
      let there : at + suc j ≡ suc at + j = omega arith in
      each (suc j) b e ∙ ap (λ (n : ℕ). map bare_witness (witnesses_in number rule n (get_or xs j None) env)) there))

  none_from : (at : ℕ) (graphs : List (Option Flow))
      → ((j : ℕ) → j < length graphs → is_large number rule (at + j) (get_or graphs j None) env ≡ false)
      → is_large_from number rule at graphs env ≡ false
  none_from at [] each = refl
  none_from at (x ∷ xs) each =
      let here : at ≡ at + 0 = omega arith in
      ap₂ (λ (p q : Bool). p || q) (ap (λ (n : ℕ). is_large number rule n x env) here ∙ each 0 (omega arith))
      (none_from (suc at) xs
      (λ j lt.
      let there : suc at + j ≡ at + suc j = omega arith in
      ap (λ (n : ℕ). is_large number rule n (get_or xs j None) env) there ∙ each (suc j) (omega (arith, lt))))

  one_from : (at : ℕ) (graphs : List (Option Flow)) (j : ℕ) → j < length graphs → is_large number rule (at + j) (get_or graphs j None) env ≡ true
      → is_large_from number rule at graphs env ≡ true
  one_from at [] j lt h = absurd (omega (arith, lt))
  one_from at (x ∷ xs) zero lt h =
      let here : at ≡ at + 0 = omega arith in
      ap (λ (b : Bool). b || is_large_from number rule (suc at) xs env) (ap (λ (n : ℕ). is_large number rule n x env) here ∙ h)
  one_from at (x ∷ xs) (suc j) lt h =
      let there : suc at + j ≡ at + suc j = omega arith in
      either (is_large number rule at x env)
      (one_from (suc at) xs j (omega (arith, lt)) (ap (λ (n : ℕ). is_large number rule n (get_or xs j None) env) there ∙ h))
    where
      either : (b : Bool) → is_large_from number rule (suc at) xs env ≡ true → (b || is_large_from number rule (suc at) xs env) ≡ true
      either true e = refl
      either false e = e

-- ---- with the graphs that are lent

has_answer : {A : Type 0} (answers : List A) (j : ℕ) → j < length answers → (a : A) × (slice_get answers j ≡ Some a)
has_answer [] j lt = absurd (omega (arith, lt))
has_answer (x ∷ xs) zero lt = (x, refl)
has_answer (x ∷ xs) (suc j) lt = has_answer xs j (omega (arith, lt))

answer_below : {A : Type 0} (answers : List A) (j : ℕ) (a : A) → slice_get answers j ≡ Some a → j < length answers
answer_below [] j a e = absurd (cc)
answer_below (x ∷ xs) zero a e = omega arith
answer_below (x ∷ xs) (suc j) a e = let low = answer_below xs j a e in omega (arith, low)

module _ (number : ℕ) (rule : Rule) (f : FormulaOf) (is : IsFormulaOf rule f) (env : Pairs) where
  by_item : (item : ℕ) (o : Option Flow) → map bare_witness (found_by f rule.exports number item o env)
      ≡ map bare_witness (witnesses_in number rule item o (bare_env env))
  by_item item None = refl
  by_item item (Some g) = one_item number rule f is g item env

  by_few : (item : ℕ) (o : Option Flow) → touches_and_binds (found_by f rule.exports number item o env) ≤ 1000000
      → is_large number rule item o (bare_env env) ≡ false
  by_few item None h = refl
  by_few item (Some g) h = one_few number rule f is g item env h

  by_large : (item : ℕ) (o : Option Flow) → 1000000 < touches_and_binds (found_by f rule.exports number item o env)
      → is_large number rule item o (bare_env env) ≡ true
  by_large item None h = absurd (none h)
    where
      none : 1000000 < touches_and_binds [] → ⊥
      none lt = omega (arith, lt)
  by_large item (Some g) h = one_large number rule f is g item env h

  module _ (items : List Item) (graphs : List (Option (Bor Flow))) (lent : AreLent rule items graphs) where
    seen_count : length (seen_graphs rule items) ≡ length items
    seen_count = graph_count (ask_types rule.vars) items

    seen_at : (j : ℕ) → j < length items → get_or (seen_graphs rule items) j None ≡ seen_graph rule items j
    seen_at j lt = graph_or (ask_types rule.vars) items j lt

    abbrev job_finds : List Var → ℕ → List RuleWitness
    job_finds exports j = found_by f exports number j (lent_graph graphs j) env

    large_is : (j : ℕ) → j < length items
        → is_large number rule j (lent_graph graphs j) (bare_env env) ≡ is_large number rule j (seen_graph rule items j) (bare_env env)
    large_is j lt = ap (λ ws. nat_lt 1000000 (touches_and_binds ws)) (lent.each j lt number (bare_env env))

    module _ (exports : List Var) (same : exports ≡ rule.exports) where
      own : (j : ℕ) → job_finds exports j ≡ job_finds rule.exports j
      own j = ap (λ es. job_finds es j) same

      module _ {A : Type 0} (part : A → List RuleWitness) (answers : List A) (count : length answers ≡ length graphs)
          (each : (j : ℕ) (a : A) → slice_get answers j ≡ Some a → AreFoundBy (job_finds exports (0 + j)) (part a)) where
        low : (j : ℕ) (a : A) → slice_get answers j ≡ Some a → j < length items
        low j a e = let l = answer_below answers j a e in omega (arith, l, count, lent.count)

        at_job : (j : ℕ) (a : A) → slice_get answers j ≡ Some a → AreFoundBy (job_finds exports j) (part a)
        at_job j a e = let zero_more : 0 + j ≡ j = omega arith in subst (λ (n : ℕ). AreFoundBy (job_finds exports n) (part a)) zero_more (each j a e)

        pub all_found : map bare_witness (flat_map part answers) ≡ found_under number rule items (bare_env env)
        all_found =
            joined_from number rule (bare_env env) part 0 (seen_graphs rule items) answers (count ∙ lent.count ∙ sym seen_count)
            (λ j a e.
            let more : j ≡ 0 + j = omega arith in
            (at_job j a e).same ∙ ap (map bare_witness) (own j) ∙ by_item j (lent_graph graphs j)
            ∙ ap (map bare_witness) (lent.each j (low j a e) number (bare_env env))
            ∙ ap (λ (n : ℕ). map bare_witness (witnesses_in number rule n (seen_graph rule items j) (bare_env env))) more
            ∙ ap (λ (o : Option Flow). map bare_witness (witnesses_in number rule (0 + j) o (bare_env env))) (sym (seen_at j (low j a e))))

        pub all_few : is_large_under number rule items (bare_env env) ≡ false
        all_few =
            none_from number rule (bare_env env) 0 (seen_graphs rule items)
            (λ j below.
            let lt : j < length items = omega (arith, below, seen_count) in
            ap (λ (o : Option Flow). is_large number rule (0 + j) o (bare_env env)) (seen_at j lt) ∙ (
            let p = has_answer answers j (omega (arith, lt, count, lent.count)) in
            let zero_more : 0 + j ≡ j = omega arith in
            ap (λ (n : ℕ). is_large number rule n (seen_graph rule items j) (bare_env env)) zero_more ∙ sym (large_is j lt)
            ∙ by_few j (lent_graph graphs j) (subst (λ ws. touches_and_binds ws ≤ 1000000) (own j) (at_job j p.0 p.1).few)))

      -- the first job that stopped found too much
      pub one_stopped : {A : Type 0} (may : ℕ → A → Type 0) (n : ℕ) → n ≡ length graphs → (stop : Stop Fault)
          → IsWhy may (λ j why. why ≡ TooMany → 1000000 < touches_and_binds (job_finds exports j)) 0 n stop
          → (job : ℕ) → stop ≡ Worker job TooMany → is_large_under number rule items (bare_env env) ≡ true
      one_stopped may n all stop why job is_stop =
          let fail = λ (j : ℕ) (why : Fault). why ≡ TooMany → 1000000 < touches_and_binds (job_finds exports j) in
          let first : IsFirst may fail 0 n job TooMany = subst (λ s. IsWhy may fail 0 n s) is_stop why in
          let lt : job < length items = omega (arith, first.before, all, lent.count) in
          let zero_more : 0 + job ≡ job = omega arith in
          one_from number rule (bare_env env) 0 (seen_graphs rule items) job (omega (arith, lt, seen_count))
          (ap (λ (o : Option Flow). is_large number rule (0 + job) o (bare_env env)) (seen_at job lt)
          ∙ ap (λ (n : ℕ). is_large number rule n (seen_graph rule items job) (bare_env env)) zero_more
          ∙ sym (large_is job lt) ∙ by_large job (lent_graph graphs job) (subst (λ ws. 1000000 < touches_and_binds ws) (own job) (first.fails refl)))
