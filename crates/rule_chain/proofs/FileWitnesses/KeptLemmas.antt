-- Where a formula holds in an item, as the jobs keep it.
use Rattle.std.proofs.Common.{◌≡◌, ◌+◌, ◌<◌, ◌≤◌, ℕ, zero, suc, Bool, true, false, cond, refl, sym, ap, ◌∙◌, subst, arith, Bor}
use Rattle.std.proofs.Common.{Option, Some, List, [], ◌∷◌, length, get_or, map}
use Rattle.std.specs.Prelude.{slice_get}
use Rattle.std.specs.Bool.{Decides}
use Rattle.std.specs.List.{flat_map}
use Rattle.std.proofs.lemmas.Bool.Decides.{same_from_decides, Decides-at}
use Rattle.cfg_build.specs.CfgGraph.Flow.{Flow, IsSound, count_of}
use Rattle.smpl_terms.specs.declared.var.Var.{Var}
use Rattle.smpl_terms.specs.Environments.{Environment}
use Rattle.env_parts.specs.Parts.{Pairs}
use Rattle.env_sets.specs.Sets.{Entries, set_denotes}
use Rattle.env_sets.specs.States.{set_at}
use Rattle.ctl_formula.specs.Formulas.{FormulaOf}
use Rattle.ctl_formula.specs.Plain.{Plain}
use Rattle.ctl_formula.specs.Tables.{at, plains}
use Rattle.ctl_fixpoint.specs.CtlHolds.Holding.{Holds}
use Rattle.ctl_fixpoint.specs.CtlHolds.Rounds.{holds}
use Rattle.ctl_fixpoint.proofs.CtlHolds.HoldLemmas.{holds_decides}
use Rattle.rule_chain.specs.RuleWitnesses.Jobs.{witnesses_at, witnesses_of}
use Rattle.rule_chain.specs.RuleWitnesses.Matched.{AreMatched}
use Rattle.rule_chain.specs.declared.rule_witnesses.matched.SatSets.{SatSets}
use Rattle.rule_chain.proofs.RuleWitnesses.MatchLemmas.{matched_all}
use Rattle.rule_chain.specs.declared.file_witnesses.job.Cached.{Cached}
use Rattle.rule_chain.specs.declared.file_witnesses.job.Cached.TheVariants.{Anew, Nowhere, Sets}
use Rattle.rule_chain.specs.FileWitnesses.Kept.{AreTold, IsKept, AreKept}
use Rattle.rule_chain.specs.FileWitnesses.Lent.{lent_graph}

module _ (f : FormulaOf) (g : Flow) (ok : IsSound g) where
  decided : (m : ℕ) → count_of g + 1 ≤ m → (h : Plain) (s : ℕ) → s < count_of g → (env : Environment)
      → Decides (holds f.decls f.tokens g m h s env) (Holds f.decls f.tokens g m h s env)
  decided m le h s lt env = holds_decides f.decls f.tokens g ok m (omega (arith, le)) h s lt env

  -- both say the same
  pub matched_told : (m : SatSets) → AreMatched g f m.sets m.nodes → AreTold f g m
  matched_told m are = (
    (are.sets.parts, are.sets.nodes),
    (
      λ i s low part lt.
          let set = set_at m.sets i s in
          let h = at (plains f.nodes) i in
          let stands = are.sets.stand i s low part lt in (
            λ b le env. same_from_decides (set_denotes set env) (holds f.decls f.tokens g b h s env) (stands.means b le env) (decided b le h s lt env),
            stands.vars,
          ),
      are.nodes,
    ),
  )

  pub told_matched : (m : SatSets) → AreTold f g m → AreMatched g f m.sets m.nodes
  told_matched m told = record {
    sets = record {
      parts = told.0.0;
      nodes = told.0.1;
      stand = λ i s low part lt.
          let set = set_at m.sets i s in
          let h = at (plains f.nodes) i in
          let tells = told.1.0 i s low part lt in
          record {
            means = λ b le env.
                Decides-at (set_denotes set env) (holds f.decls f.tokens g b h s env) (tells.0 b le env) (decided b le h s lt env);
            vars = tells.1;
          };
    };
    nodes = told.1.1;
  }

  -- if the formula holds at no node, nothing is found
  no_node : (sets : List (List Entries)) (nodes : List ℕ) → AreMatched g f sets nodes → nodes ≡ [] → f.root < length f.nodes
      → (exports : List Var) (number item : ℕ) (env : Pairs) → witnesses_of f g exports number item env ≡ []
  no_node sets nodes are none within exports number item env =
      sym (matched_all g f sets nodes are ok within exports number item env)
      ∙ ap (flat_map (λ (s : ℕ). witnesses_at f g exports number item s env)) none

  module _ (m : SatSets) (are : AreMatched g f m.sets m.nodes) (none : m.nodes ≡ []) (within : f.root < length f.nodes) where
    pub nothing_found : (exports : List Var) (number item : ℕ) (env : Pairs) → witnesses_of f g exports number item env ≡ []
    nothing_found exports number item env = no_node m.sets m.nodes are none within exports number item env

    pub nothing_kept : IsKept f (Some g) Nowhere
    nothing_kept = λ exports number item env. ap length (no_node m.sets m.nodes are none within exports number item env)

-- ---- what the jobs keep

-- if the sets aren't kept, nothing is stated
pub told_kept : (f : FormulaOf) (g : Flow) (keep : Bool) (m : SatSets) → AreTold f g m → IsKept f (Some g) (cond keep (Sets m) Anew)
told_kept f g true m told = told
told_kept f g false m told = tt

kept_at : {A : Type 0} (field : A → Cached) (answers : List A) (j : ℕ) → j < length answers
    → (a : A) × ((slice_get answers j ≡ Some a) × (get_or (map field answers) j Anew ≡ field a))
kept_at field [] j lt = absurd (omega (arith, lt))
kept_at field (x ∷ xs) zero lt = (x, (refl, refl))
kept_at field (x ∷ xs) (suc j) lt = kept_at field xs j (omega (arith, lt))

pub all_kept : (f : FormulaOf) (graphs : List (Option (Bor Flow))) {A : Type 0} (field : A → Cached) (answers : List A)
    (kept : List Cached) → kept ≡ map field answers → length answers ≡ length graphs
    → ((j : ℕ) (a : A) → slice_get answers j ≡ Some a → IsKept f (lent_graph graphs (0 + j)) (field a)) → AreKept f graphs kept
all_kept f graphs field answers kept is count each = λ i lt.
    let p = kept_at field answers i (omega (arith, lt, count)) in
    let zero_more : 0 + i ≡ i = omega arith in
    subst (λ (n : ℕ). IsKept f (lent_graph graphs n) (get_or kept i Anew)) zero_more
    (subst (λ o. IsKept f (lent_graph graphs (0 + i)) o) (sym (ap (λ ks. get_or ks i Anew) is ∙ p.1.1)) (each i p.0 p.1.0))
