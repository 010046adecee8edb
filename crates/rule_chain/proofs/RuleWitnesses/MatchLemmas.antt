-- The nodes at which a formula can hold: at every other node there is no witness.
use Rattle.std.proofs.Common.{◌≡◌, ℕ, zero, suc, ◌+◌, ◌<◌, Bool, true, false, cond, refl, sym, ap, ap₂, ◌∙◌, subst, arith}
use Rattle.std.proofs.Common.{List, [], ◌∷◌, ◌++◌, map, length, get_or, add-one}
use Rattle.std.specs.Prelude.{All}
use Rattle.std.specs.List.{filter, flat_map}
use Rattle.std.proofs.lemmas.List.Concat.{flat_map-append}
use Rattle.std.proofs.lemmas.List.Elements.{All-nil, All-cons, All-append, All-filter, All-get_or, All-weaker, filter-append}
use Rattle.smpl_terms.specs.declared.var.Var.{Var}
use Rattle.smpl_terms.specs.Environments.{Environment, total}
use Rattle.cfg_build.specs.CfgGraph.Flow.{Flow, IsSound, count_of}
use Rattle.ctl_formula.specs.Formulas.{FormulaOf, plain}
use Rattle.ctl_fixpoint.specs.CtlHolds.Rounds.{holds}
use Rattle.ctl_fixpoint.specs.CtlHolds.Values.{values_of}
use Rattle.env_parts.specs.Parts.{Pairs}
use Rattle.env_sets.specs.Sets.{Entries, set_denotes}
use Rattle.env_sets.specs.States.{set_at}
use Rattle.wit_forest.specs.WitTrees.Forest.{numbers}
use Rattle.wit_forest.specs.WitTrees.Rules.{choices, in_order}
use Rattle.rule_chain.specs.RuleWitnesses.Jobs.{witness_at, witnesses_at, witnesses_of}
use Rattle.rule_chain.specs.RuleWitnesses.Matched.{AreMatched, has_entries}
use Rattle.rule_chain.proofs.RuleWitnesses.JobLemmas.{root_told}

-- ---- which nodes there are

module _ (p : ℕ → Bool) where
  one_more : (s : ℕ) → filter p (numbers (s + 1)) ≡ filter p (numbers s) ++ cond (p s) (s ∷ []) []
  one_more s = ap (λ (n : ℕ). filter p (numbers n)) (add-one s) ∙ filter-append p (numbers s) (s ∷ [])

  pub node_next : (nodes next : List ℕ) (s : ℕ) (b : Bool) → nodes ≡ filter p (numbers s) → next ≡ nodes ++ cond b (s ∷ []) [] → b ≡ p s
      → next ≡ filter p (numbers (s + 1))
  node_next nodes next s b h is same =
      is ∙ ap₂ (λ ns t. ns ++ cond t (s ∷ []) []) h same ∙ sym (one_more s)

  numbers_below : (n : ℕ) → All (λ (s : ℕ). s < n) (numbers n)
  numbers_below zero = All-nil (λ (s : ℕ). s < 0)
  numbers_below (suc n) =
      All-append (λ (s : ℕ). s < suc n) (numbers n) (n ∷ [])
      (All-weaker (λ (s : ℕ). s < n) (λ (s : ℕ). s < suc n) (λ s lt. omega (arith, lt)) (numbers n) (numbers_below n))
      (All-cons (λ (s : ℕ). s < suc n) n [] (omega arith) (All-nil (λ (s : ℕ). s < suc n)))

  -- each of them is a node
  pub node_within : (nodes : List ℕ) (n k s : ℕ) → nodes ≡ filter p (numbers n) → k < length nodes → s ≡ get_or nodes k s → s < n
  node_within nodes n k s are lt is =
      let all : All (λ (m : ℕ). m < n) nodes =
      subst (λ ns. All (λ (m : ℕ). m < n) ns) (sym are) (All-filter p (λ (m : ℕ). m < n) (numbers n) (numbers_below n)) in
      let one : get_or nodes k s < n = All-get_or (λ (m : ℕ). m < n) nodes k s lt all in
      omega (arith, one, is)

  -- what is found at them is all, if nothing is found at the others
  pub others_nothing : {X : Type 0} (at_node : ℕ → List X) (n : ℕ) → ((s : ℕ) → s < n → p s ≡ false → at_node s ≡ [])
      → flat_map at_node (filter p (numbers n)) ≡ flat_map at_node (numbers n)
  others_nothing at_node zero none = refl
  others_nothing at_node (suc n) none =
      ap (flat_map at_node) (filter-append p (numbers n) (n ∷ []))
      ∙ flat_map-append at_node (filter p (numbers n)) (filter p (n ∷ []))
      ∙ ap₂ (λ a b. a ++ b) (others_nothing at_node n (λ s lt. none s (omega (arith, lt)))) (here (p n) refl)
      ∙ sym (flat_map-append at_node (numbers n) (n ∷ []))
    where
      here : (b : Bool) → p n ≡ b → flat_map at_node (cond (p n) (n ∷ []) []) ≡ flat_map at_node (n ∷ [])
      here true h = ap (λ t. flat_map at_node (cond t (n ∷ []) [])) h
      here false h = ap (λ t. flat_map at_node (cond t (n ∷ []) [])) h ∙ sym (ap (λ l. l ++ []) (none n (omega arith) h))

-- ---- sets without entries

entries_none : (set : Entries) → has_entries set ≡ false → set ≡ []
entries_none [] h = refl
entries_none (e ∷ es) h = absurd (cc)

filter_none : {X : Type 0} (q : X → Bool) (xs : List X) → ((x : X) → q x ≡ false) → filter q xs ≡ []
filter_none q [] h = refl
filter_none q (x ∷ xs) h = rw (h x) (filter_none q xs h)

pub no_witness : (f : FormulaOf) (g : Flow) (exports : List Var) (rule item s : ℕ) (env : Pairs) (set : Entries)
    → ((e : Environment) → set_denotes set e ≡ holds f.decls f.tokens g (count_of g + 1) (plain f) s e) → has_entries set ≡ false
    → witnesses_at f g exports rule item s env ≡ []
no_witness f g exports rule item s env set told none =
    ap (map (witness_at f g exports rule item s))
    (filter_none (λ (e : Pairs). holds f.decls f.tokens g (count_of g + 1) (plain f) s (total e)) (choices (in_order (values_of g)) exports env)
    (λ e. sym (told (total e)) ∙ ap (λ es. set_denotes es (total e)) (entries_none set none)))

-- an element of a list that equals the other
pub item_at : (items nodes : List ℕ) (k : ℕ) → items ≡ nodes → k < length items
    → (k < length nodes) × (get_or items k 0 ≡ get_or nodes k (get_or items k 0))
item_at items nodes k e lt =
    (subst (λ ns. k < length ns) e lt, there items k lt ∙ ap (λ ns. get_or ns k (get_or items k 0)) e)
  where
    there : (ms : List ℕ) (j : ℕ) → j < length ms → get_or ms j 0 ≡ get_or ms j (get_or items k 0)
    there [] j low = absurd (omega (arith, low))
    there (m ∷ ms) zero low = refl
    there (m ∷ ms) (suc j) low = there ms j (omega (arith, low))

-- ---- what is found at the matched nodes

module _ (g : Flow) (f : FormulaOf) (sets : List (List Entries)) (nodes : List ℕ) (are : AreMatched g f sets nodes) where
  pub matched_within : (k s : ℕ) → k < length nodes → s ≡ get_or nodes k s → s < count_of g
  matched_within k s lt is = node_within (λ n. has_entries (set_at sets f.root n)) nodes (count_of g) k s are.nodes lt is

  pub matched_all : IsSound g → f.root < length f.nodes → (exports : List Var) (rule item : ℕ) (env : Pairs)
      → flat_map (λ s. witnesses_at f g exports rule item s env) nodes ≡ witnesses_of f g exports rule item env
  matched_all ok within exports rule item env =
      ap (flat_map (λ s. witnesses_at f g exports rule item s env)) are.nodes
      ∙ others_nothing (λ n. has_entries (set_at sets f.root n)) (λ s. witnesses_at f g exports rule item s env) (count_of g)
      (λ s lt none. no_witness f g exports rule item s env (set_at sets f.root s) (root_told g f sets ok are.sets within s lt) none)
