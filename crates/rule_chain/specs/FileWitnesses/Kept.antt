-- Where a formula holds in items, as it is kept for the environments after the first.
use Rattle.std.specs.Prelude.{ℕ, ◌≡◌, ◌+◌, ◌<◌, ◌≤◌, Bool, true, Option, None, Some, List, [], length, slice_index_or}
use Rattle.std.specs.Borrow.{Bor}
use Rattle.std.specs.Coded.{Coded-set, coded_ℕ, coded_bool, coded_list, ×_prop, Π_prop, Unit-prop}
use Rattle.std.specs.List.{filter}
use Rattle.cfg_build.specs.CfgGraph.Flow.{Flow, count_of}
use Rattle.smpl_terms.specs.declared.var.Var.{Var}
use Rattle.smpl_terms.specs.Environments.{Environment}
use Rattle.env_parts.specs.Parts.{Pairs}
use Rattle.env_sets.specs.Sets.{Entries, set_denotes, set_vars}
use Rattle.env_sets.specs.States.{set_at}
use Rattle.ctl_formula.specs.Formulas.{FormulaOf, plain}
use Rattle.ctl_formula.specs.Plain.{Plain}
use Rattle.ctl_formula.specs.Tables.{at, plains}
use Rattle.ctl_fixpoint.specs.CtlHolds.Free.{free_vars}
use Rattle.ctl_fixpoint.specs.CtlHolds.Parts.{IsPart}
use Rattle.ctl_fixpoint.specs.CtlHolds.Rounds.{holds}
use Rattle.wit_forest.specs.WitTrees.Forest.{numbers}
use Rattle.rule_chain.specs.RuleWitnesses.Matched.{has_entries}
use Rattle.rule_chain.specs.declared.rule_witnesses.matched.SatSets.{SatSets}
use Rattle.rule_chain.specs.declared.file_witnesses.job.Cached.{Cached}
use Rattle.rule_chain.specs.declared.file_witnesses.job.Cached.TheVariants.{Anew, Nowhere, Sets}
use Rattle.rule_chain.specs.FileWitnesses.Jobs.{found_by}
use Rattle.rule_chain.specs.FileWitnesses.Lent.{lent_graph}

module _ (f : FormulaOf) (g : Flow) where
  -- the set says under which environments h holds at node s, whatever the bound on walks, and its variables are free ones of h
  abbrev pub Tells : Plain → ℕ → Entries → Type 0
  Tells h s set =
      ((m : ℕ) → count_of g + 1 ≤ m → (env : Environment) → set_denotes set env ≡ holds f.decls f.tokens g m h s env)
      × ((test : Var → Bool) → free_vars f.decls f.tokens test h ≡ true → set_vars test set ≡ true)

  -- a row of sets for each part of the table, with a set for each node
  abbrev pub HasRows : SatSets → Type 0
  HasRows m =
      (length m.sets ≡ length f.nodes)
      × ((i : ℕ) → i < length f.nodes → length (slice_index_or m.sets i []) ≡ count_of g)

  -- the sets of the formula's parts say where these hold
  abbrev pub RowsTell : SatSets → Type 0
  RowsTell m = (i s : ℕ) → i < length f.nodes → IsPart (at (plains f.nodes) i) (plain f) → s < count_of g
      → Tells (at (plains f.nodes) i) s (set_at m.sets i s)

  -- these are the nodes at which the set of the whole formula has an entry
  abbrev pub HasNodes : SatSets → Type 0
  HasNodes m = m.nodes ≡ filter (λ s. has_entries (set_at m.sets f.root s)) (numbers (count_of g))

  -- what `AreMatched` of rule_witnesses says, only in equations, so that it has one proof
  abbrev pub AreTold : SatSets → Type 0
  AreTold m = HasRows m × (RowsTell m × HasNodes m)

-- what is kept of one item: nothing, or that nothing is found in it, or where the formula holds in it
abbrev pub IsKept : FormulaOf → Option Flow → Cached → Type 0
IsKept f graph Anew = Unit {0}
IsKept f graph Nowhere = (exports : List Var) (number item : ℕ) (env : Pairs) → length (found_by f exports number item graph env) ≡ 0
IsKept f None (Sets m) = Unit {0}
IsKept f (Some g) (Sets m) = AreTold f g m

-- this is kept of each item, with the graphs that are lent
abbrev pub AreKept : FormulaOf → List (Option (Bor Flow)) → List Cached → Type 0
AreKept f graphs kept = (i : ℕ) → i < length graphs → IsKept f (lent_graph graphs i) (slice_index_or kept i Anew)

-- each of these has one proof
tells-prop : (f : FormulaOf) (g : Flow) (h : Plain) (s : ℕ) (set : Entries) → IsProp (Tells f g h s set)
tells-prop f g h s set =
    ×_prop (Π_prop (λ m. Π_prop (λ le. Π_prop (λ env. Coded-set coded_bool (set_denotes set env) (holds f.decls f.tokens g m h s env)))))
    (Π_prop (λ test. Π_prop (λ free. Coded-set coded_bool (set_vars test set) true)))

module _ (f : FormulaOf) (g : Flow) (m : SatSets) where
  rows-prop : IsProp (HasRows f g m)
  rows-prop =
      ×_prop (Coded-set coded_ℕ (length m.sets) (length f.nodes))
      (Π_prop (λ i. Π_prop (λ lt. Coded-set coded_ℕ (length (slice_index_or m.sets i [])) (count_of g))))

  tell-prop : IsProp (RowsTell f g m)
  tell-prop = Π_prop (λ i. Π_prop (λ s. Π_prop (λ lt. Π_prop (λ part. Π_prop (λ low. tells-prop f g (at (plains f.nodes) i) s (set_at m.sets i s))))))

  nodes-prop : IsProp (HasNodes f g m)
  nodes-prop = Coded-set (coded_list coded_ℕ) m.nodes (filter (λ s. has_entries (set_at m.sets f.root s)) (numbers (count_of g)))

  are_told-prop : IsProp (AreTold f g m)
  are_told-prop = ×_prop rows-prop (×_prop tell-prop nodes-prop)

pub is_kept-prop : (f : FormulaOf) (graph : Option Flow) (kept : Cached) → IsProp (IsKept f graph kept)
is_kept-prop f graph Anew = Unit-prop
is_kept-prop f graph Nowhere =
    Π_prop (λ exports. Π_prop (λ number. Π_prop (λ item. Π_prop (λ env. Coded-set coded_ℕ (length (found_by f exports number item graph env)) 0))))
is_kept-prop f None (Sets m) = Unit-prop
is_kept-prop f (Some g) (Sets m) = are_told-prop f g m

pub are_kept-prop : (f : FormulaOf) (graphs : List (Option (Bor Flow))) (kept : List Cached) → IsProp (AreKept f graphs kept)
are_kept-prop f graphs kept = Π_prop (λ i. Π_prop (λ lt. is_kept-prop f (lent_graph graphs i) (slice_index_or kept i Anew)))
