-- At each rule that the run of a patch reaches, the text is read, and environments give metavariables only terms. So the
-- plus code at its touches is instantiated.
use Rattle.std.proofs.Common.{◌≡◌, ℕ, Bool, true, false, ◌&&◌, sym, subst, List, [], ◌∷◌, None}
use Rattle.std.specs.Prelude.{All}
use Rattle.std.proofs.lemmas.List.Elements.{All-nil, All-cons, All-head, All-tail, All-weaker, All-contains}
use Rattle.c_lexer.specs.Pieces.{TextPiece}
use Rattle.c_lexer.specs.Ids.{ids_of}
use Rattle.cpp_lines.specs.declared.reading.Item.{Item}
use Rattle.c_file.specs.Reads.{Reads}
use Rattle.smpl_terms.specs.declared.var.Var.{Var}
use Rattle.smpl_patch.specs.declared.rule.Rule.{Rule}
use Rattle.smpl_patch.specs.Bodies.{body}
use Rattle.smpl_patch.specs.Shapes.{patterns_body}
use Rattle.ctl_translate.specs.Rules.{first_unbound}
use Rattle.rule_envs.specs.declared.file_env.FileEnv.{FileEnv}
use Rattle.rule_chain.specs.RuleMatches.Matching.{rule_found, file_envs_after}
use Rattle.rule_chain.specs.RuleEdits.Nodes.{nodes_of}
use Rattle.rule_chain.specs.RuleEdits.Pages.{is_edited}
use Rattle.rule_chain.specs.RuleRun.States.{Chained, ReadsAgain, first_state}
use Rattle.rule_chain.specs.RuleRun.OneRule.{MayRead, Leads, file_witnesses, state_after}
use Rattle.rule_chain.specs.Chain.{is_followed}
use Rattle.rule_laws.specs.Ready.{IsReady}
use Rattle.edit_marks.specs.declared.removals.Aligned.{Aligned}
use Rattle.edit_marks.specs.EditWalk.Touches.{Touched, touches}
use Rattle.edit_marks.specs.EditWalk.Named.{pairs_at}
use Rattle.text_laws.specs.AgainLaws.Reached.{IsBefore}
use Rattle.text_laws.specs.AgainLaws.Reached.IsBefore.{first, later}
use Rattle.insert_laws.specs.TouchLaws.Metas.{CarriesTerms, AreMetas, ShowsTerms}
use Rattle.insert_laws.specs.Instantiated.{IsInstantiated}
use Rattle.insert_laws.proofs.PlusLemmas.{HasAt, all_shown}
use Rattle.insert_laws.proofs.NamedLemmas.{PathLaw, BareLaw, AlignedLaw, KeepsPlus, IsUsed, touch_used}
use Rattle.insert_laws.proofs.RuleLemmas.{IsFit}

abbrev pub FoundLaw : Type 0
FoundLaw = (defined : List (List ℕ)) (had : List ℕ) (number : ℕ) (rule : Rule) (pieces : List TextPiece) (items : List Item)
    (file_envs : List FileEnv) (metas : Var → Bool) → IsReady rule → first_unbound rule ≡ None → AreMetas metas rule → Reads pieces items
    → All (CarriesTerms metas) file_envs → All (ShowsTerms metas rule items) (touches (rule_found defined had number rule items file_envs))

abbrev pub CarriedLaw : Type 0
CarriedLaw = (defined : List (List ℕ)) (had : List ℕ) (number : ℕ) (rule : Rule) (pieces : List TextPiece) (items : List Item)
    (file_envs : List FileEnv) (metas : Var → Bool) → IsReady rule → first_unbound rule ≡ None → AreMetas metas rule → Reads pieces items
    → All (CarriesTerms metas) file_envs → All (CarriesTerms metas) (file_envs_after defined had number rule items file_envs)

-- ---- one touch

module _ (aligned_law : AlignedLaw) (path_law : PathLaw) (bare_law : BareLaw) (metas : Var → Bool) (rule : Rule) (fit : IsFit metas rule)
    (items : List Item) (pieces : List TextPiece) where
  touch_instantiated : (t : Touched) → ShowsTerms metas rule items t → IsInstantiated rule items pieces t
  touch_instantiated t shows =
      let qs : List Aligned = pairs_at (patterns_body (body rule.body)) rule.vars rule.tokens items (nodes_of rule items) (ids_of pieces) t in
      let used : All (λ (q : Aligned). IsUsed rule.vars rule.tokens shows.pattern q.pattern) qs =
      touch_used rule.vars rule.tokens aligned_law path_law bare_law (patterns_body (body rule.body)) fit.distinct rule items (ids_of pieces) shows.pattern
      shows.among (All-contains (KeepsPlus rule.vars rule.tokens) (patterns_body (body rule.body)) shows.pattern fit.keeps shows.among)
      t shows.atom shows.stands in
      all_shown rule.vars t.env rule.tokens fit.plus qs
      (All-weaker (λ (q : Aligned). IsUsed rule.vars rule.tokens shows.pattern q.pattern)
      (λ (q : Aligned). HasAt rule.vars t.env rule.tokens fit.plus q.pattern)
      (λ q u x p m d. shows.each x (u x p) (fit.metas_are x m) d) qs used)

  pub all_instantiated : (ts : List Touched) → All (ShowsTerms metas rule items) ts → All (IsInstantiated rule items pieces) ts
  all_instantiated ts h = All-weaker (ShowsTerms metas rule items) (IsInstantiated rule items pieces) touch_instantiated ts h

-- ---- the chain

record IsTermed (metas : Var → Bool) (s : Chained) : Type 0 where
  reads : Reads s.pieces s.items
  carried : All (CarriesTerms metas) s.file_envs

no_values : (metas : Var → Bool) → CarriesTerms metas (record { env = []; rules = [] })
no_values metas x m v e = absurd (cc)

first_termed : (metas : Var → Bool) (pieces : List TextPiece) (items : List Item) (reads : Reads pieces items)
    → IsTermed metas (first_state pieces reads.0 items)
first_termed metas pieces items r = record {
  reads = r;
  carried = All-cons (CarriesTerms metas) (record { env = []; rules = [] }) [] (no_values metas) (All-nil (CarriesTerms metas));
}

again_termed : (metas : Var → Bool) (old next : Chained) → IsTermed metas old → ReadsAgain old next → IsTermed metas next
again_termed metas old next t a = subst (IsTermed metas) (sym a.is) (record { reads = a.reads; carried = t.carried })

read_termed : (metas : Var → Bool) (b : Bool) (old next : Chained) → IsTermed metas old → MayRead b old next → IsTermed metas next
read_termed metas true old next t r = again_termed metas old next t r
read_termed metas false old next t r = subst (IsTermed metas) (sym r) t

module _ (found_law : FoundLaw) (carried_law : CarriedLaw) (metas : Var → Bool) (defined : List (List ℕ)) where
  step : (number : ℕ) (rule : Rule) (followed : Bool) (old next : Chained) → IsFit metas rule → IsTermed metas old
      → Leads defined number rule followed old next → IsTermed metas next
  step number rule followed old next fit t leads =
      read_termed metas (is_edited leads.edits && followed) (state_after defined number rule old leads.edits) next
      (record {
        reads = t.reads;
        carried = carried_law defined old.had number rule old.pieces old.items old.file_envs metas fit.ready fit.unbound fit.are t.reads t.carried;
      })
      leads.reads

  module _ (rules : List Rule) (text : List ℕ) (fits : All (IsFit metas) rules) where
    before_termed : {number : ℕ} {rest : List Rule} {s : Chained} → IsBefore defined rules text number rest s → IsTermed metas s × All (IsFit metas) rest
    before_termed (first pieces items lexes reads) = (first_termed metas pieces items reads, fits)
    before_termed (later n rule more old new before leads) =
        let one = before_termed before in (
          step n rule (is_followed more) old new (All-head (IsFit metas) rule more one.1) one.0 leads,
          All-tail (IsFit metas) rule more one.1,
        )

    -- at a rule: its touches are instantiated
    pub at_rule : AlignedLaw → PathLaw → BareLaw → (number : ℕ) (rule : Rule) (rest : List Rule) (s : Chained)
        → IsBefore defined rules text number (rule ∷ rest) s → All (IsInstantiated rule s.items s.pieces) (touches (file_witnesses defined number rule s))
    at_rule aligned_law path_law bare_law number rule rest s before =
        let one = before_termed before in
        let fit = All-head (IsFit metas) rule rest one.1 in
        all_instantiated aligned_law path_law bare_law metas rule fit s.items s.pieces (touches (file_witnesses defined number rule s))
        (found_law defined s.had number rule s.pieces s.items s.file_envs metas fit.ready fit.unbound fit.are one.0.reads one.0.carried)
