-- A chain has at most one end, plain or tidied.
use Rattle.std.proofs.Common.{◌≡◌, ℕ, Bool, true, false, sym, ap, ◌∙◌, subst, inl, inr, suc, List, [], ◌∷◌}
use Rattle.c_lexer.specs.Pieces.{TextPiece}
use Rattle.c_lexer.specs.Lexes.{Lexes}
use Rattle.smpl_patch.specs.declared.rule.Rule.{Rule}
use Rattle.rule_chain.specs.declared.rule_run.fault.FileFault.{FileFault}
use Rattle.rule_chain.specs.RuleRun.States.{Chained, first_state}
use Rattle.rule_chain.specs.RuleRun.Tidied.{IsFaultBy, LeadsBy}
use Rattle.rule_chain.specs.Chain.{Outcome, Refused, Runs, Chain, is_followed}
use Rattle.rule_chain.proofs.OnceLemmas.{HaveOneList, HaveOneCut, HaveOneReading, HaveOneShown, fault_once, leads_once, leads_or_fault}
use Rattle.rule_chain.proofs.OnceLemmas.{one_items, one_sight}
use Rattle.rule_chain.proofs.TidyOnceLemmas.{HaveOneLayout, tidy_fault_once, tidy_leads_once, tidy_leads_or_fault}

module _ (one_list : HaveOneList) (one_layout : HaveOneLayout) (defined : List (List ℕ)) (number : ℕ) (rule : Rule) (s : Chained) where
  one_fault : (tidy : Bool) (f g : FileFault) → IsFaultBy tidy defined number rule s f → IsFaultBy tidy defined number rule s g → f ≡ g
  one_fault false f g one two = fault_once one_list defined number rule s f g one two
  one_fault true f g one two = tidy_fault_once one_layout defined number rule s f g one two

  on_or_fault : (tidy followed : Bool) (next : Chained) (f : FileFault) → LeadsBy tidy defined number rule followed s next
      → IsFaultBy tidy defined number rule s f → ⊥
  on_or_fault false followed next f leads fault = leads_or_fault one_list defined number rule s followed next f leads fault
  on_or_fault true followed next f leads fault = tidy_leads_or_fault one_layout defined number rule s followed next f leads fault

module _ (one_list : HaveOneList) (one_layout : HaveOneLayout) (one_cut : HaveOneCut) (one_reading : HaveOneReading) (one_shown : HaveOneShown)
    (tidy : Bool) (defined : List (List ℕ)) where
  one_next : (by : Bool) (number : ℕ) (rule : Rule) (followed : Bool) (s a b : Chained)
      → LeadsBy by defined number rule followed s a → LeadsBy by defined number rule followed s b → a ≡ b
  one_next false number rule followed s a b one two =
      leads_once one_list one_cut one_reading one_shown defined number rule followed s a b one two
  one_next true number rule followed s a b one two =
      tidy_leads_once one_layout defined number rule s one_cut one_reading one_shown followed a b one two

  runs_once : (number : ℕ) (rules : List Rule) (s : Chained) (a b : Outcome) → Runs tidy defined number rules s a → Runs tidy defined number rules s b → a ≡ b
  runs_once number [] s a b one two = one ∙ sym two
  runs_once number (rule ∷ rules) s a b (inl one) (inl two) =
      one.1.1 ∙ ap Refused (one_fault one_list one_layout defined number rule s tidy one.0 two.0 one.1.0 two.1.0) ∙ sym two.1.1
  runs_once number (rule ∷ rules) s a b (inl one) (inr two) =
      absurd (on_or_fault one_list one_layout defined number rule s tidy (is_followed rules) two.0 one.0 two.1.0 one.1.0)
  runs_once number (rule ∷ rules) s a b (inr one) (inl two) =
      absurd (on_or_fault one_list one_layout defined number rule s tidy (is_followed rules) one.0 two.0 one.1.0 two.1.0)
  runs_once number (rule ∷ rules) s a b (inr one) (inr two) =
      let next : one.0 ≡ two.0 = one_next tidy number rule (is_followed rules) s one.0 two.0 one.1.0 two.1.0 in
      runs_once (suc number) rules two.0 a b (subst (λ (x : Chained). Runs tidy defined (suc number) rules x a) next one.1.1) two.1.1

  pub chain_once : ((bytes : List ℕ) (a b : List TextPiece) → Lexes bytes a → Lexes bytes b → a ≡ b)
      → (rules : List Rule) (bytes : List ℕ) (end other : Outcome) → Chain tidy rules defined bytes end → Chain tidy rules defined bytes other → end ≡ other
  chain_once lexes_once rules bytes end other one two =
      let pieces : one.pieces ≡ two.pieces = lexes_once bytes one.pieces two.pieces one.cut two.cut in
      let items = one_items one_reading one_shown one.pieces two.pieces pieces one.items two.items one.reads two.reads in
      let shown = one_sight one_reading one_shown one.pieces two.pieces pieces one.items two.items one.reads two.reads in
      let start : first_state one.pieces one.reads.0 one.items ≡ first_state two.pieces two.reads.0 two.items =
      (λ i. first_state (pieces i) (shown i) (items i)) in
      let runs : Runs tidy defined 0 rules (first_state two.pieces two.reads.0 two.items) end =
      subst (λ (x : Chained). Runs tidy defined 0 rules x end) start one.runs in
      runs_once 0 rules (first_state two.pieces two.reads.0 two.items) end other runs two.runs
