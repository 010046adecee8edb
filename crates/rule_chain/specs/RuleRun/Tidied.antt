-- What one rule does over a file where the text is tidied. All but the text is as it is without.
use Rattle.std.specs.Prelude.{ℕ, ◌≡◌, ◌<◌, Bool, true, false, ◌&&◌, List, length}
use Rattle.smpl_patch.specs.declared.rule.Rule.{Rule}
use Rattle.edit_marks.specs.declared.tidy.walk.TidiedEdits.{TidiedEdits}
use Rattle.edit_marks.specs.Tidy.Walk.{AreTidyEdits}
use Rattle.rule_envs.specs.FileEnvs.{most_environments}
use Rattle.rule_chain.specs.declared.rule_edits.fault.EditFault.{EditFault}
use Rattle.rule_chain.specs.RuleEdits.Nodes.{nodes_of}
use Rattle.rule_chain.specs.RuleEdits.Pages.{Page, is_edited}
use Rattle.rule_chain.specs.RuleEdits.Tidied.{AreTidyFine, IsTidyEditFault}
use Rattle.rule_chain.specs.declared.rule_run.fault.FileFault.{FileFault}
use Rattle.rule_chain.specs.declared.rule_run.fault.FileFault.TheVariants.{TooManyWitnesses, TooManyEnvironments}
use Rattle.rule_chain.specs.RuleRun.States.{Chained}
use Rattle.rule_chain.specs.RuleRun.OneRule.{AreFew, IsFault, Leads, MayRead, edit_fault, file_witnesses, is_too_much, rule_file_envs, state_with}

-- the edits of all its witnesses
abbrev pub TidyRuleEdits : List (List ℕ) → ℕ → Rule → Chained → TidiedEdits → Type 0
TidyRuleEdits defined number rule s = AreTidyEdits (file_witnesses defined number rule s) rule s.items (nodes_of rule s.items) s.pieces

-- the first fault that the rule meets
pub data IsTidyFault (defined : List (List ℕ)) (number : ℕ) (rule : Rule) (s : Chained) : FileFault → Type 0 where
  too_many_witnesses : is_too_much defined number rule s ≡ true → IsTidyFault defined number rule s (TooManyWitnesses number)
  too_many_environments : is_too_much defined number rule s ≡ false
      → most_environments < length (rule_file_envs defined number rule s)
      → IsTidyFault defined number rule s (TooManyEnvironments number)
  in_edits : (made : TidiedEdits) (fault : EditFault) → AreFew defined number rule s → TidyRuleEdits defined number rule s made
      → IsTidyEditFault s.page.next s.pieces s.items made fault → IsTidyFault defined number rule s (edit_fault number fault)

-- The rule meets no fault and leads from one state to the next: if it edits and is followed by another, the text is read again.
pub record TidyLeads (defined : List (List ℕ)) (number : ℕ) (rule : Rule) (followed : Bool) (s next : Chained) : Type 0 where
  pub made : TidiedEdits
  pub page : Page
  pub few : AreFew defined number rule s
  pub are : TidyRuleEdits defined number rule s made
  pub fine : AreTidyFine s.page.next s.pieces s.items made page
  pub reads : MayRead (is_edited made.list && followed) (state_with defined number rule s page) next

-- ---- with and without

abbrev pub IsFaultBy : (tidy : Bool) → List (List ℕ) → ℕ → Rule → Chained → FileFault → Type 0
IsFaultBy false defined number rule s fault = IsFault defined number rule s fault
IsFaultBy true defined number rule s fault = IsTidyFault defined number rule s fault

abbrev pub LeadsBy : (tidy : Bool) → List (List ℕ) → ℕ → Rule → Bool → Chained → Chained → Type 0
LeadsBy false defined number rule followed s next = Leads defined number rule followed s next
LeadsBy true defined number rule followed s next = TidyLeads defined number rule followed s next
