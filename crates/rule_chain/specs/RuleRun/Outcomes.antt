-- How the code's findings relate to the states of the chain.
use Rattle.std.specs.Prelude.{ℕ, ◌≡◌, Bool, true, false, not, List, map, Option}
use Rattle.c_file.specs.File.{FileItems}
use Rattle.edit_marks.specs.declared.edit_conflict.edit.Edit.{Edit}
use Rattle.edit_marks.specs.declared.tidy.walk.TidiedEdits.{TidiedEdits}
use Rattle.smpl_patch.specs.declared.rule.Rule.{Rule}
use Rattle.rule_chain.specs.RuleWitnesses.Bare.{bare_witness}
use Rattle.rule_envs.specs.declared.file_env.FileEnv.{FileEnv}
use Rattle.rule_envs.specs.Shares.{bare_file_env}
use Rattle.rule_chain.specs.declared.rule_edits.texts.NewText.{NewText}
use Rattle.rule_chain.specs.RuleEdits.Pages.{Page, is_empty, is_edited, old_page, IsNew}
use Rattle.rule_chain.specs.RuleEdits.Faults.{AreFine}
use Rattle.rule_chain.specs.RuleEdits.Tidied.{AreTidyFine, IsNewPage}
use Rattle.rule_chain.specs.RuleMatches.Matching.{rule_projections}
use Rattle.rule_chain.specs.declared.rule_run.state.FileState.{FileState}
use Rattle.rule_chain.specs.RuleRun.States.{Chained}
use Rattle.rule_chain.specs.RuleRun.OneRule.{AreFew, RuleEdits, state_after, state_with}
use Rattle.rule_chain.specs.RuleRun.Tidied.{TidyRuleEdits}

-- the state has these rules with a witness and these environments, which the code keeps with ids
pub record IsSeenAs (had : List ℕ) (file_envs : List FileEnv) (s : Chained) : Type 0 where
  pub had_is : s.had ≡ had
  pub file_envs_is : s.file_envs ≡ map bare_file_env file_envs

-- the findings with the ids of terms are those of the state
pub record AreFindingsOf (f : FileState) (s : Chained) : Type 0 where
  pub seen : IsSeenAs f.had f.file_envs s
  pub found_is : s.found ≡ map bare_witness f.found

-- the state is just after a reading: nothing has edited the page since
pub record IsAtReading (file : FileItems) (next : ℕ) (s : Chained) : Type 0 where
  pub page : s.page ≡ old_page next file.pieces
  pub pieces : s.pieces ≡ file.pieces
  pub items : s.items ≡ file.items

-- Starting from this state, the rule meets no fault and leaves these findings and this text. It runs if it has something to run
-- under.
pub record IsOutcome (defined : List (List ℕ)) (number : ℕ) (rule : Rule) (s : Chained) (findings : FileState) (text : Option NewText)
    (ran : Bool) : Type 0 where
  pub edits : List Edit
  pub few : AreFew defined number rule s
  pub are : RuleEdits defined number rule s edits
  pub fine : AreFine s.page.next s.pieces edits
  pub findings_are : AreFindingsOf findings (state_after defined number rule s edits)
  pub text_is : IsNew s.page.next s.pieces edits text
  pub ran_is : ran ≡ not (is_empty (rule_projections defined s.had number rule s.items s.file_envs))

-- the same where the text is tidied
pub record IsTidyOutcome (defined : List (List ℕ)) (number : ℕ) (rule : Rule) (s : Chained) (findings : FileState) (text : Option NewText)
    (ran : Bool) : Type 0 where
  pub made : TidiedEdits
  pub page : Page
  pub few : AreFew defined number rule s
  pub are : TidyRuleEdits defined number rule s made
  pub fine : AreTidyFine s.page.next s.pieces s.items made page
  pub findings_are : AreFindingsOf findings (state_with defined number rule s page)
  pub text_is : IsNewPage (is_edited made.list) page text
  pub ran_is : ran ≡ not (is_empty (rule_projections defined s.had number rule s.items s.file_envs))

abbrev pub IsOutcomeBy : (tidy : Bool) → List (List ℕ) → ℕ → Rule → Chained → FileState → Option NewText → Bool → Type 0
IsOutcomeBy false defined number rule s findings text ran = IsOutcome defined number rule s findings text ran
IsOutcomeBy true defined number rule s findings text ran = IsTidyOutcome defined number rule s findings text ran
