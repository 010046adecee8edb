-- What one rule does over a file.
use Rattle.std.specs.Prelude.{ℕ, ◌≡◌, ◌<◌, ◌≤◌, Bool, true, false, ◌&&◌, List, [], ◌∷◌, ◌++◌, length}
use Rattle.smpl_patch.specs.declared.rule.Rule.{Rule}
use Rattle.smpl_patch.specs.declared.witness.RuleWitness.{RuleWitness}
use Rattle.edit_marks.specs.declared.edit_conflict.edit.Edit.{Edit}
use Rattle.edit_marks.specs.EditWalk.Edited.{AreEdits}
use Rattle.rule_envs.specs.declared.file_env.FileEnv.{FileEnv}
use Rattle.rule_envs.specs.FileEnvs.{most_environments}
use Rattle.rule_chain.specs.declared.rule_edits.fault.EditFault.{EditFault}
use Rattle.rule_chain.specs.declared.rule_edits.fault.EditFault.TheVariants as edit
use Rattle.rule_chain.specs.RuleEdits.Nodes.{nodes_of}
use Rattle.rule_chain.specs.RuleEdits.Pages.{Page, is_edited, page_after}
use Rattle.rule_chain.specs.RuleEdits.Faults.{AreFine, IsEditFault}
use Rattle.rule_chain.specs.RuleMatches.Matching.{rule_found, file_envs_after, has_too_many, rule_projections}
use Rattle.rule_chain.specs.declared.rule_matches.fault.MatchFault.{MatchFault}
use Rattle.rule_chain.specs.declared.rule_matches.fault.MatchFault.TheVariants as matching
use Rattle.rule_chain.specs.declared.rule_run.fault.FileFault.{FileFault}
use Rattle.rule_chain.specs.declared.rule_run.fault.FileFault.TheVariants.{TooManyWitnesses, TooManyEnvironments, Conflict, Body, FileTooLong, NoMemory}
use Rattle.rule_chain.specs.RuleRun.Needed.{ran_after}
use Rattle.rule_chain.specs.RuleRun.States.{Chained, ReadsAgain}

-- the fault of what a rule finds, with the rule's number
abbrev pub match_fault : ℕ → MatchFault → FileFault
match_fault number matching.TooManyWitnesses = TooManyWitnesses number
match_fault number matching.TooManyEnvironments = TooManyEnvironments number
match_fault number matching.NoMemory = NoMemory

-- the fault of a rule's edits, with the rule's number
abbrev pub edit_fault : ℕ → EditFault → FileFault
edit_fault number (edit.Conflict id first second) = Conflict number id first second
edit_fault number (edit.Body id) = Body number id
edit_fault number edit.TooLong = FileTooLong number
edit_fault number edit.NoMemory = NoMemory

-- the rules that have had a witness, after this one
abbrev pub had_after : List ℕ → ℕ → List RuleWitness → List ℕ
had_after had number [] = had
had_after had number (w ∷ ws) = had ++ number ∷ []

-- the text is read again, or everything stays
abbrev pub MayRead : Bool → Chained → Chained → Type 0
MayRead false s next = next ≡ s
MayRead true s next = ReadsAgain s next

module _ (defined : List (List ℕ)) (number : ℕ) (rule : Rule) (s : Chained) where
  -- its witnesses, the environments after it, and whether they have too many touches and binds in some item
  abbrev pub file_witnesses : List RuleWitness
  file_witnesses = rule_found defined s.had number rule s.items s.file_envs

  abbrev pub rule_file_envs : List FileEnv
  rule_file_envs = file_envs_after defined s.had number rule s.items s.file_envs

  abbrev pub is_too_much : Bool
  is_too_much = has_too_many defined s.had number rule s.items s.file_envs

  -- the edits of all its witnesses
  abbrev pub RuleEdits : List Edit → Type 0
  RuleEdits = AreEdits file_witnesses rule s.items (nodes_of rule s.items) s.pieces

  -- what it leaves with this page if it meets no fault; the pieces and items are still those of the last reading
  abbrev pub state_with : Page → Chained
  state_with page = record s {
    page = page;
    file_envs = rule_file_envs;
    had = had_after s.had number file_witnesses;
    found = s.found ++ file_witnesses;
    needed = record s.needed { ran = ran_after s.needed.ran rule (rule_projections defined s.had number rule s.items s.file_envs) };
  }

  abbrev pub state_after : List Edit → Chained
  state_after edits = state_with (page_after s.page.next s.pieces edits)

-- neither too many witnesses in an item, nor too many environments
pub record AreFew (defined : List (List ℕ)) (number : ℕ) (rule : Rule) (s : Chained) : Type 0 where
  pub witnesses : is_too_much defined number rule s ≡ false
  pub environments : length (rule_file_envs defined number rule s) ≤ most_environments

-- the first fault that the rule meets
pub data IsFault (defined : List (List ℕ)) (number : ℕ) (rule : Rule) (s : Chained) : FileFault → Type 0 where
  too_many_witnesses : is_too_much defined number rule s ≡ true → IsFault defined number rule s (TooManyWitnesses number)
  too_many_environments : is_too_much defined number rule s ≡ false
      → most_environments < length (rule_file_envs defined number rule s)
      → IsFault defined number rule s (TooManyEnvironments number)
  in_edits : (edits : List Edit) (fault : EditFault) → AreFew defined number rule s → RuleEdits defined number rule s edits
      → IsEditFault s.page.next s.pieces edits fault → IsFault defined number rule s (edit_fault number fault)

-- The rule meets no fault and leads from one state to the next: if it edits and is followed by another, the text is read again.
pub record Leads (defined : List (List ℕ)) (number : ℕ) (rule : Rule) (followed : Bool) (s next : Chained) : Type 0 where
  pub edits : List Edit
  pub few : AreFew defined number rule s
  pub are : RuleEdits defined number rule s edits
  pub fine : AreFine s.page.next s.pieces edits
  pub reads : MayRead (is_edited edits && followed) (state_after defined number rule s edits) next
