-- No text is refused because memory ran out.
use Rattle.std.proofs.Common.{◌≡◌, ℕ, suc, Bool, true, false, List, [], ◌∷◌, inl, inr}
use Rattle.c_lexer.specs.Pieces.{TextPiece}
use Rattle.edit_marks.specs.declared.edit_conflict.edit.Edit.{Edit}
use Rattle.run_choices.specs.declared.unread.Unread.{Unread}
use Rattle.run_choices.specs.declared.unread.Unread.TheVariants as unread
use Rattle.smpl_patch.specs.declared.rule.Rule.{Rule}
use Rattle.rule_chain.specs.declared.rule_edits.fault.EditFault.{EditFault}
use Rattle.edit_marks.specs.declared.tidy.walk.TidiedEdits.{TidiedEdits}
use Rattle.rule_chain.specs.RuleEdits.Tidied.{IsTidyEditFault}
use Rattle.rule_chain.specs.RuleEdits.Tidied.IsTidyEditFault.{conflict as tidy_conflict, body as tidy_body, too_long as tidy_too_long}
use Rattle.rule_chain.specs.RuleRun.Tidied.{IsFaultBy, IsTidyFault}
use Rattle.rule_chain.specs.RuleRun.Tidied.IsTidyFault.{too_many_witnesses as tidy_witnesses, too_many_environments as tidy_environments}
use Rattle.rule_chain.specs.RuleRun.Tidied.IsTidyFault.{in_edits as in_tidy_edits}
use Rattle.cpp_lines.specs.declared.reading.Item.{Item}
use Rattle.rule_chain.specs.RuleEdits.Faults.{IsEditFault}
use Rattle.rule_chain.specs.RuleEdits.Faults.IsEditFault.{conflict, too_long}
use Rattle.rule_chain.specs.declared.rule_run.fault.FileFault.{FileFault}
use Rattle.rule_chain.specs.declared.rule_run.fault.FileFault.TheVariants.{NoMemory}
use Rattle.rule_chain.specs.RuleRun.States.{Chained}
use Rattle.rule_chain.specs.RuleRun.OneRule.{IsFault, edit_fault}
use Rattle.rule_chain.specs.RuleRun.OneRule.IsFault.{too_many_witnesses, too_many_environments, in_edits}
use Rattle.rule_chain.specs.Chain.{Refused, Runs}
use Rattle.rule_chain.specs.Passed.{EndsBy}

edits_say_why : (number next : ℕ) (pieces : List TextPiece) (edits : List Edit) (fault : EditFault) → IsEditFault next pieces edits fault
    → edit_fault number fault ≡ NoMemory → ⊥
edits_say_why number next pieces edits _ (conflict c id first second is at one two) e = absurd cc
edits_say_why number next pieces edits _ (too_long apart long) e = absurd cc

faults_say_why : (defined : List (List ℕ)) (number : ℕ) (rule : Rule) (s : Chained) (fault : FileFault) → IsFault defined number rule s fault
    → fault ≡ NoMemory → ⊥
faults_say_why defined number rule s _ (too_many_witnesses is) e = absurd cc
faults_say_why defined number rule s _ (too_many_environments few many) e = absurd cc
faults_say_why defined number rule s _ (in_edits edits fault few are is) e = edits_say_why number s.page.next s.pieces edits fault is e

tidy_edits_say_why : (number next : ℕ) (pieces : List TextPiece) (items : List Item) (made : TidiedEdits) (fault : EditFault)
    → IsTidyEditFault next pieces items made fault → edit_fault number fault ≡ NoMemory → ⊥
tidy_edits_say_why number next pieces items made _ (tidy_conflict c id first second is at one two) e = absurd cc
tidy_edits_say_why number next pieces items made _ (tidy_body token id apart edited broken at) e = absurd cc
tidy_edits_say_why number next pieces items made _ (tidy_too_long page apart after long) e = absurd cc

tidy_faults_say_why : (defined : List (List ℕ)) (number : ℕ) (rule : Rule) (s : Chained) (fault : FileFault) → IsTidyFault defined number rule s fault
    → fault ≡ NoMemory → ⊥
tidy_faults_say_why defined number rule s _ (tidy_witnesses is) e = absurd cc
tidy_faults_say_why defined number rule s _ (tidy_environments few many) e = absurd cc
tidy_faults_say_why defined number rule s _ (in_tidy_edits made fault few are is) e =
    tidy_edits_say_why number s.page.next s.pieces s.items made fault is e

each_says_why : (tidy : Bool) (defined : List (List ℕ)) (number : ℕ) (rule : Rule) (s : Chained) (fault : FileFault)
    → IsFaultBy tidy defined number rule s fault → fault ≡ NoMemory → ⊥
each_says_why true = tidy_faults_say_why
each_says_why false = faults_say_why

runs_say_why : (tidy : Bool) (defined : List (List ℕ)) (number : ℕ) (rules : List Rule) (s : Chained)
    → Runs tidy defined number rules s (Refused NoMemory) → ⊥
runs_say_why tidy defined number [] s e = absurd cc
runs_say_why tidy defined number (rule ∷ rules) s (inl stop) =
    let same : stop.0 ≡ NoMemory = let e = stop.1.1 in cc in each_says_why tidy defined number rule s stop.0 stop.1.0 same
runs_say_why tidy defined number (rule ∷ rules) s (inr on) = runs_say_why tidy defined (suc number) rules on.0 on.1.1

-- no text that is passed over is refused
pub ends_say_why : (tidy : Bool) (choice : Unread) (rules : List Rule) (defined : List (List ℕ)) (bytes : List ℕ)
    → EndsBy tidy choice rules defined bytes (Refused NoMemory) → ⊥
ends_say_why tidy unread.All rules defined bytes chain = runs_say_why tidy defined 0 rules _ chain.runs
ends_say_why tidy unread.Needed rules defined bytes (inl chain) = runs_say_why tidy defined 0 rules _ chain.runs
ends_say_why tidy unread.Needed rules defined bytes (inr passed) = absurd passed
ends_say_why tidy unread.None rules defined bytes (inl chain) = runs_say_why tidy defined 0 rules _ chain.runs
ends_say_why tidy unread.None rules defined bytes (inr passed) = absurd passed
