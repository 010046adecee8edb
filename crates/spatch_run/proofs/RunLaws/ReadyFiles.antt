-- If the shelf reveals its files, a whole run goes on with the files once its patch is ready.
use Rattle.std.proofs.Common.{◌≡◌, ℕ, List, [], ◌∷◌, ◌++◌, Option, Some, None, refl, sym, ap, ◌∙◌, inr, subst, append_assoc}
use Rattle.std.specs.Prelude.{IsSome}
use Rattle.smpl_patch.specs.declared.rule.Patch.{Patch}
use Rattle.run_acts.specs.Acts.{Act, Load, Observed}
use Rattle.run_words.specs.declared.order.Mode.{Mode}
use Rattle.run_words.specs.Orders.{Target, OnFiles, Order}
use Rattle.run_words.specs.Faults.{word_fault}
use Rattle.run_files.specs.declared.run_lines.notes.NoteLines.{NoteLines}
use Rattle.run_files.specs.RunStages.Stages.{Stage, Doing, ReadPatch, ReadIsos, Leads, ReadLeads, TargetLeads, begun, begun_by, first_course, going}
use Rattle.run_files.specs.RunStages.Stages.{next_act, patch_limit, status_at}
use Rattle.run_files.specs.RunStages.Paths.{Path, AreActs}
use Rattle.run_files.specs.RunStages.Reasons.{FilesDo, FilesEnd, PatchRead, PatchReady, files_status}
use Rattle.run_files.specs.RunStages.Reasons.PatchReady.{plain, expanded}
use Rattle.spatch_run.proofs.RunLaws.Unique.{ReadOnce, Leads-one, same_some}
use Rattle.spatch_run.proofs.RunLaws.OnePath.{moved, over_or_next}
use Rattle.spatch_run.proofs.RunLaws.FilesWhy.{files_went}

module _ (laws : ReadOnce) (old : Observed) (some : IsSome old.files) (last : Stage) (status : ℕ) (over : status_at last ≡ Some status) where
  -- what is left of a path to the end, after the stage that it comes to next
  abbrev Left : List Act → List Act → Stage → Type 0
  Left before acts to = (rest : List Act) × ((acts ≡ before ++ rest) × Path old to rest last)

  -- a load comes first
  after_load : (from to : Stage) (name : List ℕ) (limit : ℕ) (acts : List Act) → next_act from ≡ Some (Load name limit) → Leads old.files from to
      → Path old from acts last → Left (Load name limit ∷ []) acts to
  after_load from to name limit [] next leads path = absurd (over_or_next from status (Load name limit) (ap status_at (sym path) ∙ over) next)
  after_load from to name limit (act ∷ acts) next leads path =
      let load : Load name limit ≡ act = same_some (Load name limit) act (sym next ∙ path.0) in
      let mid : to ≡ path.1.0 = Leads-one laws old.files some from to path.1.0 leads path.1.1.0 in
      (acts, (ap (λ (a : Act). a ∷ acts) (sym load), moved (Load name limit) act to path.1.0 last old acts load mid path.1.1.1))

  module _ (words : List (List ℕ)) (defined : List (List ℕ)) (target : Target) (acts : List Act) (path : Path old (begun_by words) acts last) where
    -- the patch is read
    after_patch : (patch : Patch) (lines : NoteLines) (isos : Option (List ℕ)) (before : List Act) (to : Stage)
        → PatchRead words old patch lines isos defined target before → ReadLeads patch lines isos defined target to → Left before acts to
    after_patch patch lines isos before to read leads =
        let from : Stage = Doing [] (ReadPatch read.name isos defined target) in
        let start : Path old from acts last = subst (λ (o : Option Order). Path old (begun (word_fault words) o) acts last) read.found.order path in
        let noted = subst (λ (x : NoteLines). ReadLeads patch x isos defined target to) read.lines_are leads in
        let on : Leads old.files from to =
        (Some read.bytes, (read.found.found, inr (patch, (read.is, (read.notes, (read.are_notes, noted)))))) in
        let left = after_load from to read.name patch_limit acts refl on start in
        (left.0, (left.1.0 ∙ sym (ap (λ (x : List Act). x ++ left.0) read.acts_are), left.1.1))

    -- it has its forms
    after_ready : (whole : Patch) (lines : NoteLines) (before : List Act) (to : Stage)
        → PatchReady words old whole lines defined target before → TargetLeads whole lines defined target to → Left before acts to
    after_ready whole lines before to (plain read) leads = after_patch whole lines None before to read leads
    after_ready whole lines before to (expanded patch name bytes isos found are is) leads =
        let from : Stage = Doing [] (ReadIsos patch lines name defined target) in
        let first = after_patch patch lines (Some name) found.before from found.read refl in
        let on : Leads old.files from to = (Some bytes, (found.found, inr (isos, (are, inr (whole, (is, leads)))))) in
        let left = after_load from to name patch_limit first.0 refl on first.1.1 in
        let same : before ++ left.0 ≡ found.before ++ Load name patch_limit ∷ left.0 =
        ap (λ (x : List Act). x ++ left.0) found.acts_are ∙ append_assoc found.before (Load name patch_limit ∷ []) left.0 in
        (left.0, (first.1.0 ∙ ap (λ (x : List Act). found.before ++ x) left.1.0 ∙ sym same, left.1.1))

pub files_follow : ReadOnce → (words : List (List ℕ)) (old : Observed) (patch : Patch) (lines : NoteLines) (defined : List (List ℕ)) (mode : Mode)
    (names : List (List ℕ)) (before acts : List Act) (status : ℕ) → IsSome old.files
    → PatchReady words old patch lines defined (OnFiles mode names) before → AreActs words old acts status
    → (rest : List Act) × ((end : FilesEnd) × (FilesDo old patch defined mode names (first_course lines) rest end
    × ((acts ≡ before ++ rest) × (status ≡ files_status end))))
files_follow laws words old patch lines defined mode names before acts status some ready are =
    let from : Stage = going [] patch defined mode names (first_course lines) in
    let left = after_ready laws old some are.last status are.over words defined (OnFiles mode names) acts are.path patch lines before from ready refl in
    let went = files_went patch defined mode names are.last status are.over old (first_course lines) [] left.0 left.1.1 in
    (went.rest, (went.end, (went.went, (left.1.0 ∙ ap (λ (x : List Act). before ++ x) went.acts_are, went.status_is))))
