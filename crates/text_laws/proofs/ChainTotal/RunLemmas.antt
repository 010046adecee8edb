-- The rules over a text have an end.
use Rattle.std.proofs.Common.{◌≡◌, ◌<◌, ◌≤◌, ◌&&◌, ◌⊎◌, ℕ, zero, suc, Bool, true, false, inl, inr, refl, arith, List, [], ◌∷◌, ◌++◌, length, Some}
use Rattle.std.specs.Prelude.{All, slice_get}
use Rattle.std.proofs.lemmas.List.Elements.{All-head, All-tail}
use Rattle.c_lexer.specs.Pieces.{TextPiece, most_bytes}
use Rattle.c_lexer.specs.Lexes.{Lexes}
use Rattle.c_lexer.specs.Ids.{ids_of}
use Rattle.cpp_lines.specs.declared.reading.Item.{Item}
use Rattle.c_file.specs.Reads.{Reads}
use Rattle.smpl_patch.specs.declared.rule.Rule.{Rule}
use Rattle.edit_marks.specs.declared.edit_conflict.edit.Edit.{Edit}
use Rattle.edit_marks.specs.declared.edit_conflict.clash.Clash.{Clash}
use Rattle.edit_marks.specs.EditConflict.Clashes.{IsClash, IsFirstClash}
use Rattle.edit_marks.specs.EditWalk.Fit.{FitsText}
use Rattle.rule_chain.specs.RuleEdits.Nodes.{nodes_of}
use Rattle.rule_chain.specs.RuleEdits.Pages.{is_edited}
use Rattle.rule_chain.specs.RuleEdits.Faults.IsEditFault.{conflict, too_long}
use Rattle.rule_chain.specs.declared.rule_edits.fault.EditFault.{EditFault}
use Rattle.rule_chain.specs.declared.rule_edits.fault.EditFault.TheVariants as edit
use Rattle.rule_chain.proofs.RuleEdits.ClashLemmas.{clash_within}
use Rattle.rule_envs.specs.FileEnvs.{most_environments}
use Rattle.rule_chain.specs.declared.rule_run.fault.FileFault.{FileFault}
use Rattle.rule_chain.specs.declared.rule_run.fault.FileFault.TheVariants.{TooManyWitnesses, TooManyEnvironments}
use Rattle.rule_chain.specs.RuleRun.Notes.{notes_on}
use Rattle.rule_chain.specs.RuleRun.States.{Chained, IsCut, first_state, needed_notes}
use Rattle.rule_chain.specs.RuleRun.OneRule.{edit_fault, MayRead, file_witnesses, rule_file_envs, is_too_much, RuleEdits, state_after, AreFew, IsFault}
use Rattle.rule_chain.specs.RuleRun.OneRule.{Leads}
use Rattle.rule_chain.specs.RuleRun.OneRule.IsFault.{too_many_witnesses, too_many_environments, in_edits}
use Rattle.rule_chain.specs.Chain.{Outcome, Done, Refused, is_followed, Runs, Chain}
use Rattle.text_laws.specs.Sound.{HavePlusCode}
use Rattle.text_laws.specs.TokenLaws.States.{IsSoundState}
use Rattle.text_laws.specs.ChainTotal.Weakly.{Weakly}
use Rattle.text_laws.proofs.ChainTotal.ReadLemmas.{CutLaw, order, reads_some}
use Rattle.text_laws.proofs.ChainTotal.EditLemmas.{edits_some}
use Rattle.text_laws.proofs.ChainTotal.LeastLemmas.{clash_some}

-- what states and texts of rules have
abbrev pub FirstLaw : Type 0
FirstLaw = (bytes : List ℕ) (pieces : List TextPiece) (items : List Item) → Lexes bytes pieces → (reads : Reads pieces items)
    → IsSoundState (first_state pieces reads.0 items)

abbrev pub StateLaw : Type 0
StateLaw = (defined : List (List ℕ)) (number : ℕ) (rule : Rule) (followed : Bool) (s next : Chained) → HavePlusCode rule.tokens → IsSoundState s
    → Leads defined number rule followed s next → IsSoundState next

abbrev pub TextLaw : Type 0
TextLaw = (defined : List (List ℕ)) (number : ℕ) (rule : Rule) (s : Chained) (edits : List Edit) → HavePlusCode rule.tokens → IsSoundState s
    → RuleEdits defined number rule s edits → (pieces : List TextPiece) × IsCut (state_after defined number rule s edits).page pieces

abbrev pub RuleHasCode : Rule → Type 0
RuleHasCode r = HavePlusCode r.tokens

within : (xs : List ℕ) (k : ℕ) → k < length xs → (x : ℕ) × (slice_get xs k ≡ Some x)
within [] k lt = absurd (omega (arith, lt))
within (x ∷ xs) zero lt = (x, refl)
within (x ∷ xs) (suc k) lt = within xs k (omega (arith, lt))

module _ (cut_law : CutLaw) (state_law : StateLaw) (text_law : TextLaw) (defined : List (List ℕ)) where
  -- ---- one rule

  module _ (number : ℕ) (rule : Rule) (rules : List Rule) (s : Chained) (plus : HavePlusCode rule.tokens) (sound : IsSoundState s)
      (later : (next : Chained) → IsSoundState next → Weakly ((end : Outcome) × Runs false defined (suc number) rules next end))
      (absent : ((end : Outcome) × Runs false defined number (rule ∷ rules) s end) → ⊥) where
    refused : (fault : FileFault) → IsFault defined number rule s fault → ⊥
    refused fault is = absent (Refused fault, inl (fault, (is, refl)))

    leads : (next : Chained) → Leads defined number rule (is_followed rules) s next → ⊥
    leads next to = later next (state_law defined number rule (is_followed rules) s next plus sound to) (λ r. absent (r.0, inr (next, (to, r.1))))

    module _ (few : AreFew defined number rule s) (edits : List Edit) (are : RuleEdits defined number rule s edits)
        (fit : All (FitsText (length (ids_of s.pieces))) edits) where
      abbrev left : Chained
      left = state_after defined number rule s edits

      clash_at : (d : Clash) → IsFirstClash edits d → ⊥
      clash_at d first =
          let id = within (ids_of s.pieces) d.token (clash_within (length (ids_of s.pieces)) edits d fit first.clash) in
          let fault : EditFault = edit.Conflict id.0 first.clash.first first.clash.second in
          refused (edit_fault number fault)
          (in_edits edits fault few are (conflict d id.0 first.clash.first first.clash.second first id.1 first.clash.first_is first.clash.second_is))

      apart : (c : Clash) → IsClash edits c → ⊥
      apart c is = clash_some edits c is (λ d. clash_at d.0 d.1)

      read_by : (b : Bool) → ((next : Chained) → MayRead b left next → ⊥) → ⊥
      read_by false go = go left refl
      read_by true go =
          let pieces = text_law defined number rule s edits plus sound are in
          reads_some cut_law pieces.0 (λ items.
          let next : Chained = record left {
            reading = suc left.reading;
            pieces = pieces.0;
            items = items.0;
            skipped = left.skipped
                ++ notes_on left.loaded (suc left.reading) (record { pieces = pieces.0; shown = items.1.0; items = items.0 });
            needed = record { shown = items.1.0; ran = []; earlier = needed_notes left };
          } in
          go next (record { pieces = pieces.0; cut = pieces.1; items = items.0; reads = items.1; is = refl }))

      short_by : (length left.page.bytes ≤ most_bytes) ⊎ (most_bytes < length left.page.bytes) → ⊥
      short_by (inl short) =
          read_by (is_edited edits && is_followed rules)
          (λ next reads. leads next (record { edits = edits; few = few; are = are; fine = record { apart = apart; short = short }; reads = reads }))
      short_by (inr long) = refused (edit_fault number edit.TooLong) (in_edits edits edit.TooLong few are (too_long apart long))

      worked_by : ⊥
      worked_by = short_by (order (length left.page.bytes) most_bytes)

    file_envs_by : is_too_much defined number rule s ≡ false
        → (length (rule_file_envs defined number rule s) ≤ most_environments) ⊎ (most_environments < length (rule_file_envs defined number rule s)) → ⊥
    file_envs_by calm (inl few) =
        let edited = edits_some rule s.items (nodes_of rule s.items) s.pieces (file_witnesses defined number rule s) in
        worked_by (record { witnesses = calm; environments = few }) edited.edits edited.are edited.fit
    file_envs_by calm (inr many) = refused (TooManyEnvironments number) (too_many_environments calm many)

    found_by : (b : Bool) → is_too_much defined number rule s ≡ b → ⊥
    found_by true much = refused (TooManyWitnesses number) (too_many_witnesses much)
    found_by false calm = file_envs_by calm (order (length (rule_file_envs defined number rule s)) most_environments)

    ends : ⊥
    ends = found_by (is_too_much defined number rule s) refl

  -- ---- all rules

  runs_some : (number : ℕ) (rules : List Rule) (s : Chained) → All RuleHasCode rules → IsSoundState s
      → Weakly ((end : Outcome) × Runs false defined number rules s end)
  runs_some number [] s plus sound = λ absent. absent (Done s, refl)
  runs_some number (rule ∷ rules) s plus sound = λ absent.
      ends number rule rules s (All-head RuleHasCode rule rules plus) sound
      (λ next fine. runs_some (suc number) rules next (All-tail RuleHasCode rule rules plus) fine) absent

  pub chain_some : FirstLaw → (rules : List Rule) → All RuleHasCode rules → (text : List ℕ) → Weakly ((end : Outcome) × Chain false rules defined text end)
  chain_some first_law rules plus text = λ absent.
      let cut = cut_law text in
      reads_some cut_law cut.0 (λ items.
      runs_some 0 rules (first_state cut.0 items.1.0 items.0) plus (first_law text cut.0 items.0 cut.1 items.1) (λ r.
      absent (r.0, record { pieces = cut.0; cut = cut.1; items = items.0; reads = items.1; runs = r.1 })))
