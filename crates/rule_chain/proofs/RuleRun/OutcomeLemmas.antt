-- What a rule does, seen from a state whose terms have no ids.
use Rattle.std.proofs.Common.{◌≡◌, ◌<◌, ◌≤◌, ◌⊎◌, inl, inr, ℕ, refl, sym, ap, subst, ◌∙◌, arith, Bool, true, false, not, Option}
use Rattle.std.proofs.Common.{List, [], ◌∷◌, ◌++◌, length, map}
use Rattle.std.proofs.Math.Path.{subst₂, subst₃}
use Rattle.std.proofs.lemmas.List.{map-append, length-map}
use Rattle.smpl_patch.specs.declared.rule.Rule.{Rule}
use Rattle.smpl_patch.specs.declared.witness.RuleWitness.{RuleWitness}
use Rattle.cpp_lines.specs.declared.reading.Item.{Item}
use Rattle.c_file.specs.File.{FileItems}
use Rattle.edit_marks.specs.declared.edit_conflict.edit.Edit.{Edit}
use Rattle.edit_marks.specs.declared.tidy.walk.TidiedEdits.{TidiedEdits}
use Rattle.edit_marks.specs.EditWalk.Edited.{AreEdits}
use Rattle.edit_marks.specs.Tidy.Walk.{AreTidyEdits}
use Rattle.rule_chain.proofs.EditLaws.BareEdits.{edits_with}
use Rattle.rule_chain.proofs.EditLaws.BareTidyEdits.{tidy_edits_with}
use Rattle.rule_chain.specs.RuleWitnesses.Bare.{bare_witness}
use Rattle.env_parts.specs.Parts.{Pairs}
use Rattle.rule_envs.specs.declared.file_env.FileEnv.{FileEnv}
use Rattle.rule_envs.specs.Shares.{bare_file_env}
use Rattle.rule_envs.specs.FileEnvs.{most_environments}
use Rattle.rule_chain.specs.declared.rule_matches.fault.MatchFault.{MatchFault}
use Rattle.rule_chain.specs.declared.rule_matches.fault.MatchFault.TheVariants as match_faults
use Rattle.rule_chain.specs.RuleMatches.Matching.{rule_found, rule_projections, file_envs_after, has_too_many}
use Rattle.rule_chain.specs.declared.rule_edits.fault.EditFault.{EditFault}
use Rattle.rule_chain.specs.declared.rule_edits.fault.EditFault.TheVariants as edit_faults
use Rattle.rule_chain.specs.declared.rule_edits.texts.NewText.{NewText}
use Rattle.rule_chain.specs.RuleEdits.Nodes.{nodes_of}
use Rattle.rule_chain.specs.RuleEdits.Pages.{Page, is_empty, page_after, IsNew}
use Rattle.rule_chain.specs.RuleEdits.Faults.{AreFine, IsEditFault}
use Rattle.rule_chain.specs.RuleEdits.Tidied.{AreTidyFine, IsEditFaultBy, IsTidyEditFault, LeavesBy}
use Rattle.rule_chain.specs.declared.rule_run.state.FileState.{FileState}
use Rattle.rule_chain.specs.declared.rule_run.fault.FileFault.{FileFault}
use Rattle.rule_chain.specs.declared.rule_run.fault.FileFault.TheVariants.{NoMemory}
use Rattle.rule_chain.specs.RuleRun.States.{Chained}
use Rattle.rule_chain.specs.RuleRun.OneRule.{had_after, match_fault, edit_fault, file_witnesses, rule_file_envs, is_too_much, RuleEdits, AreFew, state_with}
use Rattle.rule_chain.specs.RuleRun.OneRule.IsFault.{too_many_witnesses, too_many_environments, in_edits}
use Rattle.rule_chain.specs.RuleRun.Tidied.{IsFaultBy, IsTidyFault, TidyRuleEdits}
use Rattle.rule_chain.specs.RuleRun.Outcomes.{AreFindingsOf, IsAtReading, IsOutcomeBy}

-- ---- witnesses without ids

had-bare : (had : List ℕ) (number : ℕ) (ws : List RuleWitness) → had_after had number (map bare_witness ws) ≡ had_after had number ws
had-bare had number [] = refl
had-bare had number (w ∷ ws) = refl

-- ---- one rule, from findings with ids, as they are passed on

module _ (defined : List (List ℕ)) (number : ℕ) (rule : Rule) (file : FileItems) (next : ℕ) (f : FileState)
    (had : List ℕ) (items : List Item) (file_envs : List FileEnv)
    (same_had : had ≡ f.had) (same_items : items ≡ file.items) (same_file_envs : file_envs ≡ f.file_envs) where
  abbrev pub found_here : List RuleWitness
  found_here = rule_found defined had number rule items (map bare_file_env file_envs)

  abbrev pub file_envs_here : List FileEnv
  file_envs_here = file_envs_after defined had number rule items (map bare_file_env file_envs)

  abbrev pub too_much_here : Bool
  too_much_here = has_too_many defined had number rule items (map bare_file_env file_envs)

  module _ (s : Chained) (seen : AreFindingsOf f s) (reading : IsAtReading file next s) where
    had_as : s.had ≡ had
    had_as = seen.seen.had_is ∙ sym same_had

    items_as : s.items ≡ items
    items_as = reading.items ∙ sym same_items

    bare_as : s.file_envs ≡ map bare_file_env file_envs
    bare_as = seen.seen.file_envs_is ∙ ap (map bare_file_env) (sym same_file_envs)

    found_as : file_witnesses defined number rule s ≡ found_here
    found_as = λ i. rule_found defined (had_as i) number rule (items_as i) (bare_as i)

    file_envs_as : rule_file_envs defined number rule s ≡ file_envs_here
    file_envs_as = λ i. file_envs_after defined (had_as i) number rule (items_as i) (bare_as i)

    too_much_as : is_too_much defined number rule s ≡ too_much_here
    too_much_as = λ i. has_too_many defined (had_as i) number rule (items_as i) (bare_as i)

    runs_as : rule_projections defined s.had number rule s.items s.file_envs
        ≡ rule_projections defined had number rule items (map bare_file_env file_envs)
    runs_as = λ i. rule_projections defined (had_as i) number rule (items_as i) (bare_as i)

    next_as : s.page.next ≡ next
    next_as = ap (λ (p : Page). p.next) reading.page

    are_few : (cs : List FileEnv) → too_much_here ≡ false → map bare_file_env cs ≡ file_envs_here → length cs ≤ most_environments
        → AreFew defined number rule s
    are_few cs few is most =
        let e : length (rule_file_envs defined number rule s) ≡ length cs = ap length (file_envs_as ∙ sym is) ∙ length-map cs bare_file_env in
        record { witnesses = too_much_as ∙ few; environments = omega (arith, e, most) }

    rule_edits : (ws passed : List RuleWitness) (edits : List Edit) → passed ≡ ws → map bare_witness ws ≡ found_here
        → AreEdits passed rule file.items (nodes_of rule file.items) file.pieces edits → RuleEdits defined number rule s edits
    rule_edits ws passed edits same is are =
        subst₃ (λ w its ps. AreEdits w rule its (nodes_of rule its) ps edits)
        (ap (map bare_witness) same ∙ is ∙ sym found_as) (sym reading.items) (sym reading.pieces)
        (edits_with rule file.items (nodes_of rule file.items) file.pieces passed edits are)

    tidy_rule_edits : (ws passed : List RuleWitness) (made : TidiedEdits) → passed ≡ ws → map bare_witness ws ≡ found_here
        → AreTidyEdits passed rule file.items (nodes_of rule file.items) file.pieces made → TidyRuleEdits defined number rule s made
    tidy_rule_edits ws passed made same is are =
        subst₃ (λ w its ps. AreTidyEdits w rule its (nodes_of rule its) ps made)
        (ap (map bare_witness) same ∙ is ∙ sym found_as) (sym reading.items) (sym reading.pieces)
        (tidy_edits_with rule file.items (nodes_of rule file.items) file.pieces passed made are)

    -- the findings that are left, whatever the page is
    left_findings : (ws : List RuleWitness) (cs : List FileEnv) (left : FileState) (page : Page) → map bare_witness ws ≡ found_here
        → map bare_file_env cs ≡ file_envs_here → left.file_envs ≡ cs → left.had ≡ had_after f.had number ws → left.found ≡ f.found ++ ws
        → AreFindingsOf left (state_with defined number rule s page)
    left_findings ws cs left page found carried c h w = record {
      seen = record {
        had_is = (λ i. had_after (seen.seen.had_is i) number ((found_as ∙ sym found) i)) ∙ had-bare f.had number ws ∙ sym h;
        file_envs_is = file_envs_as ∙ sym carried ∙ ap (map bare_file_env) (sym c);
      };
      found_is = (λ i. seen.found_is i ++ (found_as ∙ sym found) i) ∙ sym (map-append bare_witness f.found ws) ∙ ap (map bare_witness) (sym w);
    }

    ran_as : (ran : Bool) → ran ≡ not (is_empty (rule_projections defined had number rule items (map bare_file_env file_envs)))
        → ran ≡ not (is_empty (rule_projections defined s.had number rule s.items s.file_envs))
    ran_as ran runs = runs ∙ ap (λ (envs : List Pairs). not (is_empty envs)) (sym runs_as)

    many_by : (tidy : Bool) → too_much_here ≡ true → IsFaultBy tidy defined number rule s (match_fault number match_faults.TooManyWitnesses)
    many_by false many = too_many_witnesses (too_much_as ∙ many)
    many_by true many = IsTidyFault.too_many_witnesses (too_much_as ∙ many)

    wide_by : (tidy : Bool) → too_much_here ≡ false → most_environments < length file_envs_here
        → IsFaultBy tidy defined number rule s (match_fault number match_faults.TooManyEnvironments)
    wide_by false few wide =
        let e : length (rule_file_envs defined number rule s) ≡ length file_envs_here = ap length file_envs_as in
        too_many_environments (too_much_as ∙ few) (omega (arith, e, wide))
    wide_by true few wide =
        let e : length (rule_file_envs defined number rule s) ≡ length file_envs_here = ap length file_envs_as in
        IsTidyFault.too_many_environments (too_much_as ∙ few) (omega (arith, e, wide))

  -- what is left
  pub rule_works : (tidy : Bool) (ws passed : List RuleWitness) (cs : List FileEnv) (left : FileState) (text : Option NewText) (ran : Bool)
      → too_much_here ≡ false → map bare_witness ws ≡ found_here → map bare_file_env cs ≡ file_envs_here → length cs ≤ most_environments → passed ≡ ws
      → LeavesBy tidy passed rule file.items next file.pieces text
      → left.file_envs ≡ cs → left.had ≡ had_after f.had number ws → left.found ≡ f.found ++ ws
      → ran ≡ not (is_empty (rule_projections defined had number rule items (map bare_file_env file_envs)))
      → (s : Chained) → AreFindingsOf f s → IsAtReading file next s → IsOutcomeBy tidy defined number rule s left text ran
  rule_works false ws passed cs left text ran few found carried most same e c h w runs s seen reading = record {
    edits = e.0;
    few = are_few s seen reading cs few carried most;
    are = rule_edits s seen reading ws passed e.0 same found e.1.0;
    fine = subst₂ (λ n ps. AreFine n ps e.0) (sym (next_as s seen reading)) (sym reading.pieces) e.1.1.fine;
    findings_are = left_findings s seen reading ws cs left (page_after s.page.next s.pieces e.0) found carried c h w;
    text_is = subst₂ (λ n ps. IsNew n ps e.0 text) (sym (next_as s seen reading)) (sym reading.pieces) e.1.1.new;
    ran_is = ran_as s seen reading ran runs;
  }
  rule_works true ws passed cs left text ran few found carried most same e c h w runs s seen reading = record {
    made = e.0;
    page = e.1.1.page;
    few = are_few s seen reading cs few carried most;
    are = tidy_rule_edits s seen reading ws passed e.0 same found e.1.0;
    fine = subst₃ (λ n ps its. AreTidyFine n ps its e.0 e.1.1.page) (sym (next_as s seen reading)) (sym reading.pieces) (sym reading.items) e.1.1.fine;
    findings_are = left_findings s seen reading ws cs left e.1.1.page found carried c h w;
    text_is = e.1.1.new;
    ran_is = ran_as s seen reading ran runs;
  }

  -- the faults of its edits
  fault_by : (tidy : Bool) (ws passed : List RuleWitness) (cs : List FileEnv) (fault : EditFault)
      → too_much_here ≡ false → map bare_witness ws ≡ found_here → map bare_file_env cs ≡ file_envs_here → length cs ≤ most_environments → passed ≡ ws
      → IsEditFaultBy tidy passed rule file.items next file.pieces fault
      → (s : Chained) → AreFindingsOf f s → IsAtReading file next s → IsFaultBy tidy defined number rule s (edit_fault number fault)
  fault_by false ws passed cs fault few found carried most same e s seen reading =
      in_edits e.0 fault (are_few s seen reading cs few carried most) (rule_edits s seen reading ws passed e.0 same found e.1.0)
      (subst₂ (λ n ps. IsEditFault n ps e.0 fault) (sym (next_as s seen reading)) (sym reading.pieces) e.1.1)
  fault_by true ws passed cs fault few found carried most same e s seen reading =
      IsTidyFault.in_edits e.0 fault (are_few s seen reading cs few carried most) (tidy_rule_edits s seen reading ws passed e.0 same found e.1.0)
      (subst₃ (λ n ps its. IsTidyEditFault n ps its e.0 fault) (sym (next_as s seen reading)) (sym reading.pieces) (sym reading.items) e.1.1)

  pub edits_stop : (tidy : Bool) (ws passed : List RuleWitness) (cs : List FileEnv) (fault : EditFault) (told : FileFault) → told ≡ edit_fault number fault
      → too_much_here ≡ false → map bare_witness ws ≡ found_here → map bare_file_env cs ≡ file_envs_here → length cs ≤ most_environments → passed ≡ ws
      → (fault ≡ edit_faults.NoMemory) ⊎ IsEditFaultBy tidy passed rule file.items next file.pieces fault
      → (told ≡ NoMemory) ⊎ ((s : Chained) → AreFindingsOf f s → IsAtReading file next s → IsFaultBy tidy defined number rule s told)
  edits_stop tidy ws passed cs fault told is few found carried most same (inl none) = inl (is ∙ ap (edit_fault number) none)
  edits_stop tidy ws passed cs fault told is few found carried most same (inr e) = inr (λ s seen reading.
      subst (IsFaultBy tidy defined number rule s) (sym is) (fault_by tidy ws passed cs fault few found carried most same e s seen reading))

  -- its other faults
  told_by : (tidy : Bool) (fault : MatchFault) → (fault ≡ match_faults.TooManyWitnesses → too_much_here ≡ true)
      → (fault ≡ match_faults.TooManyEnvironments → (too_much_here ≡ false) × (most_environments < length file_envs_here))
      → (match_fault number fault ≡ NoMemory)
      ⊎ ((s : Chained) → AreFindingsOf f s → IsAtReading file next s → IsFaultBy tidy defined number rule s (match_fault number fault))
  told_by tidy match_faults.TooManyWitnesses many wide = inr (λ s seen reading. many_by s seen reading tidy (many refl))
  told_by tidy match_faults.TooManyEnvironments many wide = inr (λ s seen reading. let w = wide refl in wide_by s seen reading tidy w.0 w.1)
  told_by tidy match_faults.NoMemory many wide = inl refl

  pub matches_stop : (tidy : Bool) (fault : MatchFault) (told : FileFault) → told ≡ match_fault number fault
      → (fault ≡ match_faults.TooManyWitnesses → too_much_here ≡ true)
      → (fault ≡ match_faults.TooManyEnvironments → (too_much_here ≡ false) × (most_environments < length file_envs_here))
      → (told ≡ NoMemory) ⊎ ((s : Chained) → AreFindingsOf f s → IsAtReading file next s → IsFaultBy tidy defined number rule s told)
  matches_stop tidy fault told is many wide =
      subst (λ (t : FileFault). (t ≡ NoMemory) ⊎ ((s : Chained) → AreFindingsOf f s → IsAtReading file next s → IsFaultBy tidy defined number rule s t))
      (sym is) (told_by tidy fault many wide)
