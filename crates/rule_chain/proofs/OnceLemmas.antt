-- One rule over a text that isn't tidied leads to at most one state, or meets at most one fault.
use Rattle.std.proofs.Common.{◌≡◌, ◌<◌, ◌≤◌, ◌⊎◌, ℕ, Bool, true, false, ◌&&◌, Some, refl, sym, ap, ◌∙◌, subst}
use Rattle.std.proofs.Common.{inl, inr, suc, arith, List, [], ◌++◌}
use Rattle.std.specs.Prelude.{slice_get}
use Rattle.c_lexer.specs.Pieces.{TextPiece}
use Rattle.c_lexer.specs.Lexes.{Cuts}
use Rattle.c_lexer.specs.Ids.{ids_of}
use Rattle.c_lexer.specs.Pieces.{text_of}
use Rattle.cpp_lines.specs.declared.reading.Item.{Item}
use Rattle.cpp_lines.specs.Shown.{AreShown}
use Rattle.c_file.specs.Reads.{Reads}
use Rattle.edit_marks.specs.declared.edit_walk.nodes.ItemNodes.{ItemNodes}
use Rattle.smpl_patch.specs.declared.rule.Rule.{Rule}
use Rattle.smpl_patch.specs.declared.witness.RuleWitness.{RuleWitness}
use Rattle.edit_marks.specs.declared.edit_conflict.edit.Edit.{Edit}
use Rattle.edit_marks.specs.declared.edit_conflict.clash.Clash.{Clash}
use Rattle.edit_marks.specs.EditConflict.Clashes.{IsFirstClash, NotAfter}
use Rattle.edit_marks.specs.EditWalk.Edited.{AreEdits}
use Rattle.rule_chain.specs.declared.rule_edits.fault.EditFault.{EditFault}
use Rattle.rule_chain.specs.RuleEdits.Nodes.{nodes_of}
use Rattle.rule_chain.specs.RuleEdits.Pages.{is_edited}
use Rattle.rule_chain.specs.RuleEdits.Faults.{AreFine, IsEditFault}
use Rattle.rule_chain.specs.RuleEdits.Faults.IsEditFault.{conflict, too_long}
use Rattle.rule_chain.specs.declared.rule_run.fault.FileFault.{FileFault}
use Rattle.rule_chain.specs.RuleRun.Notes.{notes_on}
use Rattle.rule_chain.specs.RuleRun.States.{Chained, ReadsAgain, needed_notes}
use Rattle.rule_chain.specs.RuleRun.OneRule.{edit_fault, MayRead, AreFew, RuleEdits, IsFault, Leads, state_after, is_too_much, file_witnesses}
use Rattle.rule_chain.specs.RuleRun.OneRule.IsFault.{too_many_witnesses, too_many_environments, in_edits}

-- ---- the first clash

same_clash : (c d : Clash) → c.token ≡ d.token → c.first ≡ d.first → c.second ≡ d.second → c ≡ d
same_clash c d t f s = λ i. record { token = t i; first = f i; second = s i }

not_both : (c d : Clash) → NotAfter c d → NotAfter d c → c ≡ d
not_both c d (inl a) (inl b) = absurd (omega arith)
not_both c d (inl a) (inr b) = let e : d.token ≡ c.token = b.0 in absurd (omega arith)
not_both c d (inr a) (inl b) = let e : c.token ≡ d.token = a.0 in absurd (omega arith)
not_both c d (inr a) (inr b) = by a.1 b.1
  where
    by : (c.first < d.first) ⊎ ((c.first ≡ d.first) × (c.second ≤ d.second)) → (d.first < c.first) ⊎ ((d.first ≡ c.first) × (d.second ≤ c.second)) → c ≡ d
    by (inl x) (inl y) = absurd (omega arith)
    by (inl x) (inr y) = let e : d.first ≡ c.first = y.0 in absurd (omega arith)
    by (inr x) (inl y) = let e : c.first ≡ d.first = x.0 in absurd (omega arith)
    by (inr x) (inr y) =
        let l : c.second ≤ d.second = x.1 in
        let r : d.second ≤ c.second = y.1 in
        same_clash c d a.0 x.0 (omega arith)

pub first_once : (edits : List Edit) (c d : Clash) → IsFirstClash edits c → IsFirstClash edits d → c ≡ d
first_once edits c d one two = not_both c d (one.first d two.clash) (two.first c one.clash)

-- ---- the faults of edits

edit_faults_once : (next : ℕ) (pieces : List TextPiece) (edits : List Edit) (f g : EditFault)
    → IsEditFault next pieces edits f → IsEditFault next pieces edits g → f ≡ g
edit_faults_once next pieces edits _ _ (conflict c id a b one at first second) (conflict d other x y two there third fourth) =
    let e : c ≡ d = first_once edits c d one two in
    let ids : Some id ≡ Some other = sym at ∙ ap (λ (k : Clash). slice_get (ids_of pieces) k.token) e ∙ there in
    let left : Some a ≡ Some x = sym first ∙ ap (λ (k : Clash). slice_get edits k.first) e ∙ third in
    let right : Some b ≡ Some y = sym second ∙ ap (λ (k : Clash). slice_get edits k.second) e ∙ fourth in
    cc
edit_faults_once next pieces edits _ _ (conflict c id a b one at first second) (too_long none long) = absurd (none c one.clash)
edit_faults_once next pieces edits _ _ (too_long none long) (conflict c id a b one at first second) = absurd (none c one.clash)
edit_faults_once next pieces edits _ _ (too_long none long) (too_long never more) = refl

fine_or_fault : (next : ℕ) (pieces : List TextPiece) (edits : List Edit) (f : EditFault) → AreFine next pieces edits → IsEditFault next pieces edits f → ⊥
fine_or_fault next pieces edits _ fine (conflict c id a b one at first second) = fine.apart c one.clash
fine_or_fault next pieces edits _ fine (too_long none long) = let short = fine.short in omega arith

-- ---- one rule, if witnesses have one list of edits

abbrev pub HaveOneList : Type 0
HaveOneList = (found : List RuleWitness) (rule : Rule) (items : List Item) (nodes : List ItemNodes) (pieces : List TextPiece) (a b : List Edit)
    → AreEdits found rule items nodes pieces a → AreEdits found rule items nodes pieces b → a ≡ b

abbrev pub HaveOneCut : Type 0
HaveOneCut = (a b : List TextPiece) → Cuts a → Cuts b → text_of a ≡ text_of b → ids_of a ≡ ids_of b → a ≡ b

abbrev pub HaveOneReading : Type 0
HaveOneReading = (pieces : List TextPiece) (a b : List Item) → Reads pieces a → Reads pieces b → a ≡ b

abbrev pub HaveOneShown : Type 0
HaveOneShown = (pieces : List TextPiece) (a b : List ℕ) → AreShown pieces a → AreShown pieces b → a ≡ b

pub few_or_many : (defined : List (List ℕ)) (number : ℕ) (rule : Rule) (s : Chained) → AreFew defined number rule s
    → is_too_much defined number rule s ≡ true → ⊥
few_or_many defined number rule s few many = let e : false ≡ true = sym few.witnesses ∙ many in absurd cc

module _ (one_list : HaveOneList) (defined : List (List ℕ)) (number : ℕ) (rule : Rule) (s : Chained) where
  edits_once : (a b : List Edit) → RuleEdits defined number rule s a → RuleEdits defined number rule s b → a ≡ b
  edits_once a b = one_list (file_witnesses defined number rule s) rule s.items (nodes_of rule s.items) s.pieces a b

  pub fault_once : (f g : FileFault) → IsFault defined number rule s f → IsFault defined number rule s g → f ≡ g
  fault_once _ _ (too_many_witnesses a) (too_many_witnesses b) = refl
  fault_once _ _ (too_many_witnesses a) (too_many_environments b more) = let e : true ≡ false = sym a ∙ b in absurd cc
  fault_once _ _ (too_many_witnesses a) (in_edits edits fault few are is) = absurd (few_or_many defined number rule s few a)
  fault_once _ _ (too_many_environments b more) (too_many_witnesses a) = let e : true ≡ false = sym a ∙ b in absurd cc
  fault_once _ _ (too_many_environments b more) (too_many_environments c most) = refl
  fault_once _ _ (too_many_environments b more) (in_edits edits fault few are is) = let e = few.environments in absurd (omega arith)
  fault_once _ _ (in_edits edits fault few are is) (too_many_witnesses a) = absurd (few_or_many defined number rule s few a)
  fault_once _ _ (in_edits edits fault few are is) (too_many_environments b more) = let e = few.environments in absurd (omega arith)
  fault_once _ _ (in_edits edits fault few are is) (in_edits others other less same was) =
      let e : edits ≡ others = edits_once edits others are same in
      let there : IsEditFault s.page.next s.pieces others fault = subst (λ (x : List Edit). IsEditFault s.page.next s.pieces x fault) e is in
      ap (edit_fault number) (edit_faults_once s.page.next s.pieces others fault other there was)

  pub leads_or_fault : (followed : Bool) (next : Chained) (f : FileFault) → Leads defined number rule followed s next → IsFault defined number rule s f → ⊥
  leads_or_fault followed next _ leads (too_many_witnesses a) = few_or_many defined number rule s leads.few a
  leads_or_fault followed next _ leads (too_many_environments b more) = let e = leads.few.environments in omega arith
  leads_or_fault followed next _ leads (in_edits edits fault few are is) =
      let e : edits ≡ leads.edits = edits_once edits leads.edits are leads.are in
      fine_or_fault s.page.next s.pieces leads.edits fault leads.fine (subst (λ (x : List Edit). IsEditFault s.page.next s.pieces x fault) e is)

-- ---- the text read again

module _ (one_reading : HaveOneReading) (one_shown : HaveOneShown) (p q : List TextPiece) (e : p ≡ q) (a b : List Item)
    (one : Reads p a) (two : Reads q b) where
  pub one_items : a ≡ b
  one_items = one_reading q a b (subst (λ (x : List TextPiece). Reads x a) e one) two

  pub one_sight : one.0 ≡ two.0
  one_sight = one_shown q one.0 two.0 (subst (λ (x : List TextPiece). AreShown x one.0) e one.1) two.1

module _ (one_cut : HaveOneCut) (one_reading : HaveOneReading) (one_shown : HaveOneShown) where
  again_once : (s a b : Chained) → ReadsAgain s a → ReadsAgain s b → a ≡ b
  again_once s a b one two =
      let pieces : one.pieces ≡ two.pieces = one_cut one.pieces two.pieces one.cut.cuts two.cut.cuts
      (one.cut.text ∙ sym two.cut.text) (one.cut.ids ∙ sym two.cut.ids) in
      let items = one_items one_reading one_shown one.pieces two.pieces pieces one.items two.items one.reads two.reads in
      let shown = one_sight one_reading one_shown one.pieces two.pieces pieces one.items two.items one.reads two.reads in
      one.is
      ∙ (λ i. record s {
        reading = suc s.reading;
        pieces = pieces i;
        items = items i;
        skipped = s.skipped ++ notes_on s.loaded (suc s.reading) (record { pieces = pieces i; shown = shown i; items = items i });
        needed = record { shown = shown i; ran = []; earlier = needed_notes s };
      })
      ∙ sym two.is

  pub may_once : (b : Bool) (s x y : Chained) → MayRead b s x → MayRead b s y → x ≡ y
  may_once true s x y one two = again_once s x y one two
  may_once false s x y one two = one ∙ sym two

-- ---- the state after a rule

module _ (one_list : HaveOneList) (one_cut : HaveOneCut) (one_reading : HaveOneReading) (one_shown : HaveOneShown) (defined : List (List ℕ)) where
  pub leads_once : (number : ℕ) (rule : Rule) (followed : Bool) (s a b : Chained)
      → Leads defined number rule followed s a → Leads defined number rule followed s b → a ≡ b
  leads_once number rule followed s a b one two =
      let e : one.edits ≡ two.edits = edits_once one_list defined number rule s one.edits two.edits one.are two.are in
      let reads : MayRead (is_edited two.edits && followed) (state_after defined number rule s two.edits) a =
      subst (λ (x : List Edit). MayRead (is_edited x && followed) (state_after defined number rule s x) a) e one.reads in
      may_once one_cut one_reading one_shown (is_edited two.edits && followed) (state_after defined number rule s two.edits) a b reads two.reads
