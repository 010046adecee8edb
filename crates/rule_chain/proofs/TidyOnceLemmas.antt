-- One rule over a text that is tidied leads to at most one state, or meets at most one fault.
use Rattle.std.proofs.Common.{◌≡◌, ℕ, Bool, true, false, ◌&&◌, Some, refl, sym, ap, ◌∙◌, subst, arith, List, length}
use Rattle.std.proofs.Math.Path.{subst₂}
use Rattle.std.specs.Prelude.{slice_get}
use Rattle.c_lexer.specs.Pieces.{TextPiece}
use Rattle.c_lexer.specs.Ids.{ids_of}
use Rattle.cpp_lines.specs.declared.reading.Item.{Item}
use Rattle.smpl_patch.specs.declared.rule.Rule.{Rule}
use Rattle.smpl_patch.specs.declared.witness.RuleWitness.{RuleWitness}
use Rattle.edit_marks.specs.declared.edit_conflict.clash.Clash.{Clash}
use Rattle.edit_marks.specs.declared.edit_conflict.edit.Edit.{Edit}
use Rattle.edit_marks.specs.declared.edit_walk.nodes.ItemNodes.{ItemNodes}
use Rattle.edit_marks.specs.declared.tidy.walk.TidiedEdits.{TidiedEdits}
use Rattle.edit_marks.specs.EditConflict.Clashes.{IsClash, IsFirstClash}
use Rattle.edit_marks.specs.Tidy.Same.{AreSame}
use Rattle.edit_marks.specs.Tidy.Walk.{AreTidyEdits}
use Rattle.edit_unparse.specs.Tidy.Made.{frame_of}
use Rattle.edit_unparse.specs.Tidy.Text.{text_after}
use Rattle.edit_bodies.specs.declared.lay.TidyLayout.{TidyLayout}
use Rattle.edit_bodies.specs.Laid.{IsBroken, IsLaidOut}
use Rattle.rule_chain.specs.declared.rule_edits.fault.EditFault.{EditFault}
use Rattle.rule_chain.specs.RuleEdits.Nodes.{nodes_of}
use Rattle.rule_chain.specs.RuleEdits.Pages.{Page, is_edited, page_of}
use Rattle.rule_chain.specs.RuleEdits.Tidied.{AreTidyFine, IsTidyEditFault, IsTidyPage}
use Rattle.rule_chain.specs.RuleEdits.Tidied.IsTidyPage.{stays, changes}
use Rattle.rule_chain.specs.RuleEdits.Tidied.IsTidyEditFault.{conflict, body, too_long}
use Rattle.rule_chain.specs.declared.rule_run.fault.FileFault.{FileFault}
use Rattle.rule_chain.specs.RuleRun.States.{Chained}
use Rattle.rule_chain.specs.RuleRun.OneRule.{MayRead, edit_fault, file_witnesses, state_with}
use Rattle.rule_chain.specs.RuleRun.Tidied.{IsTidyFault, TidyLeads, TidyRuleEdits}
use Rattle.rule_chain.specs.RuleRun.Tidied.IsTidyFault.{too_many_witnesses, too_many_environments, in_edits}
use Rattle.rule_chain.proofs.OnceLemmas.{HaveOneCut, HaveOneReading, HaveOneShown, few_or_many, first_once, may_once}

-- Witnesses have one list of tidied edits, and a text has one layout under them, or breaks at one token.
pub record HaveOneLayout : Type 0 where
  pub made : (found : List RuleWitness) (rule : Rule) (items : List Item) (nodes : List ItemNodes) (pieces : List TextPiece) (a b : TidiedEdits)
      → AreTidyEdits found rule items nodes pieces a → AreTidyEdits found rule items nodes pieces b → AreSame a b
  pub frames : (pieces : List TextPiece) (items : List Item) (made same : TidiedEdits) (one other : TidyLayout)
      → AreSame made same → IsLaidOut pieces items made one → IsLaidOut pieces items same other → frame_of one.layout ≡ frame_of other.layout
  pub apart : (pieces : List TextPiece) (items : List Item) (made same : TidiedEdits) (laid : TidyLayout) (token : ℕ)
      → AreSame made same → IsLaidOut pieces items made laid → IsBroken pieces items same token → ⊥
  pub broken : (pieces : List TextPiece) (items : List Item) (made same : TidiedEdits) (one other : ℕ)
      → AreSame made same → IsBroken pieces items made one → IsBroken pieces items same other → one ≡ other

-- ---- the edits

flipped : (a b : TidiedEdits) → AreSame a b → AreSame b a
flipped a b same = record {
  list = sym same.list;
  named = sym same.named;
  leaves = sym same.leaves;
  bodies = sym same.bodies;
  statements = sym same.statements;
  lists = sym same.lists;
}

module _ (laws : HaveOneLayout) (next : ℕ) (pieces : List TextPiece) (items : List Item) where
  -- a text that has a page after its edits breaks at no token
  page_or_broken : (a b : TidiedEdits) → AreSame a b → (p : Page) (token : ℕ) → is_edited b.list ≡ true → IsTidyPage next pieces items a p
      → IsBroken pieces items b token → ⊥
  page_or_broken a b same _ token some (stays none) broken = let e : true ≡ false = sym some ∙ ap is_edited (sym same.list) ∙ none in absurd cc
  page_or_broken a b same _ token some (changes laid more is) broken = laws.apart pieces items a b laid token same is broken

  module _ (a b : TidiedEdits) (same : AreSame a b) where
    clash_there : (c : Clash) → IsClash a.list c → IsClash b.list c
    clash_there c = subst (λ (l : List Edit). IsClash l c) same.list

    clash_back : (c : Clash) → IsClash b.list c → IsClash a.list c
    clash_back c = subst (λ (l : List Edit). IsClash l c) (sym same.list)

    pages_once : (p q : Page) → IsTidyPage next pieces items a p → IsTidyPage next pieces items b q → p ≡ q
    pages_once _ _ (stays none) (stays never) = refl
    pages_once _ _ (stays none) (changes laid some is) = let e : true ≡ false = sym some ∙ ap is_edited (sym same.list) ∙ none in absurd cc
    pages_once _ _ (changes laid some is) (stays none) = let e : true ≡ false = sym some ∙ ap is_edited same.list ∙ none in absurd cc
    pages_once _ _ (changes laid some is) (changes other more was) =
        let frames = laws.frames pieces items a b laid other same is was in
        λ i. page_of next (text_after (Some (frames i)) pieces (same.list i) next)

    edit_faults_once : (f g : EditFault) → IsTidyEditFault next pieces items a f → IsTidyEditFault next pieces items b g → f ≡ g
    edit_faults_once _ _ (conflict c id x y one at first second) (conflict d other u v two there third fourth) =
        let e : c ≡ d = first_once b.list c d (subst (λ (l : List Edit). IsFirstClash l c) same.list one) two in
        let ids : Some id ≡ Some other = sym at ∙ ap (λ (k : Clash). slice_get (ids_of pieces) k.token) e ∙ there in
        let left : Some x ≡ Some u = sym first ∙ (λ i. slice_get (same.list i) (e i).first) ∙ third in
        let right : Some y ≡ Some v = sym second ∙ (λ i. slice_get (same.list i) (e i).second) ∙ fourth in
        cc
    edit_faults_once _ _ (conflict c id x y one at first second) (body token own none some is there) = absurd (none c (clash_there c one.clash))
    edit_faults_once _ _ (conflict c id x y one at first second) (too_long page none is long) = absurd (none c (clash_there c one.clash))
    edit_faults_once _ _ (body token own none some is there) (conflict c id x y one at first second) = absurd (none c (clash_back c one.clash))
    edit_faults_once _ _ (body token id none some is at) (body last own never more was there) =
        let e : token ≡ last = laws.broken pieces items a b token last same is was in
        let ids : Some id ≡ Some own = sym at ∙ ap (slice_get (ids_of pieces)) e ∙ there in
        cc
    edit_faults_once _ _ (body token own none some is there) (too_long page never was long) =
        absurd (page_or_broken b a (flipped a b same) page token some was is)
    edit_faults_once _ _ (too_long page none is long) (conflict c id x y one at first second) = absurd (none c (clash_back c one.clash))
    edit_faults_once _ _ (too_long page never was long) (body token own none some is there) = absurd (page_or_broken a b same page token some was is)
    edit_faults_once _ _ (too_long page none is long) (too_long other never was longer) = refl

    fine_or_fault : (page : Page) (f : EditFault) → AreTidyFine next pieces items a page → IsTidyEditFault next pieces items b f → ⊥
    fine_or_fault page _ fine (conflict c id x y one at first second) = fine.apart c (clash_back c one.clash)
    fine_or_fault page _ fine (body token id none some is at) = page_or_broken a b same page token some fine.after is
    fine_or_fault page _ fine (too_long other none is long) =
        let short = fine.short in
        let alike : length page.bytes ≡ length other.bytes = ap (λ (p : Page). length p.bytes) (pages_once page other fine.after is) in
        omega (arith, short, long, alike)

-- ---- one rule

module _ (laws : HaveOneLayout) (defined : List (List ℕ)) (number : ℕ) (rule : Rule) (s : Chained) where
  edits_once : (a b : TidiedEdits) → TidyRuleEdits defined number rule s a → TidyRuleEdits defined number rule s b → AreSame a b
  edits_once a b = laws.made (file_witnesses defined number rule s) rule s.items (nodes_of rule s.items) s.pieces a b

  pub tidy_fault_once : (f g : FileFault) → IsTidyFault defined number rule s f → IsTidyFault defined number rule s g → f ≡ g
  tidy_fault_once _ _ (too_many_witnesses a) (too_many_witnesses b) = refl
  tidy_fault_once _ _ (too_many_witnesses a) (too_many_environments b more) = let e : true ≡ false = sym a ∙ b in absurd cc
  tidy_fault_once _ _ (too_many_witnesses a) (in_edits made fault few are is) = absurd (few_or_many defined number rule s few a)
  tidy_fault_once _ _ (too_many_environments b more) (too_many_witnesses a) = let e : true ≡ false = sym a ∙ b in absurd cc
  tidy_fault_once _ _ (too_many_environments b more) (too_many_environments c most) = refl
  tidy_fault_once _ _ (too_many_environments b more) (in_edits made fault few are is) = let e = few.environments in absurd (omega arith)
  tidy_fault_once _ _ (in_edits made fault few are is) (too_many_witnesses a) = absurd (few_or_many defined number rule s few a)
  tidy_fault_once _ _ (in_edits made fault few are is) (too_many_environments b more) = let e = few.environments in absurd (omega arith)
  tidy_fault_once _ _ (in_edits made fault few are is) (in_edits others other less same was) =
      let once = edits_once made others are same in
      ap (edit_fault number) (edit_faults_once laws s.page.next s.pieces s.items made others once fault other is was)

  pub tidy_leads_or_fault : (followed : Bool) (next : Chained) (f : FileFault) → TidyLeads defined number rule followed s next
      → IsTidyFault defined number rule s f → ⊥
  tidy_leads_or_fault followed next _ leads (too_many_witnesses a) = few_or_many defined number rule s leads.few a
  tidy_leads_or_fault followed next _ leads (too_many_environments b more) = let e = leads.few.environments in omega arith
  tidy_leads_or_fault followed next _ leads (in_edits made fault few are is) =
      let once = edits_once leads.made made leads.are are in
      fine_or_fault laws s.page.next s.pieces s.items leads.made made once leads.page fault leads.fine is

  pub tidy_leads_once : HaveOneCut → HaveOneReading → HaveOneShown → (followed : Bool) (a b : Chained)
      → TidyLeads defined number rule followed s a → TidyLeads defined number rule followed s b → a ≡ b
  tidy_leads_once one_cut one_reading one_shown followed a b one two =
      let once = edits_once one.made two.made one.are two.are in
      let page : one.page ≡ two.page =
      pages_once laws s.page.next s.pieces s.items one.made two.made once one.page two.page one.fine.after two.fine.after in
      let reads : MayRead (is_edited two.made.list && followed) (state_with defined number rule s two.page) a =
      subst₂ (λ (l : List Edit) (p : Page). MayRead (is_edited l && followed) (state_with defined number rule s p) a) once.list page one.reads in
      may_once one_cut one_reading one_shown (is_edited two.made.list && followed) (state_with defined number rule s two.page) a b reads two.reads
