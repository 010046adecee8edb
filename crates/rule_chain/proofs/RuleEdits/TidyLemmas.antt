-- What edits leave where the text is tidied. Edits of which none changes anything leave it as it is.
use Rattle.std.proofs.Common.{◌≡◌, ◌<◌, ◌≤◌, ℕ, true, false, None, Some, ◌⊎◌, inl, inr, refl, sym, ap, subst, ◌∙◌, arith, List, [], ◌∷◌, length}
use Rattle.std.specs.Prelude.{slice_get}
use Rattle.std.specs.List.{AllZip}
use Rattle.c_lexer.specs.Pieces.{TextPiece, text_of, most_bytes}
use Rattle.c_lexer.specs.Ids.{ids_of}
use Rattle.cpp_lines.specs.declared.reading.Item.{Item}
use Rattle.smpl_patch.specs.declared.rule.Rule.{Rule}
use Rattle.smpl_patch.specs.declared.witness.RuleWitness.{RuleWitness}
use Rattle.edit_marks.specs.declared.edit_conflict.clash.Clash.{Clash}
use Rattle.edit_marks.specs.declared.edit_conflict.edit.Edit.{Edit}
use Rattle.edit_marks.specs.declared.edit_walk.nodes.ItemNodes.{ItemNodes}
use Rattle.edit_marks.specs.declared.tidy.walk.TidiedEdits.{TidiedEdits}
use Rattle.edit_marks.specs.EditConflict.Clashes.{IsFirstClash}
use Rattle.edit_marks.specs.EditConflict.Once.{once}
use Rattle.edit_marks.specs.Tidy.Bodies.{acts_of, staying}
use Rattle.edit_marks.specs.Tidy.Walk.{AreInOrder, AreTidyEdits, IsTidyEditAt, items_of, without_staying}
use Rattle.edit_marks.specs.EditWalk.Touches.{Touched, touches}
use Rattle.edit_bodies.specs.declared.lay.TidyLayout.{TidyLayout}
use Rattle.edit_bodies.specs.Laid.{IsBroken, IsLaidOut}
use Rattle.rule_chain.specs.declared.rule_edits.texts.NewText.{NewText}
use Rattle.rule_chain.specs.declared.rule_edits.fault.EditFault.{EditFault}
use Rattle.rule_chain.specs.declared.rule_edits.fault.EditFault.TheVariants as fault
use Rattle.rule_chain.specs.RuleEdits.Nodes.{nodes_of}
use Rattle.rule_chain.specs.RuleEdits.Pages.{Page, is_edited, old_page, page_in}
use Rattle.rule_chain.specs.RuleEdits.Faults.{IsEditFault}
use Rattle.rule_chain.specs.RuleEdits.Tidied.{DoNotClash, IsTidyPage, TidyLeaves, IsTidyEditFault, tidied_page}
use Rattle.rule_chain.specs.RuleEdits.Tidied.IsTidyPage.{stays, changes}
use Rattle.rule_chain.specs.RuleEdits.Tidied.IsTidyEditFault.{conflict, body, too_long}

module _ (next : ℕ) (pieces : List TextPiece) (items : List Item) (made : TidiedEdits) where
  pub page_stays : (page : Page) → is_edited made.list ≡ false → IsTidyPage next pieces items made page → page ≡ old_page next pieces
  page_stays _ e (stays none) = refl
  page_stays _ e (changes laid some is) = let both : true ≡ false = sym some ∙ e in absurd cc

  -- no edit meets a fault
  pub no_tidy_fault : (f : EditFault) → length (text_of pieces) ≤ most_bytes → made.list ≡ [] → IsTidyEditFault next pieces items made f → ⊥
  no_tidy_fault _ short none (conflict c id first second clash at one two) =
      let e : slice_get made.list c.first ≡ None = ap (λ (edits : List Edit). slice_get edits c.first) none in absurd cc
  no_tidy_fault _ short none (body token id apart some is at) = let e : is_edited made.list ≡ false = ap is_edited none in absurd cc
  no_tidy_fault _ short none (too_long page apart is long) =
      let own : length page.bytes ≡ length (text_of pieces) = ap (λ (p : Page). length p.bytes) (page_stays page (ap is_edited none) is) in
      omega (arith, short, long, own)

-- without a witness there is no edit
pub no_tidy_edit : (rule : Rule) (items : List Item) (pieces : List TextPiece) (ws : List RuleWitness) (made : TidiedEdits) → ws ≡ []
    → AreTidyEdits ws rule items (nodes_of rule items) pieces made → made.list ≡ []
no_tidy_edit rule items pieces ws made none are =
    by (subst (λ (x : List RuleWitness). AreTidyEdits x rule items (nodes_of rule items) pieces made) none are)
  where
    by : AreTidyEdits [] rule items (nodes_of rule items) pieces made → made.list ≡ []
    by e = e.distinct ∙ all_none e.all e.each
      where
        all_none : (all : List Edit) → AllZip (IsTidyEditAt rule items (nodes_of rule items) pieces) [] all
            → once (without_staying (staying (acts_of all) made.outline) all) ≡ []
        all_none [] h = refl
        all_none (x ∷ all) h = absurd h

-- ---- what edits leave

module _ (next : ℕ) (pieces : List TextPiece) (items : List Item) (made : TidiedEdits) where
  -- a first clash is their fault
  pub clash_fault : (c : Clash) (f : EditFault) → IsFirstClash made.list c → IsEditFault next pieces made.list f
      → IsTidyEditFault next pieces items made f
  clash_fault c _ first (IsEditFault.conflict d id one two is at left right) = conflict d id one two is at left right
  clash_fault c _ first (IsEditFault.too_long none long) = absurd (none c first.clash)

  module _ (apart : DoNotClash made.list) where
    pub leaves_old : is_edited made.list ≡ false → length (text_of pieces) ≤ 16777216 → TidyLeaves next pieces items made None
    leaves_old e short = record { page = old_page next pieces; fine = record { apart = apart; after = stays e; short = short }; new = e }

    module _ (some : is_edited made.list ≡ true) where
      pub broken_fault : (token id : ℕ) → IsBroken pieces items made token → slice_get (ids_of pieces) token ≡ Some id
          → IsTidyEditFault next pieces items made (fault.Body id)
      broken_fault token id is at = body token id apart some is at

      module _ (laid : TidyLayout) (is : IsLaidOut pieces items made laid) where
        pub leaves_new : (t : NewText) → page_in t ≡ tidied_page next pieces made.list laid → length t.bytes.items ≤ 16777216
            → TidyLeaves next pieces items made (Some t)
        leaves_new t same short = record {
          page = tidied_page next pieces made.list laid;
          fine = record {
            apart = apart;
            after = changes laid some is;
            short = subst (λ (p : Page). length p.bytes ≤ 16777216) same short;
          };
          new = (some, same);
        }

        pub long_fault : (f : EditFault)
            → (f ≡ fault.NoMemory) ⊎ ((f ≡ fault.TooLong) × (16777216 < length (tidied_page next pieces made.list laid).bytes))
            → (f ≡ fault.NoMemory) ⊎ IsTidyEditFault next pieces items made f
        long_fault f (inl none) = inl none
        long_fault f (inr long) =
            inr (subst (IsTidyEditFault next pieces items made) (sym long.0)
            (too_long (tidied_page next pieces made.list laid) apart (changes laid some is) long.1))

-- what holds for each next id holds for one
pub at_one : {none : Type 0} (P : ℕ → Type 0) (next : ℕ) → none ⊎ ((n : ℕ) → P n) → none ⊎ P next
at_one P next (inl h) = inl h
at_one P next (inr h) = inr (h next)

-- the same edits over lists that are equal
pub are_tidy_edits : (found : List RuleWitness) (rule : Rule) (is items : List Item) (ks nodes : List ItemNodes) (ps pieces : List TextPiece)
    (made : TidiedEdits) → is ≡ items → ks ≡ nodes → ps ≡ pieces → AreTidyEdits found rule is ks ps made → AreTidyEdits found rule items nodes pieces made
are_tidy_edits found rule is items ks nodes ps pieces made a k p h =
    subst (λ (x : List Item). AreTidyEdits found rule x nodes pieces made) a
    (subst (λ (x : List ItemNodes). AreTidyEdits found rule is x pieces made) k
    (subst (λ (x : List TextPiece). AreTidyEdits found rule is ks x made) p h))

-- no edits are those of witnesses without touches
pub none_are : (found : List RuleWitness) (rule : Rule) (items : List Item) (nodes : List ItemNodes) (pieces : List TextPiece) (made : TidiedEdits)
    → made.list ≡ [] → made.statements.items ≡ [] → made.outline.leaves.items ≡ [] → made.outline.bodies.items ≡ []
    → made.outline.statements.items ≡ [] → made.outline.lists.items ≡ [] → touches found ≡ [] → AreTidyEdits found rule items nodes pieces made
none_are found rule items nodes pieces made list statements leaves bodies own lists none = record {
  all = [];
  each = subst (λ (ts : List Touched). AllZip (IsTidyEditAt rule items nodes pieces) ts []) (sym none) tt;
  touched = [];
  ordered = subst (λ (ts : List Touched). AreInOrder (items_of ts []) []) (sym none)
      (record { rise = λ k lt. absurd (omega arith); same = λ n. (λ h. h, λ h. h) });
  outlined = record { leaves = leaves; bodies = bodies; statements = own; lists = lists };
  distinct = list;
  statements = statements;
}
