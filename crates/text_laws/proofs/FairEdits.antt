-- The edits of witnesses are fair.
use Rattle.std.proofs.Common.{false, sym, subst, List}
use Rattle.std.specs.Prelude.{All}
use Rattle.c_lexer.specs.Pieces.{TextPiece}
use Rattle.c_lexer.specs.Ids.{ids_of}
use Rattle.cpp_lines.specs.declared.reading.Item.{Item}
use Rattle.edit_marks.specs.declared.edit_walk.nodes.ItemNodes.{ItemNodes}
use Rattle.smpl_patch.specs.declared.rule.Rule.{Rule}
use Rattle.smpl_patch.specs.declared.witness.RuleWitness.{RuleWitness}
use Rattle.smpl_patch.specs.Bodies.{body}
use Rattle.smpl_patch.specs.Shapes.{patterns_body}
use Rattle.edit_marks.specs.declared.edit_conflict.edit.Edit.{Edit}
use Rattle.edit_marks.specs.Edits.{HaveSoundBlocks, ArePlainInserts}
use Rattle.edit_marks.specs.Tokens.{file_tokens}
use Rattle.edit_marks.proofs.Edited.{edit_plain}
use Rattle.edit_unparse.specs.Fair.{Fair}
use Rattle.rule_chain.proofs.EditLaws.FairLemmas.{fair_edits}
use Rattle.edit_marks.specs.EditWalk.Touches.{Touched, touches}
use Rattle.edit_marks.specs.EditWalk.Named.{pairs_at}
use Rattle.edit_marks.specs.EditWalk.Edited.{IsEditAt, AreEdits}
use Rattle.edit_marks.specs.EditWalk.Fit.{HaveSoundTouches}
use Rattle.edit_marks.proofs.EditWalk.FitLemmas.{once_all, each_all, each_all_with}
use Rattle.edit_marks.proofs.EditWalk.PlainLemmas.{blank_indents}
use Rattle.text_laws.specs.ReadingLaws.Sound.{IsSoundItem}
use Rattle.text_laws.specs.OutputLaws.Differ.{AllDiffer}
use Rattle.text_laws.proofs.Places.{GoodAt}
use Rattle.text_laws.proofs.Strays.{Touches, strays_stay}
use Rattle.text_laws.proofs.Touched.{touch_good}

module _ (found : List RuleWitness) (rule : Rule) (items : List Item) (nodes : List ItemNodes) (pieces : List TextPiece) (edits : List Edit)
    (h : AreEdits found rule items nodes pieces edits) where
  plain_edits : HaveSoundTouches rule (touches found) → All (λ (e : Edit). ArePlainInserts e.inserts) edits
  plain_edits sound =
      let P = λ (e : Edit). ArePlainInserts e.inserts in
      let pairs = λ (t : Touched). pairs_at (patterns_body (body rule.body)) rule.vars rule.tokens items nodes (ids_of pieces) t in
      subst (λ (l : List Edit). All P l) (sym h.distinct) (once_all P h.all
      (each_all_with P (IsEditAt rule items nodes pieces) (λ t. HaveSoundBlocks rule.vars rule.tokens t.env) (touches found) h.all
      (λ t e own is. edit_plain rule.vars rule.tokens t.env (file_tokens pieces) (pairs t) e is own (blank_indents pieces)) sound h.each))

  good_edits : All (IsSoundItem pieces) items → AllDiffer (ids_of pieces) → All (Touches (GoodAt false 0 pieces)) edits
  good_edits sound differ =
      let P = Touches (GoodAt false 0 pieces) in
      subst (λ (l : List Edit). All P l) (sym h.distinct) (once_all P h.all
      (each_all P (IsEditAt rule items nodes pieces) (touches found) h.all
      (λ t e is. touch_good pieces differ (patterns_body (body rule.body)) rule.vars rule.tokens items nodes (file_tokens pieces) t e sound is) h.each))

  pub fair : All (IsSoundItem pieces) items → AllDiffer (ids_of pieces) → HaveSoundTouches rule (touches found) → Fair pieces edits
  fair items_sound differ sound = record {
    inserts = fair_edits edits (plain_edits sound);
    strays = strays_stay edits false 0 pieces (good_edits items_sound differ);
  }
