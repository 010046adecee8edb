-- Witnesses have only one list of edits.
use Rattle.std.proofs.Common.{◌≡◌, refl, sym, ap, ◌∙◌, List, [], ◌∷◌}
use Rattle.std.specs.List.{AllZip}
use Rattle.c_lexer.specs.Pieces.{TextPiece}
use Rattle.c_lexer.specs.Ids.{ids_of}
use Rattle.cpp_lines.specs.declared.reading.Item.{Item}
use Rattle.edit_marks.specs.declared.edit_walk.nodes.ItemNodes.{ItemNodes}
use Rattle.smpl_patch.specs.declared.rule.Rule.{Rule}
use Rattle.smpl_patch.specs.declared.witness.RuleWitness.{RuleWitness}
use Rattle.smpl_patch.specs.Bodies.{body}
use Rattle.smpl_patch.specs.Shapes.{patterns_body}
use Rattle.edit_marks.specs.declared.edit_conflict.edit.Edit.{Edit}
use Rattle.edit_marks.specs.EditConflict.Once.{once}
use Rattle.edit_marks.specs.Tokens.{file_tokens}
use Rattle.edit_marks.proofs.OneEdit.{one_edit}
use Rattle.edit_marks.specs.EditWalk.Touches.{Touched, touches}
use Rattle.edit_marks.specs.EditWalk.Named.{pairs_at}
use Rattle.edit_marks.specs.EditWalk.Edited.{IsEditAt, AreEdits}

pub each_one : (R : Touched → Edit → Type 0) → ((t : Touched) (a b : Edit) → R t a → R t b → a ≡ b) → (ts : List Touched) (as' bs : List Edit)
    → AllZip R ts as' → AllZip R ts bs → as' ≡ bs
each_one R one [] [] [] h k = refl
each_one R one [] [] (b ∷ bs) h k = absurd k
each_one R one [] (a ∷ as') bs h k = absurd h
each_one R one (t ∷ ts) [] bs h k = absurd h
each_one R one (t ∷ ts) (a ∷ as') [] h k = absurd k
each_one R one (t ∷ ts) (a ∷ as') (b ∷ bs) h k =
    let first : a ≡ b = one t a b h.0 k.0 in
    let rest : as' ≡ bs = each_one R one ts as' bs h.1 k.1 in
    λ i. first i ∷ rest i

module _ (witnesses : List RuleWitness) (rule : Rule) (items : List Item) (nodes : List ItemNodes) (pieces : List TextPiece) where
  one_at : (t : Touched) (a b : Edit) → IsEditAt rule items nodes pieces t a → IsEditAt rule items nodes pieces t b → a ≡ b
  one_at t a b h k =
      one_edit rule.vars rule.tokens t.env (file_tokens pieces)
      (pairs_at (patterns_body (body rule.body)) rule.vars rule.tokens items nodes (ids_of pieces) t) a b h k

  pub one_list : (a b : List Edit) → AreEdits witnesses rule items nodes pieces a → AreEdits witnesses rule items nodes pieces b → a ≡ b
  one_list a b h k =
      h.distinct ∙ ap once (each_one (IsEditAt rule items nodes pieces) one_at (touches witnesses) h.all k.all h.each k.each) ∙ sym k.distinct
