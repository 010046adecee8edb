-- Witnesses have only one list of tidied edits, with one outline.
use Rattle.std.proofs.Common.{◌≡◌, ℕ, sym, ap, subst, ◌∙◌, List}
use Rattle.std.specs.Prelude.{map}
use Rattle.std.specs.List.{filter_map, zip}
use Rattle.c_lexer.specs.Pieces.{TextPiece}
use Rattle.c_lexer.specs.Ids.{ids_of}
use Rattle.cpp_lines.specs.declared.reading.Item.{Item}
use Rattle.edit_marks.specs.declared.edit_walk.nodes.ItemNodes.{ItemNodes}
use Rattle.smpl_patch.specs.declared.pattern.VarDecl.{VarDecl}
use Rattle.smpl_patch.specs.declared.pattern.PatToken.{PatToken}
use Rattle.smpl_patch.specs.declared.rule.Rule.{Rule}
use Rattle.smpl_patch.specs.declared.witness.RuleWitness.{RuleWitness}
use Rattle.edit_marks.specs.declared.edit_conflict.edit.Edit.{Edit}
use Rattle.edit_marks.specs.declared.file_tokens.FileToken.{FileToken}
use Rattle.edit_marks.specs.declared.removals.Aligned.{Aligned}
use Rattle.edit_marks.specs.declared.tidy.walk.TidiedEdits.{TidiedEdits}
use Rattle.edit_marks.specs.Blocks.{Environment}
use Rattle.edit_marks.specs.EditConflict.Once.{number_in, once}
use Rattle.edit_marks.specs.EditWalk.Named.{pairs_at}
use Rattle.edit_marks.specs.EditWalk.Touches.{Touched, touches}
use Rattle.edit_marks.specs.Spots.{all_spots}
use Rattle.edit_marks.specs.Tokens.{file_tokens}
use Rattle.edit_marks.specs.Tidy.Bodies.{acts_of, staying, stays_of}
use Rattle.edit_marks.specs.Tidy.Edits.{TidyEditOf, TouchAt, blocks_at, tidy_inserts}
use Rattle.edit_marks.specs.Tidy.Outlines.{gather_items, own_bodies, own_lists, own_statements, tokens_of_items}
use Rattle.edit_marks.specs.Tidy.Same.{AreSame}
use Rattle.edit_marks.specs.Tidy.Touch.{statement_at, touch_at}
use Rattle.edit_marks.specs.Tidy.Walk.{AreInOrder, AreTidyEdits, IsTidyEditAt, depths_of, items_of, patterns_of, without_staying}
use Rattle.edit_marks.proofs.EditWalk.OneList.{each_one}
use Rattle.edit_marks.proofs.OneEdit.{one_rising, one_sorting, rises, rising}

one_tidy_edit : (decls : List VarDecl) (tokens : List PatToken) (env : Environment) (ids : List ℕ) (files : List FileToken) (t : TouchAt)
    (pairs : List Aligned) (a b : Edit) → TidyEditOf decls tokens env ids files t pairs a → TidyEditOf decls tokens env ids files t pairs b → a ≡ b
one_tidy_edit decls tokens env ids files t pairs a b e f =
    let removed : a.removed ≡ b.removed =
    one_rising a.removed b.removed (rises a.removed e.rise) (rises b.removed f.rise)
    (λ n has. (f.removed n).1 ((e.removed n).0 has)) (λ n has. (e.removed n).1 ((f.removed n).0 has)) in
    let spots : e.spots ≡ f.spots = one_sorting (all_spots tokens pairs) e.spots f.spots e.all f.all (rising e.spots e.sorted) (rising f.spots f.sorted) in
    let inserts : a.inserts ≡ b.inserts =
    e.inserts
    ∙ (λ i. tidy_inserts ids files t (removed i) (blocks_at decls tokens env (spots i)) 0 (blocks_at decls tokens env (spots i)))
    ∙ sym f.inserts in
    λ i. record { removed = removed i; inserts = inserts i }

-- numbers have one list in which they are in order
one_in_order : (all xs ys : List ℕ) → AreInOrder all xs → AreInOrder all ys → xs ≡ ys
one_in_order all xs ys p q =
    one_rising xs ys (rises xs p.rise) (rises ys q.rise) (λ n has. (q.same n).1 ((p.same n).0 has)) (λ n has. (p.same n).1 ((q.same n).0 has))

module _ (witnesses : List RuleWitness) (rule : Rule) (items : List Item) (nodes : List ItemNodes) (pieces : List TextPiece) where
  one_at : (t : Touched) (a b : Edit) → IsTidyEditAt rule items nodes pieces t a → IsTidyEditAt rule items nodes pieces t b → a ≡ b
  one_at t =
      one_tidy_edit rule.vars rule.tokens t.env (ids_of pieces) (file_tokens pieces) (touch_at (patterns_of rule) items (depths_of rule) t)
      (pairs_at (patterns_of rule) rule.vars rule.tokens items nodes (ids_of pieces) t)

  pub one_tidied_list : (a b : TidiedEdits) → AreTidyEdits witnesses rule items nodes pieces a → AreTidyEdits witnesses rule items nodes pieces b
      → AreSame a b
  one_tidied_list a b h k =
      let ids = ids_of pieces in
      let all : h.all ≡ k.all = each_one (IsTidyEditAt rule items nodes pieces) one_at (touches witnesses) h.all k.all h.each k.each in
      let touched : h.touched ≡ k.touched =
      one_in_order (items_of (touches witnesses) h.all) h.touched k.touched h.ordered
      (subst (λ (l : List Edit). AreInOrder (items_of (touches witnesses) l) k.touched) (sym all) k.ordered) in
      let leaves : a.outline.leaves.items ≡ b.outline.leaves.items =
      h.outlined.leaves ∙ ap (tokens_of_items ids items) touched ∙ sym k.outlined.leaves in
      let bodies : a.outline.bodies.items ≡ b.outline.bodies.items =
      h.outlined.bodies ∙ ap (gather_items ids (own_bodies ids) items 0) touched ∙ sym k.outlined.bodies in
      let statements : a.outline.statements.items ≡ b.outline.statements.items =
      h.outlined.statements ∙ ap (gather_items ids (own_statements ids) items 0) touched ∙ sym k.outlined.statements in
      let lists : a.outline.lists.items ≡ b.outline.lists.items =
      h.outlined.lists ∙ ap (gather_items ids (own_lists ids) items 0) touched ∙ sym k.outlined.lists in
      let stays : staying (acts_of h.all) a.outline ≡ staying (acts_of k.all) b.outline =
      λ i. filter_map (stays_of (acts_of (all i)) (leaves i)) (bodies i) in
      let left : without_staying (staying (acts_of h.all) a.outline) h.all ≡ without_staying (staying (acts_of k.all) b.outline) k.all =
      λ i. without_staying (stays i) (all i) in
      let list : a.list ≡ b.list = h.distinct ∙ ap once left ∙ sym k.distinct in
      let named : a.statements.items ≡ b.statements.items =
      h.statements
      ∙ (λ i. zip (map (number_in (list i)) (left i)) (map (statement_at (patterns_of rule) (depths_of rule)) (touches witnesses)))
      ∙ sym k.statements in
      record { list = list; named = named; leaves = leaves; bodies = bodies; statements = statements; lists = lists }
