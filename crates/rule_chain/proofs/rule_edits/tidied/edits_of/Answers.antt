use Rattle.std.proofs.Common.{◌≡◌, false, sym, ap, subst, ◌∙◌, arith, List, length, []}
use Rattle.std.specs.Prelude.{All}
use Rattle.std.proofs.lemmas.Grind.{common_steps}
use Rattle.std.proofs.lemmas.List.Elements.{All-nil}
use Rattle.std.proofs.lemmas.Result.{IfOk-weaker}
use Rattle.c_lexer.specs.Ids.{ids_of}
use Rattle.c_lexer.specs.Pieces.{TextPiece}
use Rattle.edit_marks.specs.declared.edit_conflict.edit.Edit.{Edit}
use Rattle.edit_marks.specs.EditWalk.Fit.{FitsText}
use Rattle.edit_marks.specs.Tidy.Walk.{AreTidyEdits}
use Rattle.rule_chain.specs.RuleEdits.Nodes.{nodes_of}
use Rattle.rule_chain.proofs.RuleEdits.TidyLemmas.{are_tidy_edits}
use Rattle.rule_chain.proofs.RuleEdits.TreeLemmas.{no_touches}
use Rattle.rule_chain.proofs.rule_edits.tidied.edits_of.Goals as goal

pub returns-then-not-has_tree-clause-edits : goal.returns-then-not-has_tree-clause-edits
returns-then-not-has_tree-clause-edits c =
    let found = c.args.found.now in
    let rule = c.args.rule.now in
    let items = c.args.file.now.items in
    let e : c.has_tree.result ≡ false = grind (arith, common_steps) in
    IfOk-weaker c.no_edits.result _ (AreTidyEdits found rule items (nodes_of rule items) c.args.file.now.pieces)
    (λ made h. h found rule items (nodes_of rule items) c.args.file.now.pieces (no_touches found (sym c.has_tree.ensures ∙ e))) c.no_edits.ensures.edits

pub returns-then-not-has_tree-clause-fit : goal.returns-then-not-has_tree-clause-fit
returns-then-not-has_tree-clause-fit c =
    let count = length (ids_of c.args.file.now.pieces) in
    IfOk-weaker c.no_edits.result (λ made. made.list ≡ []) (λ made. All (FitsText count) made.list)
    (λ made h. subst (λ (edits : List Edit). All (FitsText count) edits) (sym h) (All-nil (FitsText count))) c.no_edits.ensures.none

pub returns-clause-edits : goal.returns-clause-edits
returns-clause-edits c =
    let found = c.args.found.now in
    let rule = c.args.rule.now in
    let items = c.args.file.now.items in
    let pieces = c.args.file.now.pieces in
    IfOk-weaker c.tidied_edits.result (AreTidyEdits found rule c.items.result.now c.as_slice.result.now c.lexed.result.now)
    (AreTidyEdits found rule items (nodes_of rule items) pieces)
    (λ made h. are_tidy_edits found rule c.items.result.now items c.as_slice.result.now (nodes_of rule items) c.lexed.result.now pieces made
    c.items.ensures.items
    (c.as_slice.ensures.value ∙ c.in_ok-nodes.ensures.nodes ∙ ap (nodes_of rule) (c.make_all.ensures.items ∙ c.requires.items))
    c.lexed.ensures.lexed h) c.tidied_edits.ensures.edits

pub returns-clause-fit : goal.returns-clause-fit
returns-clause-fit c =
    IfOk-weaker c.tidied_edits.result _ (λ made. All (FitsText (length (ids_of c.args.file.now.pieces))) made.list)
    (λ made h. subst (λ (ps : List TextPiece). All (FitsText (length (ids_of ps))) made.list) c.lexed.ensures.lexed h) c.tidied_edits.ensures.fit
