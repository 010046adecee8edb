use Rattle.std.proofs.Common.{sym, subst, List, length}
use Rattle.std.specs.Prelude.{All}
use Rattle.c_lexer.specs.Ids.{ids_of}
use Rattle.smpl_patch.specs.Bodies.{body}
use Rattle.smpl_patch.specs.Shapes.{patterns_body}
use Rattle.edit_marks.specs.declared.edit_conflict.edit.Edit.{Edit}
use Rattle.edit_marks.specs.Edits.{HaveSoundBlocks, ArePlainInserts}
use Rattle.edit_marks.proofs.Edited.{edit_plain}
use Rattle.edit_marks.specs.EditWalk.Touches.{Touched, touches}
use Rattle.edit_marks.specs.Tokens.{file_tokens}
use Rattle.edit_marks.specs.EditWalk.Named.{alignment, pairs_at}
use Rattle.edit_marks.specs.EditWalk.Edited.{IsEditAt}
use Rattle.edit_marks.specs.EditWalk.Fit.{FitsText}
use Rattle.edit_marks.proofs.EditWalk.FitLemmas.{once_all, each_all, each_all_with, edit_fits}
use Rattle.edit_marks.proofs.EditWalk.PlainLemmas.{blank_indents}
use Rattle.edit_marks.proofs.edit_walk.walk.edits.Goals as goal

pub returns-clause-fit : goal.returns-clause-fit
returns-clause-fit c =
    let rule = c.args.rule.now in
    let pieces = c.args.lexed.now in
    let items = c.args.items.now in
    let nodes = c.args.nodes.now in
    let found = λ (t : Touched). alignment (patterns_body (body rule.body)) rule.vars rule.tokens items nodes (ids_of pieces) t in
    let P = FitsText (length (ids_of pieces)) in
    let h = c.in_ok-list.ensures in
    subst (λ (l : List Edit). All P l) (sym h.distinct) (once_all P h.all
    (each_all P (IsEditAt rule items nodes pieces) (touches c.args.witnesses.now) h.all
    (λ t e is. edit_fits rule.vars rule.tokens t.env pieces (found t) e is) h.each))

pub returns-clause-plain : goal.returns-clause-plain
returns-clause-plain c = λ sound.
    let rule = c.args.rule.now in
    let pieces = c.args.lexed.now in
    let items = c.args.items.now in
    let nodes = c.args.nodes.now in
    let pairs = λ (t : Touched). pairs_at (patterns_body (body rule.body)) rule.vars rule.tokens items nodes (ids_of pieces) t in
    let P = λ (e : Edit). ArePlainInserts e.inserts in
    let h = c.in_ok-list.ensures in
    subst (λ (l : List Edit). All P l) (sym h.distinct) (once_all P h.all
    (each_all_with P (IsEditAt rule items nodes pieces) (λ t. HaveSoundBlocks rule.vars rule.tokens t.env) (touches c.args.witnesses.now) h.all
    (λ t e own is. edit_plain rule.vars rule.tokens t.env (file_tokens pieces) (pairs t) e is own (blank_indents pieces)) sound h.each))
