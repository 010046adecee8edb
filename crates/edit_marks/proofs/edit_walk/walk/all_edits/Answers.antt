use Rattle.std.proofs.Common.{ap, ◌∙◌, List, map, Bor}
use Rattle.c_lexer.specs.Ids.{ids_of}
use Rattle.smpl_patch.specs.declared.elem.Elem.{Elem}
use Rattle.smpl_patch.specs.declared.pattern.Pattern.{Pattern}
use Rattle.smpl_patch.specs.Bodies.{body}
use Rattle.smpl_patch.specs.Shapes.{patterns_body}
use Rattle.edit_marks.specs.EditWalk.Touches.{touches}
use Rattle.edit_marks.specs.Tokens.{file_tokens}
use Rattle.edit_marks.proofs.EditWalk.GrowingLemmas.{adds_all}
use Rattle.edit_marks.proofs.EditWalk.WalkContextLemmas.{same_site}
use Rattle.edit_marks.proofs.edit_walk.walk.all_edits.Goals as goal

pub returns : goal.returns
returns c =
    let rule = c.args.rule.now in
    let pieces = c.args.lexed.now in
    let all = touches c.args.witnesses.now in
    let es = c.put_witnesses.new.edits.items in
    same_site c.args.items.now c.args.nodes.now all es (map (λ (p : Bor Pattern). p.now) c.deref-2.result.now) (patterns_body (body rule.body))
    c.as_slice-2.result.now rule.vars c.as_slice-3.result.now rule.tokens c.in_ok-ids.ids (ids_of pieces) c.in_ok-files.files (file_tokens pieces)
    (ap (map (λ (p : Bor Pattern). p.now)) c.deref-2.ensures.value ∙ c.in_ok-patterns.ensures
    ∙ ap (λ (b : List Elem). patterns_body (body b)) c.as_slice.ensures)
    c.as_slice-2.ensures c.as_slice-3.ensures (c.in_ok-ids.ensures.keys ∙ c.in_ok-token_ids.ensures.ids) c.in_ok-files.ensures
    (adds_all _ c.new-all.result.items es all c.new-all.ensures.items c.in_ok-put_witnesses.ensures)
