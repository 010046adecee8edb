use Rattle.std.proofs.Common.{◌≡◌, ◌==◌, ◌∙◌, ℕ, refl, sym, ap, subst, Bool, Bor, List, [], map, length}
use Rattle.std.specs.List.{AllZip, list_any}
use Rattle.c_lexer.specs.Ids.{ids_of}
use Rattle.c_lexer.specs.Pieces.{text_of}
use Rattle.smpl_patch.specs.declared.elem.Elem.{Elem}
use Rattle.smpl_patch.specs.declared.pattern.Pattern.{Pattern}
use Rattle.smpl_patch.specs.Bodies.{body}
use Rattle.smpl_patch.specs.Shapes.{patterns_body}
use Rattle.edit_marks.specs.declared.tidy.depth.AtomDepth.{AtomDepth}
use Rattle.edit_marks.specs.declared.tidy.touch.TouchEdit.{TouchEdit}
use Rattle.edit_marks.specs.EditWalk.Touches.{touches}
use Rattle.edit_marks.specs.Tokens.{file_tokens}
use Rattle.edit_marks.specs.Tidy.Bodies.{AreChanges, AreFlags, acts_in, staying}
use Rattle.edit_marks.specs.Tidy.Depths.{depths_body, outermost}
use Rattle.edit_marks.specs.Tidy.Outlines.{IsOutline}
use Rattle.edit_marks.specs.Tidy.Walk.{AreInOrder, IsTidyTouchAt, depths_of, patterns_of, touched_of}
use Rattle.edit_marks.proofs.EditWalk.FitLemmas.{count_of}
use Rattle.edit_marks.proofs.EditWalk.GrowingLemmas.{adds_all}
use Rattle.edit_marks.proofs.Tidied.WalkLemmas.{edits_of, made_are, same_touches}
use Rattle.edit_marks.proofs.tidy.walk.made_edits.Goals as goal

pub returns : goal.returns
returns c =
    let rule = c.args.rule.now in
    let items = c.args.items.now in
    let nodes = c.args.nodes.now in
    let pieces = c.args.lexed.now in
    let ts = touches c.args.witnesses.now in
    let es = c.in_ok-touched.touched.items in
    let own = c.in_ok-own.own.items in
    let outline = c.in_ok-outline.outline in
    let changes = c.in_ok-changes.changes in
    let flags = c.deref-7.result.now in
    let ids = c.in_ok-ids.ids in
    let is_ids : ids ≡ ids_of pieces = c.in_ok-ids.ensures.keys ∙ c.in_ok-token_ids.ensures.ids in
    let patterns_are : map (λ (p : Bor Pattern). p.now) c.deref-2.result.now ≡ patterns_of rule =
    ap (map (λ (p : Bor Pattern). p.now)) c.deref-2.ensures.value ∙ c.in_ok-patterns.ensures
    ∙ ap (λ (b : List Elem). patterns_body (body b)) c.as_slice.ensures in
    let depths_are : c.deref-3.result.now ≡ depths_of rule =
    c.deref-3.ensures.value ∙ c.in_ok-depths.ensures ∙ (λ i. depths_body (c.as_slice-3.ensures i) outermost (body (c.as_slice-2.ensures i))) in
    let each : AllZip (IsTidyTouchAt rule items nodes pieces) ts es =
    same_touches items nodes ts es (map (λ (p : Bor Pattern). p.now) c.deref-2.result.now) (patterns_of rule) c.as_slice-4.result.now rule.vars
    c.as_slice-5.result.now rule.tokens ids (ids_of pieces) c.in_ok-files.files (file_tokens pieces) c.deref-3.result.now (depths_of rule) patterns_are
    c.as_slice-4.ensures c.as_slice-5.ensures is_ids c.in_ok-files.ensures depths_are (adds_all _ [] es ts refl c.in_ok-touched.ensures) in
    let in_order : AreInOrder (touched_of es) own =
    subst (λ (l : List TouchEdit). AreInOrder (touched_of l) own) c.deref-4.ensures.value c.in_ok-own.ensures in
    let outlined : IsOutline ids items own outline = subst (λ (l : List ℕ). IsOutline ids items l outline) c.deref-5.ensures.value c.in_ok-outline.ensures in
    let is_count : c.count.result ≡ length (ids_of pieces) =
    c.count.ensures.value ∙ ap length c.in_ok-files.ensures ∙ count_of (text_of pieces) 0 pieces in
    let ch : AreChanges c.count.result (edits_of es) changes =
    subst (λ (l : List TouchEdit). AreChanges c.count.result (edits_of l) changes) c.deref-6.ensures.value c.in_ok-changes.ensures in
    let test = λ (n : ℕ). list_any (λ m. m == n) (staying (acts_in changes) outline) in
    let are : AreFlags c.count.result test flags =
    subst (λ (k : ℕ). AreFlags k test flags) ch.removed.long
    (subst (λ (l : List Bool). AreFlags (length changes.removed.items) test l) (sym c.deref-7.ensures.value) c.in_ok-stays.ensures) in
    made_are c.args.witnesses.now rule items nodes pieces c.in_ok-made.made es ids own outline c.count.result changes flags each is_ids in_order outlined
    is_count ch are c.in_ok-made.ensures.outline c.in_ok-made.ensures.list c.in_ok-made.ensures.statements
