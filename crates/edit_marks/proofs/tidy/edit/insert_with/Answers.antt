use Rattle.std.proofs.Common.{◌≡◌, ◌++◌, ◌∙◌}
use Rattle.edit_marks.specs.declared.edit_conflict.edit.Insert.{Insert}
use Rattle.edit_marks.specs.declared.insert.Anchor.{Anchor}
use Rattle.edit_marks.specs.Edits.{anchor_of}
use Rattle.edit_marks.specs.Inserts.{line_end}
use Rattle.edit_marks.specs.Tidy.Edits.{touch_of, anchor_in, joint_at, indent_at_anchor}
use Rattle.edit_marks.specs.Tidy.Layout.{tidy_text}
use Rattle.edit_marks.proofs.tidy.edit.insert_with.Goals as goal

pub returns : goal.returns
returns c =
    let at = c.args.at.now in
    let ids = at.ids.now in
    let files = at.files.now in
    let t = touch_of at in
    let removed = c.args.removed.now in
    let b = c.args.block.now in
    let f = c.args.file.now in
    let anchor : c.anchor_of-anchor.result ≡ anchor_in ids files t removed b f =
    c.anchor_of-anchor.ensures ∙ (λ i. anchor_of (c.is_removed-is_gone.ensures i) b.spot.after (c.as_bytes.ensures.bytes i)) in
    let indent = c.in_ok-indent.ensures ∙ (λ i. indent_at_anchor ids files t (anchor i) f) in
    let joint = c.deref.ensures.value ∙ c.in_ok-joint.ensures ∙ (λ i. line_end f.returns ++ (c.as_bytes-2.ensures.bytes ∙ indent) i) in
    let text = c.in_ok-text.ensures.bytes ∙ c.deref-2.ensures.value ∙ c.in_ok-own.ensures
    ∙ (λ i. tidy_text (anchor i) (joint i) b.lead b.lines c.args.words.now) in
    λ i. record { token = b.spot.token; side = c.side_of.ensures i; many = b.many; text = text i }
