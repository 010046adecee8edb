use Rattle.std.proofs.Common.{◌≡◌, sym, ap, ◌∙◌, inl, inr}
use Rattle.std.proofs.lemmas.Bool.{false≢true}
use Rattle.std.proofs.lemmas.Result.{IfOk-weaker}
use Rattle.smpl_patch.specs.declared.fault.PatchFault.TheVariants as patch_fault
use Rattle.smpl_notes.specs.Notes.{AreNotes, notes}
use Rattle.smpl_notes.proofs.notes.Goals as goal

pub prove-unreachable-requires : goal.prove-unreachable-requires
prove-unreachable-requires c =
    let only : c.in-Err.fault ≡ patch_fault.NoMemory = elim c.in-Err.ensures.fault [
      | inl e ↦ e
      | inr w ↦ absurd (c.patch_is_read_once.ensures.apart c.args.bytes.now c.requires.0 c.in-Err.fault c.requires.1 w)
    ] in
    absurd (false≢true (sym c.if-prove.true ∙ c.is_no_memory-is_memory.ensures.1 only))

pub returns-in-Ok : goal.returns-in-Ok
returns-in-Ok c =
    IfOk-weaker c.text_notes.result _ (AreNotes c.args.bytes.now c.args.patch.now)
    (λ found e. record {
      text = c.in-Ok.text;
      is_text = c.in-Ok.ensures.text;
      are = e ∙ ap (notes c.args.bytes.now c.in-Ok.text) c.as_slice.ensures;
    }) c.text_notes.ensures
