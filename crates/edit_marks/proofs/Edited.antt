-- The inserts of an edit are plain.
use Rattle.std.proofs.Common.{ℕ, Bool, true, false, List, [], ◌∷◌, ◌++◌, sym, subst}
use Rattle.std.specs.Prelude.{Option, None, Some, IfSome, ◌==◌, slice_get}
use Rattle.std.specs.List.{list_any}
use Rattle.smpl_patch.specs.declared.pattern.VarDecl.{VarDecl}
use Rattle.edit_marks.specs.declared.edit_conflict.edit.Insert.{Insert}
use Rattle.edit_marks.specs.declared.edit_conflict.edit.Edit.{Edit}
use Rattle.smpl_patch.specs.declared.pattern.PatToken.{PatToken}
use Rattle.edit_marks.specs.declared.removals.Aligned.{Aligned}
use Rattle.smpl_patch.specs.declared.pattern.PlusBlock.{PlusBlock}
use Rattle.edit_marks.specs.declared.spot.PlusSpot.{PlusSpot}
use Rattle.edit_marks.specs.declared.file_tokens.FileToken.{FileToken}
use Rattle.edit_marks.specs.Blocks.{Environment, last_of_lines, block_ends}
use Rattle.edit_marks.specs.Inserts.{line_end}
use Rattle.edit_marks.specs.Plain.{AreSpaces, AreSoundLines, IsJoint}
use Rattle.edit_marks.specs.Edits.{block_of, anchor_of, insert_if, inserts_at, HaveSoundBlocks, HaveBlankIndents, ArePlainInserts, EditOf}
use Rattle.edit_marks.proofs.Sound.{insert_plain}

pub plain_both : (xs ys : List Insert) → ArePlainInserts xs → ArePlainInserts ys → ArePlainInserts (xs ++ ys)
plain_both [] ys h k = k
plain_both (x ∷ xs) ys h k = (h.0, plain_both xs ys h.1 k)

pub joint_of : (returns : Bool) (indent : List ℕ) → AreSpaces indent → IsJoint (line_end returns ++ indent)
joint_of true indent h = h
joint_of false indent h = h

plain_if : (decls : List VarDecl) (env : Environment) (removed : List ℕ) (s : PlusSpot) (block : Option PlusBlock) (file : Option FileToken)
    → IfSome block (λ b. AreSoundLines decls env b.lines) → IfSome file (λ f. AreSpaces f.indent) → ArePlainInserts (insert_if decls env removed s block file)
plain_if decls env removed s None file h k = tt
plain_if decls env removed s (Some b) None h k = tt
plain_if decls env removed s (Some b) (Some f) h k = (
  insert_plain decls env (line_end f.returns ++ f.indent) b (anchor_of (list_any (λ n. n == s.token) removed) s.after f.text)
      (block_ends (last_of_lines decls env None b.lines)) (joint_of f.returns f.indent k) h,
  tt,
)

plain_at : (decls : List VarDecl) (tokens : List PatToken) (env : Environment) (files : List FileToken) (removed : List ℕ) (spots : List PlusSpot)
    → HaveSoundBlocks decls tokens env → HaveBlankIndents files → ArePlainInserts (inserts_at decls tokens env files removed spots)
plain_at decls tokens env files removed [] h k = tt
plain_at decls tokens env files removed (s ∷ spots) h k =
    plain_both (insert_if decls env removed s (block_of tokens s) (slice_get files s.token)) (inserts_at decls tokens env files removed spots)
    (plain_if decls env removed s (block_of tokens s) (slice_get files s.token) (h s) (k s.token))
    (plain_at decls tokens env files removed spots h k)

pub edit_plain : (decls : List VarDecl) (tokens : List PatToken) (env : Environment) (files : List FileToken) (pairs : List Aligned) (edit : Edit)
    → EditOf decls tokens env files pairs edit → HaveSoundBlocks decls tokens env → HaveBlankIndents files → ArePlainInserts edit.inserts
edit_plain decls tokens env files pairs edit e h k = subst ArePlainInserts (sym e.inserts) (plain_at decls tokens env files edit.removed e.spots h k)
