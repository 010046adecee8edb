-- The edit of a touch, in terms of the context of the walk.
use Rattle.std.proofs.Common.{◌≡◌, ℕ, subst, List}
use Rattle.smpl_patch.specs.declared.pattern.VarDecl.{VarDecl}
use Rattle.smpl_patch.specs.declared.pattern.PatToken.{PatToken}
use Rattle.edit_marks.specs.declared.edit_conflict.edit.Edit.{Edit}
use Rattle.edit_marks.specs.declared.removals.Aligned.{Aligned}
use Rattle.edit_marks.specs.declared.file_tokens.FileToken.{FileToken}
use Rattle.edit_marks.specs.Blocks.{Environment}
use Rattle.edit_marks.specs.Tidy.Edits.{TouchAt, TidyEditOf}

pub same_edit_of : (decls : List VarDecl) (tokens : List PatToken) (env : Environment) (ids ids' : List ℕ) (files files' : List FileToken) (t t' : TouchAt)
    (pairs pairs' : List Aligned) (edit : Edit) → ids ≡ ids' → files ≡ files' → t ≡ t' → pairs ≡ pairs'
    → TidyEditOf decls tokens env ids files t pairs edit → TidyEditOf decls tokens env ids' files' t' pairs' edit
same_edit_of decls tokens env ids ids' files files' t t' pairs pairs' edit i f s p h =
    subst (λ (x : List Aligned). TidyEditOf decls tokens env ids' files' t' x edit) p
    (subst (λ (x : TouchAt). TidyEditOf decls tokens env ids' files' x pairs edit) s
    (subst (λ (x : List FileToken). TidyEditOf decls tokens env ids' x t pairs edit) f
    (subst (λ (x : List ℕ). TidyEditOf decls tokens env x files t pairs edit) i h)))
