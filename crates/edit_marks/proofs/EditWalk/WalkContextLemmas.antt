-- The edits in a context are those of the rule and the text that it was made from.
use Rattle.std.proofs.Common.{◌≡◌, ℕ, subst, List}
use Rattle.std.specs.List.{AllZip}
use Rattle.cpp_lines.specs.declared.reading.Item.{Item}
use Rattle.edit_marks.specs.declared.edit_walk.nodes.ItemNodes.{ItemNodes}
use Rattle.smpl_patch.specs.declared.pattern.VarDecl.{VarDecl}
use Rattle.smpl_patch.specs.declared.pattern.PatToken.{PatToken}
use Rattle.smpl_patch.specs.declared.pattern.Pattern.{Pattern}
use Rattle.edit_marks.specs.declared.edit_conflict.edit.Edit.{Edit}
use Rattle.edit_marks.specs.declared.file_tokens.FileToken.{FileToken}
use Rattle.edit_marks.specs.EditWalk.Touches.{Touched}
use Rattle.edit_marks.specs.EditWalk.Edited.{IsEdit}

pub same_site : (items : List Item) (nodes : List ItemNodes) (ts : List Touched) (es : List Edit)
    (patterns patterns' : List Pattern) (decls decls' : List VarDecl) (tokens tokens' : List PatToken) (ids ids' : List ℕ) (files files' : List FileToken)
    → patterns ≡ patterns' → decls ≡ decls' → tokens ≡ tokens' → ids ≡ ids' → files ≡ files'
    → AllZip (IsEdit patterns decls tokens items nodes ids files) ts es → AllZip (IsEdit patterns' decls' tokens' items nodes ids' files') ts es
same_site items nodes ts es patterns patterns' decls decls' tokens tokens' ids ids' files files' p d t n f h =
    subst (λ (x : List FileToken). AllZip (IsEdit patterns' decls' tokens' items nodes ids' x) ts es) f
    (subst (λ (x : List ℕ). AllZip (IsEdit patterns' decls' tokens' items nodes x files) ts es) n
    (subst (λ (x : List PatToken). AllZip (IsEdit patterns' decls' x items nodes ids files) ts es) t
    (subst (λ (x : List VarDecl). AllZip (IsEdit patterns' x tokens items nodes ids files) ts es) d
    (subst (λ (x : List Pattern). AllZip (IsEdit x decls tokens items nodes ids files) ts es) p h))))
