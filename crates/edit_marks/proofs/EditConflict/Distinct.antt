-- The distinct keys of a set of edits differ.
use Rattle.std.proofs.Common.{◌≡◌, ℕ, zero, suc, true, false, ◌∙◌, arith, List, [], ◌∷◌, slice_get, subst}
use Rattle.std.specs.Prelude.{Some}
use Rattle.std.specs.List.{IsDistinct, AllByRecursion}
use Rattle.edit_marks.specs.declared.edit_conflict.edit.Edit.{Edit}
use Rattle.edit_marks.specs.EditConflict.Same.{same_edit}
use Rattle.edit_marks.specs.EditConflict.Once.{Differ}
use Rattle.edit_marks.specs.EditConflict.SameLaws.{edit_decides}

apart : (es : List Edit) (x y : Edit) (j : ℕ) → AllByRecursion (λ y. same_edit x y ≡ false) es → slice_get es j ≡ Some y → x ≡ y → ⊥
apart [] x y j all at e = cc
apart (z ∷ es) x y zero all at e =
    let here : z ≡ y = cc in
    let no : same_edit x y ≡ false = subst (λ w. same_edit x w ≡ false) here all.0 in
    let yes : same_edit x y ≡ true = (edit_decides x y).1 e in
    cc
apart (z ∷ es) x y (suc j) all at e = apart es x y j all.1 at e

pub differ : (es : List Edit) → IsDistinct same_edit es → Differ es
unfolding IsDistinct
differ [] d i j a b less at_i at_j e = cc
differ (z ∷ es) d i zero a b less at_i at_j e = absurd (omega arith)
differ (z ∷ es) d zero (suc j) a b less at_i at_j e =
    let here : z ≡ a = cc in
    apart es z b j d.0 at_j (here ∙ e)
differ (z ∷ es) d (suc i) (suc j) a b less at_i at_j e = differ es d.1 i j a b (omega arith) at_i at_j e
