use Rattle.std.proofs.Common.{◌≡◌, sym, ap, ◌∙◌, Some, None, arith, slice_get}
use Rattle.std.proofs.lemmas.Option.{slice_get_within, get_or_from_slice_get}
use Rattle.c_terms.proofs.PathLemmas.{child-levels}
use Rattle.c_file.specs.Typedefs.{core}
use Rattle.c_file.proofs.CoreLemmas.{core-found}
use Rattle.c_file.proofs.typedefs.+core.Goals as goal

pub core-requires : goal.core-requires
core-requires t c =
    let cs = c.in-Branch.children in let i = c.in-Some.place in let inner = c.in-Some-at.inner.now in
    let at : slice_get cs i ≡ Some inner = ap (λ xs. slice_get xs i) (sym c.as_slice.ensures) ∙ sym c.in-Some-at.ensures in
    let h = child-levels c.args.tree.now c.in-Branch.label cs i inner c.in-Branch.is (slice_get_within cs i inner at)
    (sym (get_or_from_slice_get cs i inner inner at)) in
    (omega arith, tt)

pub returns-in-Some-at : goal.returns-in-Some-at
returns-in-Some-at t c =
    let cs = c.in-Branch.children in let i = c.in-Some.place in let inner = c.in-Some-at.inner.now in
    let at : slice_get cs i ≡ Some inner = ap (λ xs. slice_get xs i) (sym c.as_slice.ensures) ∙ sym c.in-Some-at.ensures in
    c.core.ensures ∙ sym (ap core c.in-Branch.is ∙ core-found c.in-Branch.label cs c.len.result i (Some inner) c.len.ensures c.in-Some.ensures at)

pub returns-in-None : goal.returns-in-None
returns-in-None t c =
    let cs = c.in-Branch.children in let i = c.in-Some.place in
    let at : slice_get cs i ≡ None = ap (λ xs. slice_get xs i) (sym c.as_slice.ensures) ∙ sym c.in-None.ensures in
    sym (ap core c.in-Branch.is ∙ core-found c.in-Branch.label cs c.len.result i None c.len.ensures c.in-Some.ensures at)
