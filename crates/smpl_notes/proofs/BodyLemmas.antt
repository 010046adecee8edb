-- Bodies of one element.
use Rattle.std.proofs.Common.{◌≡◌, refl, ap, sym, arith, List, [], ◌∷◌, length, get_or}
use Rattle.smpl_patch.specs.declared.elem.Elem.{Elem}
use Rattle.smpl_patch.specs.declared.rule.Mode.{Mode}
use Rattle.smpl_patch.specs.Bodies.{element, body}
use Rattle.smpl_notes.specs.Functions.{element_slips, function_slips}

pub slips-one : (m : Mode) (es : List Elem) (e : Elem) → length es ≡ 1 → e ≡ get_or es 0 e → function_slips m (body es) ≡ element_slips m (element e)
slips-one m [] e h q = absurd (omega (arith, h))
slips-one m (d ∷ []) e h q = ap (λ z. element_slips m (element z)) (sym q)
slips-one m (d ∷ f ∷ es) e h q = absurd (omega (arith, h))

pub slips-other : (m : Mode) (es : List Elem) → (length es ≡ 1 → ⊥) → function_slips m (body es) ≡ []
slips-other m [] h = refl
slips-other m (d ∷ []) h = absurd (h refl)
slips-other m (d ∷ f ∷ es) h = refl
