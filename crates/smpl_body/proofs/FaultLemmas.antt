-- Faults of tokens, one after another.
use Rattle.std.proofs.Common.{◌≡◌, ℕ, suc, ◌+◌, ◌<◌, sym, ap, ◌∙◌, arith, List, ◌∷◌, length, get_or, drop, drop-cons, Option}
use Rattle.smpl_patch.specs.declared.fault.PatchFault.{PatchFault}
use Rattle.smpl_patch.specs.Faults.{first_from}
use Rattle.smpl_meta.specs.declared.patterns.Placed.{Placed}
use Rattle.smpl_meta.proofs.FirstLemmas.{first_append}
use Rattle.smpl_body.specs.Bodies.{minus_sign, minus_signs}

pub signs-more : (ps : List Placed) (i : ℕ) (p : Placed) (first more : Option PatchFault) → i < length ps → p ≡ get_or ps i p
    → more ≡ first_from first (minus_sign p) → first_from more (minus_signs (drop (i + 1) ps)) ≡ first_from first (minus_signs (drop i ps))
signs-more ps i p first more lt at e =
    let one : i + 1 ≡ suc i = omega arith in
    let d : drop i ps ≡ p ∷ drop (i + 1) ps = rw one (drop-cons ps i p lt ∙ ap (λ x. x ∷ drop (suc i) ps) (sym at)) in
    ap (λ o. first_from o (minus_signs (drop (i + 1) ps))) e
    ∙ (sym (first_append first (minus_sign p) (minus_signs (drop (i + 1) ps))) ∙ ap (λ x. first_from first (minus_signs x)) (sym d))
