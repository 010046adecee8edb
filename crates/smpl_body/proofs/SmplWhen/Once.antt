-- Tokens are split in only one way.
use Rattle.std.proofs.Common.{◌≡◌, Bool, true, false, List, refl, sym, ap, ◌∙◌}
use Rattle.smpl_meta.specs.declared.patterns.Placed.{Placed}
use Rattle.smpl_body.specs.SmplWhen.Grammar.{Form, Parts, with_own, with_any, with_strict, with_code, with_malformed, Spot, IsParted}
use Rattle.smpl_body.specs.SmplWhen.Grammar.IsParted.{ends, plain, dots, apart, any, strict, differs, malformed}

no_both : {b : Bool} {r s : Parts} → b ≡ true → b ≡ false → r ≡ s
no_both e f = cc

no_forms : {f g h : Form} {r s : Parts} → f ≡ g → f ≡ h → (g ≡ h → r ≡ s) → r ≡ s
no_forms e f k = k (sym e ∙ f)

pub parted_once : {nested : Bool} {spot : Spot} {ps : List Placed} (one other : Parts) → IsParted nested spot ps one
    → IsParted nested spot ps other → one ≡ other
parted_once one other ends ends = refl
parted_once one other (plain {r = r} p e d) (plain {r = s} _ f g) = ap (λ (x : Parts). with_own p x) (parted_once r s d g)
parted_once one other (plain p e d) (dots _ f g) = no_both f e
parted_once one other (dots p e d) (plain _ f g) = no_both e f
parted_once one other (dots {r = r} p e d) (dots {r = s} _ f g) = ap (λ (x : Parts). with_own p x) (parted_once r s d g)
parted_once one other (apart {r = r} e d) (apart {r = s} f g) = parted_once r s d g
parted_once one other (apart e d) (any w a f g) = no_forms e f (λ h. cc)
parted_once one other (apart e d) (strict w a f g) = no_forms e f (λ h. cc)
parted_once one other (apart e d) (differs w a f g h) = no_forms e f (λ h. cc)
parted_once one other (apart e d) (malformed w f g) = no_forms e f (λ h. cc)
parted_once one other (any w a e d) (apart f g) = no_forms e f (λ h. cc)
parted_once one other (any {host = host} {r = r} w a e d) (any {r = s} _ _ f g) = ap (λ (x : Parts). with_any host w a x) (parted_once r s d g)
parted_once one other (any w a e d) (strict _ _ f g) = no_forms e f (λ h. cc)
parted_once one other (any w a e d) (differs _ _ f g h) = no_forms e f (λ h. cc)
parted_once one other (any w a e d) (malformed _ f g) = no_forms e f (λ h. cc)
parted_once one other (strict w a e d) (apart f g) = no_forms e f (λ h. cc)
parted_once one other (strict w a e d) (any _ _ f g) = no_forms e f (λ h. cc)
parted_once one other (strict {host = host} {r = r} w a e d) (strict {r = s} _ _ f g) = ap (λ (x : Parts). with_strict host w a x) (parted_once r s d g)
parted_once one other (strict w a e d) (differs _ _ f g h) = no_forms e f (λ h. cc)
parted_once one other (strict w a e d) (malformed _ f g) = no_forms e f (λ h. cc)
parted_once one other (differs w a e b d) (apart f g) = no_forms e f (λ h. cc)
parted_once one other (differs w a e b d) (any _ _ f g) = no_forms e f (λ h. cc)
parted_once one other (differs w a e b d) (strict _ _ f g) = no_forms e f (λ h. cc)
parted_once one other (differs {nested = n} {host = host} {c = k} {r = r} w a e b d) (differs {c = l} {r = s} _ _ f g h) =
    ap (λ (x : Parts). with_code n host w a x r) (parted_once k l b g) ∙ ap (λ (x : Parts). with_code n host w a l x) (parted_once r s d h)
parted_once one other (differs w a e b d) (malformed _ f g) = no_forms e f (λ h. cc)
parted_once one other (malformed w e d) (apart f g) = no_forms e f (λ h. cc)
parted_once one other (malformed w e d) (any _ _ f g) = no_forms e f (λ h. cc)
parted_once one other (malformed w e d) (strict _ _ f g) = no_forms e f (λ h. cc)
parted_once one other (malformed w e d) (differs _ _ f g h) = no_forms e f (λ h. cc)
parted_once one other (malformed {r = r} w e d) (malformed {r = s} _ f g) = ap (λ (x : Parts). with_malformed w x) (parted_once r s d g)
