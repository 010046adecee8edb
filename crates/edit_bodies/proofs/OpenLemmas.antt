-- When an `else` behind a statement would belong to an `if` in it, child by child.
use Rattle.std.proofs.Common.{◌≡◌, ◌<◌, ◌-◌, ◌||◌, ◌&&◌, ℕ, zero, suc, Bool, true, false, refl, sym, ap, ◌∙◌, arith, List, [], ◌∷◌, map, length}
use Rattle.std.specs.Prelude.{None, Some, slice_get}
use Rattle.c_terms.specs.declared.label.Label.{Label}
use Rattle.c_terms.specs.declared.token.Token.{Token}
use Rattle.c_terms.specs.declared.tree.Tree.{Tree}
use Rattle.c_terms.specs.declared.tree.Tree.TheVariants.{Leaf, Branch, rolls-Leaf, rolls-Branch}
use Rattle.c_terms.specs.declared.tree.Tree.TheFolds.{fold-roll-Tree}
use Rattle.edit_bodies.specs.Needs.{goes_on, is_if, is_open, last_of, open_step}

pub open_leaf : (t : Token) → is_open (Leaf t) ≡ false
open_leaf t = ap is_open (sym (rolls-Leaf t)) ∙ fold-roll-Tree Bool open_step _

pub open_branch : (l : Label) (cs : List Tree) → is_open (Branch l cs) ≡ (is_if l || (goes_on l && last_of (map is_open cs)))
open_branch l cs = ap is_open (sym (rolls-Branch l cs)) ∙ fold-roll-Tree Bool open_step _

last_at : (cs : List Tree) (c : Tree) (k : ℕ) → suc k ≡ length cs → Some c ≡ slice_get cs k → last_of (map is_open cs) ≡ is_open c
last_at [] c k e h = absurd cc
last_at (x ∷ []) c zero e h = let same : c ≡ x = cc in ap is_open (sym same)
last_at (x ∷ []) c (suc k) e h = absurd cc
last_at (x ∷ y ∷ cs) c zero e h = absurd (omega (arith, e))
last_at (x ∷ y ∷ cs) c (suc k) e h = last_at (y ∷ cs) c k (omega (arith, e)) h

pub last_is : (cs : List Tree) (c : Tree) → Some c ≡ slice_get cs (length cs - 1) → last_of (map is_open cs) ≡ is_open c
last_is [] c h = absurd cc
last_is (x ∷ cs) c h = last_at (x ∷ cs) c (length (x ∷ cs) - 1) (omega arith) h

found : (cs : List Tree) (k : ℕ) → k < length cs → None ≡ slice_get cs k → ⊥
found [] k less h = omega (arith, less)
found (x ∷ cs) zero less h = cc
found (x ∷ cs) (suc k) less h = found cs k (omega (arith, less)) h

pub last_none : (cs : List Tree) → None ≡ slice_get cs (length cs - 1) → last_of (map is_open cs) ≡ false
last_none [] h = refl
last_none (x ∷ cs) h = absurd (found (x ∷ cs) (length (x ∷ cs) - 1) (omega arith) h)

-- a statement that is no `if` and ends in a body
pub open_last : (t : Tree) (l : Label) (cs : List Tree) (b : Bool) → t ≡ Branch l cs → is_if l ≡ false → goes_on l ≡ true → last_of (map is_open cs) ≡ b
    → b ≡ is_open t
open_last t l cs b is not_if goes h =
    sym (ap is_open is ∙ open_branch l cs ∙ (λ i. not_if i || (goes i && last_of (map is_open cs))) ∙ h)

pub open_if : (t : Tree) (l : Label) (cs : List Tree) → t ≡ Branch l cs → is_if l ≡ true → true ≡ is_open t
open_if t l cs is as_if = sym (ap is_open is ∙ open_branch l cs ∙ ap (λ (b : Bool). b || (goes_on l && last_of (map is_open cs))) as_if)

pub open_not : (t : Tree) (l : Label) (cs : List Tree) → t ≡ Branch l cs → is_if l ≡ false → goes_on l ≡ false → false ≡ is_open t
open_not t l cs is not_if stops = sym (ap is_open is ∙ open_branch l cs ∙ (λ i. not_if i || (stops i && last_of (map is_open cs))))
