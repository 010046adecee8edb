-- The rules of a kind.
use Rattle.std.proofs.Common.{◌≡◌, refl, subst}
use Rattle.std.specs.Prelude.{Bool, true, false, IsTrue, Option, Some, None, if◌then◌else◌}
use Rattle.c_rows.specs.declared.kind.Kind.{Kind}
use Rattle.c_rows.specs.declared.rule.Rule.{Rule}
use Rattle.c_rows.specs.Kinds.{within}
use Rattle.c_rows.specs.Branches.{kind_of}
use Rattle.c_expr.specs.Steps.{rule_of_kind}

pub kind_inv : (m : Kind) (o : Option Rule) (r : Rule) → rule_of_kind m o ≡ Some r → (o ≡ Some r) × IsTrue (within (kind_of r) m)
kind_inv m None r e = let never : ⊥ = cc in absurd never
kind_inv m (Some p) r e = split (within (kind_of p) m) refl e
  where
    split : (b : Bool) → within (kind_of p) m ≡ b → (if b then Some p else None) ≡ Some r → (Some p ≡ Some r) × IsTrue (within (kind_of r) m)
    split true v e = let same : p ≡ r = cc in (e, subst (λ (s : Rule). IsTrue (within (kind_of s) m)) same v)
    split false v e = let never : ⊥ = cc in absurd never

pub kind_held : (m : Kind) (r : Rule) → IsTrue (within (kind_of r) m) → rule_of_kind m (Some r) ≡ Some r
kind_held m r w = pick (within (kind_of r) m) w
  where
    pick : (b : Bool) → IsTrue b → (if b then Some r else None) ≡ Some r
    pick true h = refl
    pick false h = let never : ⊥ = cc in absurd never
