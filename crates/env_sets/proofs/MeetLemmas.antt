-- A meet by the values of one variable.
use Rattle.std.proofs.Common.{◌≡◌, ◌<◌, ◌≤◌, Bool, true, false, ◌&&◌, ◌||◌, refl, sym, ap, ◌∙◌, arith, List, [], ◌∷◌, length, get_or}
use Rattle.std.proofs.lemmas.Grind.{common_steps}
use Rattle.smpl_terms.specs.declared.var.Var.{Var}
use Rattle.smpl_terms.specs.declared.value.Value.{Value}
use Rattle.smpl_terms.specs.Values.{same}
use Rattle.smpl_terms.specs.Vars.{same_var}
use Rattle.smpl_terms.specs.Environments.{Environment}
use Rattle.smpl_terms.proofs.VarLaws.{same_var-equal}
use Rattle.env_sets.specs.declared.bounds.Bound.{Bound}
use Rattle.env_sets.specs.declared.bounds.Bound.TheVariants.{Is}
use Rattle.env_sets.specs.Bounds.{fits}
use Rattle.env_sets.specs.Sets.{entry_denotes}

and-true : (a : Bool) → (a && true) ≡ a
and-true true = refl
and-true false = refl

-- an entry that fixes one variable alone
pub one_pair : (e pairs : List (Var × Bound)) (p : Var × Bound) (v : Value) (x : Var) (env : Environment) → pairs ≡ e → 1 ≤ length pairs → length pairs < 2
    → p ≡ get_or pairs 0 p → p.1 ≡ Is v → same_var p.0 x ≡ true → entry_denotes e env ≡ same v (env x)
one_pair e [] p v x env f some one at is here = absurd (omega arith)
one_pair e (q ∷ []) p v x env f some one at is here =
    ap (λ ps. entry_denotes ps env) (sym f) ∙ and-true (fits (env q.0) q.1) ∙ ap (λ (r : Var × Bound). fits (env r.0) r.1) (sym at)
    ∙ ap (λ b. fits (env p.0) b) is ∙ ap (λ y. same v (env y)) (same_var-equal p.0 x here)
one_pair e (q ∷ r ∷ ps) p v x env f some one at is here = absurd (omega arith)

-- an entry whose value the set has
pub known : (s F B O : Bool) → (s ≡ true → F ≡ true) → B ≡ (F || O) → s ≡ (s && B)
known true F B O h k = let f = h refl in grind (arith, common_steps)
known false F B O h k = refl

-- and one whose value it does not have
pub unknown : (s F B O : Bool) → (s ≡ true → F ≡ false) → B ≡ (F || O) → (s && O) ≡ (s && B)
unknown true F B O h k = let f = h refl in grind (arith, common_steps)
unknown false F B O h k = refl

-- one of two, and a third
pub either_meets : (t e b : Bool) → ((t && b) || (e && b)) ≡ ((t || e) && b)
either_meets true e true = refl
either_meets true true false = refl
either_meets true false false = refl
either_meets false e b = refl
