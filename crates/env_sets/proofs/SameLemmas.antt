-- Lists that are alike, member by member.
use Rattle.std.proofs.Common.{◌≡◌, ℕ, ◌+◌, ◌<◌, Bool, true, ◌||◌, sym, ap, ◌∙◌, List, length, get_or, take}
use Rattle.std.specs.List.{list_any}
use Rattle.smpl_terms.specs.declared.value.Value.{Value}
use Rattle.smpl_terms.specs.Values.{same}
use Rattle.smpl_terms.proofs.ValueLaws.{same-sym, same-along}
use Rattle.smpl_terms.specs.declared.var.Var.{Var}
use Rattle.smpl_terms.specs.Vars.{same_var}
use Rattle.smpl_terms.specs.Environments.{Environment}
use Rattle.smpl_terms.proofs.VarLaws.{same_var-equal}
use Rattle.env_sets.specs.declared.bounds.Bound.{Bound}
use Rattle.env_sets.specs.declared.bounds.Bound.TheVariants.{Is}
use Rattle.env_sets.specs.Bounds.{fits}
use Rattle.env_sets.proofs.LoopLemmas.{any_step}

-- one more member of both
pub both_any : {X : Type 0} (q : X → Bool) (xs ys : List X) (i : ℕ) (x y : X) → i < length xs → i < length ys → x ≡ get_or xs i x → y ≡ get_or ys i y
    → list_any q (take i xs) ≡ list_any q (take i ys) → q x ≡ q y → list_any q (take (i + 1) xs) ≡ list_any q (take (i + 1) ys)
both_any q xs ys i x y lx ly ex ey before here = any_step q xs i x lx ex ∙ (λ j. before j || here j) ∙ sym (any_step q ys i y ly ey)

-- values that are the same are the same as equal values
pub same_alike : (v w x : Value) → same v w ≡ true → same v x ≡ same w x
same_alike v w x h = same-sym v x ∙ same-along v w h x ∙ same-sym x w

-- bounds by values that are the same allow the same
pub is_alike : (v w : Value) (a b : Bound) (r : Bool) → a ≡ Is v → b ≡ Is w → r ≡ same v w → r ≡ true → (x : Value) → fits x a ≡ fits x b
is_alike v w a b r e f g h x = ap (fits x) e ∙ same_alike v w x (sym g ∙ h) ∙ sym (ap (fits x) f)

-- so do bounds of one variable in an environment
pub pair_alike : (p q : Var × Bound) → same_var p.0 q.0 ≡ true → ((x : Value) → fits x p.1 ≡ fits x q.1) → (env : Environment)
    → fits (env p.0) p.1 ≡ fits (env q.0) q.1
pair_alike p q e h env = ap (λ x. fits (env x) p.1) (same_var-equal p.0 q.0 e) ∙ h (env q.0)
