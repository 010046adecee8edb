-- A pair whose variable is after all others is put at the end.
use Rattle.std.proofs.Common.{◌≡◌, ℕ, suc, zero, ◌+◌, ◌<◌, Bool, true, false, ◌&&◌, cond, Some, None, refl, sym, ap, ◌∙◌, subst}
use Rattle.std.proofs.Common.{arith, List, [], ◌∷◌, ◌++◌, length, take, get_or}
use Rattle.std.specs.List.{filter, insert, list_all}
use Rattle.std.specs.declared.cmp.Ordering.TheVariants.{Less}
use Rattle.std.specs.Ordering.{is_lt}
use Rattle.std.proofs.lemmas.List.Elements.{filter_more}
use Rattle.smpl_terms.specs.declared.var.Var.{Var}
use Rattle.smpl_terms.specs.declared.value.Value.{Value}
use Rattle.smpl_terms.specs.Vars.{var_order, Rising, place_of, with_pair}
use Rattle.smpl_terms.specs.Environments.{value_in}
use Rattle.smpl_terms.proofs.VarLaws.{less-apart, same_var-sym}
use Rattle.smpl_terms.proofs.PairLemmas.{Above-at}
use Rattle.env_parts.specs.Parts.{Pairs, is_among, restricted}

-- each variable is before x
abbrev Below : Var → Pairs → Type 0
Below x [] = Unit {0}
Below x (p ∷ ps) = (var_order p.0 x ≡ Less) × Below x ps

place_of-below : (x : Var) (ps : Pairs) → Below x ps → place_of x ps ≡ length ps
place_of-below x [] b = refl
place_of-below x (p ∷ ps) b =
    ap (λ o. cond (is_lt o) (suc (place_of x ps)) 0) b.0 ∙ ap suc (place_of-below x ps b.1)

insert_last : (ps : Pairs) (p : Var × Value) → insert ps (length ps) p ≡ ps ++ p ∷ []
insert_last [] p = refl
insert_last (q ∷ qs) p = ap (λ (r : Pairs). q ∷ r) (insert_last qs p)

value_in-below : (x : Var) (ps : Pairs) → Below x ps → value_in ps x ≡ None
value_in-below x [] b = refl
value_in-below x (p ∷ ps) b =
    ap (λ t. cond t (Some p.1) (value_in ps x)) (same_var-sym p.0 x ∙ less-apart p.0 x b.0) ∙ value_in-below x ps b.1

Below-filter : (x : Var) (test : Var × Value → Bool) (ps : Pairs) → Below x ps → Below x (filter test ps)
Below-filter x test [] b = tt
Below-filter x test (p ∷ ps) b =
    elim (test p) as (λ t. Below x (cond t (p ∷ filter test ps) (filter test ps))) [
      | true ↦ (b.0, Below-filter x test ps b.1)
      | false ↦ Below-filter x test ps b.1
    ]

-- the pairs before a place are below the one there
Below-take : (ps : Pairs) (n : ℕ) (p : Var × Value) → Rising ps → n < length ps → Below (get_or ps n p).0 (take n ps)
Below-take [] n p r lt = absurd (omega arith)
Below-take (q ∷ qs) zero p r lt = tt
Below-take (q ∷ qs) (suc n) p r lt = (Above-at q.0 qs n p r.0 (omega arith), Below-take qs n p r.1 (omega arith))

append-none : (qs : Pairs) → qs ++ [] ≡ qs
append-none [] = refl
append-none (q ∷ qs) = ap (λ (r : Pairs). q ∷ r) (append-none qs)

both_parts : (a b : Bool) → (a && b) ≡ true → (a ≡ true) × (b ≡ true)
both_parts true b h = (refl, h)
both_parts false b h = absurd cc

module _ (vars : List Var) (ps : Pairs) (n : ℕ) (p : Var × Value) (rises : Rising ps) (within : n < length ps) (there : p ≡ get_or ps n p) where
  below : Below p.0 (restricted vars (take n ps))
  below = Below-filter p.0 (λ q. is_among vars q.0) (take n ps)
      (subst (λ (q : Var × Value). Below q.0 (take n ps)) (sym there) (Below-take ps n p rises within))

  pub absent_before : value_in (restricted vars (take n ps)) p.0 ≡ None
  absent_before = value_in-below p.0 (restricted vars (take n ps)) below

  one_more : restricted vars (take (n + 1) ps) ≡ restricted vars (take n ps) ++ cond (is_among vars p.0) (p ∷ []) []
  one_more = filter_more (λ q. is_among vars q.0) ps n p within
      ∙ ap (λ (q : Var × Value). restricted vars (take n ps) ++ cond (is_among vars q.0) (q ∷ []) []) (sym there)

  pub restricted_kept : is_among vars p.0 ≡ true
      → with_pair (restricted vars (take n ps)) p.0 p.1 ≡ restricted vars (take (n + 1) ps)
  restricted_kept h =
      ap (λ k. insert (restricted vars (take n ps)) k p) (place_of-below p.0 (restricted vars (take n ps)) below)
      ∙ insert_last (restricted vars (take n ps)) p
      ∙ sym (one_more ∙ ap (λ b. restricted vars (take n ps) ++ cond b (p ∷ []) []) h)

  pub restricted_left : is_among vars p.0 ≡ false
      → restricted vars (take n ps) ≡ restricted vars (take (n + 1) ps)
  restricted_left h =
      sym (one_more ∙ ap (λ b. restricted vars (take n ps) ++ cond b (p ∷ []) []) h ∙ append-none (restricted vars (take n ps)))

-- if each pair's variable is among the given ones, nothing is left out
pub restricted_all : (vars : List Var) (ps : Pairs) → list_all (λ p. is_among vars p.0) ps ≡ true → restricted vars ps ≡ ps
restricted_all vars [] h = refl
restricted_all vars (p ∷ ps) h =
    let parts = both_parts (is_among vars p.0) (list_all (λ q. is_among vars q.0) ps) h in
    ap (λ b. cond b (p ∷ restricted vars ps) (restricted vars ps)) parts.0
    ∙ ap (λ (r : Pairs). p ∷ r) (restricted_all vars ps parts.1)
