-- Sets of variables, and maps from variables, that a loop goes over.
use Rattle.std.proofs.Common.{◌≡◌, ℕ, ◌+◌, ◌<◌, Bool, true, false, ◌&&◌, ◌||◌, cond, refl, sym, ap, ◌∙◌}
use Rattle.std.proofs.Common.{List, [], ◌∷◌, ◌++◌, length, take, Option, Some, slice_get}
use Rattle.std.specs.List.{list_any}
use Rattle.std.proofs.lemmas.List.{take_more}
use Rattle.std.proofs.Math.Seq.{take-length}
use Rattle.std.proofs.lemmas.List.Folds.{list_any-append}
use Rattle.smpl_terms.specs.declared.var.Var.{Var}
use Rattle.smpl_terms.specs.Vars.{same_var}
use Rattle.smpl_terms.proofs.VarLaws.{same_var-equal}
use Rattle.pattern_vars.specs.Reads.{has}
use Rattle.pattern_vars.proofs.SetLemmas.{or_false}
use Rattle.pattern_vars.proofs.SureLemmas.{and_over_or, element_at}
use Rattle.pattern_vars.specs.declared.var_places.homes.Home.{Home}
use Rattle.pattern_vars.proofs.VarPlaces.HomeLemmas.{and-false, and-true}

same-test : (g : Var → Bool) (v y : Var) → (g v && same_var v y) ≡ (same_var v y && g y)
same-test g v y = by (same_var v y) refl
  where
    by : (b : Bool) → same_var v y ≡ b → (g v && b) ≡ (b && g y)
    by true h = and-true (g v) true refl ∙ ap g (same_var-equal v y h)
    by false h = and-false (g v) false refl

-- those of some variables that pass a test
pub common : (g : Var → Bool) (vs : List Var) (y : Var) → list_any (λ v. g v && same_var v y) vs ≡ (has vs y && g y)
common g [] y = refl
common g (v ∷ vs) y =
    ap (λ (z : Bool). z || list_any (λ u. g u && same_var u y) vs) (same-test g v y)
    ∙ ap (λ (z : Bool). (same_var v y && g y) || z) (common g vs y)
    ∙ sym (and_over_or (same_var v y) (has vs y) (g y))

or-cond : (a b : Bool) (h o : Option Home) → cond b h (cond a h o) ≡ cond (a || b) h o
or-cond true true h o = refl
or-cond true false h o = refl
or-cond false b h o = refl

-- one more variable; the map says where it is quantified
pub each-step : (h : Var → Home) (vs : List Var) (i : ℕ) (v y : Var) (old now first : Option Home) → i < length vs → slice_get vs i ≡ Some v
    → old ≡ cond (has (take i vs) y) (Some (h y)) first → now ≡ cond (same_var v y) (Some (h v)) old
    → now ≡ cond (has (take (i + 1) vs) y) (Some (h y)) first
each-step h vs i v y old now first l q o n =
    n ∙ by (same_var v y) refl ∙ ap (λ (z : Option Home). cond (same_var v y) (Some (h y)) z) o
    ∙ or-cond (has (take i vs) y) (same_var v y) (Some (h y)) first
    ∙ ap (λ (z : Bool). cond z (Some (h y)) first) (sym more)
  where
    by : (b : Bool) → same_var v y ≡ b → cond b (Some (h v)) old ≡ cond b (Some (h y)) old
    by true e = ap (λ (z : Var). Some (h z)) (same_var-equal v y e)
    by false e = refl

    more : has (take (i + 1) vs) y ≡ (has (take i vs) y || same_var v y)
    more =
        ap (λ (z : List Var). has z y) (take_more vs i v l ∙ ap (λ (z : Var). take i vs ++ z ∷ []) (sym (element_at vs i v l q)))
        ∙ list_any-append (λ u. same_var u y) (take i vs) (v ∷ []) ∙ ap (λ (z : Bool). has (take i vs) y || z) (or_false (same_var v y))

pub each-end : (vs : List Var) (i : ℕ) (y : Var) (h first now : Option Home) → i ≡ length vs
    → now ≡ cond (has (take i vs) y) h first → now ≡ cond (has vs y) h first
each-end vs i y h first now l n =
    n ∙ ap (λ (z : List Var). cond (has z y) h first) (ap (λ (k : ℕ). take k vs) l ∙ take-length vs)
