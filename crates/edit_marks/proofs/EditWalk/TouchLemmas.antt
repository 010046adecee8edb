-- The touches of trees of witnesses.
use Rattle.std.proofs.Common.{◌≡◌, ◌≤◌, ℕ, sym, ap, subst, ◌∙◌, List, [], ◌∷◌, ◌++◌, length, take}
use Rattle.std.proofs.lemmas.List.Folds.{flat_map-map}
use Rattle.std.specs.List.{flat_map}
use Rattle.smpl_terms.specs.declared.var.Var.{Var}
use Rattle.smpl_terms.specs.declared.value.Value.{Value}
use Rattle.smpl_patch.specs.declared.witness.Witness.{Witness}
use Rattle.smpl_patch.specs.declared.witness.Witness.TheVariants.{Bind, Touch, rolls-Bind, rolls-Touch}
use Rattle.smpl_patch.specs.declared.witness.Witness.TheFolds.{fold-Witness, fold-roll-Witness}
use Rattle.edit_marks.specs.EditWalk.Touches.{Values, Touched, bound, touch_step, touches_in}
use Rattle.edit_marks.specs.EditWalk.Growing.{Adds}
use Rattle.edit_marks.proofs.EditWalk.GrowingLemmas.{adds_one, adds_end}

abbrev pub touched : ℕ → ℕ → ℕ → List ℕ → Values → Touched
touched item node atom path env = record { item = item; node = node; atom = atom; path = path; env = env }

pub touches-Touch : (item node atom : ℕ) (path : List ℕ) (env : Values) → touches_in item env (Touch node atom path) ≡ touched item node atom path env ∷ []
touches-Touch item node atom path env =
    ap (touches_in item env) (sym (rolls-Touch node atom path)) ∙ ap (λ f. f env) (fold-roll-Witness (Values → List Touched) (touch_step item) _)

pub touches-Bind : (item node : ℕ) (x : Var) (v : Value) (under : List Witness) (env : Values)
    → touches_in item env (Bind node x v under) ≡ flat_map (touches_in item (bound env x v)) under
touches-Bind item node x v under env =
    ap (touches_in item env) (sym (rolls-Bind node x v under)) ∙ ap (λ f. f env) (fold-roll-Witness (Values → List Touched) (touch_step item) _)
    ∙ flat_map-map (λ (f : Values → List Touched). f (bound env x v)) (fold-Witness (Values → List Touched) (touch_step item)) under

-- one touch
pub touch_adds : {E : Type 0} (R : Touched → E → Type 0) (old new : List E) (edit : E) (item node atom : ℕ) (path : List ℕ) (env : Values) (t : Witness)
    → t ≡ Touch node atom path → R (touched item node atom path env) edit → new ≡ old ++ edit ∷ [] → Adds R old new (touches_in item env t)
touch_adds R old new edit item node atom path env t is edits h =
    subst (Adds R old new) (sym (ap (touches_in item env) is ∙ touches-Touch item node atom path env))
    (adds_one R old new (touched item node atom path env) edit edits h)

-- all trees under a value
pub bind_adds : {E : Type 0} (R : Touched → E → Type 0) (old new : List E) (item node : ℕ) (x : Var) (v : Value)
    (under trees : List Witness) (env more : Values) (t : Witness) (n : ℕ)
    → t ≡ Bind node x v under → trees ≡ under → more ≡ bound env x v → length trees ≤ n
    → Adds R old new (flat_map (touches_in item more) (take n trees)) → Adds R old new (touches_in item env t)
bind_adds R old new item node x v under trees env more t n is same deeper done h =
    let all : flat_map (touches_in item more) trees ≡ touches_in item env t =
    (λ i. flat_map (touches_in item (deeper i)) (same i)) ∙ sym (ap (touches_in item env) is ∙ touches-Bind item node x v under env) in
    subst (Adds R old new) all (adds_end R (touches_in item more) trees n old new done h)
