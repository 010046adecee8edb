-- Induction over trees of witnesses.
use Rattle.std.proofs.Common.{ℕ, sym, subst, List, [], ◌∷◌, map}
use Rattle.smpl_terms.specs.declared.var.Var.{Var}
use Rattle.smpl_terms.specs.declared.value.Value.{Value}
use Rattle.smpl_patch.specs.declared.witness.Witness.{Witness}
use Rattle.smpl_patch.specs.declared.witness.Witness.TheOpen.{Witness-F}
use Rattle.smpl_patch.specs.declared.witness.Witness.TheViews.{roll-Witness}
use Rattle.smpl_patch.specs.declared.witness.Witness.TheVariants.{Touch, Bind, rolls-Touch, rolls-Bind}
use Rattle.smpl_patch.specs.declared.witness.Witness.TheFolds.{ind-Witness, claims, map-Witness}
use Rattle.smpl_patch.specs.declared.witness.Witness.TheBlock.{the_family, member-Witness}
use denote.Hole.Holds.{Such}

abbrev pub Each : (Witness → Type 0) → List Witness → Type 0
Each P [] = Unit {0}
Each P (w ∷ ws) = P w × Each P ws

abbrev Known : (Witness → Type 0) → Type 0
Known P = Such the_family (claims P) member-Witness

known : (P : Witness → Type 0) (es : List (Known P)) → Each P (map (λ e. e.0) es)
known P [] = tt
known P (e ∷ es) = (e.1, known P es)

layer : (P : Witness → Type 0) → ((n a : ℕ) (p : List ℕ) → P (Touch n a p))
    → ((n : ℕ) (x : Var) (v : Value) (ws : List Witness) → Each P ws → P (Bind n x v ws))
    → (y : Witness-F (Known P)) → P (roll-Witness (map-Witness (Known P) Witness (λ e. e.0) y))
layer P touch bind (Witness-F.Touch n a p) = subst P (sym (rolls-Touch n a p)) (touch n a p)
layer P touch bind (Witness-F.Bind n x v es) =
    subst P (sym (rolls-Bind n x v (map (λ e. e.0) es))) (bind n x v (map (λ e. e.0) es) (known P es))

pub witness_induction : (P : Witness → Type 0) → ((n a : ℕ) (p : List ℕ) → P (Touch n a p))
    → ((n : ℕ) (x : Var) (v : Value) (ws : List Witness) → Each P ws → P (Bind n x v ws)) → (w : Witness) → P w
witness_induction P touch bind = ind-Witness P (λ x y e. subst (λ z. P (roll-Witness z)) e (layer P touch bind y))
