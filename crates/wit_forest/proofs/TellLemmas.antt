-- The sets say what holds, at each part of the formula; parts of parts are parts.
use Rattle.std.proofs.Common.{◌≡◌, ℕ, ◌+◌, ◌<◌, inl, inr, ⊎_elim, subst, arith, List, length}
use Rattle.cfg_build.specs.CfgGraph.Flow.{Flow, IsSound, count_of}
use Rattle.smpl_terms.specs.Environments.{Environment}
use Rattle.env_sets.specs.Sets.{Entries, set_denotes}
use Rattle.env_sets.specs.States.{set_at}
use Rattle.ctl_formula.specs.Plain.{Plain, True, Atom, EarlyExit, BraceOpen, BraceClose, Inside, Outside, Not, And, Or, AX, EX, AU, EU, After, InBranch, Exists}
use Rattle.ctl_formula.specs.Tables.{at, plains}
use Rattle.ctl_formula.specs.Formulas.{FormulaOf, plain}
use Rattle.ctl_fixpoint.specs.CtlHolds.Rounds.{holds}
use Rattle.ctl_fixpoint.specs.CtlHolds.Parts.{IsPart}
use Rattle.ctl_fixpoint.proofs.CtlHolds.HoldLemmas.{holds_decides}
use Rattle.ctl_fixpoint.proofs.CtlHolds.TestLemmas.{same_bool}
use Rattle.ctl_fixpoint.specs.States.{AreStateSets}

pub told_is_holds : (g : Flow) (f : FormulaOf) (rows : List (List Entries)) → IsSound g → AreStateSets g f rows
    → (i s : ℕ) → i < length f.nodes → IsPart (at (plains f.nodes) i) (plain f) → s < count_of g → (env : Environment)
    → set_denotes (set_at rows i s) env ≡ holds f.decls f.tokens g (count_of g + 1) (at (plains f.nodes) i) s env
told_is_holds g f rows ok sets i s lt part ls env =
    let told = (sets.stand i s lt part ls).means (count_of g + 1) (omega arith) env in
    let truth = holds_decides f.decls f.tokens g ok (count_of g + 1) (omega arith) (at (plains f.nodes) i) s ls env in
    same_bool (λ h. truth.1 (told.0 h)) (λ h. told.1 (truth.0 h))

pub part_trans : (a b c : Plain) → IsPart a b → IsPart b c → IsPart a c
part_trans a b True p q = subst (IsPart a) q p
part_trans a b (Atom t) p q = subst (IsPart a) q p
part_trans a b EarlyExit p q = subst (IsPart a) q p
part_trans a b (BraceOpen t x) p q = subst (IsPart a) q p
part_trans a b (BraceClose t x) p q = subst (IsPart a) q p
part_trans a b (Inside y) p q = subst (IsPart a) q p
part_trans a b (Outside y) p q = subst (IsPart a) q p
part_trans a b (Not f) p q = ⊎_elim (λ e. subst (IsPart a) e p) (λ r. inr (part_trans a b f p r)) q
part_trans a b (And f h) p q = ⊎_elim (λ e. subst (IsPart a) e p) (λ r. inr (⊎_elim (λ s. inl (part_trans a b f p s)) (λ s. inr (part_trans a b h p s)) r)) q
part_trans a b (Or f h) p q = ⊎_elim (λ e. subst (IsPart a) e p) (λ r. inr (⊎_elim (λ s. inl (part_trans a b f p s)) (λ s. inr (part_trans a b h p s)) r)) q
part_trans a b (AX f) p q = ⊎_elim (λ e. subst (IsPart a) e p) (λ r. inr (part_trans a b f p r)) q
part_trans a b (EX f) p q = ⊎_elim (λ e. subst (IsPart a) e p) (λ r. inr (part_trans a b f p r)) q
part_trans a b (AU f h) p q = ⊎_elim (λ e. subst (IsPart a) e p) (λ r. inr (⊎_elim (λ s. inl (part_trans a b f p s)) (λ s. inr (part_trans a b h p s)) r)) q
part_trans a b (EU f h) p q = ⊎_elim (λ e. subst (IsPart a) e p) (λ r. inr (⊎_elim (λ s. inl (part_trans a b f p s)) (λ s. inr (part_trans a b h p s)) r)) q
part_trans a b (After f) p q = ⊎_elim (λ e. subst (IsPart a) e p) (λ r. inr (part_trans a b f p r)) q
part_trans a b (InBranch i f) p q = ⊎_elim (λ e. subst (IsPart a) e p) (λ r. inr (part_trans a b f p r)) q
part_trans a b (Exists x f) p q = ⊎_elim (λ e. subst (IsPart a) e p) (λ r. inr (part_trans a b f p r)) q
