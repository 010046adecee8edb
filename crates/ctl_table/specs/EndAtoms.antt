-- The last or the first atoms of an element, made except for the quantifiers that depend on the scope.
use Rattle.std.specs.Prelude.{◌≡◌, ℕ, Bool, true, not, nat_lt, List, [], ◌∷◌, ◌++◌, map, length, Option, None, Some}
use Rattle.std.specs.List.{filter, list_all, list_any}
use Rattle.smpl_terms.specs.declared.var.Var.{Var}
use Rattle.pattern_vars.specs.Reads.{has}
use Rattle.ctl_formula.specs.Plain.{Plain}
use Rattle.ctl_formula.specs.declared.node.Node.{Node}
use Rattle.ctl_formula.specs.Tables.{at, plains, Grows}
use Rattle.ctl_table.specs.Table.{Scope, in_scope, exists_all, option_list, or_some}
use Rattle.ctl_table.specs.declared.end_atoms.EndAtoms.{EndAtoms}
use Rattle.ctl_table.specs.declared.end_atoms.EndAtoms.TheOpen.{EndAtoms-F}
use Rattle.ctl_table.specs.declared.end_atoms.EndAtoms.TheFolds.{fold-EndAtoms}

-- those that exist, given that these variables are quantified inside the element
abbrev pub all_at : List (Scope → Option Plain) → Scope → List Plain
all_at [] s = []
all_at (f ∷ fs) s = option_list (f s) ++ all_at fs s

abbrev pub end_atoms_step : List Plain → EndAtoms-F (Scope → Option Plain) → Scope → Option Plain
end_atoms_step fs (EndAtoms-F.Atom i vars) s = Some (exists_all (filter (λ x. not (in_scope s x)) vars) (at fs i))
end_atoms_step fs (EndAtoms-F.Any several) s = or_some (all_at several s)

-- the atoms with their quantifiers, given that these variables are quantified inside the element
abbrev pub end_atoms_at : List Plain → EndAtoms → Scope → Option Plain
end_atoms_at fs = fold-EndAtoms (Scope → Option Plain) (end_atoms_step fs)

abbrev pub each_end_atoms_at : List Plain → List EndAtoms → Scope → List Plain
each_end_atoms_at fs several = all_at (map (end_atoms_at fs) several)

abbrev pub or_none_at : List Plain → Option EndAtoms → Scope → Option Plain
or_none_at fs None s = None
or_none_at fs (Some b) s = end_atoms_at fs b s

abbrev pub names_step : EndAtoms-F (Var → Bool) → Var → Bool
names_step (EndAtoms-F.Atom i vars) x = has vars x
names_step (EndAtoms-F.Any several) x = list_any (λ f. f x) several

-- the variable is one of the atoms'
abbrev pub names_in : EndAtoms → Var → Bool
names_in = fold-EndAtoms (Var → Bool) names_step

abbrev pub below_step : ℕ → EndAtoms-F Bool → Bool
below_step n (EndAtoms-F.Atom i vars) = nat_lt i n
below_step n (EndAtoms-F.Any several) = list_all (λ b. b) several

-- the numbers of the parts are below n
abbrev pub end_atoms_below : ℕ → EndAtoms → Bool
end_atoms_below n = fold-EndAtoms Bool (below_step n)

abbrev pub each_end_atoms_below : ℕ → List EndAtoms → Bool
each_end_atoms_below n several = list_all (λ b. b) (map (end_atoms_below n) several)

abbrev pub or_none_below : ℕ → Option EndAtoms → Bool
or_none_below n None = true
or_none_below n (Some b) = end_atoms_below n b

abbrev pub end_atoms_list : Option EndAtoms → List EndAtoms
end_atoms_list None = []
end_atoms_list (Some b) = b ∷ []

-- the atoms are made: whatever is quantified inside the element, they are these, and the old parts are unchanged
pub record MakesEndAtoms (old new : List Node) (b : Option EndAtoms) (f : Scope → Option Plain) : Type 0 where
  pub within : or_none_below (length new) b ≡ true
  pub is : (s : Scope) → or_none_at (plains new) b s ≡ f s
  pub grows : Grows old new

-- the same for several
pub record MakesEachEndAtoms (old new : List Node) (bs : List EndAtoms) (fs : Scope → List Plain) : Type 0 where
  pub within : each_end_atoms_below (length new) bs ≡ true
  pub are : (s : Scope) → each_end_atoms_at (plains new) bs s ≡ fs s
  pub grows : Grows old new
