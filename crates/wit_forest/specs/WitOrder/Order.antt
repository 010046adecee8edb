-- The order of trees of witnesses: by node; a touch before a bind; touches by atom, then by place, a proper prefix first;
-- binds by variable, then by value, then by the trees under them, one by one, a proper prefix first.
use Rattle.std.specs.Prelude.{ℕ, suc, cond, List, [], ◌∷◌}
use Rattle.std.specs.declared.cmp.Ordering.{Ordering}
use Rattle.std.specs.declared.cmp.Ordering.TheVariants.{Less, Greater}
use Rattle.std.specs.Ordering.{nat_cmp, ordering_then}
use Rattle.std.specs.Cmp.Lexicographic.{slice_cmp}
use Rattle.smpl_terms.specs.declared.var.Var.{Var}
use Rattle.smpl_terms.specs.Vars.{same_var, var_order}
use Rattle.smpl_terms.specs.Values.{value_order}
use Rattle.smpl_patch.specs.declared.pattern.VarDecl.{VarDecl}
use Rattle.smpl_patch.specs.declared.witness.Witness.{Witness, out-Witness}
use Rattle.smpl_patch.specs.declared.witness.Witness.TheOpen.{Witness-F}
use Rattle.smpl_patch.specs.declared.witness.Witness.TheFolds.{fold-Witness}

-- how many declarations come before that of x; all, if it has none
abbrev pub rank : List VarDecl → Var → ℕ
rank [] x = 0
rank (d ∷ ds) x = cond (same_var d.var x) 0 (suc (rank ds x))

module _ (decls : List VarDecl) where
  -- in the order of declarations; undeclared variables come last, in the order of variables
  abbrev pub declared_order : Var → Var → Ordering
  declared_order x y = ordering_then (nat_cmp (rank decls x) (rank decls y)) (var_order x y)

  abbrev pub order_at : Witness-F (Witness → Ordering) → Witness-F Witness → Ordering
  order_at (Witness-F.Touch n a p) (Witness-F.Touch m b q) =
      ordering_then (nat_cmp n m) (ordering_then (nat_cmp a b) (slice_cmp nat_cmp p q))
  order_at (Witness-F.Touch n a p) (Witness-F.Bind m y u us) = ordering_then (nat_cmp n m) Less
  order_at (Witness-F.Bind n x v fs) (Witness-F.Touch m b q) = ordering_then (nat_cmp n m) Greater
  order_at (Witness-F.Bind n x v fs) (Witness-F.Bind m y u us) =
      ordering_then (nat_cmp n m)
      (ordering_then (declared_order x y) (ordering_then (value_order v u) (slice_cmp (λ f w. f w) fs us)))

  abbrev pub order_step : Witness-F (Witness → Ordering) → Witness → Ordering
  order_step layer w = order_at layer (out-Witness w)

  abbrev pub witness_order : Witness → Witness → Ordering
  witness_order = fold-Witness (Witness → Ordering) order_step
