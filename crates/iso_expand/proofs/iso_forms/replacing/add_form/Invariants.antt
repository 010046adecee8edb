use Rattle.std.proofs.Common.{◌≡◌, drop, Some}
use Rattle.std.specs.Prelude.{slice_get}
use Rattle.c_terms.specs.declared.tree.Tree.{Tree}
use Rattle.iso_expand.specs.IsoForms.Replacing.{by_sides}
use Rattle.iso_expand.specs.IsoForms.Forms.{with_forms}
use Rattle.iso_expand.specs.IsoForms.Stepped.{Has, Extends}
use Rattle.iso_expand.proofs.iso_forms.replacing.add_form.Given as goal

abbrev pub invariant-loop-i : goal.invariant-loop-i
invariant-loop-i l = record {
  has : Has l.limit l.forms l.forms.list;
  extends : Extends l.initial.forms.list l.forms.list;
  rest : (t : Tree) → slice_get l.initial.forms.list l.k ≡ Some t
      → with_forms l.forms.list (by_sides l.tokens l.iso t l.i (drop l.i l.iso.sides))
      ≡ with_forms l.initial.forms.list (by_sides l.tokens l.iso t 0 l.iso.sides);
}
