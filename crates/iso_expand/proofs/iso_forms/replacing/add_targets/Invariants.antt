use Rattle.std.proofs.Common.{◌≡◌, drop}
use Rattle.iso_expand.specs.IsoForms.Replacing.{targets_from}
use Rattle.iso_expand.specs.IsoForms.Forms.{with_forms}
use Rattle.iso_expand.specs.IsoForms.Stepped.{Has}
use Rattle.iso_expand.proofs.iso_forms.replacing.add_targets.Given as goal

abbrev pub invariant-loop-j : goal.invariant-loop-j
invariant-loop-j l = record {
  has : Has l.limit l.forms l.forms.list;
  rest : with_forms l.forms.list (targets_from l.iso.both l.bound l.id l.i l.j (drop l.j l.iso.sides))
      ≡ with_forms l.initial.forms.list (targets_from l.iso.both l.bound l.id l.i 0 l.iso.sides);
}
