use Rattle.std.proofs.Common.{◌≡◌, drop}
use Rattle.iso_expand.specs.IsoForms.Forms.{with_isos}
use Rattle.iso_expand.specs.IsoForms.Stepped.{Has}
use Rattle.iso_expand.proofs.iso_forms.replacing.with_isos.Given as goal

abbrev pub invariant-loop-iso : goal.invariant-loop-iso
invariant-loop-iso l = record {
  has : Has l.limit l.forms l.forms.list;
  rest : with_isos l.tokens l.forms.list (drop l.iso-index l.isos) ≡ with_isos l.tokens l.initial.forms.list l.isos;
}
