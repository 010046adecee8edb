use Rattle.std.proofs.Common.{◌≡◌, drop, map}
use Rattle.c_terms.specs.Trees.{join}
use Rattle.iso_expand.specs.IsoForms.Replacing.{becomes}
use Rattle.iso_expand.specs.IsoForms.Forms.{with_forms, with_iso}
use Rattle.iso_expand.specs.IsoForms.Stepped.{Has, Extends}
use Rattle.iso_expand.proofs.iso_forms.replacing.add_iso.Given as goal

abbrev pub invariant-loop-k : goal.invariant-loop-k
invariant-loop-k l = record {
  has : Has l.limit l.forms l.forms.list;
  extends : Extends l.initial.forms.list l.forms.list;
  rest : with_forms l.forms.list (join (map (becomes l.tokens l.iso) (drop l.k l.initial.forms.list))) ≡ with_iso l.tokens l.initial.forms.list l.iso;
}
