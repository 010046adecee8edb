use Rattle.std.proofs.Common.{◌≡◌, ◌<◌, ◌≤◌, [], ◌∷◌, length, map, drop}
use Rattle.iso_expand.specs.IsoForms.Forms.{forms}
use Rattle.iso_expand.specs.IsoForms.Stepped.{grown_by}
use Rattle.iso_expand.proofs.iso_forms.forms.+forms_of.Given as goal

abbrev pub invariant-loop-child : goal.invariant-loop-child
invariant-loop-child l = record {
  rest : grown_by l.choices.items (map (forms l.tokens l.isos) (drop l.child-index l.child-items))
      ≡ grown_by ([] ∷ []) (map (forms l.tokens l.isos) l.child-items);
  few : length l.choices.items ≤ l.limit;
  some : 0 < length l.choices.items;
}
