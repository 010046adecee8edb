use Rattle.std.proofs.Common.{◌≡◌, length, drop, map}
use Rattle.iso_expand.specs.IsoForms.Matching.{each, matched}
use Rattle.iso_expand.proofs.iso_forms.matching.+matching.Given as goal

abbrev pub invariant-all_match-loop-i : goal.invariant-all_match-loop-i
invariant-all_match-loop-i l = record {
  even : length l.sides ≡ length l.trees;
  rest : each (map (matched l.vars) (drop l.i l.sides)) (drop l.i l.trees) l.bound ≡ each (map (matched l.vars) l.sides) l.trees l.initial.bound;
}
