use Rattle.std.proofs.Common.{◌≡◌, ◌++◌, drop, map}
use Rattle.iso_expand.specs.IsoForms.Spelled.{spell_all, spelled}
use Rattle.iso_expand.proofs.iso_forms.spelled.+put_tree.Given as goal

abbrev pub invariant-loop-child : goal.invariant-loop-child
invariant-loop-child l = l.out.items ++ spell_all (map spelled (drop l.child-index l.child-items)) ≡ l.initial.out.items
    ++ spell_all (map spelled l.child-items)
