use Rattle.std.proofs.Common.{◌≡◌, ◌++◌, drop}
use Rattle.iso_expand.specs.IsoForms.Spelled.{spell_text}
use Rattle.iso_expand.proofs.iso_forms.spelled.put_text.Given as goal

abbrev pub invariant-loop-byte : goal.invariant-loop-byte
invariant-loop-byte l = l.out.items ++ spell_text (drop l.byte-index l.text) ≡ l.initial.out.items ++ spell_text l.text
