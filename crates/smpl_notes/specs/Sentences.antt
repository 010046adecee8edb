-- The sentences of notes, without places.
use Rattle.std.specs.Prelude.{ℕ, List, [], ◌++◌, codes}
use Rattle.smpl_notes.specs.declared.note.Slip.{Slip}
use Rattle.smpl_notes.specs.declared.note.Slip.TheVariants as slip
use Rattle.smpl_notes.specs.declared.note.Note.{Note}
use Rattle.smpl_notes.specs.declared.note.Note.TheVariants.{NoSign, InRule}
use Rattle.smpl_notes.specs.KindWords.{kind_text}

abbrev pub no_sign : List ℕ
no_sign = codes "no line has -, + or * in its first column, so nothing is changed or reported"

abbrev pub fixed : Slip → List ℕ
fixed slip.IndentedMinus = codes "a - that isn't in the first column is an operator"
fixed slip.LooplessFunction = codes "under forall this finds only functions without a loop; exists finds all"
fixed slip.UntypedFunction = codes "a function needs its type, as in T f(...); this is a loop of a macro"
fixed (slip.PlainName name) = codes " is a plain name here; is it a metavariable?"
fixed slip.WrittenTest = codes "without --iso-file this finds only tests that are written so"
fixed (slip.MisspeltKind name kind) = codes " is taken for a type; is it "
fixed (slip.UnreadKind name) = codes " is taken for a type; it is no kind of metavariable here"

abbrev pub name_of : Slip → List ℕ
name_of (slip.PlainName name) = name
name_of (slip.MisspeltKind name kind) = name
name_of (slip.UnreadKind name) = name
name_of _ = []

abbrev pub kind_of : Slip → List ℕ
kind_of (slip.MisspeltKind name kind) = kind_text kind
kind_of _ = []

abbrev pub end_of : Slip → List ℕ
end_of (slip.MisspeltKind name kind) = codes "?"
end_of _ = []

abbrev pub sentence : Note → List ℕ
sentence NoSign = no_sign
sentence (InRule rule place s) = name_of s ++ fixed s ++ kind_of s ++ end_of s
