-- The lines about patches and isomorphisms.
use Rattle.std.specs.Prelude.{ℕ, List, [], ◌++◌, Option, Some, None, codes}
use Rattle.std.specs.Fmt.{decimal}
use Rattle.outer_io.specs.EscapedNames.Escapes.{escaped_name}
use Rattle.text_places.specs.declared.place.Place.{Place}
use Rattle.smpl_patch.specs.declared.fault.PatchFault.{PatchFault}
use Rattle.smpl_patch.specs.declared.fault.PatchFault.TheVariants.{PatchTooLong, BadToken, BadHeader, BadMetavariable, TwiceNamed}
use Rattle.smpl_patch.specs.declared.fault.PatchFault.TheVariants.{UnknownRule, KindDiffers, BadPattern, StarWithEdit, PlusWithoutAnchor}
use Rattle.smpl_patch.specs.declared.fault.PatchFault.TheVariants.{DotsAtEdge, MinusDots, MayStayUnbound, UnboundInPlus, ScriptRule}
use Rattle.smpl_patch.specs.declared.fault.PatchFault.TheVariants.{TooDeep, TooLarge, NoMemory}
use Rattle.smpl_patch.specs.Faults.{number_of, place_of}
use Rattle.iso_file.specs.declared.fault.IsoFault.{IsoFault}
use Rattle.iso_file.specs.declared.fault.IsoFault.TheVariants as iso
use Rattle.run_files.specs.RunLines.Further.{further_at}

-- the start of a line about this name, in which no byte of the name ends the line
abbrev pub begun : List ℕ → List ℕ
begun name = codes "spatch: " ++ escaped_name name ++ codes ": "

abbrev pub line_about : List ℕ → List ℕ → List ℕ
line_about name text = begun name ++ text ++ codes "\n"

-- ---- patches

abbrev pub variable_text : List ℕ → List ℕ
variable_text name = codes " of " ++ name

-- the place of a fault: none, a rule, a variable, or a byte
abbrev pub fault_place_text : PatchFault → List ℕ
fault_place_text PatchTooLong = []
fault_place_text (StarWithEdit rule) = codes " in rule " ++ decimal rule
fault_place_text (TooLarge rule) = codes " in rule " ++ decimal rule
fault_place_text (MayStayUnbound x) = variable_text x.name
fault_place_text (UnboundInPlus x) = variable_text x.name
fault_place_text fault = codes " at " ++ decimal (place_of fault)

-- what is wrong, behind the name of the variable if there is one, and what to do where one thing is usually meant
abbrev pub plain_sentence : PatchFault → List ℕ
plain_sentence PatchTooLong = codes "more than 1048576 bytes"
plain_sentence (BadToken at) = codes "no token of a patch"
plain_sentence (BadHeader at) = codes "the header can't go on here"
plain_sentence (BadMetavariable at) = codes "no declaration of a metavariable"
plain_sentence (TwiceNamed at) = codes "a name that is taken; choose another"
plain_sentence (UnknownRule at) = codes "no earlier rule, virtual name or metavariable of that rule; declare it first"
plain_sentence (KindDiffers at) = codes "another kind than the earlier rule gives it; write that kind"
plain_sentence (BadPattern at) = codes "neither an expression, nor statements, nor one function"
plain_sentence (StarWithEdit rule) = codes "lines with * beside lines with - or +"
plain_sentence (PlusWithoutAnchor at) = codes "added lines that stand beside no token of the rule; put them beside a statement"
plain_sentence (DotsAtEdge at) = codes "dots at the edge of code; leave them out"
plain_sentence (MinusDots at) = codes "dots on a line with -; put the - on what stands beside them"
plain_sentence (MayStayUnbound x) = codes " may stay without a value; let each branch have it, or write the branches as statements, one a line"
plain_sentence (UnboundInPlus x) = codes " gets no value; let the code find it, or inherit it"
plain_sentence (ScriptRule at) = codes "scripts aren't taken; --witnesses prints what is found"
plain_sentence (TooDeep at) = codes "more than 200 brackets open"
plain_sentence (TooLarge rule) = codes "too large: too many dots or branches in a row; split the rule, or write exists"
plain_sentence NoMemory = []

abbrev pub variable_in : PatchFault → List ℕ
variable_in (MayStayUnbound x) = x.name
variable_in (UnboundInPlus x) = x.name
variable_in fault = []

-- what is wrong
abbrev pub fault_sentence : PatchFault → List ℕ
fault_sentence fault = variable_in fault ++ plain_sentence fault

-- the line about a patch, and what is wrong at this place
abbrev pub patch_fault_line : List ℕ → Option Place → PatchFault → List ℕ
patch_fault_line name place fault =
    line_about name (codes "patch fault " ++ decimal (number_of fault) ++ fault_place_text fault) ++ further_at name place (fault_sentence fault)

-- ---- isomorphisms

-- the number of a fault, and its place; no isomorphisms are refused because memory ran out
abbrev pub iso_fault_text : IsoFault → List ℕ
iso_fault_text (iso.BadIso at) = codes "1 at " ++ decimal at
iso_fault_text (iso.NotExpression at) = codes "2 at " ++ decimal at
iso_fault_text (iso.VariableLost at) = codes "3 at " ++ decimal at
iso_fault_text iso.TooLong = codes "4"
iso_fault_text iso.NoMemory = []

-- the byte at which a fault is, if it has one
abbrev pub iso_byte : IsoFault → Option ℕ
iso_byte (iso.BadIso at) = Some at
iso_byte (iso.NotExpression at) = Some at
iso_byte (iso.VariableLost at) = Some at
iso_byte iso.TooLong = None
iso_byte iso.NoMemory = None

-- what is wrong there, and what to do where one thing is usually meant
abbrev pub iso_sentence : IsoFault → List ℕ
iso_sentence (iso.BadIso at) = codes "no isomorphism"
iso_sentence (iso.NotExpression at) = codes "another kind than Expression; leave the block out"
iso_sentence (iso.VariableLost at) = codes "a variable that the other side lacks; turn the arrow around"
iso_sentence iso.TooLong = codes "more than 1048576 bytes"
iso_sentence iso.NoMemory = []

-- the line about isomorphisms, and what is wrong at this place
abbrev pub iso_fault_line : List ℕ → Option Place → IsoFault → List ℕ
iso_fault_line name place fault =
    line_about name (codes "isomorphism fault " ++ iso_fault_text fault) ++ further_at name place (iso_sentence fault)

abbrev pub forms_line : List ℕ → ℕ → List ℕ
forms_line name rule = line_about name (codes "too many forms in rule " ++ decimal rule)
