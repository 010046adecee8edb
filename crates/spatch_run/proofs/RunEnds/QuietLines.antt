-- What is left of each report under `--quiet`.
use Rattle.std.proofs.Common.{◌≡◌, ◌<◌, ◌==◌, ◌||◌, ℕ, zero, suc, ◌/◌, ◌%◌, Bool, true, false, List, [], ◌∷◌, ◌++◌, codes, refl, sym, ap, ◌∙◌}
use Rattle.std.proofs.Common.{append_assoc, arith}
use Rattle.std.specs.List.{list_any}
use Rattle.std.specs.Prelude.{if◌then◌else◌}
use Rattle.std.proofs.lemmas.List.{append-nil}
use Rattle.std.proofs.lemmas.List.Folds.{list_any-append}
use Rattle.std.proofs.lemmas.Bool.Decides.{nat_tests}
use Rattle.std.specs.Fmt.{decimal, digits, digits_onto, digit_glyph}
use Rattle.outer_io.specs.EscapedNames.Escapes.{is_control, escaped_name}
use Rattle.outer_io.proofs.EscapedNames.ReadLemmas.{none-shown}
use Rattle.cpp_lines.specs.declared.reading.Why.{Why}
use Rattle.cpp_lines.specs.declared.reading.Why.TheVariants.{NoTree, TooDeep, TooManyNodes}
use Rattle.iso_file.specs.declared.fault.IsoFault.{IsoFault}
use Rattle.iso_file.specs.declared.fault.IsoFault.TheVariants as iso
use Rattle.rule_chain.specs.declared.rule_run.fault.FileFault.{FileFault}
use Rattle.rule_chain.specs.declared.rule_run.fault.FileFault.TheVariants.{FileTooLong, Conflict, Body, TooManyWitnesses, TooManyEnvironments}
use Rattle.rule_chain.specs.declared.rule_run.fault.FileFault.TheVariants.{NoMemory}
use Rattle.run_acts.specs.Acts.{Report}
use Rattle.run_acts.specs.Lines.{cannot_read}
use Rattle.run_files.specs.RunLines.Files.{fault_text, why_text}
use Rattle.run_files.specs.RunLines.Patches.{begun, line_about, iso_fault_text}
use Rattle.spatch_run.specs.RunEnds.Quiet.{first_line, kept}

-- no byte ends a line
abbrev pub IsPlain : List ℕ → Type 0
IsPlain text = list_any is_control text ≡ false

either_first : (a b : Bool) → (a || b) ≡ false → a ≡ false
either_first false b e = refl
either_first true b e = e

either_second : (a b : Bool) → (a || b) ≡ false → b ≡ false
either_second false b e = e
either_second true b e = let no_way : true ≡ false = e in absurd (cc)

not_end : (byte : ℕ) → is_control byte ≡ false → (byte == 10) ≡ false
not_end byte e = grind (arith, nat_tests)

pub plain-append : (a b : List ℕ) → IsPlain a → IsPlain b → IsPlain (a ++ b)
plain-append a b e f = list_any-append is_control a b ∙ (λ i. e i || f i)

glyph : (d : ℕ) → d < 10 → is_control (digit_glyph false d) ≡ false
glyph d small = grind (arith, nat_tests)

plain-either : (last : Bool) (a b : List ℕ) → IsPlain a → IsPlain b → IsPlain (if last then a else b)
plain-either true a b e f = e
plain-either false a b e f = f

plain-onto : (k n : ℕ) (acc : List ℕ) → IsPlain acc → IsPlain (digits_onto k 10 false n acc)
plain-onto zero n acc e = e
plain-onto (suc k) n acc e =
    let here : is_control (digit_glyph false (n % 10)) ≡ false = glyph (n % 10) (omega arith) in
    let more : IsPlain (digit_glyph false (n % 10) ∷ acc) = λ i. here i || e i in
    plain-either (n / 10 == 0) (digit_glyph false (n % 10) ∷ acc) _ more (plain-onto k (n / 10) (digit_glyph false (n % 10) ∷ acc) more)

pub plain-decimal : (n : ℕ) → IsPlain (decimal n)
unfolding digits
plain-decimal n = plain-onto 64 n [] refl

-- ---- first lines

first_plain : (a b : List ℕ) → IsPlain a → first_line (a ++ b) ≡ a ++ first_line b
first_plain [] b e = refl
first_plain (x ∷ a) b e =
    let here : (x == 10) ≡ false = not_end x (either_first (is_control x) (list_any is_control a) e) in
    let rest : first_line (a ++ b) ≡ a ++ first_line b = first_plain a b (either_second (is_control x) (list_any is_control a) e) in
    λ i. x ∷ (if here i then [] else rest i)

plain-begun : (name : List ℕ) → IsPlain (begun name)
plain-begun name = plain-append (codes "spatch: " ++ escaped_name name) (codes ": ") (none-shown name) refl

first_about : (name text more : List ℕ) → IsPlain text → first_line (line_about name text ++ more) ≡ line_about name text
first_about name text more e =
    ap first_line (append_assoc (begun name ++ text) (codes "\n") more)
    ∙ first_plain (begun name ++ text) (codes "\n" ++ more) (plain-append (begun name) text (plain-begun name) e)

-- of a line about a name, whatever follows it, the line is left
pub kept-about : (name text more : List ℕ) → IsPlain text → kept (Report (line_about name text ++ more)) ≡ Report (line_about name text) ∷ []
kept-about name text more e = ap (λ (x : List ℕ). Report x ∷ []) (first_about name text more e)

pub kept-alone : (name text : List ℕ) → IsPlain text → kept (Report (line_about name text)) ≡ Report (line_about name text) ∷ []
kept-alone name text e = ap (λ (x : List ℕ). kept (Report x)) (sym (append-nil (line_about name text))) ∙ kept-about name text [] e

pub kept-read : (name : List ℕ) → kept (Report (cannot_read name)) ≡ Report (cannot_read name) ∷ []
kept-read name = kept-alone name (codes "cannot read") refl

-- ---- texts

pub plain-fault : (fault : FileFault) → IsPlain (fault_text fault)
plain-fault (FileTooLong rule) = plain-decimal rule
plain-fault (Conflict rule token first second) =
    plain-append (codes "conflict in rule " ++ decimal rule ++ codes " at token ") (decimal token)
    (plain-append (codes "conflict in rule " ++ decimal rule) (codes " at token ") (plain-decimal rule) refl) (plain-decimal token)
plain-fault (Body rule token) =
    plain-append (codes "rule " ++ decimal rule ++ codes " leaves a body without braces at token ") (decimal token)
    (plain-append (codes "rule " ++ decimal rule) (codes " leaves a body without braces at token ") (plain-decimal rule) refl) (plain-decimal token)
plain-fault (TooManyWitnesses rule) = plain-decimal rule
plain-fault (TooManyEnvironments rule) = plain-decimal rule
plain-fault NoMemory = refl

pub plain-why : (why : Why) → IsPlain (why_text why)
plain-why NoTree = refl
plain-why TooDeep = refl
plain-why TooManyNodes = refl

pub plain-iso : (fault : IsoFault) → IsPlain (iso_fault_text fault)
plain-iso (iso.BadIso at) = plain-decimal at
plain-iso (iso.NotExpression at) = plain-decimal at
plain-iso (iso.VariableLost at) = plain-decimal at
plain-iso iso.TooLong = refl
plain-iso iso.NoMemory = refl

pub plain-skipped : (reading item : ℕ) (why : Why)
    → IsPlain (codes "reading " ++ decimal reading ++ codes ": item " ++ decimal item ++ codes " not read: " ++ why_text why)
plain-skipped reading item why =
    let one : IsPlain (codes "reading " ++ decimal reading ++ codes ": item ")
    = plain-append (codes "reading " ++ decimal reading) (codes ": item ") (plain-decimal reading) refl in
    let two : IsPlain (codes "reading " ++ decimal reading ++ codes ": item " ++ decimal item)
    = plain-append (codes "reading " ++ decimal reading ++ codes ": item ") (decimal item) one (plain-decimal item) in
    let three : IsPlain (codes "reading " ++ decimal reading ++ codes ": item " ++ decimal item ++ codes " not read: ")
    = plain-append (codes "reading " ++ decimal reading ++ codes ": item " ++ decimal item) (codes " not read: ") two refl in
    plain-append (codes "reading " ++ decimal reading ++ codes ": item " ++ decimal item ++ codes " not read: ") (why_text why) three (plain-why why)
