-- Examples of the definitions for concrete words, mainly where another interpretation would differ.
use Rattle.std.specs.Prelude.{◌≡◌, [], ◌∷◌, true, false, Some, None, refl, codes}
use Rattle.std.specs.Char.{encode_utf8}
use Rattle.std.specs.Str.{chars, is_utf8}
use Rattle.run_choices.specs.declared.unread.Unread.TheVariants as unread
use Rattle.run_words.specs.Options.{options_of}
use Rattle.run_words.specs.Orders.{Apply, Generate, OnFiles, OnText, Say, jobs_of, order_of, ordered, working}
use Rattle.run_words.specs.declared.order.Saying.TheVariants as saying
use Rattle.run_words.specs.declared.option_name.OptionName.TheVariants as name
use Rattle.run_words.specs.declared.fault.Need.TheVariants as need
use Rattle.run_words.specs.declared.fault.WordFault.TheVariants.{NotText, StandsTwice, TakesNone, ValueAbsent, BadValue, Needed, Apart, ApartFromFiles}
use Rattle.run_words.specs.OptionNames.{is_near, meant_by}
use Rattle.run_words.specs.Faults.{fault_from, options_fault, word_fault}
use Rattle.run_words.specs.Parts.{Valued, Flag, File, parts_from, parts_of}
use Rattle.run_words.specs.Values.{count_in, names_in, seed_in, unread_in}

-- a value follows `=` or is the next word; words that aren't options are files
both_forms : parts_of (codes "k.c" ∷ codes "--sp-file" ∷ codes "p" ∷ codes "--jobs=2" ∷ codes "--in-place" ∷ [])
    ≡ Some (File (codes "k.c") ∷ Valued (codes "sp-file") (codes "p") ∷ Valued (codes "jobs") (codes "2") ∷ Flag (codes "in-place") ∷ [])
unfolding parts_from
both_forms = refl

-- after `--` there are only files, and `-` is a file or a value
files_after : parts_of (codes "-" ∷ codes "--" ∷ codes "--jobs" ∷ codes "--" ∷ []) ≡ Some (File (codes "-") ∷ File (codes "--jobs") ∷ File (codes "--") ∷ [])
unfolding parts_from
files_after = refl

-- the next word isn't a value if it is any option; after `=`, a value may look like an option
no_value : parts_of (codes "--sp-file" ∷ codes "--" ∷ codes "p" ∷ []) ≡ None
unfolding parts_from
no_value = refl

signed_value : parts_of (codes "--sp-file=-x=y" ∷ []) ≡ Some (Valued (codes "sp-file") (codes "-x=y") ∷ [])
unfolding parts_from
signed_value = refl

-- no option can be abbreviated, and none has a single letter
abbreviated : parts_of (codes "--sp" ∷ codes "p" ∷ []) ≡ None
unfolding parts_from
abbreviated = refl

one_letter : parts_of (codes "-j" ∷ []) ≡ None
unfolding parts_from
one_letter = refl

-- a flag has no value
flag_value : parts_of (codes "--witnesses=" ∷ []) ≡ None
unfolding parts_from
flag_value = refl

-- a seed may have leading zeros, a count may not
leading_zeros : seed_in (codes "007") ≡ Some 7
leading_zeros = refl

least_past : seed_in (codes "18446744073709551616") ≡ None
least_past = refl

zero_first : count_in 64 (codes "07") ≡ None
zero_first = refl

past_most : count_in 64 (codes "65") ≡ None
past_most = refl

-- single commas separate names of C
two_names : names_in (codes "a,_b2") ≡ Some (codes "a" ∷ codes "_b2" ∷ [])
two_names = refl

comma_last : names_in (codes "a,") ≡ None
comma_last = refl

keyword : names_in (codes "a,if") ≡ None
keyword = refl

-- a choice is written out, in small letters
needed_only : unread_in (codes "needed") ≡ Some unread.Needed
needed_only = refl

part_of_a_choice : unread_in (codes "need") ≡ None
part_of_a_choice = refl

large_letters : unread_in (codes "None") ≡ None
large_letters = refl

-- ---- options together

twice : options_of (codes "--jobs=1" ∷ codes "k.c" ∷ codes "--jobs" ∷ codes "1" ∷ []) ≡ None
unfolding options_of parts_from
twice = refl

a_file : order_of (codes "k.c" ∷ codes "--sp-file=p" ∷ codes "--witnesses" ∷ [])
    ≡ Some (Apply (codes "p") None [] (OnFiles (record { witnesses = true; in_place = false; check = false; quiet = false; unread = unread.All; tidy = false })
    (codes "k.c" ∷ [])))
unfolding order_of ordered working options_of parts_from is_utf8 chars encode_utf8
a_file = refl

no_file : order_of (codes "--sp-file=p" ∷ []) ≡ None
unfolding order_of ordered working options_of parts_from is_utf8 chars encode_utf8
no_file = refl

-- an empty value is refused, but an empty word names a file
empty_value : order_of (codes "--sp-file=" ∷ codes "k.c" ∷ []) ≡ None
unfolding order_of ordered working options_of parts_from is_utf8 chars encode_utf8
empty_value = refl

empty_word : order_of (codes "--sp-file=p" ∷ [] ∷ [])
    ≡ Some (Apply (codes "p") None [] (OnFiles (record { witnesses = false; in_place = false; check = false; quiet = false; unread = unread.All; tidy = false })
    ([] ∷ [])))
unfolding order_of ordered working options_of parts_from is_utf8 chars encode_utf8
empty_word = refl

-- jobs are only allowed with a patch
a_text : order_of (codes "--generate=1" ∷ codes "--functions=2" ∷ []) ≡ Some (Generate 1 2)
unfolding order_of ordered working options_of parts_from is_utf8 chars encode_utf8
a_text = refl

jobs_of_a_text : order_of (codes "--generate=1" ∷ codes "--functions=2" ∷ codes "--jobs=3" ∷ []) ≡ None
unfolding order_of ordered working options_of parts_from is_utf8 chars encode_utf8
jobs_of_a_text = refl

a_patch_on_a_text : order_of (codes "--generate=1" ∷ codes "--functions=2" ∷ codes "--jobs=3" ∷ codes "--sp-file=p" ∷ []) ≡ Some (Apply
    (codes "p") None [] (OnText 1 2 false unread.All false))
unfolding order_of ordered working options_of parts_from is_utf8 chars encode_utf8
a_patch_on_a_text = refl

-- ---- what is checked, and what isn't said

-- a report is printed where there is one, and the status says whether something was found
checked_report : order_of (codes "--check" ∷ codes "--sp-file=p" ∷ codes "--witnesses" ∷ codes "k.c" ∷ [])
    ≡ Some (Apply (codes "p") None [] (OnFiles (record { witnesses = true; in_place = false; check = true; quiet = false; unread = unread.All; tidy = false })
    (codes "k.c" ∷ [])))
unfolding order_of ordered working options_of parts_from is_utf8 chars encode_utf8
checked_report = refl

-- what is checked isn't stored
checked_in_place : order_of (codes "--check" ∷ codes "--sp-file=p" ∷ codes "--in-place" ∷ codes "k.c" ∷ []) ≡ None
unfolding order_of ordered working options_of parts_from is_utf8 chars encode_utf8
checked_in_place = refl

checked_text : order_of (codes "--generate=1" ∷ codes "--functions=2" ∷ codes "--sp-file=p" ∷ codes "--check" ∷ []) ≡ None
unfolding order_of ordered working options_of parts_from is_utf8 chars encode_utf8
checked_text = refl

stored_quietly : order_of (codes "--quiet" ∷ codes "--sp-file=p" ∷ codes "--in-place" ∷ codes "k.c" ∷ [])
    ≡ Some (Apply (codes "p") None [] (OnFiles (record { witnesses = false; in_place = true; check = false; quiet = true; unread = unread.All; tidy = false })
    (codes "k.c" ∷ [])))
unfolding order_of ordered working options_of parts_from is_utf8 chars encode_utf8
stored_quietly = refl

-- a generated text alone has no further lines to leave out
quiet_on_a_text : order_of (codes "--generate=1" ∷ codes "--functions=2" ∷ codes "--quiet" ∷ codes "--sp-file=p" ∷ []) ≡ Some (Apply
    (codes "p") None [] (OnText 1 2 true unread.All false))
unfolding order_of ordered working options_of parts_from is_utf8 chars encode_utf8
quiet_on_a_text = refl

quiet_text : order_of (codes "--generate=1" ∷ codes "--functions=2" ∷ codes "--quiet" ∷ []) ≡ None
unfolding order_of ordered working options_of parts_from is_utf8 chars encode_utf8
quiet_text = refl

-- ---- which items that can't be read are told of

none_told : order_of (codes "--sp-file=p" ∷ codes "--unread" ∷ codes "none" ∷ codes "k.c" ∷ [])
    ≡ Some (Apply (codes "p") None [] (OnFiles
    (record { witnesses = false; in_place = false; check = false; quiet = false; unread = unread.None; tidy = false })
    (codes "k.c" ∷ [])))
unfolding order_of ordered working options_of parts_from is_utf8 chars encode_utf8
none_told = refl

needed_on_a_text : order_of (codes "--generate=1" ∷ codes "--functions=2" ∷ codes "--unread=needed" ∷ codes "--sp-file=p" ∷ [])
    ≡ Some (Apply (codes "p") None [] (OnText 1 2 false unread.Needed false))
unfolding order_of ordered working options_of parts_from is_utf8 chars encode_utf8
needed_on_a_text = refl

-- a text alone is never read, and none of its items is told of
unread_text : order_of (codes "--generate=1" ∷ codes "--functions=2" ∷ codes "--unread=all" ∷ []) ≡ None
unfolding order_of ordered working options_of parts_from is_utf8 chars encode_utf8
unread_text = refl

some_told : order_of (codes "--sp-file=p" ∷ codes "--unread=some" ∷ codes "k.c" ∷ []) ≡ None
unfolding order_of ordered working options_of parts_from is_utf8 chars encode_utf8
some_told = refl

-- ---- edited texts that are tidied

tidy_files : order_of (codes "--tidy" ∷ codes "--sp-file=p" ∷ codes "--in-place" ∷ codes "k.c" ∷ [])
    ≡ Some (Apply (codes "p") None [] (OnFiles (record { witnesses = false; in_place = true; check = false; quiet = false; unread = unread.All; tidy = true })
    (codes "k.c" ∷ [])))
unfolding order_of ordered working options_of parts_from is_utf8 chars encode_utf8
tidy_files = refl

-- what is found may depend on how the rules before leave the text, so the word goes with reports too
tidy_report : order_of (codes "--sp-file=p" ∷ codes "--check" ∷ codes "--witnesses" ∷ codes "--tidy" ∷ codes "k.c" ∷ [])
    ≡ Some (Apply (codes "p") None [] (OnFiles (record { witnesses = true; in_place = false; check = true; quiet = false; unread = unread.All; tidy = true })
    (codes "k.c" ∷ [])))
unfolding order_of ordered working options_of parts_from is_utf8 chars encode_utf8
tidy_report = refl

tidy_on_a_text : order_of (codes "--generate=1" ∷ codes "--functions=2" ∷ codes "--tidy" ∷ codes "--sp-file=p" ∷ [])
    ≡ Some (Apply (codes "p") None [] (OnText 1 2 false unread.All true))
unfolding order_of ordered working options_of parts_from is_utf8 chars encode_utf8
tidy_on_a_text = refl

-- a text alone isn't edited
tidy_text : order_of (codes "--generate=1" ∷ codes "--functions=2" ∷ codes "--tidy" ∷ []) ≡ None
unfolding order_of ordered working options_of parts_from is_utf8 chars encode_utf8
tidy_text = refl

tidy_twice : order_of (codes "--tidy" ∷ codes "--sp-file=p" ∷ codes "--tidy" ∷ codes "k.c" ∷ []) ≡ None
unfolding order_of ordered working options_of parts_from is_utf8 chars encode_utf8
tidy_twice = refl

-- ---- jobs

-- as many jobs as the words give, or one if they give no number
jobs_said : jobs_of (codes "--jobs" ∷ codes "64" ∷ codes "--sp-file=p" ∷ codes "k.c" ∷ []) ≡ 64
unfolding jobs_of options_of parts_from
jobs_said = refl

jobs_unsaid : jobs_of (codes "--sp-file=p" ∷ codes "k.c" ∷ []) ≡ 1
unfolding jobs_of options_of parts_from
jobs_unsaid = refl

-- a word that isn't UTF-8
no_text : order_of (codes "--sp-file=p" ∷ (255 ∷ []) ∷ []) ≡ None
unfolding order_of is_utf8 chars encode_utf8
no_text = refl

-- ---- texts about the program

-- `--help` goes before `--version`, and values that are wrong for other reasons than being empty don't matter
help_first : order_of (codes "--version" ∷ codes "--jobs=0" ∷ codes "--help" ∷ []) ≡ Some (Say saying.Help)
unfolding order_of ordered working options_of parts_from is_utf8 chars encode_utf8
help_first = refl

version_said : order_of (codes "--sp-file" ∷ codes "p" ∷ codes "k.c" ∷ codes "--version" ∷ []) ≡ Some (Say saying.Version)
unfolding order_of ordered working options_of parts_from is_utf8 chars encode_utf8
version_said = refl

-- but the words must be options and files, and no value may be empty
help_wrong : order_of (codes "--help" ∷ codes "--inplace" ∷ []) ≡ None
unfolding order_of ordered working options_of parts_from is_utf8 chars encode_utf8
help_wrong = refl

help_empty : order_of (codes "--help" ∷ codes "--iso-file=" ∷ []) ≡ None
unfolding order_of ordered working options_of parts_from is_utf8 chars encode_utf8
help_empty = refl

-- ---- what is wrong with words

-- of two options without values, each of which is none, the first counts
absent_first : fault_from (codes "--sp-file" ∷ codes "--bogus" ∷ []) [] None ≡ Some (ValueAbsent (codes "--sp-file"))
unfolding fault_from
absent_first = refl

twice_first : fault_from (codes "--in-place" ∷ codes "--in-place" ∷ codes "--bogus" ∷ []) [] None ≡ Some (StandsTwice (codes "--in-place"))
unfolding fault_from
twice_first = refl

takes_none : fault_from (codes "--in-place=yes" ∷ []) [] None ≡ Some (TakesNone (codes "--in-place"))
unfolding fault_from
takes_none = refl

coccinelle : meant_by (codes "--cocci-file") ≡ Some name.SpFile
unfolding is_near
coccinelle = refl

file_needed : word_fault (codes "--sp-file" ∷ codes "p" ∷ []) ≡ Some (Needed need.File)
unfolding word_fault fault_from options_fault options_of parts_from is_utf8 chars encode_utf8
file_needed = refl

-- a wrong value is told before what is needed
value_first : word_fault (codes "--jobs" ∷ codes "65" ∷ []) ≡ Some (BadValue name.Jobs (codes "65"))
unfolding word_fault fault_from options_fault options_of parts_from is_utf8 chars encode_utf8
value_first = refl

functions_alone : word_fault (codes "--functions" ∷ codes "1" ∷ codes "--sp-file=p" ∷ codes "k.c" ∷ []) ≡ Some (ApartFromFiles name.Functions)
unfolding word_fault fault_from options_fault options_of parts_from is_utf8 chars encode_utf8
functions_alone = refl

two_apart : word_fault (codes "--generate=1" ∷ codes "--functions=1" ∷ codes "--in-place" ∷ codes "--witnesses" ∷ [])
    ≡ Some (Apart name.Generate name.Witnesses)
unfolding word_fault fault_from options_fault options_of parts_from is_utf8 chars encode_utf8
two_apart = refl

check_apart : word_fault (codes "--sp-file=p" ∷ codes "--in-place" ∷ codes "--check" ∷ codes "k.c" ∷ []) ≡ Some (Apart name.Check name.InPlace)
unfolding word_fault fault_from options_fault options_of parts_from is_utf8 chars encode_utf8
check_apart = refl

-- what is about `--functions` and `--generate` is told first
functions_before : word_fault (codes "--sp-file=p" ∷ codes "--in-place" ∷ codes "--check" ∷ codes "--functions=1" ∷ codes "k.c" ∷ [])
    ≡ Some (ApartFromFiles name.Functions)
unfolding word_fault fault_from options_fault options_of parts_from is_utf8 chars encode_utf8
functions_before = refl

generate_and_check : word_fault (codes "--generate=1" ∷ codes "--functions=1" ∷ codes "--check" ∷ codes "--sp-file=p" ∷ [])
    ≡ Some (Apart name.Generate name.Check)
unfolding word_fault fault_from options_fault options_of parts_from is_utf8 chars encode_utf8
generate_and_check = refl

quiet_needs_a_patch : word_fault (codes "--generate=1" ∷ codes "--functions=1" ∷ codes "--quiet" ∷ []) ≡ Some (Needed need.Patch)
unfolding word_fault fault_from options_fault options_of parts_from is_utf8 chars encode_utf8
quiet_needs_a_patch = refl

tidy_needs_a_patch : word_fault (codes "--tidy" ∷ codes "--generate=1" ∷ codes "--functions=1" ∷ []) ≡ Some (Needed need.Patch)
unfolding word_fault fault_from options_fault options_of parts_from is_utf8 chars encode_utf8
tidy_needs_a_patch = refl

tidy_takes_no_value : word_fault (codes "--sp-file=p" ∷ codes "--tidy=on" ∷ codes "k.c" ∷ []) ≡ Some (TakesNone (codes "--tidy"))
unfolding word_fault fault_from options_fault options_of parts_from is_utf8 chars encode_utf8
tidy_takes_no_value = refl

unread_needs_a_patch : word_fault (codes "--generate=1" ∷ codes "--functions=1" ∷ codes "--unread=none" ∷ []) ≡ Some (Needed need.Patch)
unfolding word_fault fault_from options_fault options_of parts_from is_utf8 chars encode_utf8
unread_needs_a_patch = refl

unread_needs_its_value : word_fault (codes "--sp-file=p" ∷ codes "k.c" ∷ codes "--unread" ∷ []) ≡ Some (ValueAbsent (codes "--unread"))
unfolding word_fault fault_from options_fault options_of parts_from is_utf8 chars encode_utf8
unread_needs_its_value = refl

bad_choice : word_fault (codes "--sp-file=p" ∷ codes "--unread=" ∷ codes "k.c" ∷ []) ≡ Some (BadValue name.Unread [])
unfolding word_fault fault_from options_fault options_of parts_from is_utf8 chars encode_utf8
bad_choice = refl

-- the values of options are looked at in one order, however they stand
functions_before_unread : word_fault (codes "--unread=some" ∷ codes "--functions=0" ∷ []) ≡ Some (BadValue name.Functions (codes "0"))
unfolding word_fault fault_from options_fault options_of parts_from is_utf8 chars encode_utf8
functions_before_unread = refl

twice_chosen : word_fault (codes "--unread=all" ∷ codes "--unread" ∷ codes "all" ∷ []) ≡ Some (StandsTwice (codes "--unread"))
unfolding word_fault fault_from options_fault options_of parts_from is_utf8 chars encode_utf8
twice_chosen = refl

-- words are counted from 1, and one that isn't UTF-8 is told first
second_word : word_fault (codes "--bogus" ∷ (255 ∷ []) ∷ []) ≡ Some (NotText 2)
unfolding word_fault fault_from options_fault options_of parts_from is_utf8 chars encode_utf8
second_word = refl
