-- The lines about words that are no command, and the texts about the program.
use Rattle.std.specs.Prelude.{ℕ, List, [], ◌++◌, Option, None, Some, codes}
use Rattle.std.specs.Fmt.{decimal}
use Rattle.outer_io.specs.EscapedNames.Escapes.{escaped_name}
use Rattle.run_words.specs.declared.fault.Need.{Need}
use Rattle.run_words.specs.declared.fault.Need.TheVariants as need
use Rattle.run_words.specs.declared.fault.WordFault.{WordFault}
use Rattle.run_words.specs.declared.fault.WordFault.TheVariants as fault
use Rattle.run_words.specs.declared.option_name.OptionName.{OptionName}
use Rattle.run_words.specs.declared.order.Saying.{Saying}
use Rattle.run_words.specs.declared.order.Saying.TheVariants as saying
use Rattle.run_words.specs.OptionNames.{option_text}

-- ---- words that are no command

abbrev pub usage : List ℕ
usage = codes "spatch: usage: spatch --sp-file P [--iso-file I] [--define a,b] [--jobs n] [--witnesses] [--tidy] [--in-place] FILE...\n"

-- the option that was meant, if one was
abbrev pub meant_text : Option OptionName → List ℕ
meant_text None = []
meant_text (Some option) = codes "; is it " ++ option_text option ++ codes "?"

abbrev pub need_text : Need → List ℕ
need_text need.Patch = codes "--sp-file P"
need_text need.File = codes "a FILE"
need_text need.Functions = codes "--functions K"

-- the end of a line about something and this, of which only one may stand
abbrev pub apart_text : List ℕ → List ℕ
apart_text other = codes " and " ++ other ++ codes " don't go together"

-- what is wrong with the words; no byte of a word ends the line
abbrev pub word_fault_text : WordFault → List ℕ
word_fault_text (fault.NotText place) = codes "word " ++ decimal place ++ codes " isn't UTF-8"
word_fault_text (fault.NoSuchOption word meant) = escaped_name word ++ codes ": no such option" ++ meant_text meant
word_fault_text (fault.ValueAbsent word) = escaped_name word ++ codes ": its value is absent"
word_fault_text (fault.TakesNone word) = escaped_name word ++ codes ": takes no value"
word_fault_text (fault.StandsTwice word) = escaped_name word ++ codes ": stands twice"
word_fault_text (fault.BadValue option value) = option_text option ++ codes ": " ++ escaped_name value ++ codes " is no value for it"
word_fault_text (fault.Needed what) = need_text what ++ codes " is needed"
word_fault_text (fault.Apart one other) = option_text one ++ apart_text (option_text other)
word_fault_text (fault.ApartFromFiles one) = option_text one ++ apart_text (codes "a FILE")

-- a line that says more begins with two blanks
abbrev pub word_fault_line : WordFault → List ℕ
word_fault_line fault = codes "  spatch: " ++ word_fault_text fault ++ codes " (--help says more)\n"

-- the usage line, and the line that says why, if something is known to be wrong
abbrev pub refused_words : Option WordFault → List ℕ
refused_words None = usage
refused_words (Some fault) = usage ++ word_fault_line fault

-- ---- about the program

abbrev pub version : List ℕ
version = codes "spatch (Rollgorge) 0.1.0\n"

abbrev pub help_use : List ℕ
help_use = codes "usage: spatch --sp-file P [OPTION]... FILE...\n"
    ++ codes "       spatch --generate S --functions K [--sp-file P [--jobs n]]\n\n"
    ++ codes "Applies the semantic patch P to C files. Without an option the edited text of\neach FILE is printed, and no file is changed.\n\n"

abbrev pub help_options : List ℕ
help_options = codes "  --sp-file P       the patch (needed)\n"
    ++ codes "  --in-place        store each file that changes; its text isn't printed\n"
    ++ codes "  --tidy            edit as for a commit: emptied lines go, and braces come\n                    where they are needed\n"
    ++ codes "  --witnesses       print what each rule finds, in place of the text\n"
    ++ codes "  --check           print the names of files in which something is found;\n                    status 8 if there is one\n"
    ++ codes "  --quiet           leave out the lines that say more, which begin with two\n                    blanks\n"
    ++ codes "  --unread V        which items that can't be read are told of: all, as if not\n"
    ++ codes "                    given; needed, those that have all words of a rule that\n"
    ++ codes "                    ran; or none. With the last two, files in which each rule\n                    lacks a word may be passed over\n"
    ++ codes "  --iso-file I      isomorphisms; examples/standard.iso has the usual ones\n"
    ++ codes "  --define a,b      the virtual names that hold\n"
    ++ codes "  --jobs n          match n items at a time, 1 to 64; the answer is the same\n"
    ++ codes "  --generate S      in place of files, a text made from the seed S\n"
    ++ codes "  --functions K     of K functions, 1 to 100000\n"
    ++ codes "  --help, --version\n\n"

abbrev pub help_more : List ℕ
help_more = codes "Options and FILEs come in any order. A value is the next word, or stands\nafter =. All words after -- are FILEs.\n\n"
    ++ codes "Status: 0 all done; 1 wrong words; 2 the patch is refused; 3 the isomorphisms\n"
    ++ codes "are; 4 some file is; 5 something can't be read; 6 or written; 7 no memory;\n8 something is found, under --check.\n"
    ++ codes "Lines on standard error: docs/REFUSALS.md. Patches: docs/LANGUAGE.md.\n"

abbrev pub help : List ℕ
help = help_use ++ help_options ++ help_more

-- the text about the program that is asked for
abbrev pub said : Saying → List ℕ
said saying.Help = help
said saying.Version = version
