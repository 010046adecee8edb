-- What the words of a command line ask for.
use Rattle.std.specs.Prelude.{ℕ, ◌&&◌, ◌||◌, Bool, true, false, not, cond, nat_le, List, [], length, Option, None, Some, is_some, option_and_then, option_map}
use Rattle.std.specs.List.{list_all}
use Rattle.std.specs.Str.{is_utf8}
use Rattle.std.specs.Option.{option_map_or}
use Rattle.run_choices.specs.declared.unread.Unread.{Unread}
use Rattle.run_choices.specs.declared.unread.Unread.TheVariants as unread
use Rattle.run_words.specs.declared.order.Mode.{Mode}
use Rattle.run_words.specs.declared.order.Saying.{Saying}
use Rattle.run_words.specs.declared.order.Saying.TheVariants as saying
use Rattle.run_words.specs.Options.{Options, options_of}
use Rattle.run_words.specs.Values.{seed_in, count_in, decimal_value, names_in, unread_in}

-- what a patch is applied to
pub data Target : Type 0 where
  -- files, in this order
  OnFiles : (mode : Mode) (names : List (List ℕ)) → Target
  -- the text that is generated from this seed, with this many functions; whether further lines are left out, which items that
  -- can't be read are told of, and whether the edited text is tidied
  OnText : (seed functions : ℕ) (quiet : Bool) (unread : Unread) (tidy : Bool) → Target

pub data Order : Type 0 where
  -- the patch of this name, under the isomorphisms of this name, with these virtual names, is applied
  Apply : (patch : List ℕ) (isos : Option (List ℕ)) (defined : List (List ℕ)) (target : Target) → Order
  -- the text that is generated from this seed, with this many functions, is printed
  Generate : (seed functions : ℕ) → Order
  -- a text about the program is printed
  Say : (saying : Saying) → Order

-- the lines that say more are left out
abbrev pub is_quiet : Target → Bool
is_quiet (OnFiles mode names) = mode.quiet
is_quiet (OnText seed functions quiet unread tidy) = quiet

-- which items that can't be read are told of
abbrev pub unread_of : Target → Unread
unread_of (OnFiles mode names) = mode.unread
unread_of (OnText seed functions quiet unread tidy) = unread

-- the edited text is tidied
abbrev pub is_tidy : Target → Bool
is_tidy (OnFiles mode names) = mode.tidy
is_tidy (OnText seed functions quiet unread tidy) = tidy

-- edited texts are tidied
abbrev pub is_tidied : Order → Bool
is_tidied (Apply patch isos defined target) = is_tidy target
is_tidied (Generate seed functions) = false
is_tidied (Say saying) = false

-- ---- values

abbrev pub most_jobs : ℕ
most_jobs = 64

abbrev pub most_functions : ℕ
most_functions = 100000

-- the value, if given, isn't empty
abbrev pub is_filled : Option (List ℕ) → Bool
is_filled value = option_map_or (λ text. nat_le 1 (length text)) value true

abbrev pub are_filled : Options → Bool
are_filled o = is_filled o.sp_file && is_filled o.iso_file && is_filled o.define && is_filled o.jobs && is_filled o.generate && is_filled o.functions
    && is_filled o.unread

-- `--jobs` has a valid number of jobs, if it is given
abbrev pub has_jobs : Options → Bool
has_jobs o = option_map_or (λ value. is_some (count_in most_jobs value)) o.jobs true

-- the maximum number of concurrent jobs: the number that `--jobs` has, or one if it isn't given
abbrev pub jobs_in : Options → ℕ
jobs_in o = option_map_or decimal_value o.jobs 1

-- `--unread` has one of its values, if it is given
abbrev pub has_unread : Options → Bool
has_unread o = option_map_or (λ value. is_some (unread_in value)) o.unread true

-- which items that can't be read are told of: those that `--unread` says, or all if it isn't given
abbrev pub told_in : Options → Unread
told_in o = option_map_or (λ told. told) (option_and_then unread_in o.unread) unread.All

-- the names that are defined; none if the option isn't given
abbrev pub defined_in : Options → Option (List (List ℕ))
defined_in o = option_map_or names_in o.define (Some [])

-- ---- what goes together

abbrev pub has_files : Options → Bool
has_files o = nat_le 1 (length o.files)

abbrev pub mode_in : Options → Mode
mode_in o = record { witnesses = o.witnesses; in_place = o.in_place; check = o.check; quiet = o.quiet; unread = told_in o; tidy = o.tidy }

-- something is given that is only allowed with files
abbrev pub is_about_files : Options → Bool
is_about_files o = has_files o || is_some o.iso_file || is_some o.define || o.witnesses || o.in_place || o.check

-- nothing is stored under `--check`, so it doesn't go with `--in-place`
abbrev pub stores_checked : Options → Bool
stores_checked o = o.check && o.in_place

-- something is given that is only allowed with a patch
abbrev pub is_about_patches : Options → Bool
is_about_patches o = is_some o.jobs || o.quiet || is_some o.unread || o.tidy

-- without `--generate`: a patch and a file are required
abbrev pub editing : Options → Option Order
editing o = cond (has_files o && not (is_some o.functions) && not (stores_checked o))
    (option_and_then (λ patch. option_map (λ defined. Apply patch o.iso_file defined (OnFiles (mode_in o) o.files)) (defined_in o)) o.sp_file) None

-- with `--generate`: the text is printed, or a patch is applied to it
abbrev pub on_text : Options → ℕ → ℕ → Option Order
on_text o seed functions = option_map_or (λ patch. Some (Apply patch None [] (OnText seed functions o.quiet (told_in o) o.tidy))) o.sp_file
    (cond (is_about_patches o) None (Some (Generate seed functions)))

abbrev pub generating : Options → List ℕ → Option Order
generating o value = cond (is_about_files o) None
    (option_and_then (λ seed. option_and_then (λ text. option_and_then (λ functions. on_text o seed functions) (count_in most_functions text)) o.functions)
    (seed_in value))

-- without `--help` and `--version`
unfoldable pub working : Options → Option Order
working o = cond (has_jobs o && has_unread o) (option_map_or (generating o) o.generate (editing o)) None

-- a text about the program is asked for
abbrev pub asks_text : Options → Bool
asks_text o = o.help || o.version

abbrev pub saying_in : Options → Saying
saying_in o = cond o.help saying.Help saying.Version

-- if one of `--help` and `--version` is given, the words ask for its text and for nothing else
unfoldable pub ordered : Options → Option Order
ordered o = cond (are_filled o) (cond (asks_text o) (Some (Say (saying_in o))) (working o)) None

-- what the words ask for; nothing if they are no command, for example if one of them isn't UTF-8
unfoldable pub order_of : List (List ℕ) → Option Order
order_of words = cond (list_all is_utf8 words) (option_and_then ordered (options_of words)) None

-- the words ask for edited texts that are tidied
abbrev pub asks_tidy : List (List ℕ) → Bool
asks_tidy words = option_map_or is_tidied (order_of words) false

-- the maximum number of concurrent jobs, if the words ask for a patch to be applied
unfoldable pub jobs_of : List (List ℕ) → ℕ
jobs_of words = option_map_or jobs_in (options_of words) 1
