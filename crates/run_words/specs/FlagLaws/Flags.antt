-- Words that differ only in `--check` and `--quiet`.
use Rattle.std.specs.Prelude.{ℕ, ◌≡◌, Bool, true, false, List, Some, is_some}
use Rattle.std.specs.List.{list_all}
use Rattle.std.specs.Str.{is_utf8}
use Rattle.run_words.specs.Options.{Options, options_of}
use Rattle.run_words.specs.Orders.{Target, OnFiles, OnText, Order, Apply, Generate, Say}

-- these options, with or without `--check` and `--quiet`
abbrev pub with_flags : Bool → Bool → Options → Options
with_flags check quiet o = record {
  sp_file = o.sp_file;
  iso_file = o.iso_file;
  define = o.define;
  jobs = o.jobs;
  generate = o.generate;
  functions = o.functions;
  unread = o.unread;
  witnesses = o.witnesses;
  in_place = o.in_place;
  check = check;
  quiet = quiet;
  tidy = o.tidy;
  help = o.help;
  version = o.version;
  files = o.files;
}

abbrev pub target_with : Bool → Bool → Target → Target
target_with check quiet (OnFiles mode names) =
    OnFiles (record { witnesses = mode.witnesses; in_place = mode.in_place; check = check; quiet = quiet; unread = mode.unread; tidy = mode.tidy }) names
target_with check quiet (OnText seed functions old unread tidy) = OnText seed functions quiet unread tidy

-- the same order, in which files are checked and further lines left out, or aren't
abbrev pub order_with : Bool → Bool → Order → Order
order_with check quiet (Apply patch isos defined target) = Apply patch isos defined (target_with check quiet target)
order_with check quiet (Generate seed functions) = Generate seed functions
order_with check quiet (Say saying) = Say saying

-- Two lists of words give the same options, the first without `--check` and `--quiet`, the second with these. A patch is named,
-- and with `--check` neither `--in-place` nor `--generate` is given.
pub record SameButFlags (words others : List (List ℕ)) (check quiet : Bool) : Type 0 where
  pub options : Options
  pub one : options_of words ≡ Some (with_flags false false options)
  pub other : options_of others ≡ Some (with_flags check quiet options)
  pub texts : list_all is_utf8 words ≡ list_all is_utf8 others
  pub patch : is_some options.sp_file ≡ true
  pub stores : check ≡ true → options.in_place ≡ false
  pub files : check ≡ true → is_some options.generate ≡ false
