-- Words that differ only in their jobs.
use Rattle.std.specs.Prelude.{ℕ, ◌≡◌, ◌⊎◌, true, List, Option, Some, is_some}
use Rattle.std.specs.List.{list_all}
use Rattle.std.specs.Str.{is_utf8}
use Rattle.run_words.specs.Options.{Options, options_of}
use Rattle.run_words.specs.Orders.{has_jobs}

-- these options, with this value of `--jobs`, if it is given
abbrev pub with_jobs : Option (List ℕ) → Options → Options
with_jobs jobs o = record {
  sp_file = o.sp_file;
  iso_file = o.iso_file;
  define = o.define;
  jobs = jobs;
  generate = o.generate;
  functions = o.functions;
  unread = o.unread;
  witnesses = o.witnesses;
  in_place = o.in_place;
  check = o.check;
  quiet = o.quiet;
  tidy = o.tidy;
  help = o.help;
  version = o.version;
  files = o.files;
}

-- Two lists of words give the same options except for `--jobs`, which has a valid number of jobs if it is given. Either both
-- lists give it or neither does, or a patch is named, and then each list may give it or not.
pub record SameButJobs (words others : List (List ℕ)) : Type 0 where
  pub options : Options
  pub jobs : Option (List ℕ)
  pub one : options_of words ≡ Some options
  pub other : options_of others ≡ Some (with_jobs jobs options)
  pub texts : list_all is_utf8 words ≡ list_all is_utf8 others
  pub has_one : has_jobs options ≡ true
  pub has_other : has_jobs (with_jobs jobs options) ≡ true
  pub given : (is_some options.jobs ≡ is_some jobs) ⊎ (is_some options.sp_file ≡ true)
