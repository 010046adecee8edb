-- Words that differ only in `--unread`.
use Rattle.std.specs.Prelude.{ℕ, ◌≡◌, true, List, Option, Some, is_some}
use Rattle.std.specs.List.{list_all}
use Rattle.std.specs.Str.{is_utf8}
use Rattle.run_choices.specs.declared.unread.Unread.{Unread}
use Rattle.run_words.specs.declared.order.Mode.{Mode}
use Rattle.run_words.specs.Options.{Options, options_of}
use Rattle.run_words.specs.Orders.{Target, OnFiles, OnText, Order, Apply, Generate, Say, has_unread}

-- these options, with this value of `--unread`, if it is given
abbrev pub with_unread : Option (List ℕ) → Options → Options
with_unread choice o = record {
  sp_file = o.sp_file;
  iso_file = o.iso_file;
  define = o.define;
  jobs = o.jobs;
  generate = o.generate;
  functions = o.functions;
  unread = choice;
  witnesses = o.witnesses;
  in_place = o.in_place;
  check = o.check;
  quiet = o.quiet;
  tidy = o.tidy;
  help = o.help;
  version = o.version;
  files = o.files;
}

abbrev pub mode_telling : Unread → Mode → Mode
mode_telling told mode = record {
  witnesses = mode.witnesses;
  in_place = mode.in_place;
  check = mode.check;
  quiet = mode.quiet;
  unread = told;
  tidy = mode.tidy;
}

abbrev pub target_telling : Unread → Target → Target
target_telling told (OnFiles mode names) = OnFiles (mode_telling told mode) names
target_telling told (OnText seed functions quiet old tidy) = OnText seed functions quiet told tidy

-- the same order, in which these items that can't be read are told of
abbrev pub order_telling : Unread → Order → Order
order_telling told (Apply patch isos defined target) = Apply patch isos defined (target_telling told target)
order_telling told (Generate seed functions) = Generate seed functions
order_telling told (Say saying) = Say saying

-- Two lists of words give the same options except for `--unread`, which has one of its values if it is given. A patch is named.
pub record SameButUnread (words others : List (List ℕ)) : Type 0 where
  pub options : Options
  pub choice : Option (List ℕ)
  pub one : options_of words ≡ Some options
  pub other : options_of others ≡ Some (with_unread choice options)
  pub texts : list_all is_utf8 words ≡ list_all is_utf8 others
  pub has_one : has_unread options ≡ true
  pub has_other : has_unread (with_unread choice options) ≡ true
  pub patch : is_some options.sp_file ≡ true
