-- The command as `clap` represents it.
use Rattle.std.specs.Prelude.{ℕ, true, List, Some, codes}
use Rattle.clap.specs.Words.{App, Rule, new_app, new_rule, with_rule}
use Rattle.clap.specs.declared.builder.action.ArgAction.TheVariants.{Set, SetTrue, Append}

abbrev pub valued_new : List ℕ → Rule
valued_new name = record (new_rule name) { long = Some name; action = Some Set }

abbrev pub flag_new : List ℕ → Rule
flag_new name = record (new_rule name) { long = Some name; action = Some SetTrue }

abbrev pub files_new : Rule
files_new = record (new_rule (codes "FILE")) { action = Some Append }

-- the command without a program's name and without a help option
abbrev pub bare_app : App
bare_app = record (new_app (codes "spatch")) {
  top = record (new_app (codes "spatch")).top { no_binary_name = true; disable_help_flag = true };
}

unfoldable pub spatch_app : App
spatch_app = with_rule (with_rule (with_rule (with_rule (with_rule (with_rule (with_rule (with_rule (with_rule (with_rule (with_rule (with_rule
    (with_rule (with_rule (with_rule bare_app (valued_new (codes "sp-file"))) (valued_new (codes "iso-file"))) (valued_new (codes "define")))
    (valued_new (codes "jobs"))) (valued_new (codes "generate"))) (valued_new (codes "functions"))) (valued_new (codes "unread")))
    (flag_new (codes "witnesses"))) (flag_new (codes "in-place"))) (flag_new (codes "check"))) (flag_new (codes "quiet")))
    (flag_new (codes "tidy"))) (flag_new (codes "help"))) (flag_new (codes "version"))) files_new
