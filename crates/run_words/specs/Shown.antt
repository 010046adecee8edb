-- What the results of calls represent.
use Rattle.std.specs.Prelude.{ℕ, ◌≡◌, ◌≤◌, Bool, List, [], Option, Some, option_map, map, codes}
use Rattle.std.specs.Borrow.{Bor}
use Rattle.std.specs.Option.{option_map_or}
use Rattle.clap.specs.Words.{first_value, matched_of, one_text, raw_values}
use Rattle.clap.specs.Values.{bool_text}
use Rattle.clap.specs.declared.parser.matches.Found.{Found}
use Rattle.run_words.specs.declared.options.Given.{Given}
use Rattle.run_words.specs.declared.order.Target.{Target as CodeTarget}
use Rattle.run_words.specs.declared.order.Target.TheVariants as target
use Rattle.run_words.specs.declared.order.Order.{Order as CodeOrder}
use Rattle.run_words.specs.declared.order.Order.TheVariants as order
use Rattle.run_words.specs.Options.{Options}
use Rattle.run_words.specs.Orders.{Target, OnFiles, OnText, Order, Apply, Generate, Say}

abbrev pub shown_target : CodeTarget → Target
shown_target (target.Files mode names) = OnFiles mode (map (λ name. name.now) names.items)
shown_target (target.Text seed functions quiet unread tidy) = OnText seed functions quiet unread tidy

abbrev pub shown_isos : Option (Bor (List ℕ)) → Option (List ℕ)
shown_isos isos = option_map (λ name. name.now) isos

abbrev pub shown_order : CodeOrder → Order
shown_order (order.Apply p) = Apply p.patch.now (shown_isos p.isos) p.defined.items (shown_target p.target)
shown_order (order.Generate seed functions) = Generate seed functions
shown_order (order.Say saying) = Say saying

-- the patch is applied with this many jobs
abbrev pub HasJobs : ℕ → CodeOrder → Type 0
HasJobs jobs (order.Apply p) = p.jobs ≡ jobs
HasJobs jobs (order.Generate seed functions) = Unit {0}
HasJobs jobs (order.Say saying) = Unit {0}

-- a generated text has at most 100,000 functions
abbrev pub few_functions : CodeTarget → Type 0
few_functions (target.Files mode names) = Unit {0}
few_functions (target.Text seed functions quiet unread tidy) = functions ≤ 100000

-- ---- internal to the crate

abbrev pub shown_value : Option (Bor (List ℕ)) → Option (List ℕ)
shown_value value = option_map (λ text. text.now) value

abbrev pub shown_options : Given → Options
shown_options g = record {
  sp_file = shown_value g.sp_file;
  iso_file = shown_value g.iso_file;
  define = shown_value g.define;
  jobs = shown_value g.jobs;
  generate = shown_value g.generate;
  functions = shown_value g.functions;
  unread = shown_value g.unread;
  witnesses = g.witnesses;
  in_place = g.in_place;
  check = g.check;
  quiet = g.quiet;
  tidy = g.tidy;
  help = g.help;
  version = g.version;
  files = map (λ name. name.now) g.files.items;
}

-- the options are those that `clap` found
pub record IsFound (f : Found) (o : Options) : Type 0 where
  pub sp_file : o.sp_file ≡ first_value f (codes "sp-file")
  pub iso_file : o.iso_file ≡ first_value f (codes "iso-file")
  pub define : o.define ≡ first_value f (codes "define")
  pub jobs : o.jobs ≡ first_value f (codes "jobs")
  pub generate : o.generate ≡ first_value f (codes "generate")
  pub functions : o.functions ≡ first_value f (codes "functions")
  pub unread : o.unread ≡ first_value f (codes "unread")
  pub witnesses : (b : Bool) → one_text f (codes "witnesses") ≡ Some (bool_text b) → o.witnesses ≡ b
  pub in_place : (b : Bool) → one_text f (codes "in-place") ≡ Some (bool_text b) → o.in_place ≡ b
  pub check : (b : Bool) → one_text f (codes "check") ≡ Some (bool_text b) → o.check ≡ b
  pub quiet : (b : Bool) → one_text f (codes "quiet") ≡ Some (bool_text b) → o.quiet ≡ b
  pub tidy : (b : Bool) → one_text f (codes "tidy") ≡ Some (bool_text b) → o.tidy ≡ b
  pub help : (b : Bool) → one_text f (codes "help") ≡ Some (bool_text b) → o.help ≡ b
  pub version : (b : Bool) → one_text f (codes "version") ≡ Some (bool_text b) → o.version ≡ b
  pub files : o.files ≡ option_map_or raw_values (matched_of f (codes "FILE")) []
