-- A parse of the command gives exactly what the grammar says about the words.
use Rattle.std.proofs.Common.{◌≡◌, ◌∙◌, refl, sym, ap, Bool, true, false, ◌||◌, cond, List, [], ◌∷◌, ◌++◌, Option, Some, None, codes, fold, is_some, slice_get}
use Rattle.std.proofs.Common.{option_map, option_and_then, IfSome, inl, inr, true≢false}
use Rattle.std.specs.List.{list_all}
use Rattle.std.specs.Str.{bytes_eq, is_utf8}
use Rattle.std.specs.Option.{option_map_or}
use Rattle.std.proofs.lemmas.Bool.{cases_Bool}
use Rattle.std.proofs.lemmas.Option.{none-some, same_Some}
use Rattle.std.proofs.lemmas.Slice.Eq.{bytes_eq-Decides}
use Rattle.c_lexer.specs.Words.{is_in}
use Rattle.clap.specs.Kinds.{Kinds, or_else}
use Rattle.clap.specs.Walk.{Row, Rule, Text, all_of, first_of, has_row, more_values, nothing_held, one_of, reading_by, row_text, rows_of, settled_rows}
use Rattle.clap.specs.Walk.{walk_from, walked, with_default}
use Rattle.clap.specs.Faults.{defaults_fault, entered_fault, fault_of, given_default_fault, level_fault, settle_fault, walk_fault}
use Rattle.clap.specs.Simple.{built, entered, matches_of}
use Rattle.clap.specs.Words.{first_value, matched_of, one_text, raw_values}
use Rattle.clap.specs.Values.{bool_text}
use Rattle.clap.specs.declared.parser.matches.Found.{Found}
use Rattle.clap.specs.declared.parser.matches.ValueSource.TheVariants.{DefaultValue}
use Rattle.clap.proofs.WalkLemmas.{first_value-rows, one_text-rows, raw_values-rows}
use Rattle.run_words.specs.Parts.{Part, flag_options, parts_from, valued_options}
use Rattle.run_words.specs.Options.{Options, are_new, collected, files_in, has_flag, options_in, options_of, value_of}
use Rattle.run_words.specs.Commands.{spatch_app}
use Rattle.run_words.specs.Shown.{IsFound}
use Rattle.run_words.proofs.Rules.{OfEach, file_rule, flag_rule, of_one, spatch, spatch_rules, spatch_serves, valued_rule}
use Rattle.run_words.proofs.Walks.{guard, guard_or, or_none, put_all, says_walk, walk_says}
use Rattle.run_words.proofs.Known.{AreKnown, parts_known}
use Rattle.run_words.proofs.Rows.{at_new, files_all, first_first, first_some, flag_found, flag_row, has_look, look, look_all}
use Rattle.run_words.proofs.Rows.{look_append, none_first, some_all, value_found}

-- ---- the rows at the end

same_cond : {X : Type 0} (b : Bool) (x : X) → cond b x x ≡ x
same_cond true x = refl
same_cond false x = refl

abbrev default_row : Text → Row
default_row name = record { id = name; values = codes "false" ∷ []; count = None; source = Some DefaultValue; reading = reading_by (flag_rule name) }

abbrev or_default : Text → Text → Option Row
or_default flag name = cond (bytes_eq flag name) (Some (default_row flag)) None

kept : {X : Type 0} (o other : Option X) → is_some o ≡ true → o ≡ first_some o other
kept None other h = absurd (true≢false (sym h))
kept (Some x) other h = refl

-- a flag that is present stays
there : (flag name : Text) (rows : List Row) → has_row flag rows ≡ true → look name rows ≡ first_some (look name rows) (or_default flag name)
there flag name rows h = elim (cases_Bool (bytes_eq flag name)) [
  | inl e ↦
      let same : flag ≡ name = (bytes_eq-Decides flag name).0 e in
      let has : is_some (look name rows) ≡ true = ap (λ n. is_some (look n rows)) (sym same) ∙ (sym (has_look flag rows) ∙ h) in
      kept (look name rows) (or_default flag name) has
  | inr e ↦ rw e (sym (none_first (look name rows)))
]

look_default : (flag name : Text) (rows : List Row) → look name (with_default rows (flag_rule flag)) ≡ first_some (look name rows) (or_default flag name)
look_default flag name rows = elim (cases_Bool (has_row flag rows)) [
  | inl e ↦ rw e (there flag name rows e)
  | inr e ↦
      let made = at_new flag (more_values DefaultValue (codes "false" ∷ [])) (default_row flag ∷ []) rows e in
      rw (e, made) (look_append name rows (default_row flag))
]

-- the rows with those of these flags that are absent
abbrev defaulted : List Text → List Row → List Row
defaulted [] rows = rows
defaulted (flag ∷ flags) rows = defaulted flags (with_default rows (flag_rule flag))

-- the row of a name among those
abbrev default_of : List Text → Text → Option Row
default_of [] name = None
default_of (flag ∷ flags) name = first_some (or_default flag name) (default_of flags name)

abbrev with_flags : List Row → List Row
with_flags rows = defaulted flag_options rows

no_default : (a : Rule) (rows : List Row) → a.defaults ≡ [] → with_default rows a ≡ rows
no_default a rows none = rw none (same_cond (has_row a.id rows) rows)

abbrev HaveNone : List Rule → Type 0
HaveNone [] = Unit {0}
HaveNone (a ∷ rest) = (a.defaults ≡ []) × HaveNone rest

skips : (front rest : List Rule) (rows : List Row) → HaveNone front → fold with_default rows (front ++ rest) ≡ fold with_default rows rest
skips [] rest rows h = refl
skips (a ∷ front) rest rows h =
    let step : with_default rows a ≡ rows = no_default a rows h.0 in
    ap (λ x. fold with_default x (front ++ rest)) step ∙ skips front rest rows h.1

abbrev plain_rules : List Rule
plain_rules = valued_rule (codes "sp-file") ∷ valued_rule (codes "iso-file") ∷ valued_rule (codes "define") ∷ valued_rule (codes "jobs")
    ∷ valued_rule (codes "generate") ∷ valued_rule (codes "functions")
    ∷ valued_rule (codes "unread") ∷ []

abbrev other_rules : List Rule
other_rules = flag_rule (codes "witnesses") ∷ flag_rule (codes "in-place") ∷ flag_rule (codes "check") ∷ flag_rule (codes "quiet")
    ∷ flag_rule (codes "tidy") ∷ flag_rule (codes "help") ∷ flag_rule (codes "version") ∷ file_rule ∷ []

ended_is : (rows : List Row) → fold with_default rows spatch_rules ≡ with_flags rows
ended_is rows = skips plain_rules other_rules rows (refl, (refl, (refl, (refl, (refl, (refl, (refl, tt)))))))
    ∙ skips (file_rule ∷ []) [] (with_flags rows) (refl, tt)

look_defaulted : (flags : List Text) (name : Text) (rows : List Row) → look name (defaulted flags rows) ≡ first_some (look name rows) (default_of flags name)
look_defaulted [] name rows = sym (none_first (look name rows))
look_defaulted (flag ∷ flags) name rows = look_defaulted flags name (with_default rows (flag_rule flag))
    ∙ (ap (λ o. first_some o (default_of flags name)) (look_default flag name rows)
    ∙ first_first (look name rows) (or_default flag name) (default_of flags name))

look_ended : (name : Text) (rows : List Row) → look name (with_flags rows) ≡ first_some (look name rows) (default_of flag_options name)
look_ended name rows = look_defaulted flag_options name rows

or_true_left : (a b : Bool) → a ≡ true → (a || b) ≡ true
or_true_left a b e = rw e refl

or_true_right : (a b : Bool) → b ≡ true → (a || b) ≡ true
or_true_right true b e = refl
or_true_right false b e = e

-- a name that is none of the flags has no such row
no_default_of : (flags : List Text) (name : Text) → ((flag : Text) → is_in flags flag ≡ true → bytes_eq flag name ≡ false) → default_of flags name ≡ None
no_default_of [] name differ = refl
no_default_of (flag ∷ flags) name differ =
    let here : bytes_eq flag name ≡ false = differ flag (or_true_left (bytes_eq flag flag) (is_in flags flag) ((bytes_eq-Decides flag flag).1 refl)) in
    rw here (no_default_of flags name (λ other h. differ other (or_true_right (bytes_eq other flag) (is_in flags other) h)))

-- ---- faults after the walk

abbrev HasNoDefaultFault : List Rule → Type 0
HasNoDefaultFault [] = Unit {0}
HasNoDefaultFault (a ∷ rest) = (given_default_fault a a.defaults ≡ []) × HasNoDefaultFault rest

no_defaults : (rules : List Rule) → HasNoDefaultFault rules → (rows : List Row) → defaults_fault rows rules ≡ []
unfolding defaults_fault
no_defaults [] h rows = refl
no_defaults (a ∷ rest) h rows =
    rw (h.0, same_cond) (no_defaults rest h.1 (with_default rows a))

guard_map : {X Y : Type 0} (kinds : Kinds) (f : X → Y) (x : X) → guard kinds (Some (f x)) ≡ option_map f (guard kinds (Some x))
guard_map [] f x = refl
guard_map (k ∷ kinds) f x = refl

-- after the walk and its last use, nothing fails
level_is : (words : List Text) → level_fault spatch [] nothing_held words false []
    ≡ or_else (walk_fault spatch [] (walk_from nothing_held) words)
    (settle_fault spatch.rules spatch.args_override_self (fold (walked spatch.rules []) (walk_from nothing_held) words).held)
unfolding spatch_app
level_is words =
    let end = fold (walked spatch.rules []) (walk_from nothing_held) words in
    let W = walk_fault spatch [] (walk_from nothing_held) words in
    let S = settle_fault spatch.rules spatch.args_override_self end.held in
    let defaults : defaults_fault (settled_rows spatch.rules end.held.pending end.held.rows) spatch_rules ≡ [] =
    no_defaults spatch_rules (refl, (refl, (refl, (refl, (refl, (refl, (refl, (refl, (refl, (refl, (refl, (refl, (refl, (refl, (refl, tt)))))))))))))))
    (settled_rows spatch.rules end.held.pending end.held.rows) in
    ap (λ d. or_else W (or_else S (or_else d []))) defaults ∙ ap (or_else W) (or_none S)

-- no word names a subcommand
at_stop : (words : List Text) (stop : Option (Text × List Text))
    → level_fault spatch [] nothing_held words (is_some (entered (built spatch_app) stop)) (entered_fault (built spatch_app) stop)
    ≡ or_else (walk_fault spatch [] (walk_from nothing_held) words)
    (settle_fault spatch.rules spatch.args_override_self (fold (walked spatch.rules []) (walk_from nothing_held) words).held)
unfolding spatch_app
at_stop words None = level_is words
at_stop words (Some p) = level_is words

fault_is : (words : List Text) → fault_of spatch_app words
    ≡ or_else (walk_fault spatch [] (walk_from nothing_held) words)
    (settle_fault spatch.rules spatch.args_override_self (fold (walked spatch.rules []) (walk_from nothing_held) words).held)
unfolding spatch_app
fault_is words = at_stop words (fold (walked spatch.rules []) (walk_from nothing_held) words).stopped

pub clap_law : (words : List Text) → list_all is_utf8 words ≡ true → guard (fault_of spatch_app words) (Some (matches_of spatch_app words))
    ≡ option_map with_flags (option_and_then (put_all []) (parts_from words None))
unfolding spatch_app
clap_law words text =
    let end = fold (walked spatch.rules []) (walk_from nothing_held) words in
    let W = walk_fault spatch [] (walk_from nothing_held) words in
    let S = settle_fault spatch.rules spatch.args_override_self end.held in
    let R = settled_rows spatch.rules end.held.pending end.held.rows in
    ap (λ k. guard k (Some (matches_of spatch_app words))) (fault_is words)
    ∙ (ap (λ r. guard (or_else W S) (Some r)) (ended_is R)
    ∙ (guard_map (or_else W S) with_flags R
    ∙ ap (option_map with_flags) (guard_or W S (Some R) ∙ (says_walk spatch (walk_from nothing_held) words ∙ walk_says spatch spatch_serves words text))))

-- ---- options from rows

value_at : (name : Text) → bytes_eq (codes "FILE") name ≡ false → ((flag : Text) → is_in flag_options flag ≡ true → bytes_eq flag name ≡ false)
    → (f : Found) (parts : List Part) (end : List Row) → AreKnown parts → put_all [] parts ≡ Some end → rows_of f ≡ with_flags end
    → value_of name parts ≡ first_value f name
value_at name other differ f parts end known put rows =
    let none : default_of flag_options name ≡ None = no_default_of flag_options name differ in
    let plain : look name (with_flags end) ≡ look name end = look_ended name end ∙ (ap (first_some (look name end)) none ∙ none_first (look name end)) in
    sym (first_value-rows f name
    ∙ (ap (first_of name) rows
    ∙ (ap (option_and_then (λ r. slice_get r.values 0)) (plain ∙ look_all name other parts [] end put)
    ∙ value_found name other differ parts known)))

abbrev read_row : Option Row → Option Text
read_row o = option_and_then row_text o

flag_at : (name : Text) → bytes_eq (codes "FILE") name ≡ false → ((valued : Text) → is_in valued_options valued ≡ true → bytes_eq valued name ≡ false)
    → (f : Found) (parts : List Part) (end : List Row) → AreKnown parts → put_all [] parts ≡ Some end → rows_of f ≡ with_flags end
    → one_text f name ≡ read_row (first_some (flag_row name (has_flag name parts)) (default_of flag_options name))
flag_at name other differ f parts end known put rows =
    one_text-rows f name ∙ (ap (one_of name) rows
    ∙ ap read_row (look_ended name end ∙ ap (λ o. first_some o (default_of flag_options name))
    (look_all name other parts [] end put ∙ flag_found name other differ parts known)))

-- a flag reads as what was given, if its row is there by itself
abbrev IsRead : Text → Type 0
IsRead name = (given : Bool) → read_row (first_some (flag_row name given) (default_of flag_options name)) ≡ Some (bool_text given)

witnesses_read : IsRead (codes "witnesses")
witnesses_read true = refl
witnesses_read false = refl

in_place_read : IsRead (codes "in-place")
in_place_read true = refl
in_place_read false = refl

check_read : IsRead (codes "check")
check_read true = refl
check_read false = refl

quiet_read : IsRead (codes "quiet")
quiet_read true = refl
quiet_read false = refl

tidy_read : IsRead (codes "tidy")
tidy_read true = refl
tidy_read false = refl

help_read : IsRead (codes "help")
help_read true = refl
help_read false = refl

version_read : IsRead (codes "version")
version_read true = refl
version_read false = refl

files_look : (o : Option Row) → option_map_or (λ vs. vs) (option_map (λ r. r.values) o) [] ≡ option_map_or (λ r. r.values) o []
files_look None = refl
files_look (Some r) = refl

map_or : {X Y : Type 0} (f : X → Y) (o : Option X) (d : Y) → option_map_or f o d ≡ option_map_or (λ y. y) (option_map f o) d
map_or f None d = refl
map_or f (Some x) d = refl

files_found : (f : Found) (parts : List Part) (end : List Row) → AreKnown parts → put_all [] parts ≡ Some end → rows_of f ≡ with_flags end
    → option_map_or raw_values (matched_of f (codes "FILE")) [] ≡ files_in parts
files_found f parts end known put rows =
    let plain : look (codes "FILE") (with_flags end) ≡ look (codes "FILE") end =
    look_ended (codes "FILE") end ∙ none_first (look (codes "FILE") end) in
    map_or raw_values (matched_of f (codes "FILE")) []
    ∙ (ap (λ o. option_map_or (λ y. y) o []) (raw_values-rows f (codes "FILE") ∙ ap (all_of (codes "FILE")) rows)
    ∙ (files_look (look (codes "FILE") (with_flags end))
    ∙ (ap (λ o. option_map_or (λ r. r.values) o []) plain
    ∙ files_all parts known [] end put)))

-- a name differs from each flag's
abbrev DiffersFrom : Text → List Text → Type 0
DiffersFrom name names = OfEach (λ n. bytes_eq n name ≡ false) names

no_flag : (name : Text) → DiffersFrom name flag_options → (flag : Text) → is_in flag_options flag ≡ true → bytes_eq flag name ≡ false
no_flag name differs flag = of_one (λ n. bytes_eq n name ≡ false) flag_options flag differs

no_valued : (name : Text) → DiffersFrom name valued_options → (valued : Text) → is_in valued_options valued ≡ true → bytes_eq valued name ≡ false
no_valued name differs valued = of_one (λ n. bytes_eq n name ≡ false) valued_options valued differs

-- ---- whole parses

abbrev made : (sp_file iso_file define jobs generate functions unread : Option Text) (witnesses in_place check quiet tidy help version : Bool)
    (files : List Text) → Options
made sp_file iso_file define jobs generate functions unread witnesses in_place check quiet tidy help version files = record {
  sp_file = sp_file;
  iso_file = iso_file;
  define = define;
  jobs = jobs;
  generate = generate;
  functions = functions;
  unread = unread;
  witnesses = witnesses;
  in_place = in_place;
  check = check;
  quiet = quiet;
  tidy = tidy;
  help = help;
  version = version;
  files = files;
}

same_made : (a1 a2 a3 a4 a5 a6 a7 b1 b2 b3 b4 b5 b6 b7 : Option Text) (a8 a9 a10 a11 a12 a13 a14 b8 b9 b10 b11 b12 b13 b14 : Bool)
    (a15 b15 : List Text) → a1 ≡ b1 → a2 ≡ b2 → a3 ≡ b3 → a4 ≡ b4 → a5 ≡ b5 → a6 ≡ b6 → a7 ≡ b7
    → a8 ≡ b8 → a9 ≡ b9 → a10 ≡ b10 → a11 ≡ b11 → a12 ≡ b12 → a13 ≡ b13 → a14 ≡ b14 → a15 ≡ b15
    → made a1 a2 a3 a4 a5 a6 a7 a8 a9 a10 a11 a12 a13 a14 a15 ≡ made b1 b2 b3 b4 b5 b6 b7 b8 b9 b10 b11 b12 b13 b14 b15
same_made a1 a2 a3 a4 a5 a6 a7 b1 b2 b3 b4 b5 b6 b7 a8 a9 a10 a11 a12 a13 a14 b8 b9 b10 b11 b12 b13 b14 a15 b15 e1 e2 e3 e4 e5 e6 e7
    e8 e9 e10 e11 e12 e13 e14 e15 =
    rw (e1, e2, e3, e4, e5, e6, e7, e8, e9, e10, e11, e12, e13, e14, e15) refl

are_collected : (f : Found) (o : Options) (parts : List Part) (end : List Row) → IsFound f o → AreKnown parts → put_all [] parts ≡ Some end
    → rows_of f ≡ with_flags end
    → o ≡ collected parts
are_collected f o parts end found known put rows =
    let sp_file : o.sp_file ≡ value_of (codes "sp-file") parts = found.sp_file
    ∙ sym (value_at (codes "sp-file") refl (no_flag (codes "sp-file") (refl, (refl, (refl, (refl, (refl, (refl, (refl, tt)))))))) f parts end known put rows) in
    let iso_file : o.iso_file ≡ value_of (codes "iso-file") parts = found.iso_file
    ∙ sym (value_at (codes "iso-file") refl (no_flag (codes "iso-file")
    (refl, (refl, (refl, (refl, (refl, (refl, (refl, tt)))))))) f parts end known put rows) in
    let define : o.define ≡ value_of (codes "define") parts = found.define
    ∙ sym (value_at (codes "define") refl (no_flag (codes "define") (refl, (refl, (refl, (refl, (refl, (refl, (refl, tt)))))))) f parts end known put rows) in
    let jobs : o.jobs ≡ value_of (codes "jobs") parts = found.jobs
    ∙ sym (value_at (codes "jobs") refl (no_flag (codes "jobs") (refl, (refl, (refl, (refl, (refl, (refl, (refl, tt)))))))) f parts end known put rows) in
    let generate : o.generate ≡ value_of (codes "generate") parts = found.generate
    ∙ sym (value_at (codes "generate") refl (no_flag (codes "generate")
    (refl, (refl, (refl, (refl, (refl, (refl, (refl, tt)))))))) f parts end known put rows) in
    let functions : o.functions ≡ value_of (codes "functions") parts = found.functions
    ∙ sym (value_at (codes "functions") refl
    (no_flag (codes "functions") (refl, (refl, (refl, (refl, (refl, (refl, (refl, tt)))))))) f parts end known put rows) in
    let unread : o.unread ≡ value_of (codes "unread") parts = found.unread
    ∙ sym (value_at (codes "unread") refl (no_flag (codes "unread") (refl, (refl, (refl, (refl, (refl, (refl, (refl, tt)))))))) f parts end known put rows) in
    let witnesses : o.witnesses ≡ has_flag (codes "witnesses") parts = found.witnesses (has_flag (codes "witnesses") parts)
    (flag_at (codes "witnesses") refl (no_valued (codes "witnesses") (refl, (refl, (refl, (refl, (refl, (refl, (refl, tt)))))))) f parts end known put rows
    ∙ witnesses_read (has_flag (codes "witnesses") parts)) in
    let in_place : o.in_place ≡ has_flag (codes "in-place") parts = found.in_place (has_flag (codes "in-place") parts)
    (flag_at (codes "in-place") refl (no_valued (codes "in-place") (refl, (refl, (refl, (refl, (refl, (refl, (refl, tt)))))))) f parts end known put rows
    ∙ in_place_read (has_flag (codes "in-place") parts)) in
    let check : o.check ≡ has_flag (codes "check") parts = found.check (has_flag (codes "check") parts)
    (flag_at (codes "check") refl (no_valued (codes "check") (refl, (refl, (refl, (refl, (refl, (refl, (refl, tt)))))))) f parts end known put rows
    ∙ check_read (has_flag (codes "check") parts)) in
    let quiet : o.quiet ≡ has_flag (codes "quiet") parts = found.quiet (has_flag (codes "quiet") parts)
    (flag_at (codes "quiet") refl (no_valued (codes "quiet") (refl, (refl, (refl, (refl, (refl, (refl, (refl, tt)))))))) f parts end known put rows
    ∙ quiet_read (has_flag (codes "quiet") parts)) in
    let tidy : o.tidy ≡ has_flag (codes "tidy") parts = found.tidy (has_flag (codes "tidy") parts)
    (flag_at (codes "tidy") refl (no_valued (codes "tidy") (refl, (refl, (refl, (refl, (refl, (refl, (refl, tt)))))))) f parts end known put rows
    ∙ tidy_read (has_flag (codes "tidy") parts)) in
    let help : o.help ≡ has_flag (codes "help") parts = found.help (has_flag (codes "help") parts)
    (flag_at (codes "help") refl (no_valued (codes "help") (refl, (refl, (refl, (refl, (refl, (refl, (refl, tt)))))))) f parts end known put rows
    ∙ help_read (has_flag (codes "help") parts)) in
    let version : o.version ≡ has_flag (codes "version") parts = found.version (has_flag (codes "version") parts)
    (flag_at (codes "version") refl (no_valued (codes "version") (refl, (refl, (refl, (refl, (refl, (refl, (refl, tt)))))))) f parts end known put rows
    ∙ version_read (has_flag (codes "version") parts)) in
    let files : o.files ≡ files_in parts = found.files ∙ files_found f parts end known put rows in
    same_made _ _ _ _ _ _ _ _ _ _ _ _ _ _ _ _ _ _ _ _ _ _ _ _ _ _ _ _ _ _ sp_file iso_file define jobs generate functions unread
    witnesses in_place check quiet tidy help version files

no_names : (name : Text) → bytes_eq (codes "FILE") name ≡ false → false ≡ false
no_names name h = refl

-- by what the parts make of an empty list of rows
by_parts : (f : Found) (o : Options) → IsFound f o → (parts : Option (List Part)) → IfSome parts AreKnown
    → Some (rows_of f) ≡ option_map with_flags (option_and_then (put_all []) parts) → Some o ≡ option_and_then options_in parts
by_parts f o found None known e = absurd (none-some (rows_of f) (sym e))
by_parts f o found (Some parts) known e = elim (put_all [] parts) as (λ r. put_all [] parts ≡ r → Some (rows_of f) ≡ option_map with_flags r
    → Some o ≡ options_in parts) [
      | None ↦ λ put same. absurd (none-some (rows_of f) (sym same))
      | Some end ↦ λ put same.
          let new : are_new [] parts ≡ true = sym (some_all parts known [] [] no_names) ∙ ap is_some put in
          rw new (ap Some (are_collected f o parts end found known put (same_Some (rows_of f) (with_flags end) same)))
    ] refl e

pub options_found : (words : List Text) → list_all is_utf8 words ≡ true → (f : Found) (o : Options) → IsFound f o → fault_of spatch_app words ≡ []
    → rows_of f ≡ matches_of spatch_app words
    → Some o ≡ options_of words
unfolding options_of
options_found words text f o found fault rows =
    by_parts f o found (parts_from words None) (parts_known words) (ap Some rows ∙ (ap (λ k. guard k (Some (matches_of spatch_app words))) (sym fault)
    ∙ clap_law words text))

none_left : (parts : Option (List Part)) → IfSome parts AreKnown → None ≡ option_map with_flags (option_and_then (put_all []) parts)
    → None ≡ option_and_then options_in parts
none_left None known e = refl
none_left (Some parts) known e = elim (put_all [] parts) as (λ r. put_all [] parts ≡ r → None ≡ option_map with_flags r → None ≡ options_in parts) [
  | None ↦ λ put same.
      let old : are_new [] parts ≡ false = sym (some_all parts known [] [] no_names) ∙ ap is_some put in
      rw old refl
  | Some end ↦ λ put same. absurd (none-some (with_flags end) same)
] refl e

refused_by : (kinds : Kinds) (rows : List Row) → (kinds ≡ [] → ⊥) → guard kinds (Some rows) ≡ None
refused_by [] rows h = absurd (h refl)
refused_by (k ∷ kinds) rows h = refl

pub options_refused : (words : List Text) → list_all is_utf8 words ≡ true → (fault_of spatch_app words ≡ [] → ⊥) → None ≡ options_of words
unfolding options_of
options_refused words text fault =
    none_left (parts_from words None) (parts_known words) (sym (refused_by (fault_of spatch_app words) (matches_of spatch_app words) fault)
    ∙ clap_law words text)
