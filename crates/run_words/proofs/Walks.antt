-- The walk of clap over the words gives what the grammar says.
use Rattle.std.proofs.Common.{◌≡◌, ◌∙◌, refl, sym, ap, subst, ℕ, Bool, true, false, ◌&&◌, ◌==◌, List, [], ◌∷◌, map, Option, Some, None, codes}
use Rattle.std.proofs.Common.{encode_utf8_all, slice_get, option_map, option_and_then, inl, inr, true≢false, fold}
use Rattle.std.specs.List.{list_all}
use Rattle.std.specs.Char.{encode_utf8}
use Rattle.std.specs.Str.{bytes_eq, chars, is_utf8, all_scalars}
use Rattle.std.proofs.lemmas.Bool.{and_parts, cases_Bool, cases_eq, ne_eqb}
use Rattle.std.proofs.lemmas.Slice.Eq.{bytes_eq-Decides}
use Rattle.c_lexer.specs.Words.{is_in}
use Rattle.clap.specs.declared.error.kind.ErrorKind.TheVariants as kind
use Rattle.clap.specs.Lexer.{long_of, short_of}
use Rattle.clap.specs.Kinds.{Kinds, or_else}
use Rattle.clap.specs.Walk.{Held, Row, Rule, Step, Text, Waiting, Walk, arg_by_id, arg_by_index, arg_by_long, after_step, idle, long_word, option}
use Rattle.clap.specs.Walk.{plain_word, positional, settled_rows, subcommand_met, to_positional, used, value, walked}
use Rattle.clap.specs.Faults.{bundle_fault, flags_fault, long_fault, settle_fault, step_fault, turn_fault, use_fault, walk_fault}
use Rattle.clap.specs.Simple.{Shape}
use Rattle.run_words.specs.Parts.{Part, Valued, Flag, File, Word, Unknown, after_word, after_sign, flag_options, is_option, name_part, named, parts_from}
use Rattle.run_words.specs.Parts.{value_part, valued_options}
use Rattle.run_words.proofs.Rules.{Serves, file_rule, flag_rule, valued_rule}

-- ---- a step that may fail

abbrev pub guard : {X : Type 0} → Kinds → Option X → Option X
guard [] x = x
guard (k ∷ kinds) x = None

guard_then : {X Y : Type 0} (kinds : Kinds) (x : X) (next : X → Option Y) → guard kinds (next x) ≡ option_and_then next (guard kinds (Some x))
guard_then [] x next = refl
guard_then (k ∷ kinds) x next = refl

pub guard_or : {X : Type 0} (first second : Kinds) (x : Option X) → guard (or_else first second) x ≡ guard first (guard second x)
guard_or [] second x = refl
guard_or (k ∷ kinds) second x = refl

guard_none : {X : Type 0} (kinds : Kinds) → ◌≡◌ {A = Option X} (guard kinds None) None
guard_none [] = refl
guard_none (k ∷ kinds) = refl

pub or_none : (kinds : Kinds) → or_else kinds [] ≡ kinds
or_none [] = refl
or_none (k ∷ kinds) = refl

none_then : {X Y : Type 0} (o : Option X) → ◌≡◌ {A = Option Y} (option_and_then (λ x. None) o) None
none_then None = refl
none_then (Some x) = refl

same_then : {X Y : Type 0} (f g : X → Option Y) (o : Option X) → ((x : X) → f x ≡ g x) → option_and_then f o ≡ option_and_then g o
same_then f g None h = refl
same_then f g (Some x) h = h x

never : (b : Bool) → (b && false) ≡ false
never true = refl
never false = refl

-- ---- parts as clap uses them

abbrev pub id_of : Part → Text
id_of (Valued name v) = name
id_of (Flag name) = name
id_of (File word) = codes "FILE"

abbrev pub values_of : Part → List Text
values_of (Valued name v) = v ∷ []
values_of (Flag name) = []
values_of (File word) = word ∷ []

abbrev pub rule_for : Part → Rule
rule_for (Valued name v) = valued_rule name
rule_for (Flag name) = flag_rule name
rule_for (File word) = file_rule

abbrev pub put : Part → List Row → Option (List Row)
put part rows = guard (use_fault false (rule_for part) (values_of part) rows) (Some (used (rule_for part) (values_of part) rows))

unfoldable pub put_all : List Row → List Part → Option (List Row)
put_all rows [] = Some rows
put_all rows (part ∷ parts) = option_and_then (λ r. put_all r parts) (put part rows)

abbrev pub put_held : List Row → Option Part → Option (List Row)
put_held rows None = Some rows
put_held rows (Some part) = put part rows

abbrev pub pended : Option Part → Option (Text × List Text)
pended None = None
pended (Some part) = Some (id_of part, values_of part)

abbrev pub IsHeld : List Rule → Option Part → Type 0
IsHeld c None = Unit {0}
IsHeld c (Some part) = arg_by_id c (id_of part) ≡ Some (rule_for part)

put_step : (part : Part) (rows : List Row) (parts : Option (List Part))
    → guard (use_fault false (rule_for part) (values_of part) rows) (option_and_then (put_all (used (rule_for part) (values_of part) rows)) parts)
    ≡ option_and_then (put_all rows) (option_map (λ ps. part ∷ ps) parts)
unfolding put_all
put_step part rows None = guard_none (use_fault false (rule_for part) (values_of part) rows)
put_step part rows (Some parts) = guard_then (use_fault false (rule_for part) (values_of part) rows) (used (rule_for part) (values_of part) rows)
    (λ r. put_all r parts)

-- a part that is held, and then those of a list
held_step : (part : Part) (rows : List Row) (parts : Option (List Part))
    → option_and_then (λ r. option_and_then (put_all r) parts) (put part rows) ≡ option_and_then (put_all rows) (option_map (λ ps. part ∷ ps) parts)
unfolding put_all
held_step part rows None = none_then (put part rows)
held_step part rows (Some parts) = refl

-- ---- the result of a walk: nothing if it fails

unfoldable pub says : Shape → Walk → List Text → Option (List Row)
says s w [] = guard (settle_fault s.rules s.args_override_self w.held) (Some (settled_rows s.rules w.held.pending w.held.rows))
says s w (word ∷ words) = guard (turn_fault s [] w word) (says s (walked s.rules [] w word) words)

pub says_walk : (s : Shape) (w : Walk) (words : List Text)
    → guard (walk_fault s [] w words) (guard (settle_fault s.rules s.args_override_self (fold (walked s.rules []) w words).held)
    (Some (settled_rows s.rules (fold (walked s.rules []) w words).held.pending (fold (walked s.rules []) w words).held.rows)))
    ≡ says s w words
unfolding says walk_fault
says_walk s w [] = refl
says_walk s w (word ∷ words) =
    guard_or (turn_fault s [] w word) (walk_fault s [] (walked s.rules [] w word) words) _
    ∙ ap (λ x. guard (turn_fault s [] w word) x) (says_walk s (walked s.rules [] w word) words)

-- ---- words by their first bytes

abbrev pub OnPlain : (Text → Type 0) → Type 0
OnPlain P = (word : Text) → is_option word ≡ false → bytes_eq word (45 ∷ 45 ∷ []) ≡ false → long_of word ≡ None → short_of word ≡ None → P word

by_second : (P : Text → Type 0) → ((b : ℕ) (bytes : Text) → (b == 45) ≡ false → P (45 ∷ b ∷ bytes)) → P (45 ∷ 45 ∷ [])
    → ((b : ℕ) (bytes : Text) → P (45 ∷ 45 ∷ b ∷ bytes)) → (b : ℕ) (bytes : Text) → P (45 ∷ b ∷ bytes)
by_second P short dashes long b bytes = elim (cases_eq b 45) [
  | inl e ↦ subst (λ x. P (45 ∷ x ∷ bytes)) (sym e) (elim bytes as (λ bs. P (45 ∷ 45 ∷ bs)) [ [] ↦ dashes | c ∷ cs ↦ long c cs ])
  | inr ne ↦ short b bytes (ne_eqb b 45 ne)
]

by_first : (P : Text → Type 0) → OnPlain P → ((b : ℕ) (bytes : Text) → P (45 ∷ b ∷ bytes)) → (a b : ℕ) (bytes : Text) → P (a ∷ b ∷ bytes)
by_first P plain sign a b bytes = elim (cases_eq a 45) [
  | inl e ↦ subst (λ x. P (x ∷ b ∷ bytes)) (sym e) (sign b bytes)
  | inr ne ↦ let no : (a == 45) ≡ false = ne_eqb a 45 ne in plain (a ∷ b ∷ bytes) no (rw no refl) (rw no refl) (rw no refl)
]

one_byte : (P : Text → Type 0) → OnPlain P → (a : ℕ) → P (a ∷ [])
one_byte P plain a = elim (cases_eq a 45) [
  | inl e ↦ subst (λ x. P (x ∷ [])) (sym e) (plain (45 ∷ []) refl refl refl refl)
  | inr ne ↦ let no : (a == 45) ≡ false = ne_eqb a 45 ne in plain (a ∷ []) refl (rw no refl) (rw no refl) (rw no refl)
]

by_word : (P : Text → Type 0) → OnPlain P → ((b : ℕ) (bytes : Text) → (b == 45) ≡ false → P (45 ∷ b ∷ bytes)) → P (45 ∷ 45 ∷ [])
    → ((b : ℕ) (bytes : Text) → P (45 ∷ 45 ∷ b ∷ bytes)) → (word : Text) → P word
by_word P plain short dashes long [] = plain [] refl refl refl refl
by_word P plain short dashes long (a ∷ []) = one_byte P plain a
by_word P plain short dashes long (a ∷ b ∷ bytes) = by_first P plain (by_second P short dashes long) a b bytes

-- a word with one `-` followed by another byte isn't a part
sign_unknown : (b : ℕ) (bytes : Text) → (b == 45) ≡ false → after_sign (b ∷ bytes) ≡ Unknown
sign_unknown b [] h = rw h refl
sign_unknown b (c ∷ bytes) h = rw h refl

short_parts : (b : ℕ) (bytes : Text) (words : List Text) → (b == 45) ≡ false → parts_from ((45 ∷ b ∷ bytes) ∷ words) None ≡ None
unfolding parts_from
short_parts b bytes words h = ap (λ kind. after_word kind (45 ∷ b ∷ bytes) words (parts_from words)) (sign_unknown b bytes h)

-- a text after a `-` has a first character
first_of_chars : (cs : List ℕ) (b : ℕ) (bytes : Text) → (all_scalars (45 ∷ cs) && bytes_eq (encode_utf8_all (45 ∷ cs)) (45 ∷ b ∷ bytes)) ≡ true
    → (x : ℕ) × (slice_get cs 0 ≡ Some x)
unfolding encode_utf8
first_of_chars [] b bytes h = let bad : false ≡ true = h in absurd (true≢false (sym bad))
first_of_chars (c ∷ cs) b bytes h = (c, refl)

first_char : (b : ℕ) (bytes : Text) → is_utf8 (45 ∷ b ∷ bytes) ≡ true → (x : ℕ) × (slice_get (chars (b ∷ bytes)) 0 ≡ Some x)
unfolding is_utf8 chars
first_char b bytes h = first_of_chars (chars (b ∷ bytes)) b bytes h

-- ---- one word after another

module _ (s : Shape) (serves : Serves s) where
  abbrev at : List Row → Option Part → Waiting → Bool → Walk
  at rows p w t = record { held = record { rows = rows; pending = pended p; skip = 0 }; waiting = w; position = 1; is_trailing = t; stopped = None }

  -- an option expects its value
  abbrev awaiting : List Row → Text → Waiting → Bool → Walk
  awaiting rows name w t = record {
    held = record {
      rows = rows;
      pending = Some
          (name, []);
      skip = 0;
    };
    waiting = w;
    position = 1;
    is_trailing = t;
    stopped = None;
  }

  record Rests (w : Waiting) : Type 0 where
    no_command : (word : Text) → subcommand_met [] w word ≡ None
    takes_none : (word : Text) (h : Held) → plain_word s.rules w word h ≡ (h, value)

  idle_rests : Rests idle
  idle_rests = record { no_command = λ word. refl; takes_none = λ word h. refl }

  positional_rests : Rests positional
  positional_rests = record { no_command = λ word. refl; takes_none = λ word h. refl }

  settles : {X : Type 0} (rows : List Row) (p : Option Part) → IsHeld s.rules p → (next : List Row → Option X)
      → guard (settle_fault s.rules s.args_override_self (record { rows = rows; pending = pended p; skip = 0 })) (next (settled_rows s.rules (pended p) rows))
      ≡ option_and_then next (put_held rows p)
  settles rows None h next = refl
  settles rows (Some part) h next = rw (serves.once, h) (guard_then (use_fault false (rule_for part) (values_of part) rows) (used (rule_for part)
      (values_of part) rows) next)

  -- a word that names a file
  file_fault : (rows : List Row) (p : Option Part) → step_fault s 1 (record { rows = rows; pending = pended p; skip = 0 }) value
      ≡ settle_fault s.rules s.args_override_self (record { rows = rows; pending = pended p; skip = 0 })
  file_fault rows p = rw (serves.place, never) refl

  file_walk : (rows : List Row) (p : Option Part) (w : Waiting) (t : Bool) (word : Text)
      → to_positional s.rules (arg_by_index s.rules 1) word (at rows p w t) (record { rows = rows; pending = pended p; skip = 0 })
      ≡ at (settled_rows s.rules (pended p) rows) (Some (File word)) positional t
  file_walk rows p w true word = rw (serves.place, never) refl
  file_walk rows p w false word = rw (serves.place, never) refl

  -- after `--`
  trail : (words : List Text) (rows : List Row) (p : Option Part) (w : Waiting) → IsHeld s.rules p
      → says s (at rows p w true) words ≡ option_and_then (λ r. put_all r (map File words)) (put_held rows p)
  unfolding says put_all walked
  trail [] rows p w h = settles rows p h (λ r. Some r)
  trail (word ∷ words) rows p w h =
      let after = settled_rows s.rules (pended p) rows in
      let fault = file_fault rows p in
      let step = file_walk rows p w true word in
      let rest = trail words after (Some (File word)) positional serves.file_id in
      rw (fault, step, rest) (settles rows p h (λ r. option_and_then (λ q. put_all q (map File words)) (put (File word) r)))

  -- an option without its value is refused at the end, or because of what follows
  lacks : (rows : List Row) (name : Text) → is_in valued_options name ≡ true → {X : Type 0} (other : Kinds) (x : Option X)
      → guard (or_else (settle_fault s.rules s.args_override_self (record { rows = rows; pending = Some (name, []); skip = 0 })) other) x ≡ None
  lacks rows name k other x = rw (serves.once, serves.valued_id name k) refl

  lacks_end : (rows : List Row) (name : Text) → is_in valued_options name ≡ true → {X : Type 0} (x : Option X)
      → guard (settle_fault s.rules s.args_override_self (record { rows = rows; pending = Some (name, []); skip = 0 })) x ≡ None
  lacks_end rows name k x = rw (serves.once, serves.valued_id name k) refl

  stuck : (words : List Text) (rows : List Row) (name : Text) (w : Waiting) → is_in valued_options name ≡ true
      → says s (awaiting rows name w true) words ≡ None
  unfolding says walked
  stuck [] rows name w k = lacks_end rows name k _
  stuck (word ∷ words) rows name w k = rw (serves.place, never) (lacks_end rows name k _)

  -- a bundle of short options: none exist
  bundle_is : (b : ℕ) (bytes : Text) (rows : List Row) (pending : Option (Text × List Text)) → is_utf8 (45 ∷ b ∷ bytes) ≡ true
      → bundle_fault s.rules s.args_override_self (b ∷ bytes) (record { rows = rows; pending = pending; skip = 0 }) ≡ kind.UnknownArgument ∷ []
  unfolding flags_fault
  bundle_is b bytes rows pending text =
      let c = first_char b bytes text in
      rw (c.1, serves.no_short c.0) refl

  -- ---- a long option while no option expects its value

  abbrev met_of : Text → Option Text → Text → Waiting → List Row → Option Part → Held × Step
  met_of name v word w rows p = long_word s.rules w word name v (record { rows = rows; pending = pended p; skip = 0 })

  -- the walk's result for such a word and those after it
  abbrev says_long : Text → Option Text → Text → Waiting → List Row → Option Part → List Text → Option (List Row)
  says_long name v word w rows p words =
      let met = met_of name v word w rows p in
      guard (or_else (long_fault s.rules s.args_override_self (arg_by_long s.rules name) v (record { rows = rows; pending = pended p; skip = 0 }))
      (step_fault s 1 met.0 met.1))
      (says s (after_step s.rules word (at rows p w false) met.0 met.1) words)

  -- the grammar's result for it
  abbrev told : Word → Text → List Row → Option Part → List Text → Option (List Row)
  told kind word rows p words = option_and_then (λ r. option_and_then (put_all r) (after_word kind word words (parts_from words))) (put_held rows p)

  abbrev IsFree : List Text → Type 0
  IsFree words = (rows : List Row) (p : Option Part) (w : Waiting) → IsHeld s.rules p → Rests w
      → says s (at rows p w false) words ≡ option_and_then (λ r. option_and_then (put_all r) (parts_from words None)) (put_held rows p)

  abbrev IsAwaited : List Text → Type 0
  IsAwaited words = (rows : List Row) (name : Text) → is_in valued_options name ≡ true
      → says s (awaiting rows name (option name) false) words ≡ option_and_then (put_all rows) (parts_from words (Some name))

  -- a part that its word completes: its fault, and the walk from the rows with it
  completed : (part : Part) (rows : List Row) (p : Option Part) (words : List Text) → IsHeld s.rules p → IsFree words
      → guard (or_else (settle_fault s.rules s.args_override_self (record { rows = rows; pending = pended p; skip = 0 }))
      (use_fault false (rule_for part) (values_of part) (settled_rows s.rules (pended p) rows)))
      (says s (at (used (rule_for part) (values_of part) (settled_rows s.rules (pended p) rows)) None idle false) words)
      ≡ option_and_then (λ r. option_and_then (put_all r) (option_map (λ ps. part ∷ ps) (parts_from words None))) (put_held rows p)
  completed part rows p words h free =
      let F = settle_fault s.rules s.args_override_self (record { rows = rows; pending = pended p; skip = 0 }) in
      let R = settled_rows s.rules (pended p) rows in
      guard_or F (use_fault false (rule_for part) (values_of part) R) _
      ∙ (ap (λ x. guard F (guard (use_fault false (rule_for part) (values_of part) R) x)) (free (used (rule_for part)
      (values_of part) R) None idle tt idle_rests)
      ∙ (ap (guard F) (put_step part R (parts_from words None))
      ∙ settles rows p h (λ r. option_and_then (put_all r) (option_map (λ ps. part ∷ ps) (parts_from words None)))))

  long_valued : (name : Text) (v : Option Text) → is_in valued_options name ≡ true
      → (word : Text) (w : Waiting) (rows : List Row) (p : Option Part) (words : List Text)
      → IsHeld s.rules p → IsFree words → IsAwaited words → says_long name v word w rows p words ≡ told (named name v) word rows p words
  long_valued name None k word w rows p words h free awaited =
      let by_name = serves.valued_long name k in
      let R = settled_rows s.rules (pended p) rows in
      rw (by_name, k, or_none, awaited R name k) (settles rows p h (λ r. option_and_then (put_all r) (parts_from words (Some name))))
  long_valued name (Some v) k word w rows p words h free awaited =
      let by_name = serves.valued_long name k in
      let once = serves.once in
      rw (by_name, k, or_none, once) (rw once at (completed (Valued name v) rows p words h free))

  long_flag : (name : Text) (v : Option Text) → is_in valued_options name ≡ false → is_in flag_options name ≡ true
      → (word : Text) (w : Waiting) (rows : List Row) (p : Option Part) (words : List Text)
      → IsHeld s.rules p → IsFree words → says_long name v word w rows p words ≡ told (named name v) word rows p words
  long_flag name None n k word w rows p words h free =
      let by_name = serves.flag_long name k in
      let once = serves.once in
      rw (by_name, n, k, or_none, once) (rw once at (completed (Flag name) rows p words h free))
  long_flag name (Some v) n k word w rows p words h free =
      let by_name = serves.flag_long name k in
      rw (by_name, n) (sym (none_then (put_held rows p)))

  long_other : (name : Text) (v : Option Text) → is_in valued_options name ≡ false → is_in flag_options name ≡ false
      → (word : Text) (w : Waiting) (rows : List Row) (p : Option Part) (words : List Text)
      → says_long name v word w rows p words ≡ told (named name v) word rows p words
  long_other name None n m word w rows p words =
      let by_name = serves.other_long name n m in
      rw (by_name, n, m) (sym (none_then (put_held rows p)))
  long_other name (Some v) n m word w rows p words =
      let by_name = serves.other_long name n m in
      rw (by_name, n) (sym (none_then (put_held rows p)))

  long : (name : Text) (v : Option Text) (word : Text) (w : Waiting) (rows : List Row) (p : Option Part) (words : List Text)
      → IsHeld s.rules p → IsFree words → IsAwaited words → says_long name v word w rows p words ≡ told (named name v) word rows p words
  long name v word w rows p words h free awaited = elim (cases_Bool (is_in valued_options name)) [
    | inl k ↦ long_valued name v k word w rows p words h free awaited
    | inr n ↦ elim (cases_Bool (is_in flag_options name)) [
      | inl k ↦ long_flag name v n k word w rows p words h free
      | inr m ↦ long_other name v n m word w rows p words
    ]
  ]

  -- a long option while another option expects its value
  long_lacks : (name : Text) (v : Option Text) (rows : List Row) (waits : Text) → is_in valued_options waits ≡ true
      → {X : Type 0} (other : Kinds) (x : Option X)
      → guard (or_else (long_fault s.rules s.args_override_self (arg_by_long s.rules name) v (record {
        rows = rows;
        pending = Some
            (waits, []);
        skip = 0;
      })) other) x ≡ None
  long_lacks name v rows waits k other x = elim (cases_Bool (is_in valued_options name)) [
    | inl y ↦ let by_name = serves.valued_long name y in elim v as (λ o. guard (or_else (long_fault s.rules s.args_override_self
        (arg_by_long s.rules name) o (record { rows = rows; pending = Some (waits, []); skip = 0 })) other) x ≡ None) [
          | None ↦ rw (by_name) (lacks rows waits k other x)
          | Some u ↦ rw (by_name, serves.once, serves.valued_id waits k) refl
        ]
    | inr n ↦ elim (cases_Bool (is_in flag_options name)) [
      | inl y ↦ let by_name = serves.flag_long name y in elim v as (λ o. guard (or_else (long_fault s.rules s.args_override_self
          (arg_by_long s.rules name) o (record { rows = rows; pending = Some (waits, []); skip = 0 })) other) x ≡ None) [
            | None ↦ rw (by_name, serves.once, serves.valued_id waits k) refl
            | Some u ↦ rw (by_name) refl
          ]
      | inr m ↦ rw (serves.other_long name n m) refl
    ]
  ]

  -- ---- all words

  abbrev FreeAt : List Text → Text → Type 0
  FreeAt words word = is_utf8 word ≡ true → (rows : List Row) (p : Option Part) (w : Waiting) → IsHeld s.rules p → Rests w
      → says s (at rows p w false) (word ∷ words) ≡ option_and_then (λ r. option_and_then (put_all r) (parts_from (word ∷ words) None)) (put_held rows p)

  abbrev AwaitedAt : List Text → Text → Type 0
  AwaitedAt words word = is_utf8 word ≡ true → (rows : List Row) (name : Text) → is_in valued_options name ≡ true
      → says s (awaiting rows name (option name) false) (word ∷ words) ≡ option_and_then (put_all rows) (parts_from (word ∷ words) (Some name))

  free_plain : (words : List Text) → IsFree words → OnPlain (FreeAt words)
  unfolding says walked parts_from put_all
  free_plain words free word plain no_end no_long no_short text rows p w h rests =
      let R = settled_rows s.rules (pended p) rows in
      let command = rests.no_command word in
      let none = rests.takes_none word in
      let fault = file_fault rows p in
      let step = file_walk rows p w false word in
      let rest = free R (Some (File word)) positional serves.file_id positional_rests in
      rw (command, no_end, no_long, no_short, none, fault, step, rest, plain)
      (settles rows p h (λ r. option_and_then (λ q. option_and_then (put_all q) (parts_from words None)) (put (File word) r))
      ∙ same_then _ _ (put_held rows p) (λ r. held_step (File word) r (parts_from words None)))

  free_short : (words : List Text) → (b : ℕ) (bytes : Text) → (b == 45) ≡ false → FreeAt words (45 ∷ b ∷ bytes)
  unfolding says walked
  free_short words b bytes other text rows p w h rests =
      let command = rests.no_command (45 ∷ b ∷ bytes) in
      let none : option_and_then (λ r. option_and_then (put_all r) (parts_from ((45 ∷ b ∷ bytes) ∷ words) None)) (put_held rows p) ≡ None =
      ap (λ parts. option_and_then (λ r. option_and_then (put_all r) parts) (put_held rows p)) (short_parts b bytes words other)
      ∙ none_then (put_held rows p) in
      rw (command, other) (rw (other, bundle_is b bytes rows (pended p) text) (sym none))

  free_dashes : (words : List Text) → FreeAt words (45 ∷ 45 ∷ [])
  unfolding says walked parts_from
  free_dashes words text rows p w h rests =
      let command = rests.no_command (45 ∷ 45 ∷ []) in
      rw command (trail words rows p w h)

  free_long : (words : List Text) → IsFree words → IsAwaited words → (b : ℕ) (bytes : Text) → FreeAt words (45 ∷ 45 ∷ b ∷ bytes)
  unfolding says walked parts_from
  free_long words free awaited b bytes text rows p w h rests =
      let command = rests.no_command (45 ∷ 45 ∷ b ∷ bytes) in
      rw command (long (name_part (b ∷ bytes)) (value_part (b ∷ bytes)) (45 ∷ 45 ∷ b ∷ bytes) w rows p words h free awaited)

  awaited_plain : (words : List Text) → IsFree words → OnPlain (AwaitedAt words)
  unfolding says walked parts_from
  awaited_plain words free word plain no_end no_long no_short text rows name k =
      let by_id = serves.valued_id name k in
      let same : bytes_eq name name ≡ true = (bytes_eq-Decides name name).1 refl in
      let rest = free rows (Some (Valued name word)) idle by_id idle_rests in
      rw (no_end, no_long, no_short, by_id, same, plain) (rest ∙ held_step (Valued name word) rows (parts_from words None))

  awaited_short : (words : List Text) → (b : ℕ) (bytes : Text) → (b == 45) ≡ false → AwaitedAt words (45 ∷ b ∷ bytes)
  unfolding says walked parts_from
  awaited_short words b bytes other text rows name k = rw other (rw (other, bundle_is b bytes rows (Some (name, [])) text) refl)

  awaited_dashes : (words : List Text) → AwaitedAt words (45 ∷ 45 ∷ [])
  unfolding says walked parts_from
  awaited_dashes words text rows name k = stuck words rows name (option name) k

  awaited_long : (words : List Text) → (b : ℕ) (bytes : Text) → AwaitedAt words (45 ∷ 45 ∷ b ∷ bytes)
  unfolding says walked parts_from
  awaited_long words b bytes text rows name k = long_lacks (name_part (b ∷ bytes)) (value_part (b ∷ bytes)) rows name k _ _

  both : (words : List Text) → list_all is_utf8 words ≡ true → IsFree words × IsAwaited words
  unfolding says parts_from put_all
  both [] text = (λ rows p w h rests. settles rows p h (λ r. Some r), λ rows name k. lacks_end rows name k _)
  both (word ∷ words) text =
      let parts = and_parts _ _ text in
      let rest = both words parts.1 in (
        by_word (FreeAt words) (free_plain words rest.0) (free_short words) (free_dashes words) (free_long words rest.0 rest.1) word parts.0,
        by_word (AwaitedAt words) (awaited_plain words rest.0) (awaited_short words) (awaited_dashes words) (awaited_long words) word parts.0,
      )

  -- the walk from the first word gives what the parts of the words make of an empty list of rows
  pub walk_says : (words : List Text) → list_all is_utf8 words ≡ true → says s (at [] None idle false) words ≡ option_and_then (put_all [])
      (parts_from words None)
  walk_says words text = (both words text).0 [] None idle tt idle_rests
