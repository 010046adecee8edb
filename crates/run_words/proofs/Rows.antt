-- What the rows contain that clap made of parts.
use Rattle.std.proofs.Common.{◌≡◌, ◌∙◌, refl, sym, ap, Bool, true, false, cond, not, ◌&&◌, ◌||◌, List, [], ◌∷◌, ◌++◌, append_assoc, append-nil, Option}
use Rattle.std.proofs.Common.{Some, None, codes, find, is_some, slice_get, option_map, option_and_then, inl, inr}
use Rattle.std.specs.Str.{bytes_eq}
use Rattle.std.specs.Option.{option_map_or}
use Rattle.std.proofs.lemmas.Bool.{cases_Bool, cond-false, or_parts}
use Rattle.std.proofs.lemmas.Option.{none-some, same_Some}
use Rattle.std.proofs.lemmas.Slice.Eq.{bytes_eq-Decides}
use Rattle.c_lexer.specs.Words.{is_in}
use Rattle.clap.specs.Walk.{Row, Text, at_row, has_row, reading_by, with_values, more_values}
use Rattle.clap.specs.declared.parser.matches.ValueSource.TheVariants.{CommandLine}
use Rattle.run_words.specs.Parts.{Part, Valued, Flag, File, flag_options, valued_options}
use Rattle.run_words.specs.Options.{are_new, files_in, has_flag, value_of}
use Rattle.run_words.proofs.Rules.{bytes_eq_sym, flag_rule, file_rule, of_one, valued_rule}
use Rattle.run_words.proofs.Known.{AreKnown}
use Rattle.run_words.proofs.Walks.{id_of, put, put_all}

-- the row of an id
abbrev pub look : Text → List Row → Option Row
look name rows = find (λ r. bytes_eq r.id name) rows

abbrev pub first_some : {X : Type 0} → Option X → Option X → Option X
first_some None y = y
first_some (Some x) y = Some x

abbrev pub row_of_part : Part → Row
row_of_part (Valued name value) = record { id = name; values = value ∷ []; count = None; source = Some CommandLine; reading = reading_by (valued_rule name) }
row_of_part (Flag name) = record { id = name; values = codes "true" ∷ []; count = None; source = Some CommandLine; reading = reading_by (flag_rule name) }
row_of_part (File word) = record { id = codes "FILE"; values = word ∷ []; count = None; source = Some CommandLine; reading = reading_by file_rule }

-- ---- lists of rows

pub has_look : (name : Text) (rows : List Row) → has_row name rows ≡ is_some (look name rows)
has_look name [] = refl
has_look name (r ∷ rows) = elim (bytes_eq r.id name) as (λ b. (b || has_row name rows) ≡ is_some (cond b (Some r) (look name rows))) [
  | true ↦ refl
  | false ↦ has_look name rows
]

pub look_append : (name : Text) (rows : List Row) (row : Row) → look name (rows ++ row ∷ []) ≡ first_some (look name rows) (cond (bytes_eq row.id name)
    (Some row) None)
look_append name [] row = refl
look_append name (r ∷ rows) row = elim (bytes_eq r.id name) as (λ b. cond b (Some r) (look name (rows ++ row ∷ [])) ≡ first_some (cond b (Some r)
    (look name rows)) (cond (bytes_eq row.id name) (Some row) None)) [
      | true ↦ refl
      | false ↦ look_append name rows row
    ]

-- the change of a missing row
pub at_new : (name : Text) (change : Row → List Row) (missing rows : List Row) → has_row name rows ≡ false → at_row name change missing rows ≡ rows ++ missing
at_new name change missing [] h = refl
at_new name change missing (r ∷ rows) h =
    let parts = or_parts (bytes_eq r.id name) (has_row name rows) h in
    cond-false (bytes_eq r.id name) _ _ parts.0 ∙ ap (λ rs. r ∷ rs) (at_new name change missing rows parts.1)

appended : (name : Text) (change : Row → List Row) (row : Row) (rows : List Row) → has_row name rows ≡ false
    → at_row name change (row ∷ []) (at_row name (λ r. []) [] rows) ≡ rows ++ row ∷ []
appended name change row rows h =
    ap (at_row name change (row ∷ [])) (at_new name (λ r. []) [] rows h ∙ append-nil rows) ∙ at_new name change (row ∷ []) rows h

put_valued : (name value : Text) (rows : List Row) → put (Valued name value) rows ≡ cond (has_row name rows) None (Some (rows ++ row_of_part
    (Valued name value) ∷ []))
put_valued name value rows = elim (cases_Bool (has_row name rows)) [
  | inl e ↦ rw e refl
  | inr e ↦
      let row = row_of_part (Valued name value) in
      let made = appended name (more_values CommandLine (value ∷ [])) row rows e in
      rw e (ap Some made)
]

put_flag : (name : Text) (rows : List Row) → put (Flag name) rows ≡ cond (has_row name rows) None (Some (rows ++ row_of_part (Flag name) ∷ []))
put_flag name rows = elim (cases_Bool (has_row name rows)) [
  | inl e ↦ rw e refl
  | inr e ↦
      let row = row_of_part (Flag name) in
      let made = appended name (more_values CommandLine (codes "true" ∷ [])) row rows e in
      rw e (ap Some made)
]

abbrev filed : Text → List Row → List Row
filed word rows = with_values (codes "FILE") (reading_by file_rule) CommandLine (word ∷ []) rows

put_file : (word : Text) (rows : List Row) → put (File word) rows ≡ Some (filed word rows)
put_file word rows = refl

-- files don't change other rows
look_filed : (name word : Text) → bytes_eq (codes "FILE") name ≡ false → (rows : List Row) → look name (filed word rows) ≡ look name rows
look_filed name word other [] = rw other refl
look_filed name word other (r ∷ rows) = elim (cases_Bool (bytes_eq r.id (codes "FILE"))) [
  | inl e ↦
      let is_file : r.id ≡ codes "FILE" = (bytes_eq-Decides r.id (codes "FILE")).0 e in
      let no : bytes_eq r.id name ≡ false = ap (λ i. bytes_eq i name) is_file ∙ other in
      rw (e, no) refl
  | inr e ↦ rw e (elim (bytes_eq r.id name) as (λ b. cond b (Some r) (look name (filed word rows)) ≡ cond b (Some r) (look name rows)) [
    | true ↦ refl
    | false ↦ look_filed name word other rows
  ])
]

-- the words of the row of files
abbrev pub files_at : List Row → List Text
files_at rows = option_map_or (λ r. r.values) (look (codes "FILE") rows) []

files_filed : (word : Text) (rows : List Row) → files_at (filed word rows) ≡ files_at rows ++ word ∷ []
files_filed word [] = refl
files_filed word (r ∷ rows) = elim (cases_Bool (bytes_eq r.id (codes "FILE"))) [
  | inl e ↦ rw e (rw e refl)
  | inr e ↦ rw e (rw e (files_filed word rows))
]

pub none_first : {X : Type 0} (o : Option X) → first_some o None ≡ o
none_first None = refl
none_first (Some x) = refl

files_other : (row : Row) (rows : List Row) → bytes_eq row.id (codes "FILE") ≡ false → files_at (rows ++ row ∷ []) ≡ files_at rows
files_other row rows h =
    let same : look (codes "FILE") (rows ++ row ∷ []) ≡ look (codes "FILE") rows =
    look_append (codes "FILE") rows row ∙ (ap (λ b. first_some (look (codes "FILE") rows) (cond b (Some row) None)) h
    ∙ none_first (look (codes "FILE") rows)) in
    ap (λ o. option_map_or (λ r. r.values) o []) same

-- ---- names that differ

valued_no_file : (name : Text) → is_in valued_options name ≡ true → bytes_eq name (codes "FILE") ≡ false
valued_no_file name = of_one (λ n. bytes_eq n (codes "FILE") ≡ false) valued_options name (refl, (refl, (refl, (refl, (refl, (refl, (refl, tt)))))))

flag_no_file : (name : Text) → is_in flag_options name ≡ true → bytes_eq name (codes "FILE") ≡ false
flag_no_file name = of_one (λ n. bytes_eq n (codes "FILE") ≡ false) flag_options name (refl, (refl, (refl, (refl, (refl, (refl, (refl, tt)))))))

-- ---- all parts

-- what remains to be shown after a part is put
then_some : {X Y P : Type 0} (b : Bool) (x : X) (next : X → Option Y) (end : Y) → option_and_then next (cond b None (Some x)) ≡ Some end
    → ((b ≡ false) → next x ≡ Some end → P) → P
then_some true x next end h k = absurd (none-some end h)
then_some false x next end h k = k refl h

abbrev pub found_in : Text → List Part → Option Row
found_in name parts = option_map row_of_part (find (λ p. bytes_eq (id_of p) name) parts)

pub first_first : {X : Type 0} (a b c : Option X) → first_some (first_some a b) c ≡ first_some a (first_some b c)
first_first None b c = refl
first_first (Some x) b c = refl

-- what comes first with a name: a part, or one after it
found_step : (name : Text) (part : Part) (parts : List Part) → first_some (cond (bytes_eq (id_of part) name) (Some (row_of_part part)) None)
    (found_in name parts) ≡ found_in name (part ∷ parts)
found_step name part parts = elim (bytes_eq (id_of part) name) as (λ b. first_some (cond b (Some (row_of_part part)) None) (found_in name parts)
    ≡ option_map row_of_part (cond b (Some part) (find (λ p. bytes_eq (id_of p) name) parts))) [ true ↦ refl | false ↦ refl ]

look_step : (name : Text) (part : Part) (parts : List Part) (rows : List Row) → (row_of_part part).id ≡ id_of part
    → first_some (look name (rows ++ row_of_part part ∷ [])) (found_in name parts) ≡ first_some (look name rows) (found_in name (part ∷ parts))
look_step name part parts rows same =
    ap (λ o. first_some o (found_in name parts)) (look_append name rows (row_of_part part)
    ∙ ap (λ i. first_some (look name rows) (cond (bytes_eq i name) (Some (row_of_part part)) None)) same)
    ∙ (first_first (look name rows) (cond (bytes_eq (id_of part) name) (Some (row_of_part part)) None) (found_in name parts)
    ∙ ap (first_some (look name rows)) (found_step name part parts))

pub look_all : (name : Text) → bytes_eq (codes "FILE") name ≡ false → (parts : List Part) (rows end : List Row) → put_all rows parts ≡ Some end
    → look name end ≡ first_some (look name rows) (found_in name parts)
unfolding put_all
look_all name other [] rows end h = ap (look name) (sym (same_Some rows end h)) ∙ sym (none_first (look name rows))
look_all name other (Valued n v ∷ parts) rows end h =
    then_some (has_row n rows) (rows ++ row_of_part (Valued n v) ∷ []) (λ r. put_all r parts) end (ap (option_and_then (λ r. put_all r parts)) (sym
    (put_valued n v rows)) ∙ h)
    (λ e put. look_all name other parts (rows ++ row_of_part (Valued n v) ∷ []) end put ∙ look_step name (Valued n v) parts rows refl)
look_all name other (Flag n ∷ parts) rows end h =
    then_some (has_row n rows) (rows ++ row_of_part (Flag n) ∷ []) (λ r. put_all r parts) end (ap (option_and_then (λ r. put_all r parts)) (sym
    (put_flag n rows)) ∙ h)
    (λ e put. look_all name other parts (rows ++ row_of_part (Flag n) ∷ []) end put ∙ look_step name (Flag n) parts rows refl)
look_all name other (File w ∷ parts) rows end h =
    look_all name other parts (filed w rows) end h
    ∙ (ap (λ o. first_some o (found_in name parts)) (look_filed name w other rows)
    ∙ ap (λ b. first_some (look name rows) (option_map row_of_part (cond b (Some (File w)) (find (λ p. bytes_eq (id_of p) name) parts)))) (sym other))

pub files_all : (parts : List Part) → AreKnown parts → (rows end : List Row) → put_all rows parts ≡ Some end → files_at end ≡ files_at rows ++ files_in parts
unfolding put_all
files_all [] k rows end h = ap files_at (sym (same_Some rows end h)) ∙ sym (append-nil (files_at rows))
files_all (Valued n v ∷ parts) k rows end h =
    then_some (has_row n rows) (rows ++ row_of_part (Valued n v) ∷ []) (λ r. put_all r parts) end (ap (option_and_then (λ r. put_all r parts)) (sym
    (put_valued n v rows)) ∙ h)
    (λ e put. files_all parts k.1 (rows ++ row_of_part (Valued n v) ∷ []) end put
    ∙ ap (λ fs. fs ++ files_in parts) (files_other (row_of_part (Valued n v)) rows (valued_no_file n k.0)))
files_all (Flag n ∷ parts) k rows end h =
    then_some (has_row n rows) (rows ++ row_of_part (Flag n) ∷ []) (λ r. put_all r parts) end (ap (option_and_then (λ r. put_all r parts)) (sym
    (put_flag n rows)) ∙ h)
    (λ e put. files_all parts k.1 (rows ++ row_of_part (Flag n) ∷ []) end put
    ∙ ap (λ fs. fs ++ files_in parts) (files_other (row_of_part (Flag n)) rows (flag_no_file n k.0)))
files_all (File w ∷ parts) k rows end h =
    files_all parts k.1 (filed w rows) end h
    ∙ (ap (λ fs. fs ++ files_in parts) (files_filed w rows) ∙ append_assoc (files_at rows) (w ∷ []) (files_in parts))

-- rows have the names, except for files
abbrev HasNames : List Row → List Text → Type 0
HasNames rows names = (name : Text) → bytes_eq (codes "FILE") name ≡ false → is_some (look name rows) ≡ is_in names name

some_first : (o : Option Row) (b : Bool) (row : Row) → is_some (first_some o (cond b (Some row) None)) ≡ (b || is_some o)
some_first None true row = refl
some_first None false row = refl
some_first (Some r) true row = refl
some_first (Some r) false row = refl

names_step : (rows : List Row) (names : List Text) (row : Row) → HasNames rows names → HasNames (rows ++ row ∷ []) (row.id ∷ names)
names_step rows names row h name other =
    ap is_some (look_append name rows row) ∙ (some_first (look name rows) (bytes_eq row.id name) row
    ∙ (ap (λ b. b || is_some (look name rows)) (bytes_eq_sym row.id name) ∙ ap (λ b. bytes_eq name row.id || b) (h name other)))

names_filed : (rows : List Row) (names : List Text) (word : Text) → HasNames rows names → HasNames (filed word rows) names
names_filed rows names word h name other = ap is_some (look_filed name word other rows) ∙ h name other

put_once : (b : Bool) (x : List Row) (next : List Row → Option (List Row)) (new : Bool) → is_some (next x) ≡ new
    → is_some (option_and_then next (cond b None (Some x))) ≡ (not b && new)
put_once true x next new h = refl
put_once false x next new h = h

pub some_all : (parts : List Part) → AreKnown parts → (rows : List Row) (names : List Text) → HasNames rows names
    → is_some (put_all rows parts) ≡ are_new names parts
unfolding put_all
some_all [] k rows names h = refl
some_all (Valued n v ∷ parts) k rows names h =
    let row = row_of_part (Valued n v) in
    let has : has_row n rows ≡ is_in names n = has_look n rows ∙ h n (bytes_eq_sym (codes "FILE") n ∙ valued_no_file n k.0) in
    ap (λ o. is_some (option_and_then (λ r. put_all r parts) o)) (put_valued n v rows ∙ ap (λ b. cond b None (Some (rows ++ row ∷ []))) has)
    ∙ (put_once (is_in names n) (rows ++ row ∷ []) (λ r. put_all r parts) (are_new (n ∷ names) parts)
    (some_all parts k.1 (rows ++ row ∷ []) (n ∷ names) (names_step rows names row h)))
some_all (Flag n ∷ parts) k rows names h =
    let row = row_of_part (Flag n) in
    let has : has_row n rows ≡ is_in names n = has_look n rows ∙ h n (bytes_eq_sym (codes "FILE") n ∙ flag_no_file n k.0) in
    ap (λ o. is_some (option_and_then (λ r. put_all r parts) o)) (put_flag n rows ∙ ap (λ b. cond b None (Some (rows ++ row ∷ []))) has)
    ∙ (put_once (is_in names n) (rows ++ row ∷ []) (λ r. put_all r parts) (are_new (n ∷ names) parts)
    (some_all parts k.1 (rows ++ row ∷ []) (n ∷ names) (names_step rows names row h)))
some_all (File w ∷ parts) k rows names h = some_all parts k.1 (filed w rows) names (names_filed rows names w h)

-- ---- what the first row of a name says

pub value_found : (name : Text) → bytes_eq (codes "FILE") name ≡ false → ((flag : Text) → is_in flag_options flag ≡ true → bytes_eq flag name ≡ false)
    → (parts : List Part) → AreKnown parts → option_and_then (λ r. slice_get r.values 0) (found_in name parts) ≡ value_of name parts
value_found name other differ [] k = refl
value_found name other differ (Valued n v ∷ parts) k = elim (bytes_eq n name) as (λ b.
    option_and_then (λ r. slice_get r.values 0) (option_map row_of_part (cond b (Some (Valued n v)) (find (λ p. bytes_eq (id_of p) name) parts))) ≡ cond b
    (Some v) (value_of name parts)) [
      | true ↦ refl
      | false ↦ value_found name other differ parts k.1
    ]
value_found name other differ (Flag n ∷ parts) k = rw (differ n k.0) (value_found name other differ parts k.1)
value_found name other differ (File w ∷ parts) k = rw other (value_found name other differ parts k.1)

-- a flag's row, if the flag is given
abbrev pub flag_row : Text → Bool → Option Row
flag_row name given = cond given (Some (row_of_part (Flag name))) None

pub flag_found : (name : Text) → bytes_eq (codes "FILE") name ≡ false → ((valued : Text) → is_in valued_options valued ≡ true → bytes_eq valued name ≡ false)
    → (parts : List Part) → AreKnown parts → found_in name parts ≡ flag_row name (has_flag name parts)
flag_found name other differ [] k = refl
flag_found name other differ (Flag n ∷ parts) k = elim (cases_Bool (bytes_eq n name)) [
  | inl e ↦ rw e (ap (λ m. Some (row_of_part (Flag m))) ((bytes_eq-Decides n name).0 e))
  | inr e ↦ rw e (flag_found name other differ parts k.1)
]
flag_found name other differ (Valued n v ∷ parts) k = rw (differ n k.0) (flag_found name other differ parts k.1)
flag_found name other differ (File w ∷ parts) k = rw other (flag_found name other differ parts k.1)
