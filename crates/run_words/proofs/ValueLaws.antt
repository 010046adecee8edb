-- The faults of options, by tests: whether there is one.
use Rattle.std.proofs.Common.{◌≡◌, ◌∙◌, ◌<◌, refl, sym, ap, ap₂, arith, ℕ, Bool, true, false, not, ◌&&◌, ◌||◌, cond, List, [], ◌∷◌, Option, Some, None}
use Rattle.std.proofs.Common.{is_some, fold, length, option_map, option_and_then, inl, inr}
use Rattle.std.specs.List.{list_any}
use Rattle.std.specs.Option.{option_map_or, option_or}
use Rattle.std.proofs.lemmas.Bool.{and_parts, cases_Bool, or_parts}
use Rattle.std.proofs.lemmas.Bool.Decides.{leb_tells}
use Rattle.run_words.specs.declared.option_name.OptionName.{OptionName}
use Rattle.run_words.specs.declared.option_name.OptionName.TheVariants.{SpFile, IsoFile, Define, Jobs, Generate, Functions, Unread}
use Rattle.run_words.specs.declared.fault.Need.TheVariants as need
use Rattle.run_words.specs.declared.fault.WordFault.{WordFault}
use Rattle.run_words.specs.declared.fault.WordFault.TheVariants.{BadValue, Needed}
use Rattle.run_words.specs.Options.{Options}
use Rattle.run_words.specs.Values.{seed_in, count_in, names_in, unread_in}
use Rattle.run_words.specs.Orders.{are_filled, has_files, has_jobs, has_unread, is_about_patches, is_filled, most_functions}
use Rattle.run_words.specs.Orders.{most_jobs}
use Rattle.run_words.specs.OptionNames.{first_of}
use Rattle.run_words.specs.Faults.{apart_fault, bad_text, is_value, need_fault, need_faults, told_if, value_fault, value_faults}

-- ---- the first of some faults

some_or : (a b : Option WordFault) → is_some (option_or a b) ≡ (is_some a || is_some b)
some_or None b = refl
some_or (Some f) b = refl

or_or : (a b c : Bool) → ((a || b) || c) ≡ (a || (b || c))
or_or true b c = refl
or_or false b c = refl

some_fold : (faults : List (Option WordFault)) (first : Option WordFault) → is_some (fold option_or first faults) ≡ (is_some first || list_any is_some faults)
some_fold [] None = refl
some_fold [] (Some f) = refl
some_fold (fault ∷ faults) first = some_fold faults (option_or first fault) ∙ (ap (λ b. b || list_any is_some faults) (some_or first fault)
    ∙ or_or (is_some first) (is_some fault) (list_any is_some faults))

pub some_first : (faults : List (Option WordFault)) → is_some (first_of faults) ≡ list_any is_some faults
some_first faults = some_fold faults None

pub some_told : (b : Bool) (fault : WordFault) → is_some (told_if b fault) ≡ b
some_told true fault = refl
some_told false fault = refl

-- ---- values

-- this is a value for the option, if it is given
abbrev pub fine : OptionName → Option (List ℕ) → Bool
fine option value = option_map_or (is_value option) value true

some_bad : (option : OptionName) (value : Option (List ℕ)) → is_some (bad_text option value) ≡ not (fine option value)
some_bad option None = refl
some_bad option (Some text) = elim (is_value option text) as (λ b. is_some (cond b None (Some (BadValue option text))) ≡ not b) [ true ↦ refl | false ↦ refl ]

abbrev pub bad : OptionName → Option (List ℕ) → Bool
bad option value = not (fine option value)

-- tests in turn, each of which may be put in other words
pub both_or : {a b c d : Bool} → a ≡ c → b ≡ d → (a || b) ≡ (c || d)
both_or e f = ap₂ (λ (x y : Bool). x || y) e f

both_true : (a b : Bool) → a ≡ true → b ≡ true → (a && b) ≡ true
both_true true b e f = f
both_true false b e f = e

some_value : (o : Options) → is_some (value_fault o) ≡ (bad SpFile o.sp_file || (bad IsoFile o.iso_file || (bad Define o.define
    || (bad Jobs o.jobs || (bad Generate o.generate || (bad Functions o.functions || (bad Unread o.unread || false)))))))
some_value o = some_first (value_faults o) ∙ both_or (some_bad SpFile o.sp_file) (both_or (some_bad IsoFile o.iso_file)
    (both_or (some_bad Define o.define) (both_or (some_bad Jobs o.jobs) (both_or (some_bad Generate o.generate)
    (both_or (some_bad Functions o.functions) (both_or (some_bad Unread o.unread) refl))))))

-- ---- what is a value isn't empty

filled_more : (b : ℕ) (bytes : List ℕ) → is_filled (Some (b ∷ bytes)) ≡ true
filled_more b bytes = elim (leb_tells 1 (length (b ∷ bytes))) [
  | inl h ↦ h.0
  | inr h ↦ let less : length (b ∷ bytes) < 1 = h.1 in absurd (omega arith)
]

names_filled : (text : List ℕ) → not (is_some (names_in text)) ≡ false → is_filled (Some text) ≡ true
names_filled [] e = let wrong : true ≡ false = e in absurd cc
names_filled (b ∷ bytes) e = filled_more b bytes

count_filled : (most : ℕ) (text : List ℕ) → not (is_some (count_in most text)) ≡ false → is_filled (Some text) ≡ true
count_filled most [] e = let wrong : true ≡ false = e in absurd cc
count_filled most (b ∷ bytes) e = filled_more b bytes

seed_filled : (text : List ℕ) → not (is_some (seed_in text)) ≡ false → is_filled (Some text) ≡ true
seed_filled [] e = let wrong : true ≡ false = e in absurd cc
seed_filled (b ∷ bytes) e = filled_more b bytes

choice_filled : (text : List ℕ) → not (is_some (unread_in text)) ≡ false → is_filled (Some text) ≡ true
choice_filled [] e = let wrong : true ≡ false = e in absurd cc
choice_filled (b ∷ bytes) e = filled_more b bytes

not_false : (b : Bool) → not b ≡ false → b ≡ true
not_false true e = refl
not_false false e = let wrong : true ≡ false = e in absurd cc

text_filled : (text : List ℕ) → not (is_filled (Some text)) ≡ false → is_filled (Some text) ≡ true
text_filled text e = not_false (is_filled (Some text)) e

patch_filled : (value : Option (List ℕ)) → bad SpFile value ≡ false → is_filled value ≡ true
patch_filled None e = refl
patch_filled (Some text) e = text_filled text e

isos_filled : (value : Option (List ℕ)) → bad IsoFile value ≡ false → is_filled value ≡ true
isos_filled None e = refl
isos_filled (Some text) e = text_filled text e

define_filled : (value : Option (List ℕ)) → bad Define value ≡ false → is_filled value ≡ true
define_filled None e = refl
define_filled (Some text) e = names_filled text e

jobs_filled : (value : Option (List ℕ)) → bad Jobs value ≡ false → is_filled value ≡ true
jobs_filled None e = refl
jobs_filled (Some text) e = count_filled most_jobs text e

generate_filled : (value : Option (List ℕ)) → bad Generate value ≡ false → is_filled value ≡ true
generate_filled None e = refl
generate_filled (Some text) e = seed_filled text e

functions_filled : (value : Option (List ℕ)) → bad Functions value ≡ false → is_filled value ≡ true
functions_filled None e = refl
functions_filled (Some text) e = count_filled most_functions text e

pub unread_filled : (value : Option (List ℕ)) → bad Unread value ≡ false → is_filled value ≡ true
unread_filled None e = refl
unread_filled (Some text) e = choice_filled text e

-- the first two values, three, four, five and six aren't empty
abbrev two_filled : Options → Bool
two_filled o = is_filled o.sp_file && is_filled o.iso_file

abbrev three_filled : Options → Bool
three_filled o = two_filled o && is_filled o.define

abbrev four_filled : Options → Bool
four_filled o = three_filled o && is_filled o.jobs

abbrev five_filled : Options → Bool
five_filled o = four_filled o && is_filled o.generate

abbrev six_filled : Options → Bool
six_filled o = five_filled o && is_filled o.functions

all_filled : (o : Options) → is_some (value_fault o) ≡ false → are_filled o ≡ true
all_filled o e =
    let p1 = or_parts (bad SpFile o.sp_file) _ (sym (some_value o) ∙ e) in
    let p2 = or_parts (bad IsoFile o.iso_file) _ p1.1 in
    let p3 = or_parts (bad Define o.define) _ p2.1 in
    let p4 = or_parts (bad Jobs o.jobs) _ p3.1 in
    let p5 = or_parts (bad Generate o.generate) _ p4.1 in
    let p6 = or_parts (bad Functions o.functions) _ p5.1 in
    let p7 = or_parts (bad Unread o.unread) _ p6.1 in
    both_true (six_filled o) (is_filled o.unread) (both_true (five_filled o) (is_filled o.functions) (both_true (four_filled o) (is_filled o.generate)
    (both_true (three_filled o) (is_filled o.jobs) (both_true (two_filled o) (is_filled o.define) (both_true (is_filled o.sp_file) (is_filled o.iso_file)
    (patch_filled o.sp_file p1.0) (isos_filled o.iso_file p2.0)) (define_filled o.define p3.0)) (jobs_filled o.jobs p4.0))
    (generate_filled o.generate p5.0)) (functions_filled o.functions p6.0)) (unread_filled o.unread p7.0)

-- a value is empty
pub empty_bad : (o : Options) → are_filled o ≡ false → is_some (value_fault o) ≡ true
empty_bad o e = elim (cases_Bool (is_some (value_fault o))) [
  | inl some ↦ some
  | inr none ↦ let wrong : true ≡ false = sym (all_filled o none) ∙ e in absurd cc
]

-- ---- steps that may give nothing

pub some_cond : {X : Type 0} (b : Bool) (x : Option X) → is_some (cond b x None) ≡ (b && is_some x)
some_cond true x = refl
some_cond false x = refl

pub some_unless : {X : Type 0} (b : Bool) (x : Option X) → is_some (cond b None x) ≡ (not b && is_some x)
some_unless true x = refl
some_unless false x = refl

pub some_then : {X Y : Type 0} (f : X → Option Y) (x : Option X) (b : Bool) → ((y : X) → is_some (f y) ≡ b) → is_some (option_and_then f x) ≡ (is_some x && b)
some_then f None b h = refl
some_then f (Some y) b h = h y

pub some_map : {X Y : Type 0} (f : X → Y) (x : Option X) → is_some (option_map f x) ≡ is_some x
some_map f None = refl
some_map f (Some y) = refl

pub and_false : (b : Bool) → (b && false) ≡ false
and_false true = refl
and_false false = refl

pub and_true : (b : Bool) → (b && true) ≡ b
and_true true = refl
and_true false = refl

pub or_false : (b : Bool) → (b || false) ≡ b
or_false true = refl
or_false false = refl

pub or_last : (a b : Bool) → (a || (b || (true || false))) ≡ true
or_last true b = refl
or_last false true = refl
or_last false false = refl

pub none_fine : (option : OptionName) (value : Option (List ℕ)) → is_some value ≡ false → fine option value ≡ true
none_fine option None e = refl
none_fine option (Some text) e = let wrong : true ≡ false = e in absurd cc

-- ---- the faults of options none of which is empty

pub some_three : (o : Options) → is_some (first_of (value_fault o ∷ need_fault o ∷ apart_fault o ∷ []))
    ≡ (is_some (value_fault o) || (is_some (need_fault o) || (is_some (apart_fault o) || false)))
some_three o = some_first (value_fault o ∷ need_fault o ∷ apart_fault o ∷ [])

-- the patch and the isomorphisms have values
patch_fine : (value : Option (List ℕ)) → is_filled value ≡ true → fine SpFile value ≡ true
patch_fine None e = refl
patch_fine (Some text) e = e

isos_fine : (value : Option (List ℕ)) → is_filled value ≡ true → fine IsoFile value ≡ true
isos_fine None e = refl
isos_fine (Some text) e = e

-- the last of these tests and the second, in one
last_moved : (d j g f u : Bool) → (d || (not j || (g || (f || (not u || false))))) ≡ (d || (not (j && u) || (g || (f || false))))
last_moved true j g f u = refl
last_moved false false g f u = refl
last_moved false true true f true = refl
last_moved false true true f false = refl
last_moved false true false true true = refl
last_moved false true false true false = refl
last_moved false true false false true = refl
last_moved false true false false false = refl

pub values_left : (o : Options) → are_filled o ≡ true → is_some (value_fault o)
    ≡ (bad Define o.define || (not (has_jobs o && has_unread o) || (bad Generate o.generate || (bad Functions o.functions || false))))
values_left o filled =
    let six = and_parts (six_filled o) (is_filled o.unread) filled in
    let five = and_parts (five_filled o) (is_filled o.functions) six.0 in
    let four = and_parts (four_filled o) (is_filled o.generate) five.0 in
    let three = and_parts (three_filled o) (is_filled o.jobs) four.0 in
    let two = and_parts (two_filled o) (is_filled o.define) three.0 in
    let one = and_parts (is_filled o.sp_file) (is_filled o.iso_file) two.0 in
    let rest = bad Define o.define || (bad Jobs o.jobs || (bad Generate o.generate || (bad Functions o.functions || (bad Unread o.unread || false)))) in
    some_value o ∙ (ap (λ (b : Bool). not b || (bad IsoFile o.iso_file || rest)) (patch_fine o.sp_file one.0)
    ∙ (ap (λ (b : Bool). not b || rest) (isos_fine o.iso_file one.1)
    ∙ last_moved (bad Define o.define) (has_jobs o) (bad Generate o.generate) (bad Functions o.functions) (has_unread o)))

pub some_need : (o : Options) → is_some (need_fault o) ≡ ((not (is_some o.sp_file) && (not (is_some o.generate) || is_about_patches o))
    || ((not (has_files o) && not (is_some o.generate)) || ((not (is_some o.functions) && is_some o.generate) || false)))
some_need o = some_first (need_faults o)
    ∙ both_or (some_told (not (is_some o.sp_file) && (not (is_some o.generate) || is_about_patches o)) (Needed need.Patch))
    (both_or (some_told (not (has_files o) && not (is_some o.generate)) (Needed need.File))
    (both_or (some_told (not (is_some o.functions) && is_some o.generate) (Needed need.Functions)) refl))
