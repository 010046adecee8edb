-- Words with other flags ask for the same, but for the mode.
use Rattle.std.proofs.Common.{◌≡◌, ◌∙◌, ◌&&◌, ◌||◌, ℕ, Bool, true, false, cond, not, Option, Some, None, is_some, List, [], ◌∷◌}
use Rattle.std.proofs.Common.{refl, sym, ap, option_map, option_and_then}
use Rattle.std.specs.List.{list_all}
use Rattle.std.specs.Str.{is_utf8}
use Rattle.std.specs.Option.{option_map_or}
use Rattle.run_words.specs.declared.option_name.OptionName.TheVariants.{Check, Define, Generate as GenerateName, Functions, InPlace, IsoFile, Witnesses}
use Rattle.run_words.specs.declared.fault.Need.TheVariants as need
use Rattle.run_words.specs.declared.fault.WordFault.{WordFault}
use Rattle.run_words.specs.declared.fault.WordFault.TheVariants.{Apart, ApartFromFiles, Needed}
use Rattle.run_words.specs.Options.{Options}
use Rattle.run_words.specs.Values.{seed_in, count_in}
use Rattle.run_words.specs.OptionNames.{first_of}
use Rattle.run_words.specs.Orders.{Order, Apply, Generate, OnFiles, OnText, Say, are_filled, asks_text, defined_in, editing, generating, has_files}
use Rattle.run_words.specs.Orders.{has_jobs, has_unread, is_about_files, is_about_patches, mode_in, most_functions, on_text, order_of, ordered}
use Rattle.run_words.specs.Orders.{saying_in, told_in, working}
use Rattle.run_words.specs.Faults.{apart_fault, edit_faults, file_faults, lacks_file, lacks_functions, need_fault, options_fault, told_if}
use Rattle.run_words.specs.Faults.{value_fault, word_fault}
use Rattle.run_words.specs.FlagLaws.Flags.{SameButFlags, order_with, with_flags}
use Rattle.run_words.proofs.JobLaws.FaultLemmas.{fault_of_options}

pub map_cond : {X Y : Type 0} (f : X → Y) (b : Bool) (x : Option X) → cond b (option_map f x) None ≡ option_map f (cond b x None)
map_cond f true x = refl
map_cond f false x = refl

pub map_unless : {X Y : Type 0} (f : X → Y) (b : Bool) (x : Option X) → cond b None (option_map f x) ≡ option_map f (cond b None x)
map_unless f true x = refl
map_unless f false x = refl

-- one of two tests fails
both_fail : (check stored : Bool) → (check ≡ true → stored ≡ false) → (check && stored) ≡ false
both_fail true stored h = h refl
both_fail false stored h = refl

-- with a patch none is needed
pub lacks_same : (sp : Option (List ℕ)) → is_some sp ≡ true → (one two : Bool) → (not (is_some sp) && one) ≡ (not (is_some sp) && two)
lacks_same None named one two = let wrong : false ≡ true = named in absurd cc
lacks_same (Some p) named one two = refl

module _ (o : Options) (check quiet : Bool) (patch : is_some o.sp_file ≡ true) (stores : check ≡ true → o.in_place ≡ false)
    (files : check ≡ true → is_some o.generate ≡ false) where
  abbrev plain : Options
  plain = with_flags false false o

  abbrev other : Options
  other = with_flags check quiet o

  -- ---- with files

  defined_same : (p : List ℕ) (defined : Option (List (List ℕ)))
      → option_map (λ d. Apply p o.iso_file d (OnFiles (mode_in other) o.files)) defined
      ≡ option_map (order_with check quiet) (option_map (λ d. Apply p o.iso_file d (OnFiles (mode_in plain) o.files)) defined)
  defined_same p None = refl
  defined_same p (Some defined) = refl

  edited_same : (sp : Option (List ℕ))
      → option_and_then (λ p. option_map (λ d. Apply p o.iso_file d (OnFiles (mode_in other) o.files)) (defined_in o)) sp
      ≡ option_map (order_with check quiet) (option_and_then (λ p. option_map (λ d. Apply p o.iso_file d (OnFiles (mode_in plain) o.files)) (defined_in o)) sp)
  edited_same None = refl
  edited_same (Some p) = defined_same p (defined_in o)

  editing_same : editing other ≡ option_map (order_with check quiet) (editing plain)
  editing_same =
      ap (λ (b : Bool). cond (has_files o && not (is_some o.functions) && not b)
      (option_and_then (λ p. option_map (λ d. Apply p o.iso_file d (OnFiles (mode_in other) o.files)) (defined_in o)) o.sp_file) None)
      (both_fail check o.in_place stores)
      ∙ (ap (λ (x : Option Order). cond (has_files o && not (is_some o.functions) && true) x None) (edited_same o.sp_file)
      ∙ map_cond (order_with check quiet) (has_files o && not (is_some o.functions) && true)
      (option_and_then (λ p. option_map (λ d. Apply p o.iso_file d (OnFiles (mode_in plain) o.files)) (defined_in o)) o.sp_file))

  -- ---- with a generated text

  text_by : (sp : Option (List ℕ)) → is_some sp ≡ true → (seed functions : ℕ) (one two : Option Order)
      → option_map_or (λ p. Some (Apply p None [] (OnText seed functions quiet (told_in o) o.tidy))) sp one
      ≡ option_map (order_with check quiet) (option_map_or (λ p. Some (Apply p None [] (OnText seed functions false (told_in o) o.tidy))) sp two)
  text_by None named seed functions one two = let wrong : false ≡ true = named in absurd cc
  text_by (Some p) named seed functions one two = refl

  text_same : (seed functions : ℕ) → on_text other seed functions ≡ option_map (order_with check quiet) (on_text plain seed functions)
  text_same seed functions = text_by o.sp_file patch seed functions (cond (is_about_patches other) None (Some (Generate seed functions)))
      (cond (is_about_patches plain) None (Some (Generate seed functions)))

  count_same : (seed : ℕ) (count : Option ℕ) → option_and_then (λ functions. on_text other seed functions) count
      ≡ option_map (order_with check quiet) (option_and_then (λ functions. on_text plain seed functions) count)
  count_same seed None = refl
  count_same seed (Some functions) = text_same seed functions

  functions_same : (seed : ℕ) (text : Option (List ℕ))
      → option_and_then (λ t. option_and_then (λ functions. on_text other seed functions) (count_in most_functions t)) text
      ≡ option_map (order_with check quiet)
      (option_and_then (λ t. option_and_then (λ functions. on_text plain seed functions) (count_in most_functions t)) text)
  functions_same seed None = refl
  functions_same seed (Some t) = count_same seed (count_in most_functions t)

  -- what is asked for with this seed
  abbrev seeded : Options → Option ℕ → Option Order
  seeded p seed =
      option_and_then (λ s. option_and_then (λ t. option_and_then (λ functions. on_text p s functions) (count_in most_functions t)) o.functions) seed

  seed_same : (seed : Option ℕ) → seeded other seed ≡ option_map (order_with check quiet) (seeded plain seed)
  seed_same None = refl
  seed_same (Some s) = functions_same s o.functions

  -- `--check` isn't given with `--generate`
  unchecked : (value : List ℕ) → o.generate ≡ Some value → check ≡ false
  unchecked value is = elim check as (λ b. (b ≡ true → is_some o.generate ≡ false) → b ≡ false) [
    | true ↦ λ h. let wrong : true ≡ false = sym (ap is_some is) ∙ h refl in absurd cc
    | false ↦ λ h. refl
  ] files

  generating_same : (value : List ℕ) → o.generate ≡ Some value → generating other value ≡ option_map (order_with check quiet) (generating plain value)
  generating_same value is =
      ap (λ (b : Bool). cond (has_files o || is_some o.iso_file || is_some o.define || o.witnesses || o.in_place || b) None (seeded other (seed_in value)))
      (unchecked value is)
      ∙ (ap (λ (x : Option Order). cond (is_about_files plain) None x) (seed_same (seed_in value))
      ∙ map_unless (order_with check quiet) (is_about_files plain) (seeded plain (seed_in value)))

  -- ---- whole options

  generate_same : (generate : Option (List ℕ)) → o.generate ≡ generate → option_map_or (generating other) generate (editing other)
      ≡ option_map (order_with check quiet) (option_map_or (generating plain) generate (editing plain))
  generate_same None is = editing_same
  generate_same (Some value) is = generating_same value is

  working_same : working other ≡ option_map (order_with check quiet) (working plain)
  unfolding working
  working_same =
      ap (λ (x : Option Order). cond (has_jobs o && has_unread o) x None) (generate_same o.generate refl)
      ∙ map_cond (order_with check quiet) (has_jobs o && has_unread o) (option_map_or (generating plain) o.generate (editing plain))

  asked_same : (asks : Bool) → cond asks (Some (Say (saying_in o))) (working other)
      ≡ option_map (order_with check quiet) (cond asks (Some (Say (saying_in o))) (working plain))
  asked_same true = refl
  asked_same false = working_same

  pub ordered_same : ordered other ≡ option_map (order_with check quiet) (ordered plain)
  unfolding ordered
  ordered_same =
      ap (λ (x : Option Order). cond (are_filled o) x None) (asked_same (asks_text o))
      ∙ map_cond (order_with check quiet) (are_filled o) (cond (asks_text o) (Some (Say (saying_in o))) (working plain))

  -- ---- faults

  need_same : need_fault other ≡ need_fault plain
  need_same = ap (λ (b : Bool). first_of (told_if b (Needed need.Patch) ∷ told_if (lacks_file o) (Needed need.File)
      ∷ told_if (lacks_functions o) (Needed need.Functions) ∷ []))
      (lacks_same o.sp_file patch (not (is_some o.generate) || is_about_patches other) (not (is_some o.generate) || is_about_patches plain))

  files_same : (value : List ℕ) → o.generate ≡ Some value → first_of (file_faults other) ≡ first_of (file_faults plain)
  files_same value is = ap (λ (b : Bool). first_of (told_if (has_files o) (ApartFromFiles GenerateName) ∷ told_if (is_some o.iso_file)
      (Apart GenerateName IsoFile) ∷ told_if (is_some o.define) (Apart GenerateName Define) ∷ told_if o.witnesses (Apart GenerateName Witnesses)
      ∷ told_if o.in_place (Apart GenerateName InPlace) ∷ told_if b (Apart GenerateName Check) ∷ [])) (unchecked value is)

  edits_same : first_of (edit_faults other) ≡ first_of (edit_faults plain)
  edits_same = ap (λ (b : Bool). first_of (told_if (is_some o.functions) (ApartFromFiles Functions) ∷ told_if b (Apart Check InPlace) ∷ []))
      (both_fail check o.in_place stores)

  apart_by : (generate : Option (List ℕ)) → o.generate ≡ generate
      → cond (is_some generate) (first_of (file_faults other)) (first_of (edit_faults other))
      ≡ cond (is_some generate) (first_of (file_faults plain)) (first_of (edit_faults plain))
  apart_by None is = edits_same
  apart_by (Some value) is = files_same value is

  apart_same : apart_fault other ≡ apart_fault plain
  apart_same = apart_by o.generate refl

  pub options_same : options_fault other ≡ options_fault plain
  unfolding options_fault
  options_same =
      ap (λ (f : Option WordFault). cond (are_filled o && asks_text o) None (first_of (value_fault o ∷ f ∷ apart_fault other ∷ []))) need_same
      ∙ ap (λ (f : Option WordFault). cond (are_filled o && asks_text o) None (first_of (value_fault o ∷ need_fault plain ∷ f ∷ []))) apart_same

pub order_same : (words others : List (List ℕ)) (check quiet : Bool) → SameButFlags words others check quiet
    → order_of others ≡ option_map (order_with check quiet) (order_of words)
unfolding order_of
order_same words others check quiet s =
    ap (λ (x : Option Options). cond (list_all is_utf8 others) (option_and_then ordered x) None) s.other
    ∙ (ap (λ (x : Option Order). cond (list_all is_utf8 others) x None) (ordered_same s.options check quiet s.patch s.stores s.files)
    ∙ (map_cond (order_with check quiet) (list_all is_utf8 others) (ordered (with_flags false false s.options))
    ∙ (ap (λ (b : Bool). option_map (order_with check quiet) (cond b (ordered (with_flags false false s.options)) None)) (sym s.texts)
    ∙ sym (ap (λ (x : Option Options). option_map (order_with check quiet) (cond (list_all is_utf8 words) (option_and_then ordered x) None)) s.one))))

pub fault_same : (words others : List (List ℕ)) (check quiet : Bool) → SameButFlags words others check quiet → list_all is_utf8 words ≡ true
    → word_fault others ≡ word_fault words
fault_same words others check quiet s text =
    fault_of_options others (with_flags check quiet s.options) (sym s.texts ∙ text) s.other
    ∙ (options_same s.options check quiet s.patch s.stores s.files
    ∙ sym (fault_of_options words (with_flags false false s.options) text s.one))
