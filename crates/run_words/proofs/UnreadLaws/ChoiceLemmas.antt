-- Words with another value of `--unread` ask for the same, but for which items are told of.
use Rattle.std.proofs.Common.{◌≡◌, ◌∙◌, ◌&&◌, ◌||◌, ℕ, Bool, true, false, cond, not, Option, Some, None, is_some, List, [], ◌∷◌}
use Rattle.std.proofs.Common.{refl, sym, ap, option_map, option_and_then}
use Rattle.std.specs.List.{list_all}
use Rattle.std.specs.Str.{is_utf8}
use Rattle.std.specs.Option.{option_map_or}
use Rattle.run_words.specs.declared.option_name.OptionName.TheVariants.{SpFile, IsoFile, Define, Jobs, Generate as GenerateName, Functions, Unread}
use Rattle.run_words.specs.declared.fault.Need.TheVariants as need
use Rattle.run_words.specs.declared.fault.WordFault.{WordFault}
use Rattle.run_words.specs.declared.fault.WordFault.TheVariants.{BadValue, Needed}
use Rattle.run_words.specs.Options.{Options}
use Rattle.run_words.specs.Values.{seed_in, count_in}
use Rattle.run_words.specs.OptionNames.{first_of}
use Rattle.run_words.specs.Orders.{Order, Apply, Generate, OnFiles, OnText, Say, are_filled, asks_text, defined_in, editing, generating, has_files}
use Rattle.run_words.specs.Orders.{has_jobs, has_unread, is_about_files, is_about_patches, is_filled, mode_in, most_functions, on_text, order_of}
use Rattle.run_words.specs.Orders.{ordered, saying_in, stores_checked, told_in, working}
use Rattle.run_words.specs.Faults.{apart_fault, bad_text, lacks_file, lacks_functions, need_fault, options_fault, told_if, value_fault, word_fault}
use Rattle.run_words.specs.UnreadLaws.Choices.{SameButUnread, order_telling, with_unread}
use Rattle.run_words.proofs.ValueLaws.{unread_filled}
use Rattle.run_words.proofs.FlagLaws.FlagLemmas.{lacks_same, map_cond, map_unless}
use Rattle.run_words.proofs.JobLaws.FaultLemmas.{fault_of_options}

-- a valid choice isn't empty, and has no fault
filled_by : (choice : Option (List ℕ)) (o : Options) → has_unread (with_unread choice o) ≡ true → is_filled choice ≡ true
filled_by choice o e = unread_filled choice (ap not e)

choice_good : (choice : Option (List ℕ)) (o : Options) → has_unread (with_unread choice o) ≡ true → bad_text Unread choice ≡ None
choice_good None o e = refl
choice_good (Some text) o e = ap (λ (b : Bool). cond b None (Some (BadValue Unread text))) e

module _ (o : Options) (choice : Option (List ℕ)) (has_one : has_unread o ≡ true) (has_other : has_unread (with_unread choice o) ≡ true)
    (patch : is_some o.sp_file ≡ true) where
  abbrev other : Options
  other = with_unread choice o

  abbrev telling : Order → Order
  telling = order_telling (told_in other)

  -- ---- with files

  defined_same : (p : List ℕ) (defined : Option (List (List ℕ)))
      → option_map (λ d. Apply p o.iso_file d (OnFiles (mode_in other) o.files)) defined
      ≡ option_map telling (option_map (λ d. Apply p o.iso_file d (OnFiles (mode_in o) o.files)) defined)
  defined_same p None = refl
  defined_same p (Some defined) = refl

  edited_same : (sp : Option (List ℕ))
      → option_and_then (λ p. option_map (λ d. Apply p o.iso_file d (OnFiles (mode_in other) o.files)) (defined_in o)) sp
      ≡ option_map telling (option_and_then (λ p. option_map (λ d. Apply p o.iso_file d (OnFiles (mode_in o) o.files)) (defined_in o)) sp)
  edited_same None = refl
  edited_same (Some p) = defined_same p (defined_in o)

  editing_same : editing other ≡ option_map telling (editing o)
  editing_same =
      let fits = has_files o && not (is_some o.functions) && not (stores_checked o) in
      ap (λ (x : Option Order). cond fits x None) (edited_same o.sp_file)
      ∙ map_cond telling fits
      (option_and_then (λ p. option_map (λ d. Apply p o.iso_file d (OnFiles (mode_in o) o.files)) (defined_in o)) o.sp_file)

  -- ---- with a generated text

  text_by : (sp : Option (List ℕ)) → is_some sp ≡ true → (seed functions : ℕ) (one two : Option Order)
      → option_map_or (λ p. Some (Apply p None [] (OnText seed functions o.quiet (told_in other) o.tidy))) sp one
      ≡ option_map telling (option_map_or (λ p. Some (Apply p None [] (OnText seed functions o.quiet (told_in o) o.tidy))) sp two)
  text_by None named seed functions one two = let wrong : false ≡ true = named in absurd cc
  text_by (Some p) named seed functions one two = refl

  text_same : (seed functions : ℕ) → on_text other seed functions ≡ option_map telling (on_text o seed functions)
  text_same seed functions = text_by o.sp_file patch seed functions (cond (is_about_patches other) None (Some (Generate seed functions)))
      (cond (is_about_patches o) None (Some (Generate seed functions)))

  count_same : (seed : ℕ) (count : Option ℕ) → option_and_then (λ functions. on_text other seed functions) count
      ≡ option_map telling (option_and_then (λ functions. on_text o seed functions) count)
  count_same seed None = refl
  count_same seed (Some functions) = text_same seed functions

  functions_same : (seed : ℕ) (text : Option (List ℕ))
      → option_and_then (λ t. option_and_then (λ functions. on_text other seed functions) (count_in most_functions t)) text
      ≡ option_map telling (option_and_then (λ t. option_and_then (λ functions. on_text o seed functions) (count_in most_functions t)) text)
  functions_same seed None = refl
  functions_same seed (Some t) = count_same seed (count_in most_functions t)

  -- what is asked for with this seed
  abbrev seeded : Options → Option ℕ → Option Order
  seeded p seed =
      option_and_then (λ s. option_and_then (λ t. option_and_then (λ functions. on_text p s functions) (count_in most_functions t)) o.functions) seed

  seed_same : (seed : Option ℕ) → seeded other seed ≡ option_map telling (seeded o seed)
  seed_same None = refl
  seed_same (Some s) = functions_same s o.functions

  generating_same : (value : List ℕ) → generating other value ≡ option_map telling (generating o value)
  generating_same value =
      ap (λ (x : Option Order). cond (is_about_files o) None x) (seed_same (seed_in value))
      ∙ map_unless telling (is_about_files o) (seeded o (seed_in value))

  -- ---- whole options

  generate_same : (generate : Option (List ℕ)) → option_map_or (generating other) generate (editing other)
      ≡ option_map telling (option_map_or (generating o) generate (editing o))
  generate_same None = editing_same
  generate_same (Some value) = generating_same value

  working_same : working other ≡ option_map telling (working o)
  unfolding working
  working_same =
      ap (λ (b : Bool). cond (has_jobs o && b) (option_map_or (generating other) o.generate (editing other)) None) (has_other ∙ sym has_one)
      ∙ (ap (λ (x : Option Order). cond (has_jobs o && has_unread o) x None) (generate_same o.generate)
      ∙ map_cond telling (has_jobs o && has_unread o) (option_map_or (generating o) o.generate (editing o)))

  asked_same : (asks : Bool) → cond asks (Some (Say (saying_in o))) (working other)
      ≡ option_map telling (cond asks (Some (Say (saying_in o))) (working o))
  asked_same true = refl
  asked_same false = working_same

  filled_same : are_filled other ≡ are_filled o
  filled_same =
      ap (λ (b : Bool). is_filled o.sp_file && is_filled o.iso_file && is_filled o.define && is_filled o.jobs && is_filled o.generate
      && is_filled o.functions && b)
      (filled_by choice o has_other ∙ sym (filled_by o.unread o has_one))

  pub ordered_same : ordered other ≡ option_map telling (ordered o)
  unfolding ordered
  ordered_same =
      ap (λ (b : Bool). cond b (cond (asks_text o) (Some (Say (saying_in o))) (working other)) None) filled_same
      ∙ (ap (λ (x : Option Order). cond (are_filled o) x None) (asked_same (asks_text o))
      ∙ map_cond telling (are_filled o) (cond (asks_text o) (Some (Say (saying_in o))) (working o)))

  -- ---- faults

  value_same : value_fault other ≡ value_fault o
  value_same = ap (λ (f : Option WordFault). first_of (bad_text SpFile o.sp_file ∷ bad_text IsoFile o.iso_file ∷ bad_text Define o.define
      ∷ bad_text Jobs o.jobs ∷ bad_text GenerateName o.generate ∷ bad_text Functions o.functions ∷ f ∷ []))
      (choice_good choice o has_other ∙ sym (choice_good o.unread o has_one))

  need_same : need_fault other ≡ need_fault o
  need_same = ap (λ (b : Bool). first_of (told_if b (Needed need.Patch) ∷ told_if (lacks_file o) (Needed need.File)
      ∷ told_if (lacks_functions o) (Needed need.Functions) ∷ []))
      (lacks_same o.sp_file patch (not (is_some o.generate) || is_about_patches other) (not (is_some o.generate) || is_about_patches o))

  pub options_same : options_fault other ≡ options_fault o
  unfolding options_fault
  options_same =
      ap (λ (b : Bool). cond (b && asks_text o) None (first_of (value_fault other ∷ need_fault other ∷ apart_fault o ∷ []))) filled_same
      ∙ (ap (λ (f : Option WordFault). cond (are_filled o && asks_text o) None (first_of (f ∷ need_fault other ∷ apart_fault o ∷ []))) value_same
      ∙ ap (λ (f : Option WordFault). cond (are_filled o && asks_text o) None (first_of (value_fault o ∷ f ∷ apart_fault o ∷ []))) need_same)

pub order_same : (words others : List (List ℕ)) → (s : SameButUnread words others)
    → order_of others ≡ option_map (order_telling (told_in (with_unread s.choice s.options))) (order_of words)
unfolding order_of
order_same words others s =
    let telling = order_telling (told_in (with_unread s.choice s.options)) in
    ap (λ (x : Option Options). cond (list_all is_utf8 others) (option_and_then ordered x) None) s.other
    ∙ (ap (λ (x : Option Order). cond (list_all is_utf8 others) x None) (ordered_same s.options s.choice s.has_one s.has_other s.patch)
    ∙ (map_cond telling (list_all is_utf8 others) (ordered s.options)
    ∙ (ap (λ (b : Bool). option_map telling (cond b (ordered s.options) None)) (sym s.texts)
    ∙ sym (ap (λ (x : Option Options). option_map telling (cond (list_all is_utf8 words) (option_and_then ordered x) None)) s.one))))

pub fault_same : (words others : List (List ℕ)) → SameButUnread words others → list_all is_utf8 words ≡ true → word_fault others ≡ word_fault words
fault_same words others s text =
    fault_of_options others (with_unread s.choice s.options) (sym s.texts ∙ text) s.other
    ∙ (options_same s.options s.choice s.has_one s.has_other s.patch ∙ sym (fault_of_options words s.options text s.one))
