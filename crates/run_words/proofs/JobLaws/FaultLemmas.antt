-- Words with other jobs have the same fault.
use Rattle.std.proofs.Common.{◌≡◌, ◌⊎◌, ◌∙◌, ◌&&◌, ◌||◌, ℕ, Bool, true, false, cond, not, Option, Some, None, is_some, List, [], ◌∷◌}
use Rattle.std.proofs.Common.{inl, inr, refl, sym, ap, option_and_then}
use Rattle.std.specs.List.{list_all}
use Rattle.std.specs.Str.{is_utf8}
use Rattle.std.specs.Option.{option_or}
use Rattle.run_words.specs.declared.option_name.OptionName.TheVariants.{SpFile, IsoFile, Define, Jobs, Generate, Functions, Unread}
use Rattle.run_words.specs.declared.fault.Need.TheVariants as need
use Rattle.run_words.specs.declared.fault.WordFault.{WordFault}
use Rattle.run_words.specs.declared.fault.WordFault.TheVariants.{BadValue, Needed}
use Rattle.run_words.specs.Options.{Options, options_of}
use Rattle.run_words.specs.Orders.{are_filled, asks_text, has_files, has_jobs}
use Rattle.run_words.specs.OptionNames.{first_of}
use Rattle.run_words.specs.Faults.{apart_fault, bad_text, fault_from, need_fault, options_fault, text_fault, told_if, value_fault, word_fault}
use Rattle.run_words.specs.JobLaws.Jobs.{with_jobs, SameButJobs}
use Rattle.run_words.proofs.JobLaws.JobLemmas.{filled_same}
use Rattle.run_words.proofs.WordLaws.{words_law}

-- ---- options

jobs_good : (jobs : Option (List ℕ)) (o : Options) → has_jobs (with_jobs jobs o) ≡ true → bad_text Jobs jobs ≡ None
jobs_good None o e = refl
jobs_good (Some text) o e = ap (λ (b : Bool). cond b None (Some (BadValue Jobs text))) e

-- a patch is needed for the jobs in both or in neither
same_need : (patch other quiet unread tidy one two : Bool) → (one ≡ two) ⊎ (patch ≡ true)
    → (not patch && (other || (two || quiet || unread || tidy))) ≡ (not patch && (other || (one || quiet || unread || tidy)))
same_need patch other quiet unread tidy one two (inl same) = ap (λ (b : Bool). not patch && (other || (b || quiet || unread || tidy))) (sym same)
same_need true other quiet unread tidy one two (inr named) = refl
same_need false other quiet unread tidy one two (inr named) = let wrong : false ≡ true = named in absurd cc

module _ (o : Options) (jobs : Option (List ℕ)) (has_one : has_jobs o ≡ true) (has_other : has_jobs (with_jobs jobs o) ≡ true)
    (given : (is_some o.jobs ≡ is_some jobs) ⊎ (is_some o.sp_file ≡ true)) where
  abbrev other : Options
  other = with_jobs jobs o

  value_same : value_fault other ≡ value_fault o
  value_same = ap (λ (f : Option WordFault). first_of (bad_text SpFile o.sp_file ∷ bad_text IsoFile o.iso_file ∷ bad_text Define o.define ∷ f
      ∷ bad_text Generate o.generate ∷ bad_text Functions o.functions ∷ bad_text Unread o.unread ∷ []))
      (jobs_good jobs o has_other ∙ sym (jobs_good o.jobs o has_one))

  need_same : need_fault other ≡ need_fault o
  need_same = ap (λ (b : Bool). first_of (told_if b (Needed need.Patch) ∷ told_if (not (has_files o) && not (is_some o.generate)) (Needed need.File)
      ∷ told_if (not (is_some o.functions) && is_some o.generate) (Needed need.Functions) ∷ []))
      (same_need (is_some o.sp_file) (not (is_some o.generate)) o.quiet (is_some o.unread) o.tidy (is_some o.jobs) (is_some jobs) given)

  pub options_same : options_fault other ≡ options_fault o
  unfolding options_fault
  options_same =
      ap (λ (b : Bool). cond (b && asks_text o) None (first_of (value_fault other ∷ need_fault other ∷ apart_fault o ∷ [])))
      (filled_same o jobs has_one has_other given)
      ∙ (ap (λ (f : Option WordFault). cond (are_filled o && asks_text o) None (first_of (f ∷ need_fault other ∷ apart_fault o ∷ []))) value_same
      ∙ ap (λ (f : Option WordFault). cond (are_filled o && asks_text o) None (first_of (value_fault o ∷ f ∷ apart_fault o ∷ []))) need_same)

-- ---- words

none_of : {X : Type 0} (o : Option X) (given : Bool) → is_some o ≡ not given → given ≡ true → o ≡ None
none_of None given e is = refl
none_of (Some x) given e is = let wrong : true ≡ false = e ∙ ap not is in absurd cc

-- the fault of words that give options is that of the options
pub fault_of_options : (words : List (List ℕ)) (o : Options) → list_all is_utf8 words ≡ true → options_of words ≡ Some o → word_fault words ≡ options_fault o
unfolding word_fault
fault_of_options words o text is =
    ap (λ (b : Bool). cond b (option_or (fault_from words [] None) (option_and_then options_fault (options_of words))) (Some (text_fault words))) text
    ∙ (ap (λ (f : Option WordFault). option_or f (option_and_then options_fault (options_of words)))
    (none_of (fault_from words [] None) (is_some (options_of words)) (words_law words) (ap is_some is))
    ∙ ap (option_and_then options_fault) is)

pub fault_same : (words others : List (List ℕ)) → SameButJobs words others → list_all is_utf8 words ≡ true → word_fault others ≡ word_fault words
fault_same words others s text =
    fault_of_options others (with_jobs s.jobs s.options) (sym s.texts ∙ text) s.other
    ∙ (options_same s.options s.jobs s.has_one s.has_other s.given ∙ sym (fault_of_options words s.options text s.one))
