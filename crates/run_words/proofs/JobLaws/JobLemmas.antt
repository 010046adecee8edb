-- Words with other jobs ask for the same.
use Rattle.std.proofs.Common.{◌≡◌, ◌⊎◌, ◌&&◌, ℕ, Bool, true, false, cond, not, Option, Some, None, is_some, List, [], length, ◌||◌}
use Rattle.std.proofs.Common.{inl, inr, refl, sym, ap, ◌∙◌, option_and_then}
use Rattle.std.specs.Prelude.{nat_le}
use Rattle.std.specs.List.{list_all}
use Rattle.std.specs.Str.{is_utf8}
use Rattle.run_words.specs.Options.{Options}
use Rattle.std.specs.Option.{option_map_or}
use Rattle.c_lexer.specs.Words.{is_digit}
use Rattle.run_words.specs.Values.{decimal_value, begins_with_zero, seed_in, count_in}
use Rattle.run_words.specs.Orders.{OnText, Order, Apply, Generate, Say, asks_text, saying_in, working, most_jobs}
use Rattle.run_words.specs.Orders.{most_functions, is_filled, are_filled, has_jobs, has_unread, told_in}
use Rattle.run_words.specs.Orders.{is_about_files, editing, on_text, generating, ordered, order_of}
use Rattle.run_words.specs.JobLaws.Jobs.{with_jobs, SameButJobs}

-- ---- a number of jobs isn't empty

some_true : {A : Type 0} (a b c d : Bool) (x : A) → is_some (cond (a && b && c && d) (Some x) None) ≡ true → a ≡ true
some_true true b c d x e = refl
some_true false b c d x e = let f : false ≡ true = e in absurd cc

filled_by : (jobs : Option (List ℕ)) (o : Options) → has_jobs (with_jobs jobs o) ≡ true → is_filled jobs ≡ true
filled_by None o e = refl
filled_by (Some text) o e =
    some_true (nat_le 1 (length text)) (list_all is_digit text) (not (begins_with_zero text)) (nat_le (decimal_value text) most_jobs) (decimal_value text) e

-- ---- what is asked for

module _ (o : Options) (jobs : Option (List ℕ)) (has_one : has_jobs o ≡ true) (has_other : has_jobs (with_jobs jobs o) ≡ true)
    (given : (is_some o.jobs ≡ is_some jobs) ⊎ (is_some o.sp_file ≡ true)) where
  abbrev other : Options
  other = with_jobs jobs o

  -- if no patch is named, `--jobs` is given in both or in neither
  both_given : (sp : Option (List ℕ)) → (is_some o.jobs ≡ is_some jobs) ⊎ (is_some sp ≡ true) → sp ≡ None → is_some jobs ≡ is_some o.jobs
  both_given sp (inl same) e = sym same
  both_given None (inr named) e = let f : false ≡ true = named in absurd cc
  both_given (Some patch) (inr named) e = absurd cc

  text_by : (sp : Option (List ℕ)) → o.sp_file ≡ sp → (seed functions : ℕ)
      → option_map_or (λ patch. Some (Apply patch None [] (OnText seed functions o.quiet (told_in o) o.tidy))) sp
      (cond (is_some jobs || o.quiet || is_some o.unread || o.tidy) None (Some (Generate seed functions)))
      ≡ option_map_or (λ patch. Some (Apply patch None [] (OnText seed functions o.quiet (told_in o) o.tidy))) sp
      (cond (is_some o.jobs || o.quiet || is_some o.unread || o.tidy) None (Some (Generate seed functions)))
  text_by (Some patch) e seed functions = refl
  text_by None e seed functions =
      ap (λ (b : Bool). cond (b || o.quiet || is_some o.unread || o.tidy) None (Some (Generate seed functions))) (both_given o.sp_file given e)

  text_same : (seed functions : ℕ) → on_text other seed functions ≡ on_text o seed functions
  text_same seed functions = text_by o.sp_file refl seed functions

  count_same : (seed : ℕ) (count : Option ℕ) → option_and_then (λ functions. on_text other seed functions) count
      ≡ option_and_then (λ functions. on_text o seed functions) count
  count_same seed None = refl
  count_same seed (Some functions) = text_same seed functions

  functions_same : (seed : ℕ) (text : Option (List ℕ))
      → option_and_then (λ t. option_and_then (λ functions. on_text other seed functions) (count_in most_functions t)) text
      ≡ option_and_then (λ t. option_and_then (λ functions. on_text o seed functions) (count_in most_functions t)) text
  functions_same seed None = refl
  functions_same seed (Some t) = count_same seed (count_in most_functions t)

  seed_same : (seed : Option ℕ) → option_and_then (λ s. option_and_then (λ t. option_and_then (λ functions. on_text other s functions)
      (count_in most_functions t)) o.functions) seed
      ≡ option_and_then (λ s. option_and_then (λ t. option_and_then (λ functions. on_text o s functions) (count_in most_functions t)) o.functions) seed
  seed_same None = refl
  seed_same (Some s) = functions_same s o.functions

  generating_same : (value : List ℕ) → generating other value ≡ generating o value
  generating_same value = ap (λ (x : Option Order). cond (is_about_files o) None x) (seed_same (seed_in value))

  generate_same : (generate : Option (List ℕ)) → option_map_or (generating other) generate (editing other)
      ≡ option_map_or (generating o) generate (editing o)
  generate_same None = refl
  generate_same (Some value) = generating_same value

  pub filled_same : are_filled other ≡ are_filled o
  filled_same =
      ap (λ (b : Bool). is_filled o.sp_file && is_filled o.iso_file && is_filled o.define && b && is_filled o.generate && is_filled o.functions
      && is_filled o.unread)
      (filled_by jobs o has_other ∙ sym (filled_by o.jobs o has_one))

  working_same : working other ≡ working o
  unfolding working
  working_same =
      ap (λ (b : Bool). cond (b && has_unread o) (option_map_or (generating other) o.generate (editing other)) None) (has_other ∙ sym has_one)
      ∙ ap (λ (x : Option Order). cond (has_jobs o && has_unread o) x None) (generate_same o.generate)

  pub ordered_same : ordered other ≡ ordered o
  unfolding ordered
  ordered_same =
      ap (λ (b : Bool). cond b (cond (asks_text o) (Some (Say (saying_in o))) (working other)) None) filled_same
      ∙ ap (λ (x : Option Order). cond (are_filled o) (cond (asks_text o) (Some (Say (saying_in o))) x) None) working_same

pub order_same : (words others : List (List ℕ)) → SameButJobs words others → order_of others ≡ order_of words
unfolding order_of
order_same words others s =
    ap (λ (x : Option Options). cond (list_all is_utf8 others) (option_and_then ordered x) None) s.other
    ∙ ap (λ (x : Option Order). cond (list_all is_utf8 others) x None) (ordered_same s.options s.jobs s.has_one s.has_other s.given)
    ∙ ap (λ (b : Bool). cond b (ordered s.options) None) (sym s.texts)
    ∙ sym (ap (λ (x : Option Options). cond (list_all is_utf8 words) (option_and_then ordered x) None) s.one)
