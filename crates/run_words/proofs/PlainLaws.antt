-- Without `--generate` options have a fault exactly where they ask for nothing.
use Rattle.std.proofs.Common.{◌≡◌, ◌∙◌, refl, sym, ap, ℕ, Bool, true, false, not, ◌&&◌, ◌||◌, cond, List, [], ◌∷◌, Option, Some, None, is_some}
use Rattle.std.specs.Option.{option_map_or}
use Rattle.run_words.specs.declared.option_name.OptionName.TheVariants.{Check, Define, Generate, Functions, InPlace}
use Rattle.run_words.specs.declared.fault.WordFault.TheVariants.{Apart, ApartFromFiles}
use Rattle.run_words.specs.Options.{Options}
use Rattle.run_words.specs.Values.{names_in}
use Rattle.run_words.specs.Orders.{are_filled, defined_in, editing, generating, has_files, has_jobs, has_unread, is_about_patches, stores_checked}
use Rattle.run_words.specs.Orders.{working}
use Rattle.run_words.specs.OptionNames.{first_of}
use Rattle.run_words.specs.Faults.{apart_fault, edit_faults, file_faults, need_fault, value_fault}
use Rattle.run_words.proofs.ValueLaws.{bad, both_or, fine, or_last, some_cond, some_first, some_map, some_need, some_then, some_three}
use Rattle.run_words.proofs.ValueLaws.{some_told, values_left}

defined_fine : (define : Option (List ℕ)) → is_some (option_map_or names_in define (Some [])) ≡ fine Define define
defined_fine None = refl
defined_fine (Some text) = refl

some_editing : (o : Options) → is_some (editing o)
    ≡ ((has_files o && not (is_some o.functions) && not (stores_checked o)) && (is_some o.sp_file && fine Define o.define))
some_editing o =
    some_cond (has_files o && not (is_some o.functions) && not (stores_checked o)) _
    ∙ ap (λ b. (has_files o && not (is_some o.functions) && not (stores_checked o)) && b) (some_then _ o.sp_file (fine Define o.define)
    (λ patch. some_map _ (defined_in o) ∙ defined_fine o.define))

some_edit : (o : Options) → is_some (first_of (edit_faults o)) ≡ (is_some o.functions || (stores_checked o || false))
some_edit o = some_first (edit_faults o) ∙ both_or (some_told (is_some o.functions) (ApartFromFiles Functions))
    (both_or (some_told (stores_checked o) (Apart Check InPlace)) refl)

not_asked : (j f k rest : Bool) → true ≡ not (j && ((f && false && k) && rest))
not_asked true true k rest = refl
not_asked true false k rest = refl
not_asked false f k rest = refl

not_stored : (j f rest : Bool) → true ≡ not (j && ((f && true && false) && rest))
not_stored true true rest = refl
not_stored true false rest = refl
not_stored false f rest = refl

-- by whether the names are some, the number of jobs is one, a patch is given, and a file is
plain_table : (d j s f : Bool) → ((not d || (not j || false)) || ((not s || (not f || false)) || (false || false)))
    ≡ not (j && ((f && true && true) && (s && d)))
plain_table true true true true = refl
plain_table true true true false = refl
plain_table true true false true = refl
plain_table true true false false = refl
plain_table true false true true = refl
plain_table true false true false = refl
plain_table true false false true = refl
plain_table true false false false = refl
plain_table false true true true = refl
plain_table false true true false = refl
plain_table false true false true = refl
plain_table false true false false = refl
plain_table false false true true = refl
plain_table false false true false = refl
plain_table false false false true = refl
plain_table false false false false = refl

-- and by whether a file is to be stored that is only checked
plain_by : (d j s f k : Bool) (functions : Option (List ℕ)) → ((not d || (not j || (bad Functions functions || false))) || ((not s || (not f || false))
    || ((is_some functions || (k || false)) || false))) ≡ not (j && ((f && not (is_some functions) && not k) && (s && d)))
plain_by d j s f false None = plain_table d j s f
plain_by d j s f true None = or_last (not d || (not j || false)) (not s || (not f || false)) ∙ not_stored j f (s && d)
plain_by d j s f k (Some text) =
    or_last (not d || (not j || (bad Functions (Some text) || false))) (not s || (not f || false)) ∙ not_asked j f (not k) (s && d)

plain_need : (s f u : Bool) → ((not s && true) || ((not f && true) || ((not u && false) || false))) ≡ (not s || (not f || false))
plain_need true true true = refl
plain_need true true false = refl
plain_need true false true = refl
plain_need true false false = refl
plain_need false true true = refl
plain_need false true false = refl
plain_need false false true = refl
plain_need false false false = refl

pub plain_law : (o : Options) → are_filled o ≡ true → o.generate ≡ None
    → is_some (first_of (value_fault o ∷ need_fault o ∷ apart_fault o ∷ [])) ≡ not (is_some (working o))
unfolding working
plain_law o filled none =
    let fine_values = has_jobs o && has_unread o in
    let value : is_some (value_fault o) ≡ (bad Define o.define || (not fine_values || (bad Functions o.functions || false))) =
    values_left o filled ∙ ap (λ g. bad Define o.define || (not fine_values || (bad Generate g || (bad Functions o.functions || false)))) none in
    let need : is_some (need_fault o) ≡ (not (is_some o.sp_file) || (not (has_files o) || false)) = some_need o
    ∙ (ap (λ g. (not (is_some o.sp_file) && (not (is_some g) || is_about_patches o)) || ((not (has_files o) && not (is_some g))
    || ((not (is_some o.functions) && is_some g) || false))) none
    ∙ plain_need (is_some o.sp_file) (has_files o) (is_some o.functions)) in
    let apart : is_some (apart_fault o) ≡ (is_some o.functions || (stores_checked o || false)) =
    ap (λ g. is_some (cond (is_some g) (first_of (file_faults o)) (first_of (edit_faults o)))) none ∙ some_edit o in
    let asked : is_some (working o) ≡ (fine_values && ((has_files o && not (is_some o.functions) && not (stores_checked o))
    && (is_some o.sp_file && fine Define o.define))) =
    some_cond fine_values _ ∙ ap (λ b. fine_values && b) (ap (λ g. is_some (option_map_or (generating o) g (editing o))) none ∙ some_editing o) in
    some_three o ∙ (ap (λ b. b || (is_some (need_fault o) || (is_some (apart_fault o) || false))) value
    ∙ (ap (λ b. (bad Define o.define || (not fine_values || (bad Functions o.functions || false))) || (b || (is_some (apart_fault o) || false))) need
    ∙ (ap (λ b. (bad Define o.define || (not fine_values || (bad Functions o.functions || false))) || ((not (is_some o.sp_file) || (not (has_files o) || false))
    || (b || false))) apart
    ∙ (plain_by (fine Define o.define) fine_values (is_some o.sp_file) (has_files o) (stores_checked o) o.functions ∙ ap not (sym asked)))))
