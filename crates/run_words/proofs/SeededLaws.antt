-- With `--generate` options have a fault exactly where they ask for nothing.
use Rattle.std.proofs.Common.{◌≡◌, ◌∙◌, refl, sym, ap, ℕ, Bool, true, false, not, ◌&&◌, ◌||◌, cond, List, [], ◌∷◌, Option, Some, None, is_some}
use Rattle.std.proofs.Common.{option_and_then}
use Rattle.std.specs.Option.{option_map_or}
use Rattle.std.proofs.lemmas.Bool.{or_parts}
use Rattle.run_choices.specs.declared.unread.Unread.{Unread}
use Rattle.run_words.specs.declared.option_name.OptionName.TheVariants.{Define, Generate, Functions, IsoFile, Witnesses, InPlace, Check}
use Rattle.run_words.specs.declared.fault.WordFault.TheVariants.{Apart, ApartFromFiles}
use Rattle.run_words.specs.Options.{Options}
use Rattle.run_words.specs.Values.{seed_in, count_in}
use Rattle.run_words.specs.Orders.{Order, Apply, OnText, Generate as AskedGenerate, are_filled, editing, generating, has_files, has_jobs}
use Rattle.run_words.specs.Orders.{has_unread, is_about_files, is_about_patches, most_functions, on_text, told_in, working}
use Rattle.run_words.specs.OptionNames.{first_of}
use Rattle.run_words.specs.Faults.{apart_fault, edit_faults, file_faults, need_fault, value_fault}
use Rattle.run_words.proofs.ValueLaws.{bad, both_or, fine, none_fine, or_last, some_cond, some_first, some_need, some_then}
use Rattle.run_words.proofs.ValueLaws.{some_three, some_told, some_unless, values_left}

by_patch : (patch : Option (List ℕ)) (quiet about tidy : Bool) (unread : Unread) (seed functions : ℕ)
    → is_some (option_map_or (λ name. Some (Apply name None [] (OnText seed functions quiet unread tidy))) patch
    (cond about None (Some (AskedGenerate seed functions))))
    ≡ not (not (is_some patch) && about)
by_patch (Some name) quiet about tidy unread seed functions = refl
by_patch None quiet true tidy unread seed functions = refl
by_patch None quiet false tidy unread seed functions = refl

text_some : (o : Options) (seed functions : ℕ) → is_some (on_text o seed functions) ≡ not (not (is_some o.sp_file) && is_about_patches o)
text_some o seed functions = by_patch o.sp_file o.quiet (is_about_patches o) o.tidy (told_in o) seed functions

counted : (functions : Option (List ℕ)) (next : ℕ → Option Order) (b : Bool) → ((n : ℕ) → is_some (next n) ≡ b)
    → is_some (option_and_then (λ text. option_and_then next (count_in most_functions text)) functions)
    ≡ (is_some (option_and_then (count_in most_functions) functions) && b)
counted None next b h = refl
counted (Some text) next b h = some_then next (count_in most_functions text) b h

some_generating : (o : Options) (value : List ℕ) → is_some (generating o value) ≡ (not (is_about_files o) && (is_some (seed_in value)
    && (is_some (option_and_then (count_in most_functions) o.functions) && not (not (is_some o.sp_file) && is_about_patches o))))
some_generating o value =
    some_unless (is_about_files o) _ ∙ ap (λ b. not (is_about_files o) && b) (some_then _ (seed_in value) _ (λ seed.
    counted o.functions (on_text o seed) (not (not (is_some o.sp_file) && is_about_patches o)) (text_some o seed)))

or_end : (a b c d e f : Bool) → (a || (b || (c || (d || (e || (f || false)))))) ≡ (a || b || c || d || e || f)
or_end true b c d e f = refl
or_end false true c d e f = refl
or_end false false true d e f = refl
or_end false false false true e f = refl
or_end false false false false true f = refl
or_end false false false false false true = refl
or_end false false false false false false = refl

some_apart : (o : Options) → is_some (first_of (file_faults o)) ≡ is_about_files o
some_apart o = some_first (file_faults o)
    ∙ (both_or (some_told (has_files o) (ApartFromFiles Generate)) (both_or (some_told (is_some o.iso_file) (Apart Generate IsoFile))
    (both_or (some_told (is_some o.define) (Apart Generate Define)) (both_or (some_told o.witnesses (Apart Generate Witnesses))
    (both_or (some_told o.in_place (Apart Generate InPlace)) (both_or (some_told o.check (Apart Generate Check)) refl)))))
    ∙ or_end (has_files o) (is_some o.iso_file) (is_some o.define) o.witnesses o.in_place o.check)

-- by whether the number of jobs is one, the seed is, and a patch is needed
no_count_table : (j g n : Bool) → ((not j || (not g || (false || false)))
    || ((n || (false || (true || false))) || (false || false))) ≡ not (j && (true && (g && (false && not n))))
no_count_table true true true = refl
no_count_table true true false = refl
no_count_table true false true = refl
no_count_table true false false = refl
no_count_table false true true = refl
no_count_table false true false = refl
no_count_table false false true = refl
no_count_table false false false = refl

-- by whether the number of jobs is one, the seed is, the number of functions is, and a patch is needed
count_table : (j g k n : Bool) → ((not j || (not g || (not k || false)))
    || ((n || (false || (false || false))) || (false || false))) ≡ not (j && (true && (g && (k && not n))))
count_table true true true true = refl
count_table true true true false = refl
count_table true true false true = refl
count_table true true false false = refl
count_table true false true true = refl
count_table true false true false = refl
count_table true false false true = refl
count_table true false false false = refl
count_table false true true true = refl
count_table false true true false = refl
count_table false true false true = refl
count_table false true false false = refl
count_table false false true true = refl
count_table false false true false = refl
count_table false false false true = refl
count_table false false false false = refl

seeded_by : (j g n : Bool) (functions : Option (List ℕ)) → ((not j || (not g || (bad Functions functions || false)))
    || ((n || (false || (not (is_some functions) || false))) || (false || false)))
    ≡ not (j && (true && (g && (is_some (option_and_then (count_in most_functions) functions) && not n))))
seeded_by j g n None = no_count_table j g n
seeded_by j g n (Some text) = count_table j g (is_some (count_in most_functions text)) n

not_seeded : (j rest : Bool) → true ≡ not (j && (false && rest))
not_seeded true rest = refl
not_seeded false rest = refl

seeded_need : (s jobs f u : Bool) → ((not s && (false || jobs)) || ((not f && false) || ((not u && true) || false)))
    ≡ ((not s && jobs) || (false || (not u || false)))
seeded_need true true true true = refl
seeded_need true true true false = refl
seeded_need true true false true = refl
seeded_need true true false false = refl
seeded_need true false true true = refl
seeded_need true false true false = refl
seeded_need true false false true = refl
seeded_need true false false false = refl
seeded_need false true true true = refl
seeded_need false true true false = refl
seeded_need false true false true = refl
seeded_need false true false false = refl
seeded_need false false true true = refl
seeded_need false false true false = refl
seeded_need false false false true = refl
seeded_need false false false false = refl

about_fine : (o : Options) → is_about_files o ≡ false → fine Define o.define ≡ true
about_fine o none =
    let five = or_parts (has_files o || is_some o.iso_file || is_some o.define || o.witnesses || o.in_place) o.check none in
    let four = or_parts (has_files o || is_some o.iso_file || is_some o.define || o.witnesses) o.in_place five.0 in
    let three = or_parts (has_files o || is_some o.iso_file || is_some o.define) o.witnesses four.0 in
    let two = or_parts (has_files o || is_some o.iso_file) (is_some o.define) three.0 in
    none_fine Define o.define two.1

seeded_about : (d j g n about : Bool) (functions : Option (List ℕ)) → (about ≡ false → d ≡ true)
    → ((not d || (not j || (not g || (bad Functions functions || false)))) || ((n || (false || (not (is_some functions) || false))) || (about || false)))
    ≡ not (j && (not about && (g && (is_some (option_and_then (count_in most_functions) functions) && not n))))
seeded_about d j g n true functions none =
    or_last (not d || (not j || (not g || (bad Functions functions || false)))) (n || (false || (not (is_some functions) || false)))
    ∙ not_seeded j (g && (is_some (option_and_then (count_in most_functions) functions) && not n))
seeded_about true j g n false functions none = seeded_by j g n functions
seeded_about false j g n false functions none = let wrong : false ≡ true = none refl in absurd cc

pub seeded_law : (o : Options) (value : List ℕ) → are_filled o ≡ true → o.generate ≡ Some value
    → is_some (first_of (value_fault o ∷ need_fault o ∷ apart_fault o ∷ [])) ≡ not (is_some (working o))
unfolding working
seeded_law o value filled some =
    let fine_values = has_jobs o && has_unread o in
    let patch_needed = not (is_some o.sp_file) && is_about_patches o in
    let values : is_some (value_fault o) ≡ (bad Define o.define
    || (not fine_values || (not (is_some (seed_in value)) || (bad Functions o.functions || false)))) =
    values_left o filled ∙ ap (λ g. bad Define o.define || (not fine_values || (bad Generate g || (bad Functions o.functions || false)))) some in
    let need : is_some (need_fault o) ≡ (patch_needed || (false || (not (is_some o.functions) || false))) = some_need o
    ∙ (ap (λ g. (not (is_some o.sp_file) && (not (is_some g) || is_about_patches o)) || ((not (has_files o) && not (is_some g))
    || ((not (is_some o.functions) && is_some g) || false))) some
    ∙ seeded_need (is_some o.sp_file) (is_about_patches o) (has_files o) (is_some o.functions)) in
    let apart : is_some (apart_fault o) ≡ is_about_files o =
    ap (λ g. is_some (cond (is_some g) (first_of (file_faults o)) (first_of (edit_faults o)))) some
    ∙ some_apart o in
    let asked : is_some (working o) ≡ (fine_values && (not (is_about_files o) && (is_some (seed_in value)
    && (is_some (option_and_then (count_in most_functions) o.functions) && not patch_needed)))) =
    some_cond fine_values _ ∙ ap (λ b. fine_values && b) (ap (λ g. is_some (option_map_or (generating o) g (editing o))) some ∙ some_generating o value) in
    some_three o ∙ (ap (λ b. b || (is_some (need_fault o) || (is_some (apart_fault o) || false))) values
    ∙ (ap (λ b. (bad Define o.define || (not fine_values || (not (is_some (seed_in value)) || (bad Functions o.functions || false))))
    || (b || (is_some (apart_fault o) || false))) need
    ∙ (ap (λ b. (bad Define o.define || (not fine_values || (not (is_some (seed_in value)) || (bad Functions o.functions || false))))
    || ((patch_needed || (false || (not (is_some o.functions) || false))) || (b || false))) apart
    ∙ (seeded_about (fine Define o.define) fine_values (is_some (seed_in value)) patch_needed (is_about_files o) o.functions
    (about_fine o) ∙ ap not (sym asked)))))
