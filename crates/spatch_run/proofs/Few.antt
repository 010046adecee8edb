-- What words ask for: nothing if one of them isn't text, and generated texts of at most 100,000 functions.
use Rattle.std.proofs.Common.{◌≡◌, ◌≤◌, Bool, true, false, ◌&&◌, ℕ, List, [], Option, Some, None, length, refl, arith, subst}
use Rattle.std.specs.Prelude.{cond, not, nat_le, option_and_then, option_map}
use Rattle.std.specs.List.{list_all}
use Rattle.std.specs.Str.{is_utf8}
use Rattle.std.specs.Option.{option_map_or}
use Rattle.std.proofs.lemmas.Bool.Decides.{nat_tests}
use Rattle.c_lexer.specs.Words.{is_digit}
use Rattle.run_choices.specs.declared.unread.Unread.{Unread}
use Rattle.run_words.specs.declared.order.Target.{Target as CodeTarget}
use Rattle.run_words.specs.declared.order.Target.TheVariants as target
use Rattle.run_words.specs.Options.{Options, options_of}
use Rattle.run_words.specs.Values.{count_in, seed_in, decimal_value, begins_with_zero}
use Rattle.run_words.specs.declared.order.Saying.{Saying}
use Rattle.run_words.specs.Orders.{Target, OnFiles, OnText, Order, Apply, Generate, Say, most_functions, are_filled, asks_text, has_jobs, has_unread}
use Rattle.run_words.specs.Orders.{saying_in, told_in, working, is_about_files, is_about_patches, defined_in, editing, on_text, generating, ordered, order_of}
use Rattle.run_words.specs.Shown.{shown_target, few_functions}

abbrev HasFew : Target → Type 0
HasFew (OnFiles mode names) = Unit {0}
HasFew (OnText seed functions quiet unread tidy) = functions ≤ 100000

abbrev AsksFew : Option Order → Type 0
AsksFew None = Unit {0}
AsksFew (Some (Generate seed functions)) = Unit {0}
AsksFew (Some (Say saying)) = Unit {0}
AsksFew (Some (Apply patch isos defined target)) = HasFew target

few_cond : (b : Bool) (o : Option Order) → AsksFew o → AsksFew (cond b o None)
few_cond true o few = few
few_cond false o few = tt

few_cond_not : (b : Bool) (o : Option Order) → AsksFew o → AsksFew (cond b None o)
few_cond_not true o few = tt
few_cond_not false o few = few

few_then : {A : Type 0} (f : A → Option Order) (o : Option A) → ((a : A) → AsksFew (f a)) → AsksFew (option_and_then f o)
few_then f None few = tt
few_then f (Some a) few = few a

few_map : {A : Type 0} (f : A → Order) (o : Option A) → ((a : A) → AsksFew (Some (f a))) → AsksFew (option_map f o)
few_map f None few = tt
few_map f (Some a) few = few a

few_editing : (o : Options) → AsksFew (editing o)
few_editing o = few_cond _ _ (few_then _ o.sp_file (λ patch. few_map _ (defined_in o) (λ defined. tt)))

few_patch : (patch : Option (List ℕ)) (seed functions : ℕ) (quiet : Bool) (unread : Unread) (tidy : Bool) (rest : Option Order)
    → functions ≤ 100000 → AsksFew rest
    → AsksFew (option_map_or (λ p. Some (Apply p None [] (OnText seed functions quiet unread tidy))) patch rest)
few_patch None seed functions quiet unread tidy rest few more = more
few_patch (Some p) seed functions quiet unread tidy rest few more = few

few_on_text : (o : Options) (seed functions : ℕ) → functions ≤ 100000 → AsksFew (on_text o seed functions)
few_on_text o seed functions few =
    few_patch o.sp_file seed functions o.quiet (told_in o) o.tidy _ few (few_cond_not (is_about_patches o) (Some (Generate seed functions)) tt)

le_of : (a b : ℕ) → nat_le a b ≡ true → a ≤ b
le_of a b e = grind (arith, nat_tests)

held : (d : Bool) (n m most : ℕ) → nat_le n most ≡ d → cond d (Some n) None ≡ Some m → m ≤ most
held true n m most le is = let e : n ≡ m = cc in rw (← e) (le_of n most le)
held false n m most le is = let e : None ≡ Some m = is in absurd cc

most_of : (a b c : Bool) (n m most : ℕ) → cond (a && b && c && nat_le n most) (Some n) None ≡ Some m → m ≤ most
most_of true true true n m most is = held (nat_le n most) n m most refl is
most_of true true false n m most is = let e : None ≡ Some m = is in absurd cc
most_of true false c n m most is = let e : None ≡ Some m = is in absurd cc
most_of false b c n m most is = let e : None ≡ Some m = is in absurd cc

count_few : (value : List ℕ) (n : ℕ) → count_in most_functions value ≡ Some n → n ≤ 100000
count_few value n is = most_of (nat_le 1 (length value)) (list_all is_digit value) (not (begins_with_zero value)) (decimal_value value) n most_functions is

few_counted : (o : Options) (seed : ℕ) (count : Option ℕ) → ((n : ℕ) → count ≡ Some n → n ≤ 100000)
    → AsksFew (option_and_then (λ functions. on_text o seed functions) count)
few_counted o seed None few = tt
few_counted o seed (Some n) few = few_on_text o seed n (few n refl)

few_generating : (o : Options) (value : List ℕ) → AsksFew (generating o value)
few_generating o value =
    few_cond_not (is_about_files o) _ (few_then _ (seed_in value)
    (λ seed. few_then _ o.functions (λ text. few_counted o seed (count_in most_functions text) (count_few text))))

few_either : (o : Options) (value : Option (List ℕ)) → AsksFew (option_map_or (generating o) value (editing o))
few_either o None = few_editing o
few_either o (Some value) = few_generating o value

few_working : (o : Options) → AsksFew (working o)
unfolding working
few_working o = few_cond (has_jobs o && has_unread o) _ (few_either o o.generate)

few_saying : (asks : Bool) (saying : Saying) (order : Option Order) → AsksFew order → AsksFew (cond asks (Some (Say saying)) order)
few_saying true saying order few = tt
few_saying false saying order few = few

few_ordered_by : (o : Options) → AsksFew (ordered o)
unfolding ordered
few_ordered_by o = few_cond (are_filled o) _ (few_saying (asks_text o) (saying_in o) (working o) (few_working o))

few_asked : (words : List (List ℕ)) → AsksFew (order_of words)
unfolding order_of
few_asked words = few_cond (list_all is_utf8 words) _ (few_then ordered (options_of words) few_ordered_by)

-- a generated text that is asked for has at most so many functions
pub few_text : (words : List (List ℕ)) (patch : List ℕ) (isos : Option (List ℕ)) (defined : List (List ℕ)) (seed functions : ℕ) (quiet : Bool)
    (unread : Unread) (tidy : Bool) → order_of words ≡ Some (Apply patch isos defined (OnText seed functions quiet unread tidy)) → functions ≤ 100000
few_text words patch isos defined seed functions quiet unread tidy is = subst AsksFew is (few_asked words)

pub none_asked : (words : List (List ℕ)) → list_all is_utf8 words ≡ false → order_of words ≡ None
unfolding order_of
none_asked words no_text = rw no_text refl

few_shown : (target : CodeTarget) → HasFew (shown_target target) → few_functions target
few_shown (target.Files mode names) few = tt
few_shown (target.Text seed functions quiet unread tidy) few = few

pub few_ordered : (words : List (List ℕ)) (patch : List ℕ) (isos : Option (List ℕ)) (defined : List (List ℕ))
    (target : CodeTarget) → order_of words ≡ Some (Apply patch isos defined (shown_target target)) → few_functions target
few_ordered words patch isos defined target is = few_shown target (subst AsksFew is (few_asked words))
