-- Options have a fault exactly where they ask for nothing, and so have words.
use Rattle.std.proofs.Common.{◌≡◌, ◌∙◌, refl, ap, ℕ, Bool, true, false, not, ◌&&◌, ◌||◌, cond, List, [], ◌∷◌, Option, Some, None, is_some, option_and_then}
use Rattle.std.specs.List.{list_all}
use Rattle.std.specs.Option.{option_or}
use Rattle.std.specs.Str.{is_utf8}
use Rattle.run_words.specs.declared.fault.WordFault.{WordFault}
use Rattle.run_words.specs.Options.{Options, options_of}
use Rattle.run_words.specs.Orders.{Order, Say, are_filled, asks_text, order_of, ordered, saying_in, working}
use Rattle.run_words.specs.OptionNames.{first_of}
use Rattle.run_words.specs.Faults.{apart_fault, fault_from, need_fault, options_fault, text_fault, value_fault, word_fault}
use Rattle.run_words.proofs.WordLaws.{words_law}
use Rattle.run_words.proofs.ValueLaws.{empty_bad, some_three}
use Rattle.run_words.proofs.PlainLaws.{plain_law}
use Rattle.run_words.proofs.SeededLaws.{seeded_law}

by_generate : (o : Options) → are_filled o ≡ true → (generate : Option (List ℕ)) → o.generate ≡ generate
    → is_some (first_of (value_fault o ∷ need_fault o ∷ apart_fault o ∷ [])) ≡ not (is_some (working o))
by_generate o filled None is = plain_law o filled is
by_generate o filled (Some value) is = seeded_law o value filled is

-- by whether no value is empty, and whether a text is asked for
by_tests : (filled asks : Bool) (found : Option WordFault) (saying : Order) (work : Option Order) → (filled ≡ false → is_some found ≡ true)
    → (filled ≡ true → is_some found ≡ not (is_some work))
    → is_some (cond (filled && asks) None found) ≡ not (is_some (cond filled (cond asks (Some saying) work) None))
by_tests true true found saying work empty same = refl
by_tests true false found saying work empty same = same refl
by_tests false asks found saying work empty same = empty refl

pub options_law : (o : Options) → is_some (options_fault o) ≡ not (is_some (ordered o))
unfolding options_fault ordered
options_law o = by_tests (are_filled o) (asks_text o) (first_of (value_fault o ∷ need_fault o ∷ apart_fault o ∷ [])) (Say (saying_in o)) (working o)
    (λ empty. some_three o ∙ ap (λ (b : Bool). b || (is_some (need_fault o) || (is_some (apart_fault o) || false))) (empty_bad o empty))
    (λ filled. by_generate o filled o.generate refl)

by_options : (fault : Option WordFault) (o : Option Options) → is_some fault ≡ not (is_some o)
    → is_some (option_or fault (option_and_then options_fault o)) ≡ not (is_some (option_and_then ordered o))
by_options None None e = let wrong : false ≡ true = e in absurd cc
by_options (Some fault) None e = refl
by_options None (Some o) e = options_law o
by_options (Some fault) (Some o) e = let wrong : true ≡ false = e in absurd cc

by_text : (text : Bool) (found : Option WordFault) (other : WordFault) (order : Option Order) → is_some found ≡ not (is_some order)
    → is_some (cond text found (Some other)) ≡ not (is_some (cond text order None))
by_text true found other order same = same
by_text false found other order same = refl

pub faults_law : (words : List (List ℕ)) → is_some (word_fault words) ≡ not (is_some (order_of words))
unfolding word_fault order_of
faults_law words = by_text (list_all is_utf8 words) (option_or (fault_from words [] None) (option_and_then options_fault (options_of words)))
    (text_fault words) (option_and_then ordered (options_of words)) (by_options (fault_from words [] None) (options_of words) (words_law words))
