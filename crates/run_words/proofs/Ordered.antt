-- The order, by the tests in turn.
use Rattle.std.proofs.Common.{◌≡◌, ◌∙◌, ◌&&◌, sym, ap, ℕ, Bool, true, false, cond, List, Option, None, Some, option_and_then}
use Rattle.std.specs.List.{list_all}
use Rattle.std.specs.Option.{option_map_or}
use Rattle.std.specs.Str.{is_utf8}
use Rattle.std.proofs.lemmas.Bool.{cond-true, cond-false}
use Rattle.run_words.specs.Options.{Options, options_of}
use Rattle.run_words.specs.Orders.{Order, Say, are_filled, asks_text, editing, generating, has_jobs, has_unread, jobs_in, jobs_of, order_of}
use Rattle.run_words.specs.Orders.{ordered, saying_in, working}

-- what is asked for if no value is empty
abbrev asked : Options → Option Order
asked o = cond (asks_text o) (Some (Say (saying_in o))) (working o)

pub refused : (o : Options) → false ≡ are_filled o → None ≡ ordered o
unfolding ordered
refused o h = sym (cond-false (are_filled o) (asked o) None (sym h))

pub said : (o : Options) → true ≡ are_filled o → true ≡ asks_text o → Some (Say (saying_in o)) ≡ ordered o
unfolding ordered
said o h asks = sym (cond-true (are_filled o) (asked o) None (sym h) ∙ cond-true (asks_text o) (Some (Say (saying_in o))) (working o) (sym asks))

pub worked : (o : Options) → true ≡ are_filled o → false ≡ asks_text o → working o ≡ ordered o
unfolding ordered
worked o h asks = sym (cond-true (are_filled o) (asked o) None (sym h) ∙ cond-false (asks_text o) (Some (Say (saying_in o))) (working o) (sym asks))

-- what is asked for if these two values are right
abbrev worked_on : Options → Option Order
worked_on o = option_map_or (generating o) o.generate (editing o)

pub jobless : (o : Options) → false ≡ has_jobs o → None ≡ working o
unfolding working
jobless o h = sym (ap (λ (b : Bool). cond (b && has_unread o) (worked_on o) None) (sym h))

pub unsaid : (o : Options) → true ≡ has_jobs o → false ≡ has_unread o → None ≡ working o
unfolding working
unsaid o h u = sym (ap (λ (b : Bool). cond (b && has_unread o) (worked_on o) None) (sym h) ∙ cond-false (has_unread o) (worked_on o) None (sym u))

pub working_told : (o : Options) → true ≡ has_jobs o → true ≡ has_unread o → (value : Option (List ℕ)) → o.generate ≡ value
    → option_map_or (generating o) value (editing o) ≡ working o
unfolding working
working_told o h u value is = sym (ap (λ (b : Bool). cond (b && has_unread o) (worked_on o) None) (sym h)
    ∙ (cond-true (has_unread o) (worked_on o) None (sym u) ∙ ap (λ g. option_map_or (generating o) g (editing o)) is))

pub order_told : (words : List (List ℕ)) → list_all is_utf8 words ≡ true → (o : Option Options) → o ≡ options_of words
    → option_and_then ordered o ≡ order_of words
unfolding order_of
order_told words text o is = ap (option_and_then ordered) is ∙ sym (cond-true (list_all is_utf8 words) (option_and_then ordered (options_of words)) None text)

pub jobs_told : (words : List (List ℕ)) (o : Options) → Some o ≡ options_of words → jobs_in o ≡ jobs_of words
unfolding jobs_of
jobs_told words o is = ap (λ found. option_map_or jobs_in found 1) is
