-- Words that differ only in `--quiet` ask for the same.
use Rattle.std.proofs.Common.{◌≡◌, ℕ, Bool, true, false, List, Option, Some, None, is_some, option_map, refl, ap, ◌∙◌}
use Rattle.run_words.specs.Orders.{OnFiles, OnText, Order, Apply, Generate, Say, order_of}
use Rattle.run_words.specs.FlagLaws.Flags.{SameButFlags, order_with}
use Rattle.spatch_run.specs.RunEnds.Quiet.{quiet_order, SameButQuiet}

abbrev pub FlagLaw : Type 0
FlagLaw = (words others : List (List ℕ)) (check quiet : Bool) → SameButFlags words others check quiet
    → order_of others ≡ option_map (order_with check quiet) (order_of words)

quiet-with : (check : Bool) (order : Order) → order_with check true order ≡ quiet_order (order_with check false order)
quiet-with check (Apply patch isos defined (OnFiles mode names)) = refl
quiet-with check (Apply patch isos defined (OnText seed functions quiet unread tidy)) = refl
quiet-with check (Generate seed functions) = refl
quiet-with check (Say saying) = refl

by_order : (words others : List (List ℕ)) (check : Bool) (order : Option Order) → is_some order ≡ true
    → order_of words ≡ option_map (order_with check false) order → order_of others ≡ option_map (order_with check true) order
    → SameButQuiet words others
by_order words others check None asked one two = let never : false ≡ true = asked in absurd (cc)
by_order words others check (Some order) asked one two =
    record { order = order_with check false order; asked = one; quiet = two ∙ ap Some (quiet-with check order) }

pub words-quiet : FlagLaw → (plain words others : List (List ℕ)) (check : Bool) → SameButFlags plain words check false
    → SameButFlags plain others check true → is_some (order_of plain) ≡ true → SameButQuiet words others
words-quiet law plain words others check one two asked =
    by_order words others check (order_of plain) asked (law plain words check false one) (law plain others check true two)
