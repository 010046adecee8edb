-- Words that differ only in `--unread` ask for the same.
use Rattle.std.proofs.Common.{◌≡◌, ℕ, true, false, List, Option, Some, None, is_some, option_map, refl, ap, ◌∙◌}
use Rattle.run_choices.specs.declared.unread.Unread.{Unread}
use Rattle.run_choices.specs.declared.unread.Unread.TheVariants as unread
use Rattle.run_words.specs.Orders.{Order, order_of, told_in}
use Rattle.run_words.specs.UnreadLaws.Choices.{SameButUnread, order_telling, with_unread}
use Rattle.spatch_run.specs.RunEnds.Unread.{SameButTold}

abbrev pub UnreadLaw : Type 0
UnreadLaw = (words others : List (List ℕ)) → (s : SameButUnread words others)
    → order_of others ≡ option_map (order_telling (told_in (with_unread s.choice s.options))) (order_of words)

-- the same words, with their own choice
own : (words others : List (List ℕ)) → SameButUnread words others → SameButUnread words words
own words others s = record {
  options = s.options;
  choice = s.options.unread;
  one = s.one;
  other = s.one;
  texts = refl;
  has_one = s.has_one;
  has_other = s.has_one;
  patch = s.patch;
}

by_order : (words others : List (List ℕ)) (told : Unread) (order : Option Order) → is_some order ≡ true
    → order_of words ≡ option_map (order_telling unread.All) order → order_of others ≡ option_map (order_telling told) order → SameButTold words others
by_order words others told None asked one two = let never : false ≡ true = asked in absurd (cc)
by_order words others told (Some order) asked one two = record { order = order; told = told; all = one; other = two }

pub words-told : UnreadLaw → (words others : List (List ℕ)) → (s : SameButUnread words others) → told_in s.options ≡ unread.All
    → is_some (order_of words) ≡ true → SameButTold words others
unfolding own
words-told law words others s all asked =
    by_order words others (told_in (with_unread s.choice s.options)) (order_of words) asked
    (law words words (own words others s) ∙ ap (λ (u : Unread). option_map (order_telling u) (order_of words)) all) (law words others s)
