-- What `--unread` changes of the acts of a run: the lines of items that can't be read.
use Rattle.std.specs.Prelude.{ℕ, ◌≡◌, List, [], ◌∷◌, Option, Some}
use Rattle.text_places.specs.declared.place.Place.{Place}
use Rattle.run_choices.specs.declared.unread.Unread.{Unread}
use Rattle.run_choices.specs.declared.unread.Unread.TheVariants as unread
use Rattle.rule_chain.specs.declared.rule_run.state.SkipNote.{SkipNote}
use Rattle.run_acts.specs.Acts.{Act, Report}
use Rattle.run_words.specs.Orders.{Order, order_of}
use Rattle.run_words.specs.UnreadLaws.Choices.{order_telling}
use Rattle.run_files.specs.RunLines.Files.{skipped_line}

-- The second acts are the first, of which some lines of items that can't be read are left out.
pub data AreButLines : List Act → List Act → Type 0 where
  none : AreButLines [] []
  both : (act : Act) (acts others : List Act) → AreButLines acts others → AreButLines (act ∷ acts) (act ∷ others)
  left_out : (name : List ℕ) (place : Option Place) (note : SkipNote) (acts others : List Act) → AreButLines acts others
      → AreButLines (Report (skipped_line name place note) ∷ acts) others

-- Two lists of words ask for the same, but the first tell of all items that can't be read.
pub record SameButTold (words others : List (List ℕ)) : Type 0 where
  pub order : Order
  pub told : Unread
  pub all : order_of words ≡ Some (order_telling unread.All order)
  pub other : order_of others ≡ Some (order_telling told order)
