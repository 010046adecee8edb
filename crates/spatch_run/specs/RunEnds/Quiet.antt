-- What `--quiet` leaves out of the acts of a run: the lines that begin with two blanks, which say more.
use Rattle.std.specs.Prelude.{ℕ, ◌≡◌, ◌⊎◌, ◌==◌, ◌&&◌, Bool, true, false, List, [], ◌∷◌, ◌++◌, Some, codes, if◌then◌else◌}
use Rattle.std.specs.List.{flat_map, list_any, list_all}
use Rattle.run_acts.specs.Acts.{Act, Report}
use Rattle.run_words.specs.declared.order.Mode.{Mode}
use Rattle.run_words.specs.Orders.{Target, OnFiles, OnText, Order, Apply, Generate, Say, order_of}

-- ---- acts

-- the first line of a text
abbrev pub first_line : List ℕ → List ℕ
first_line [] = []
first_line (byte ∷ text) = byte ∷ (if byte == 10 then [] else first_line text)

-- a text that begins with two blanks
abbrev pub says_more : List ℕ → Bool
says_more (one ∷ other ∷ text) = one == 32 && other == 32
says_more _ = false

-- a report that begins with two blanks
abbrev pub is_note : Act → Bool
is_note (Report text) = says_more text
is_note act = false

-- The notes of a run are its last acts: reports that begin with two blanks, which no earlier report does. If there are some, the
-- status is 0 or 8: nothing is refused, and no file is absent.
pub record EndsInNotes (acts : List Act) (status : ℕ) : Type 0 where
  pub first : List Act
  pub notes : List Act
  pub acts_are : acts ≡ first ++ notes
  pub before : list_any is_note first ≡ false
  pub are_notes : list_all is_note notes ≡ true
  pub calm : (notes ≡ []) ⊎ ((status ≡ 0) ⊎ (status ≡ 8))

-- what is left of an act: of a report its first line, and nothing if it begins with two blanks
abbrev pub kept : Act → List Act
kept (Report text) = if says_more text then [] else Report (first_line text) ∷ []
kept act = act ∷ []

abbrev pub quieted : List Act → List Act
quieted acts = flat_map kept acts

-- The acts that refuse a patch: a load and a report, of which the second acts have the first line. What they leave out is
-- nothing, or begins with two blanks.
pub record KeepsLine (acts others : List Act) : Type 0 where
  pub load : Act
  pub line : List ℕ
  pub more : List ℕ
  pub acts_are : acts ≡ load ∷ Report (line ++ codes "\n" ++ more) ∷ []
  pub others_are : others ≡ load ∷ Report (line ++ codes "\n") ∷ []
  pub rest : (more ≡ []) ⊎ (says_more more ≡ true)

-- ---- words

abbrev pub quiet_mode : Mode → Mode
quiet_mode mode = record {
  witnesses = mode.witnesses;
  in_place = mode.in_place;
  check = mode.check;
  quiet = true;
  unread = mode.unread;
  tidy = mode.tidy;
}

abbrev pub quiet_target : Target → Target
quiet_target (OnFiles mode names) = OnFiles (quiet_mode mode) names
quiet_target (OnText seed functions quiet unread tidy) = OnText seed functions true unread tidy

-- the same is asked for, with `--quiet`
abbrev pub quiet_order : Order → Order
quiet_order (Apply patch isos defined target) = Apply patch isos defined (quiet_target target)
quiet_order (Generate seed functions) = Generate seed functions
quiet_order (Say saying) = Say saying

-- Two lists of words ask for the same, the second ones with `--quiet`.
pub record SameButQuiet (words others : List (List ℕ)) : Type 0 where
  pub order : Order
  pub asked : order_of words ≡ Some order
  pub quiet : order_of others ≡ Some (quiet_order order)
