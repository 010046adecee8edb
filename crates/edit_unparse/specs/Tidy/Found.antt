-- For internal use: the inserts in the order of the tokens at which the edits have them, each with the place where it stands.
use Rattle.std.specs.Prelude.{ℕ, ◌+◌, ◌==◌, Bool, true, false, List, [], ◌∷◌, ◌++◌, filter, fold, get_or, max, if◌then◌else◌}
use Rattle.edit_marks.specs.declared.edit_conflict.edit.Side.{Side}
use Rattle.edit_marks.specs.declared.edit_conflict.edit.Side.TheVariants.{Before, After}
use Rattle.edit_marks.specs.declared.edit_conflict.edit.Edit.{Edit}
use Rattle.edit_marks.specs.declared.edit_conflict.mark.Act.{Act}
use Rattle.edit_marks.specs.declared.edit_conflict.mark.Act.TheVariants.{Remove, Insert}
use Rattle.edit_marks.specs.declared.edit_conflict.mark.Mark.{Mark}
use Rattle.edit_marks.specs.EditConflict.Same.{side_number}
use Rattle.edit_marks.specs.EditConflict.Marks.{is_at, marks_from}
use Rattle.edit_unparse.specs.declared.tidy.plan.Spot.{Spot}
use Rattle.edit_unparse.specs.declared.tidy.plan.Placed.{Placed}
use Rattle.edit_unparse.specs.Tidy.Spots.{deepest_from, spot}

-- the inserts of acts on one side, at a place
abbrev pub placed_act : List ℕ → Side → Spot → ℕ → Act → List Placed
placed_act depths side at edit Remove = []
placed_act depths side at edit (Insert s many number) = if side_number s == side_number side
    then record { spot = at; edit = edit; insert = number; depth = get_or depths edit 0 } ∷ [] else []

abbrev pub placed_marks : List ℕ → Side → Spot → List Mark → List Placed
placed_marks depths side at [] = []
placed_marks depths side at (m ∷ marks) = placed_act depths side at m.edit m.act ++ placed_marks depths side at marks

-- the inserts that the acts at a token have, given whether it goes, and at whose place they stand
abbrev pub token_inserts : List ℕ → Bool → ℕ → List Mark → List Placed
token_inserts depths true home marks = placed_marks depths Before (spot home false) marks ++ placed_marks depths After (spot home false) marks
token_inserts depths false home marks = placed_marks depths Before (spot home false) marks
    ++ deepest_from (fold max 0 depths) (placed_marks depths After (spot home true) marks)

-- the inserts at tokens from one on, in the order of the tokens at which the edits have them, given which tokens go, the first
-- token of the run before, and which of the tokens are joined to the one before them
abbrev pub all_inserts : List Edit → List Bool → List ℕ → ℕ → ℕ → List Bool → List Placed
all_inserts edits removed depths token start [] = []
all_inserts edits removed depths token start (j ∷ joined) =
    let own = if j then start else token in
    let goes = get_or removed token false in
    token_inserts depths goes (if goes then own else token) (filter (is_at token) (marks_from 0 edits))
    ++ all_inserts edits removed depths (token + 1) own joined
