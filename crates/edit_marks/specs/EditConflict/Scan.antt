-- The search for the first clash among sorted acts.
use Rattle.std.specs.Prelude.{ℕ, ◌==◌, ◌&&◌, ◌||◌, not, Bool, true, false, List, [], ◌∷◌, Option, None, Some, if◌then◌else◌}
use Rattle.edit_marks.specs.declared.edit_conflict.edit.Side.TheVariants.{Before, After}
use Rattle.edit_marks.specs.declared.edit_conflict.mark.Act.{Act}
use Rattle.edit_marks.specs.declared.edit_conflict.mark.Act.TheVariants.{Remove, Insert}
use Rattle.edit_marks.specs.declared.edit_conflict.mark.Mark.{Mark}
use Rattle.edit_marks.specs.declared.edit_conflict.clash.Acts.{Acts}
use Rattle.edit_marks.specs.declared.edit_conflict.clash.Settled.{Settled}

abbrev pub no_acts : Acts
no_acts = record { removes = false; before = false; after = false; alone_before = false; alone_after = false }

abbrev pub acts_with : Acts → Act → Acts
acts_with acts Remove = record acts { removes = true }
acts_with acts (Insert Before many n) = record acts { before = true; alone_before = acts.alone_before || not many }
acts_with acts (Insert After many n) = record acts { after = true; alone_after = acts.alone_after || not many }

-- the acts of both
abbrev pub acts_of_both : Acts → Acts → Acts
acts_of_both a b = record {
  removes = a.removes || b.removes;
  before = a.before || b.before;
  after = a.after || b.after;
  alone_before = a.alone_before || b.alone_before;
  alone_after = a.alone_after || b.alone_after;
}

-- an insert on a side conflicts with those there: with all of them, or, if it is from `++` lines itself, only with those
-- that aren't
abbrev pub conflicts_on : Bool → Bool → Bool → Bool
conflicts_on all alone many = if many then alone else all

abbrev pub conflicts : Acts → Act → Bool
conflicts acts Remove = acts.removes || acts.before || acts.after
conflicts acts (Insert Before many n) = acts.removes || conflicts_on acts.before acts.alone_before many
conflicts acts (Insert After many n) = acts.removes || conflicts_on acts.after acts.alone_after many

-- each of these is among those
abbrev pub implies : Bool → Bool → Bool
implies true b = b
implies false b = true

abbrev pub are_among : Acts → Acts → Bool
are_among those these =
    implies these.removes those.removes && implies these.before those.before && implies these.after those.after
    && implies these.alone_before those.alone_before && implies these.alone_after those.alone_after

-- the acts at this token that conflict with no act of a later edit
abbrev pub settled_at : Settled → ℕ → Acts
settled_at s token = if s.token == token then s.acts else no_acts

-- the act is of this edit, at this token
abbrev pub is_of : ℕ → ℕ → Mark → Bool
is_of token edit m = m.token == token && m.edit == edit

-- the edit of the first act at this token that passes the test, among acts sorted by token that begin there
abbrev pub first_met : (Act → Bool) → ℕ → List Mark → Option ℕ
first_met test token [] = None
first_met test token (m ∷ marks) = if m.token == token then (if test m.act then Some m.edit else first_met test token marks) else None
