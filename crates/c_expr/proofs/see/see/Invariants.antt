use Rattle.std.proofs.Common.{◌≡◌, ◌≤◌, length, drop, reverse}
use Rattle.c_rows.specs.Look.{look}
use Rattle.c_rows.specs.Range.{AreSeenAs}
use Rattle.c_expr.specs.Recognizers.{AreRight}
use Rattle.c_expr.specs.Sight.{leads_before}
use Rattle.c_expr.proofs.EndsLemmas.{Tells}
use Rattle.c_expr.proofs.SemicolonLemmas.{TellsBranches}
use Rattle.c_expr.proofs.see.see.Given as goal

abbrev pub invariant-loop-i : goal.invariant-loop-i
invariant-loop-i l = record {
  even : length l.seen.items ≡ length l.tokens;
  fits : l.i ≤ length l.tokens;
  next : l.next ≡ look l.names (drop l.i l.tokens);
  ends : Tells l.names (reverse l.ends.classes.items) (drop l.i l.tokens);
  branches : TellsBranches (reverse l.semicolons.flags.items) (drop l.i l.tokens);
  memo : AreRight l.i l.seen.items l.memo.entries.items;
  right : AreSeenAs l.names (leads_before l.tokens l.i) (drop l.i l.tokens) (drop l.i l.seen.items);
}

abbrev pub decreases-loop-i : goal.decreases-loop-i
decreases-loop-i l = l.i
