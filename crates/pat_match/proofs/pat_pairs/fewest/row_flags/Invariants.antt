use Rattle.std.proofs.Common.{◌≡◌, ℕ, ◌<◌, false, take, length, get_or}
use Rattle.smpl_terms.specs.Environments.{total}
use Rattle.pat_match.specs.Rows.{row_at}
use Rattle.pat_match.proofs.pat_pairs.fewest.row_flags.Given as goal

abbrev pub invariant-loop-entry : goal.invariant-loop-entry
invariant-loop-entry l = record {
  count : length l.flags.items ≡ l.count;
  flags : (n : ℕ) → n < l.count → get_or l.flags.items n false ≡ row_at (take l.entry-index l.row) n (total l.env);
}
