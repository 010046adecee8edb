use Rattle.pat_match.proofs.LeftmostLaw.{leftmost_aligns, aligned_fits, none_further}
use Rattle.pat_match.proofs.laws.leftmost_alignments.Goals as goal

pub returns-clause-meets : goal.returns-clause-meets
returns-clause-meets c = leftmost_aligns

pub returns-clause-first : goal.returns-clause-first
returns-clause-first c = none_further

pub returns-clause-only : goal.returns-clause-only
returns-clause-only c = aligned_fits
