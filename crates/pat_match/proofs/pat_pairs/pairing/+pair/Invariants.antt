use Rattle.std.proofs.Common.{◌≡◌, ◌≤◌, ◌++◌, true, None, drop, map, length}
use Rattle.smpl_terms.specs.Environments.{total}
use Rattle.pat_match.specs.Fitting.{piece, all_fit, first_pairs, every_pairs, zip_pairs}
use Rattle.pat_match.specs.Rows.{comma_before, fits_from}
use Rattle.pat_match.specs.PatPairs.Pairs.{numbers, left_pairs}
use Rattle.pat_match.proofs.pat_pairs.pairing.+pair.Given as goal

abbrev pub invariant-put_first-loop-form : goal.invariant-put_first-loop-form
invariant-put_first-loop-form l = record {
  same : l.found.items ≡ l.initial.found.items;
  first : first_pairs (map (piece l.bound.context.now.decls.now l.bound.context.now.tokens.now l.bound.context.now.types.now (total l.bound.env.now))
      (drop l.form-index l.forms)) l.tree
      ≡ first_pairs (map (piece l.bound.context.now.decls.now l.bound.context.now.tokens.now l.bound.context.now.types.now (total l.bound.env.now)) l.forms)
      l.tree;
}

abbrev pub invariant-put_every-loop-form : goal.invariant-put_every-loop-form
invariant-put_every-loop-form l = l.found.items
    ++ numbers (every_pairs (map (piece l.bound.context.now.decls.now l.bound.context.now.tokens.now l.bound.context.now.types.now (total l.bound.env.now))
    (drop l.form-index l.forms)) l.tree)
    ≡ l.initial.found.items ++ numbers (every_pairs
    (map (piece l.bound.context.now.decls.now l.bound.context.now.tokens.now l.bound.context.now.types.now (total l.bound.env.now)) l.forms) l.tree)

abbrev pub invariant-put_all-loop-i : goal.invariant-put_all-loop-i
invariant-put_all-loop-i l = record {
  even : length l.forms ≡ length l.trees;
  fits : all_fit (map (piece l.bound.context.now.decls.now l.bound.context.now.tokens.now l.bound.context.now.types.now (total l.bound.env.now))
      (drop l.i l.forms)) (drop l.i l.trees) ≡ true;
  found : l.found.items ++ numbers (zip_pairs
      (map (piece l.bound.context.now.decls.now l.bound.context.now.tokens.now l.bound.context.now.types.now (total l.bound.env.now)) (drop l.i l.forms))
      (drop l.i l.trees))
      ≡ l.initial.found.items ++ numbers (zip_pairs
      (map (piece l.bound.context.now.decls.now l.bound.context.now.tokens.now l.bound.context.now.types.now (total l.bound.env.now)) l.forms) l.trees);
}

abbrev pub invariant-put_members-loop-i : goal.invariant-put_members-loop-i
invariant-put_members-loop-i l = record {
  left : l.taken ≤ length l.members;
  fits : fits_from l.bound.context.now.decls.now l.bound.context.now.tokens.now l.bound.context.now.types.now l.label (comma_before l.forms l.i)
      (drop l.i l.forms) (drop l.taken l.members) (total l.bound.env.now) ≡ true;
  found : l.found.items ++ numbers (left_pairs l.bound.context.now.decls.now l.bound.context.now.tokens.now l.bound.context.now.types.now
      (total l.bound.env.now) l.label (comma_before l.forms l.i) (drop l.i l.forms) (drop l.taken l.members))
      ≡ l.initial.found.items ++ numbers (left_pairs l.bound.context.now.decls.now l.bound.context.now.tokens.now l.bound.context.now.types.now
      (total l.bound.env.now) l.label None l.forms l.members);
}
