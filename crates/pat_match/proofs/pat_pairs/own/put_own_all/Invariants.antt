use Rattle.std.proofs.Common.{◌≡◌, ◌++◌, true, drop, map, length}
use Rattle.smpl_terms.specs.Environments.{total}
use Rattle.cfg_build.specs.CfgGraph.Own.{is_own}
use Rattle.pat_match.specs.Fitting.{piece}
use Rattle.pat_match.specs.Spots.{own_fit, own_pairs}
use Rattle.pat_match.specs.PatPairs.Pairs.{numbers}
use Rattle.pat_match.proofs.pat_pairs.own.put_own_all.Given as goal

abbrev pub invariant-loop-i : goal.invariant-loop-i
invariant-loop-i l = record {
  even : length l.forms ≡ length l.trees;
  fits : own_fit (is_own l.kind l.label (length l.forms)) l.i
      (map (piece l.bound.context.now.decls.now l.bound.context.now.tokens.now l.bound.context.now.types.now (total l.bound.env.now)) (drop l.i l.forms))
      (drop l.i l.trees) ≡ true;
  found : l.found.items ++ numbers (own_pairs (is_own l.kind l.label (length l.forms)) l.i
      (map (piece l.bound.context.now.decls.now l.bound.context.now.tokens.now l.bound.context.now.types.now (total l.bound.env.now)) (drop l.i l.forms))
      (drop l.i l.trees))
      ≡ l.initial.found.items ++ numbers (own_pairs (is_own l.kind l.label (length l.forms)) 0
      (map (piece l.bound.context.now.decls.now l.bound.context.now.tokens.now l.bound.context.now.types.now (total l.bound.env.now)) l.forms) l.trees);
}
