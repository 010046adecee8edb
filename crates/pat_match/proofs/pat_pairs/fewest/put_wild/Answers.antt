use Rattle.std.proofs.Common.{◌+◌, ◌-◌, refl, length, take, drop}
use Rattle.smpl_terms.specs.Environments.{total}
use Rattle.pat_match.proofs.RowLemmas.{wild_comma}
use Rattle.pat_match.proofs.CountLemmas.{tail_slice}
use Rattle.pat_match.proofs.PatPairs.PairLemmas.{next_wild}
use Rattle.pat_match.proofs.pat_pairs.fewest.put_wild.Goals as goal

pub returns : goal.returns
returns c =
    next_wild c.args.bound.now.context.now.decls.now c.args.bound.now.context.now.tokens.now c.args.bound.now.context.now.types.now
    (total c.args.bound.now.env.now) c.args.child.now.label c.args.child.now.forms.now c.args.child.now.i c.args.taken
    c.in_ok-count.count (c.args.taken + c.in_ok-count.count) c.args.child.now.form.now c.args.members.now
    (take (length c.args.members.now - c.args.taken) (drop c.args.taken c.args.members.now))
    _ _ _ _ c.requires.within
    c.requires.child (wild_comma c.args.child.now.label c.args.child.now.form.now c.requires.wild) c.requires.wild c.requires.left c.requires.fits
    (tail_slice c.args.members.now c.args.taken) c.in_ok-count.ensures.value refl refl
    c.in_ok-put_comma_before.ensures c.in_ok-put_run.ensures
