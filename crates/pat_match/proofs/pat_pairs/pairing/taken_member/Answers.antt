use Rattle.smpl_terms.specs.Environments.{total}
use Rattle.pat_match.proofs.PatPairs.PairLemmas.{member_left, member_fits}
use Rattle.pat_match.proofs.pat_pairs.pairing.taken_member.Goals as goal

pub bounds-members-taken : goal.bounds-members-taken
bounds-members-taken c = member_left c.args.bound.now.context.now.decls.now c.args.bound.now.context.now.tokens.now c.args.bound.now.context.now.types.now
    (total c.args.bound.now.env.now) c.args.child.now.label c.args.child.now.forms.now
    c.args.child.now.i c.args.taken c.args.child.now.form.now c.args.members.now c.requires.within c.requires.child c.requires.member
    c.requires.single c.requires.left c.requires.fits

pub returns : goal.returns
returns c =
    let less = member_left c.args.bound.now.context.now.decls.now c.args.bound.now.context.now.tokens.now c.args.bound.now.context.now.types.now
    (total c.args.bound.now.env.now) c.args.child.now.label c.args.child.now.forms.now
    c.args.child.now.i c.args.taken c.args.child.now.form.now c.args.members.now c.requires.within c.requires.child c.requires.member
    c.requires.single c.requires.left c.requires.fits in
    record {
      less = less;
      item = c.index-members-taken.is;
      fits = member_fits c.args.bound.now.context.now.decls.now c.args.bound.now.context.now.tokens.now c.args.bound.now.context.now.types.now
          (total c.args.bound.now.env.now) c.args.child.now.label c.args.child.now.forms.now
          c.args.child.now.i c.args.taken c.args.child.now.form.now c.index-members-taken.result c.args.members.now c.requires.within
          c.requires.child c.requires.member c.requires.single less c.index-members-taken.is c.requires.fits;
    }
