use Rattle.std.proofs.Common.{◌≡◌, drop}
use Rattle.smpl_terms.specs.Environments.{total}
use Rattle.pat_match.specs.Matching.{fits_seat, first_from}
use Rattle.pat_match.proofs.aligning.form_at.Given as goal

abbrev pub invariant-loop-i : goal.invariant-loop-i
invariant-loop-i l = first_from l.i (λ f. fits_seat l.aligner.context.now.decls.now l.aligner.context.now.tokens.now l.aligner.context.now.types.now
    (total l.aligner.env.now) l.aligner.p.now l.aligner.role f l.tree) (drop l.i l.forms)
    ≡ first_from 0 (λ f. fits_seat l.aligner.context.now.decls.now l.aligner.context.now.tokens.now l.aligner.context.now.types.now
    (total l.aligner.env.now) l.aligner.p.now l.aligner.role f l.tree) l.aligner.p.now.forms
