use Rattle.std.proofs.Common.{◌≡◌, true, ap, sym, ◌∙◌, arith}
use Rattle.smpl_terms.proofs.VarLaws.{same_var-equal}
use Rattle.env_sets.specs.Bounds.{fits}
use Rattle.env_sets.proofs.LoopLemmas.{all_at}
use Rattle.env_sets.proofs.entries.has_within.Goals as goal

pub returns-then-bound_covers : goal.returns-then-bound_covers
returns-then-bound_covers c = λ _ env h.
    let item = c.p-item.result in
    let at : fits (env item.0) item.1 ≡ true = all_at (λ p. fits (env p.0) p.1) c.args.pairs.now c.loop-p.p-index item (omega arith) c.p-item.is h in
    let same_place = same_var-equal item.0 c.args.v.now (sym c.same_var.ensures.value ∙ c.if-same_var.true) in
    c.bound_covers.ensures c.if-bound_covers.true (env c.args.v.now) (ap (λ x. fits (env x) item.1) (sym same_place) ∙ at)
