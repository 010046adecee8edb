use Rattle.std.proofs.Common.{◌≡◌, false, ◌&&◌, refl, ap, sym, ◌∙◌, arith}
use Rattle.smpl_terms.proofs.VarLaws.{same_var-equal}
use Rattle.env_sets.specs.Bounds.{fits}
use Rattle.env_sets.proofs.LoopLemmas.{all_fails_at_both}
use Rattle.env_sets.proofs.entries.has_clash.Goals as goal

pub returns-then-bounds_clash : goal.returns-then-bounds_clash
returns-then-bounds_clash c = λ _ env.
    let item = c.p-item.result in
    let same_place = same_var-equal item.0 c.args.v.now (sym c.same_var.ensures.value ∙ c.if-same_var.true) in
    let at : false ≡ (fits (env item.0) item.1 && fits (env c.args.v.now) c.args.bound.now) =
    c.bounds_clash.ensures c.if-bounds_clash.true (env item.0) ∙ ap (λ x. fits (env item.0) item.1 && fits (env x) c.args.bound.now) same_place in
    all_fails_at_both (λ p. fits (env p.0) p.1) c.args.pairs.now c.args.pairs.now c.loop-p.p-index item
    (fits (env c.args.v.now) c.args.bound.now) (omega arith) c.p-item.is refl at
