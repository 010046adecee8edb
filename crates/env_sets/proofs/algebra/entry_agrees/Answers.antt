use Rattle.std.proofs.Common.{arith, sym, ap, ◌∙◌, ◌≡◌, false}
use Rattle.std.proofs.lemmas.Grind.{common_steps}
use Rattle.smpl_terms.specs.Environments.{value_in}
use Rattle.env_sets.specs.Splits.{fits_if}
use Rattle.env_sets.proofs.LoopLemmas.{all_fails_at}
use Rattle.env_sets.proofs.algebra.entry_agrees.Goals as goal

pub returns-then-not-allows : goal.returns-then-not-allows
returns-then-not-allows c =
    let item = c.p-item.result in
    let at : fits_if (value_in c.args.env.now item.0) item.1 ≡ false = ap (λ o. fits_if o item.1) (sym c.in-Some.ensures.value) ∙ grind (arith, common_steps) in
    all_fails_at (λ p. fits_if (value_in c.args.env.now p.0) p.1) c.pairs-p-items.result.now c.args.entry.now c.loop-p.p-index
    item (omega arith) c.p-item.is c.pairs-p-items.ensures.pairs at
