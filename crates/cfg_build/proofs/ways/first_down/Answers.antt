use Rattle.std.proofs.Common.{◌≡◌, ◌+◌, ◌-◌, ◌^◌, ◌<◌, ◌∷◌, [], ap, ◌∙◌, arith, rules}
use Rattle.cfg_build.specs.Rows.{parts, size, first_down}
use Rattle.cfg_build.specs.Plans.{told}
use Rattle.cfg_build.proofs.PartLemmas.{do-end}
use Rattle.cfg_build.proofs.StandLemmas.{stands-get, stands-within}
use Rattle.cfg_build.proofs.ways.first_down.Goals as goal

pub overflow_add-around : goal.overflow_add-around
overflow_add-around c =
    let g = stands-get c.args.plan.now.sizes.items c.args.around.at c.args.tree.now c.requires.stands in
    let w = stands-within c.args.plan.now.sizes.items c.args.around.at c.args.tree.now c.requires.stands in
    let n : c.index.result.now ≡ size c.args.tree.now = c.index.ensures ∙ g.1 c.index.result.now in
    let fits : c.args.around.at + (c.index.result.now - 1) < 2 ^ 32 = omega (arith, n, w, c.requires.fits) in
    search rules

pub returns-in-Do : goal.returns-in-Do
returns-in-Do c =
    let g = stands-get c.args.plan.now.sizes.items c.args.around.at c.args.tree.now c.requires.stands in
    let n : c.index.result.now ≡ size c.args.tree.now = c.index.ensures ∙ g.1 c.index.result.now in
    let e = c.in-Do.ensures in
    λ path. c.two-in-Do.ensures.numbers ∙ ap (λ m. (c.args.around.at + 1) ∷ m ∷ []) (do-end c.args.tree.now c.args.around.at c.index.result.now e n)
    ∙ ap (λ f. first_down f (parts c.args.tree.now) (told c.args.plan.now path c.args.around)) e
