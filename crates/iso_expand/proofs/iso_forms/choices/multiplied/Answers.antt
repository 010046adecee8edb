use Rattle.std.proofs.Common.{List, [], ◌∷◌, ◌++◌, ap, ◌∙◌}
use Rattle.c_terms.specs.declared.tree.Tree.{Tree}
use Rattle.iso_expand.specs.IsoForms.Stepped.{grown, longer}
use Rattle.iso_expand.proofs.IsoForms.ChoiceLemmas.{grown-more}
use Rattle.iso_expand.proofs.iso_forms.choices.multiplied.Goals as goal

pub loop-choice-preserved : goal.loop-choice-preserved
loop-choice-preserved c =
    let done = c.loop-choice.yielded in
    let cs = c.in-Some.choice in
    let ts = c.args.trees.now in
    let t = c.args.last.now in
    c.in_ok-push-2.ensures.items
    ∙ ap (λ (css : List (List Tree)). css ++ c.push.new.self ∷ [])
    (c.in_ok-push_longer.ensures ∙ ap (λ (css : List (List Tree)). css ++ longer c.as_slice.result.now ts) c.loop-choice.invariant
    ∙ ap (λ (ds : List Tree). grown done (ts ++ t ∷ []) ++ longer ds ts) c.as_slice.ensures)
    ∙ ap (λ (ds : List Tree). (grown done (ts ++ t ∷ []) ++ longer cs ts) ++ ds ∷ [])
    (c.in_ok-push.ensures.ok ∙ ap (λ (u : Tree). cs ++ u ∷ []) c.in_ok-copy.ensures.same)
    ∙ grown-more done cs ts t
