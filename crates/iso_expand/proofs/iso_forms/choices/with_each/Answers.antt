use Rattle.std.proofs.Common.{List, [], ◌∷◌, ◌++◌, sym, ap, ◌∙◌}
use Rattle.c_terms.specs.declared.tree.Tree.{Tree}
use Rattle.iso_expand.specs.IsoForms.Stepped.{grown, longer}
use Rattle.iso_expand.proofs.IsoForms.ChoiceLemmas.{grown-more}
use Rattle.iso_expand.proofs.iso_forms.choices.with_each.Goals as goal

pub returns-in_ok-push-in-Some-2 : goal.returns-in_ok-push-in-Some-2
returns-in_ok-push-in-Some-2 c =
    let rest = c.pop.new.self.items in
    let cs = c.in-Some.choice in
    let ts = c.args.trees in
    let t = c.args.last in
    c.in_ok-push-in-Some-2.ensures.items
    ∙ ap (λ (css : List (List Tree)). css ++ c.push.new.self ∷ [])
    (c.in_ok-push_each-in-Some.ensures
    ∙ ap (λ (css : List (List Tree)). css ++ longer c.as_slice-in-Some.result.now c.in_ok-moved-in-Some.field-0.items) c.in_ok-out-in-Some.ensures
    ∙ ap (λ (us : List Tree). grown rest (us ++ t ∷ []) ++ longer c.as_slice-in-Some.result.now c.in_ok-moved-in-Some.field-0.items) c.as_slice.ensures
    ∙ ap (λ (us : List Tree). grown rest (ts ++ t ∷ []) ++ longer c.as_slice-in-Some.result.now us) c.in_ok-moved-in-Some.ensures
    ∙ ap (λ (ds : List Tree). grown rest (ts ++ t ∷ []) ++ longer ds ts) c.as_slice-in-Some.ensures)
    ∙ ap (λ (ds : List Tree). (grown rest (ts ++ t ∷ []) ++ longer cs ts) ++ ds ∷ []) c.in_ok-push-in-Some.ensures.ok
    ∙ grown-more rest cs ts t
    ∙ ap (λ (css : List (List Tree)). grown css (ts ++ t ∷ [])) (sym c.in-Some.ensures.items)
