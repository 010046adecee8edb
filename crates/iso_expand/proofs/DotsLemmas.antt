-- Dots and nests with all forms.
use Rattle.std.proofs.Common.{◌≡◌, Bool, List, sym, ap, ◌∙◌}
use Rattle.smpl_patch.specs.declared.pattern.PatToken.{PatToken}
use Rattle.smpl_patch.specs.declared.rule.Iso.{Iso}
use Rattle.smpl_patch.specs.declared.elem.Elem.{Elem}
use Rattle.smpl_patch.specs.declared.elem.Elem.TheVariants as elem
use Rattle.smpl_patch.specs.declared.elem.Elem.TheFolds.{fold-roll-Dots, fold_out-Dots}
use Rattle.smpl_patch.specs.declared.elem.Dots.{Dots, roll-Dots, out-Dots}
use Rattle.smpl_patch.specs.Bodies.{Element, Gap, Nest, Body, Bodies, DotsOf, element_step, dots_step, element, body}
use Rattle.smpl_patch.proofs.BodyLemmas.{bodies, dots_of, element-Gap, element-Nest}
use Rattle.iso_expand.specs.Bodies.{expanded_element, expanded_body, expanded_bodies}

dots_made : (whens : List (List Elem)) (any strict : Bool)
    → dots_of (roll-Dots (record { whens = whens; any = any; strict = strict })) ≡ record { whens = bodies whens; any = any; strict = strict }
dots_made whens any strict = fold-roll-Dots Element DotsOf element_step dots_step _

dots_out : (d : Dots) → dots_of d ≡ record { whens = bodies (out-Dots d).whens; any = (out-Dots d).any; strict = (out-Dots d).strict }
dots_out d = fold_out-Dots Element DotsOf element_step dots_step d

module _ (isos : List Iso) (tokens : List PatToken) where
  pub gap_made : (e : Elem) (d : Dots) (whens : List (List Elem)) → e ≡ elem.Gap d → bodies whens ≡ expanded_bodies isos tokens (bodies (out-Dots d).whens)
      → element (elem.Gap (roll-Dots (record { whens = whens; any = (out-Dots d).any; strict = (out-Dots d).strict })))
      ≡ expanded_element isos tokens (element e)
  gap_made e d whens is h =
      element-Gap (roll-Dots (record { whens = whens; any = (out-Dots d).any; strict = (out-Dots d).strict }))
      ∙ ap (λ (z : DotsOf). Gap z.whens z.any z.strict) (dots_made whens (out-Dots d).any (out-Dots d).strict)
      ∙ ap (λ (w : Bodies). Gap w (out-Dots d).any (out-Dots d).strict) h
      ∙ sym (ap (λ (z : DotsOf). Gap (expanded_bodies isos tokens z.whens) z.any z.strict) (dots_out d))
      ∙ ap (expanded_element isos tokens) (sym (ap element is ∙ element-Gap d))

  pub nest_made : (e : Elem) (plus : Bool) (b inner : List Elem) (d : Dots) (whens : List (List Elem)) → e ≡ elem.Nest plus b d
      → body inner ≡ expanded_body isos tokens (body b) → bodies whens ≡ expanded_bodies isos tokens (bodies (out-Dots d).whens)
      → element (elem.Nest plus inner (roll-Dots (record { whens = whens; any = (out-Dots d).any; strict = (out-Dots d).strict })))
      ≡ expanded_element isos tokens (element e)
  nest_made e plus b inner d whens is g h =
      element-Nest plus inner (roll-Dots (record { whens = whens; any = (out-Dots d).any; strict = (out-Dots d).strict }))
      ∙ ap (λ (z : DotsOf). Nest plus (body inner) z.whens z.any z.strict) (dots_made whens (out-Dots d).any (out-Dots d).strict)
      ∙ ap (λ (x : Body). Nest plus x (bodies whens) (out-Dots d).any (out-Dots d).strict) g
      ∙ ap (λ (w : Bodies). Nest plus (expanded_body isos tokens (body b)) w (out-Dots d).any (out-Dots d).strict) h
      ∙ sym (ap (λ (z : DotsOf). Nest plus (expanded_body isos tokens (body b)) (expanded_bodies isos tokens z.whens) z.any z.strict) (dots_out d))
      ∙ ap (expanded_element isos tokens) (sym (ap element is ∙ element-Nest plus b d))
