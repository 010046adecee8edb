-- A patch has one with all forms, or a first rule with too many.
use Rattle.std.proofs.Common.{◌≡◌, ◌<◌, ◌≤◌, ◌⊎◌, Bool, ℕ, suc, List, [], ◌∷◌, inl, inr, refl, ap, ◌∙◌}
use Rattle.smpl_patch.specs.declared.elem.Elem.{Elem}
use Rattle.smpl_patch.specs.declared.elem.Elem.TheVariants as elem
use Rattle.smpl_patch.specs.declared.elem.Elem.TheFolds.{fold-roll-Dots}
use Rattle.smpl_patch.specs.declared.elem.Dots.{Dots, roll-Dots}
use Rattle.smpl_patch.specs.declared.rule.Iso.{Iso}
use Rattle.smpl_patch.specs.declared.rule.Rule.{Rule}
use Rattle.smpl_patch.specs.declared.rule.Patch.{Patch}
use Rattle.smpl_patch.specs.Bodies.{Element, Atom, Compound, Block, Gap, Nest, AnyOf, AllOf, Body, End, Then, Bodies, NoMore}
use Rattle.smpl_patch.specs.Bodies.{More, DotsOf, element_step, dots_step, element, body}
use Rattle.smpl_patch.proofs.BodyLemmas.{bodies, dots_of, element-Atom, element-Compound, element-Block, element-Gap}
use Rattle.smpl_patch.proofs.BodyLemmas.{element-Nest, element-AnyOf, element-AllOf}
use Rattle.iso_expand.specs.Bodies.{expanded_body}
use Rattle.iso_expand.specs.Patches.{most_forms, forms_rule, AreExpanded, IsExpanded, IsFirstMany}
use Rattle.read_laws.proofs.ReadEnds.TextLemmas.{order}

-- ---- each body is that of some elements

abbrev Made : Element → Type 0
Made e = (x : Elem) × (element x ≡ e)

abbrev MadeBody : Body → Type 0
MadeBody b = (es : List Elem) × (body es ≡ b)

abbrev MadeBodies : Bodies → Type 0
MadeBodies bs = (ess : List (List Elem)) × (bodies ess ≡ bs)

abbrev dots_made : (whens : List (List Elem)) (any strict : Bool) → Dots
dots_made whens any strict = roll-Dots (record { whens = whens; any = any; strict = strict })

dots_are : (whens : List (List Elem)) (any strict : Bool) → dots_of (dots_made whens any strict) ≡ record { whens = bodies whens; any = any; strict = strict }
dots_are whens any strict = fold-roll-Dots Element DotsOf element_step dots_step _

mutual
  made : (e : Element) → Made e
  made (Atom p) = (elem.Atom p, element-Atom p)
  made (Compound h bs t) =
      let some = made_bodies bs in
      (elem.Compound h some.0 t, element-Compound h some.0 t ∙ ap (λ (x : Bodies). Compound h x t) some.1)
  made (Block o b c) =
      let some = made_body b in
      (elem.Block o some.0 c, element-Block o some.0 c ∙ ap (λ (x : Body). Block o x c) some.1)
  made (Gap whens any strict) =
      let some = made_bodies whens in
      let dots = dots_made some.0 any strict in (
        elem.Gap dots,
        element-Gap dots ∙ ap (λ (z : DotsOf). Gap z.whens z.any z.strict) (dots_are some.0 any strict)
            ∙ ap (λ (x : Bodies). Gap x any strict) some.1,
      )
  made (Nest plus b whens any strict) =
      let inner = made_body b in
      let some = made_bodies whens in
      let dots = dots_made some.0 any strict in (
        elem.Nest plus inner.0 dots,
        element-Nest plus inner.0 dots ∙ ap (λ (z : DotsOf). Nest plus (body inner.0) z.whens z.any z.strict) (dots_are some.0 any strict)
            ∙ ap (λ (x : Body). Nest plus x (bodies some.0) any strict) inner.1 ∙ ap (λ (x : Bodies). Nest plus b x any strict) some.1,
      )
  made (AnyOf bs) = let some = made_bodies bs in (elem.AnyOf some.0, element-AnyOf some.0 ∙ ap AnyOf some.1)
  made (AllOf bs) = let some = made_bodies bs in (elem.AllOf some.0, element-AllOf some.0 ∙ ap AllOf some.1)

  made_body : (b : Body) → MadeBody b
  made_body End = ([], refl)
  made_body (Then e rest) =
      let one = made e in
      let more = made_body rest in
      (one.0 ∷ more.0, ap (λ (x : Element). Then x (body more.0)) one.1 ∙ ap (λ (x : Body). Then e x) more.1)

  made_bodies : (bs : Bodies) → MadeBodies bs
  made_bodies NoMore = ([], refl)
  made_bodies (More b bs) =
      let one = made_body b in
      let more = made_bodies bs in
      (one.0 ∷ more.0, ap (λ (x : Body). More x (bodies more.0)) one.1 ∙ ap (λ (x : Bodies). More b x) more.1)

-- ---- rules

module _ (isos : List Iso) where
  abbrev Forms : List Rule → Type 0
  Forms rules = ((ss : List Rule) × AreExpanded isos rules ss) ⊎ ((n : ℕ) × IsFirstMany isos rules n)

  many_later : (r : Rule) (rs : List Rule) (n : ℕ) → forms_rule isos r ≤ most_forms → IsFirstMany isos rs n → IsFirstMany isos (r ∷ rs) (suc n)
  many_later r rs n few m = record {
    before = r ∷ m.before;
    rule = m.rule;
    after = m.after;
    rules_are = ap (λ (l : List Rule). r ∷ l) m.rules_are;
    number = ap suc m.number;
    few = (few, m.few);
    many = m.many;
  }

  forms_by : (r : Rule) (rs : List Rule) → Forms rs → (forms_rule isos r ≤ most_forms) ⊎ (most_forms < forms_rule isos r) → Forms (r ∷ rs)
  forms_by r rs rest (inr many) = inr (0, record { before = []; rule = r; after = rs; rules_are = refl; number = refl; few = tt; many = many })
  forms_by r rs (inr m) (inl few) = inr (suc m.0, many_later r rs m.0 few m.1)
  forms_by r rs (inl ss) (inl few) =
      let some = made_body (expanded_body isos r.tokens (body r.body)) in
      let s : Rule = record r { body = some.0 } in
      inl (
        s ∷ ss.0,
        (record { name = refl; depends = refl; mode = refl; vars = refl; exports = refl; tokens = refl; body_is = some.1; few = few }, ss.1),
      )

  forms_from : (rules : List Rule) → Forms rules
  forms_from [] = inl ([], tt)
  forms_from (r ∷ rs) = forms_by r rs (forms_from rs) (order (forms_rule isos r) most_forms)

  pub forms_end : (patch : Patch) → ((whole : Patch) × IsExpanded isos patch whole) ⊎ ((rule : ℕ) × IsFirstMany isos patch.rules rule)
  forms_end patch = elim (forms_from patch.rules) [
    | inl ss ↦ inl (record patch { rules = ss.0 }, record { virtuals = refl; rules = ss.1 })
    | inr m ↦ inr m
  ]
