-- A patch has at most one patch with all forms and at most one first rule with too many, and not both.
use Rattle.std.proofs.Common.{◌≡◌, ℕ, ◌<◌, ◌≤◌, List, [], ◌∷◌, ◌++◌, length, refl, sym, ◌∙◌, subst, arith}
use Rattle.smpl_patch.specs.declared.elem.Elem.{Elem}
use Rattle.smpl_patch.specs.declared.rule.Iso.{Iso}
use Rattle.smpl_patch.specs.declared.rule.Rule.{Rule}
use Rattle.smpl_patch.specs.declared.rule.Patch.{Patch}
use Rattle.smpl_patch.specs.Bodies.{body}
use Rattle.iso_expand.specs.Patches.{most_forms, forms_rule, IsExpandedRule, AreExpanded, IsExpanded, AllFew, IsFirstMany}
use Rattle.read_laws.proofs.IsoOnce.BodyOnce.{body-one}

pub bodies-once : (one other : List Elem) → body one ≡ body other → one ≡ other
bodies-once one other e = body-one (body other) one other e refl

too-few : (n : ℕ) → n ≤ most_forms → most_forms < n → ⊥
too-few n few many = omega (arith, few, many)

module _ (isos : List Iso) where
  rule-once : (r s t : Rule) → IsExpandedRule isos r s → IsExpandedRule isos r t → s ≡ t
  rule-once r s t a b =
      let name = a.name ∙ sym b.name in
      let depends = a.depends ∙ sym b.depends in
      let mode = a.mode ∙ sym b.mode in
      let vars = a.vars ∙ sym b.vars in
      let exports = a.exports ∙ sym b.exports in
      let tokens = a.tokens ∙ sym b.tokens in
      let same : s.body ≡ t.body = bodies-once s.body t.body (a.body_is ∙ sym b.body_is) in
      λ i. record { name = name i; depends = depends i; mode = mode i; vars = vars i; exports = exports i; body = same i; tokens = tokens i }

  rules-once : (rs ss ts : List Rule) → AreExpanded isos rs ss → AreExpanded isos rs ts → ss ≡ ts
  rules-once [] [] [] a b = refl
  rules-once [] [] (t ∷ ts) a b = absurd b
  rules-once [] (s ∷ ss) ts a b = absurd a
  rules-once (r ∷ rs) [] ts a b = absurd a
  rules-once (r ∷ rs) (s ∷ ss) [] a b = absurd b
  rules-once (r ∷ rs) (s ∷ ss) (t ∷ ts) a b =
      let head = rule-once r s t a.0 b.0 in
      let rest = rules-once rs ss ts a.1 b.1 in
      λ i. head i ∷ rest i

  pub patch-once : (p one other : Patch) → IsExpanded isos p one → IsExpanded isos p other → one ≡ other
  patch-once p one other a b =
      let virtuals = a.virtuals ∙ sym b.virtuals in
      let rules = rules-once p.rules one.rules other.rules a.rules b.rules in
      λ i. record { virtuals = virtuals i; rules = rules i }

  number-once : (bs cs : List Rule) (b c : Rule) (more others : List Rule) → bs ++ b ∷ more ≡ cs ++ c ∷ others → AllFew isos bs → AllFew isos cs
      → most_forms < forms_rule isos b → most_forms < forms_rule isos c → length bs ≡ length cs
  number-once [] [] b c more others e a d v w = refl
  number-once [] (y ∷ cs) b c more others e a d v w =
      let same : b ≡ y = cc in
      absurd (too-few (forms_rule isos y) d.0 (subst (λ (x : Rule). most_forms < forms_rule isos x) same v))
  number-once (x ∷ bs) [] b c more others e a d v w =
      let same : c ≡ x = cc in
      absurd (too-few (forms_rule isos x) a.0 (subst (λ (y : Rule). most_forms < forms_rule isos y) same w))
  number-once (x ∷ bs) (y ∷ cs) b c more others e a d v w =
      let rest : bs ++ b ∷ more ≡ cs ++ c ∷ others = cc in
      omega (arith, number-once bs cs b c more others rest a.1 d.1 v w)

  pub many-once : (rules : List Rule) (one other : ℕ) → IsFirstMany isos rules one → IsFirstMany isos rules other → one ≡ other
  many-once rules one other a b =
      sym a.number ∙ number-once a.before b.before a.rule b.rule a.after b.after (sym a.rules_are ∙ b.rules_are) a.few b.few a.many b.many ∙ b.number

  none-many : (bs : List Rule) (b : Rule) (more ss : List Rule) → AreExpanded isos (bs ++ b ∷ more) ss → most_forms < forms_rule isos b → ⊥
  none-many [] b more [] a w = a
  none-many [] b more (s ∷ ss) a w = too-few (forms_rule isos b) a.0.few w
  none-many (x ∷ bs) b more [] a w = a
  none-many (x ∷ bs) b more (s ∷ ss) a w = none-many bs b more ss a.1 w

  pub expanded-apart : (p q : Patch) (n : ℕ) → IsExpanded isos p q → IsFirstMany isos p.rules n → ⊥
  expanded-apart p q n a w = none-many w.before w.rule w.after q.rules (subst (λ (rs : List Rule). AreExpanded isos rs q.rules) w.rules_are a.rules) w.many
