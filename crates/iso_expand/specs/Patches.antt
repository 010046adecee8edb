-- Patches in which each pattern has the forms of its first form, and rules that would have too many.
use Rattle.std.specs.Prelude.{ℕ, ◌≡◌, ◌<◌, ◌≤◌, ⊤, List, [], ◌∷◌, ◌++◌, length}
use Rattle.smpl_patch.specs.declared.elem.Elem.{Elem}
use Rattle.smpl_patch.specs.declared.pattern.PatToken.{PatToken}
use Rattle.smpl_patch.specs.declared.rule.Iso.{Iso}
use Rattle.smpl_patch.specs.declared.rule.Rule.{Rule}
use Rattle.smpl_patch.specs.declared.rule.Patch.{Patch}
use Rattle.smpl_patch.specs.Bodies.{body}
use Rattle.iso_expand.specs.declared.iso_forms.fault.FormsFault.{FormsFault}
use Rattle.iso_expand.specs.declared.iso_forms.fault.FormsFault.TheVariants as forms_fault
use Rattle.iso_expand.specs.declared.fault.ExpandFault.{ExpandFault}
use Rattle.iso_expand.specs.declared.fault.ExpandFault.TheVariants as fault
use Rattle.iso_expand.specs.Bodies.{expanded_body, forms_body}

-- the largest number of forms that the patterns of a rule may have together
abbrev pub most_forms : ℕ
most_forms = 10000

-- what is returned for the rule with this number
abbrev pub fault_at : FormsFault → ℕ → ExpandFault
fault_at forms_fault.TooMany n = fault.TooManyForms n
fault_at forms_fault.NoMemory n = fault.NoMemory

module _ (isos : List Iso) where
  -- the number of forms of a rule's patterns together
  abbrev pub forms_rule : Rule → ℕ
  forms_rule r = forms_body isos r.tokens (body r.body)

  -- the second rule is the first with all forms: nothing but the lists of forms differs
  pub record IsExpandedRule (r s : Rule) : Type 0 where
    pub name : s.name ≡ r.name
    pub depends : s.depends ≡ r.depends
    pub mode : s.mode ≡ r.mode
    pub vars : s.vars ≡ r.vars
    pub exports : s.exports ≡ r.exports
    pub tokens : s.tokens ≡ r.tokens
    pub body_is : body s.body ≡ expanded_body isos r.tokens (body r.body)
    pub few : forms_rule r ≤ most_forms

  abbrev pub AreExpanded : List Rule → List Rule → Type 0
  AreExpanded [] [] = ⊤
  AreExpanded [] (s ∷ ss) = ⊥
  AreExpanded (r ∷ rs) [] = ⊥
  AreExpanded (r ∷ rs) (s ∷ ss) = IsExpandedRule r s × AreExpanded rs ss

  -- the second patch is the first with all forms, and no rule has too many
  pub record IsExpanded (p q : Patch) : Type 0 where
    pub virtuals : q.virtuals ≡ p.virtuals
    pub rules : AreExpanded p.rules q.rules

  abbrev pub AllFew : List Rule → Type 0
  AllFew [] = ⊤
  AllFew (r ∷ rs) = (forms_rule r ≤ most_forms) × AllFew rs

  -- the body has all forms
  abbrev pub IsExpandedBody : List PatToken → List Elem → List Elem → Type 0
  IsExpandedBody tokens b c = body c ≡ expanded_body isos tokens (body b)

  -- the rule with this number is the first that has too many forms
  pub record IsFirstMany (rules : List Rule) (n : ℕ) : Type 0 where
    pub before : List Rule
    pub rule : Rule
    pub after : List Rule
    pub rules_are : rules ≡ before ++ rule ∷ after
    pub number : length before ≡ n
    pub few : AllFew before
    pub many : most_forms < forms_rule rule

  abbrev pub IsFaultOf : List Rule → ExpandFault → Type 0
  IsFaultOf rules (fault.TooManyForms n) = IsFirstMany rules n
  IsFaultOf rules fault.NoMemory = Unit {0}

  abbrev pub IsFault : Patch → ExpandFault → Type 0
  IsFault p f = IsFaultOf p.rules f
