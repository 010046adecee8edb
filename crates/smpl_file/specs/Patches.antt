-- What patch a text spells, and its first fault.
use Rattle.std.specs.Prelude.{ℕ, suc, ◌≡◌, ◌<◌, ⊤, List, [], ◌∷◌, length, take, slice_get, Some, None, IfSome}
use Rattle.smpl_patch.specs.declared.rule.Rule.{Rule}
use Rattle.smpl_patch.specs.declared.rule.Patch.{Patch}
use Rattle.smpl_patch.specs.declared.fault.PatchFault.{PatchFault}
use Rattle.smpl_lexer.specs.declared.text.RuleText.{RuleText}
use Rattle.smpl_lexer.specs.declared.text.PatchText.{PatchText}
use Rattle.smpl_lexer.specs.Texts.{IsTextOf, IsTextFault}
use Rattle.smpl_meta.specs.declared.head.RuleHead.{RuleHead}
use Rattle.smpl_meta.specs.Heads.{AreHeads, IsFirstHeadFault}
use Rattle.smpl_meta.specs.Patterns.{pattern_tokens}
use Rattle.smpl_plus.specs.Anchors.{plus_faults, first_phase, AreAnchored}
use Rattle.smpl_body.specs.Bodies.{IsBody, IsBodyFault}
use Rattle.smpl_file.specs.SmplCheck.Checks.{first_fault}
use Rattle.smpl_terms.specs.declared.var.Var.{Var as Variable}
use Rattle.smpl_patch.specs.declared.elem.Elem.{Elem}
use Rattle.smpl_patch.specs.declared.pattern.PatToken.{PatToken}
use Rattle.smpl_file.specs.Exports.{taken, exports_of}

-- ---- rules

-- the rule made of a head, what is at the tokens of patterns, and a body, if rules take these variables
abbrev pub made : RuleHead → List Variable → List PatToken → List Elem → Rule
made h known tokens body = record {
  name = h.name;
  depends = h.depends;
  mode = h.mode;
  vars = h.vars;
  exports = exports_of known h.vars;
  body = body;
  tokens = tokens;
}

-- The rule with this number, text and head, if rules take these variables: its plus code and its body have no fault.
pub record IsRule (known : List Variable) (number : ℕ) (r : RuleText) (h : RuleHead) (rule : Rule) : Type 0 where
  pub name : rule.name ≡ h.name
  pub depends : rule.depends ≡ h.depends
  pub mode : rule.mode ≡ h.mode
  pub vars : rule.vars ≡ h.vars
  pub exports : rule.exports ≡ exports_of known h.vars
  pub tokens : AreAnchored h.vars number r.body rule.tokens
  pub body : IsBody (pattern_tokens h.vars r.body) rule.body

-- These are the rules from a number on.
abbrev pub AreRules : List Variable → ℕ → List RuleText → List RuleHead → List Rule → Type 0
AreRules known n [] [] [] = ⊤
AreRules known n (r ∷ rs) (h ∷ hs) (rule ∷ rules) = IsRule known n r h rule × AreRules known (suc n) rs hs rules
AreRules known n _ _ _ = ⊥

-- The first fault of a rule: of its plus code, or if that has none, of its body.
pub data IsRuleFault (number : ℕ) (r : RuleText) (h : RuleHead) : PatchFault → Type 0 where
  in_plus : {f : PatchFault} → first_phase (plus_faults h.vars number r.body) ≡ Some f → IsRuleFault number r h f
  in_body : {f : PatchFault} → first_phase (plus_faults h.vars number r.body) ≡ None
      → IsBodyFault (pattern_tokens h.vars r.body) r.end f → IsRuleFault number r h f

-- This rule is the first that has a fault, and this is its first fault.
pub record IsFirstRuleFault (text : PatchText) (heads : List RuleHead) (f : PatchFault) : Type 0 where
  pub rule : ℕ
  pub within : rule < length text.rules
  pub before : List Rule
  pub are : AreRules (taken heads) 0 (take rule text.rules) (take rule heads) before
  pub here : IfSome (slice_get text.rules rule) (λ r. IfSome (slice_get heads rule) (λ h. IsRuleFault rule r h f))

-- the patch of a text whose rules have these heads
pub record AreRulesOf (text : PatchText) (heads : List RuleHead) (patch : Patch) : Type 0 where
  pub virtuals : patch.virtuals ≡ text.virtuals
  pub rules : AreRules (taken heads) 0 text.rules heads patch.rules

-- ---- patches

-- The bytes spell the patch: their text, headers and declarations, plus code and bodies have no fault.
pub record IsSpelled (bytes : List ℕ) (patch : Patch) : Type 0 where
  pub text : PatchText
  pub is_text : IsTextOf bytes text
  pub heads : List RuleHead
  pub are_heads : AreHeads text [] text.rules heads
  pub are_rules : AreRulesOf text heads patch

-- The first fault of what the bytes spell: of the text; if that has none, of the header and declarations of a rule; and if
-- these have none either, of the plus code and body of a rule.
pub data IsSpellingFault (bytes : List ℕ) : PatchFault → Type 0 where
  in_text : {f : PatchFault} → IsTextFault bytes f → IsSpellingFault bytes f
  in_heads : {f : PatchFault} (text : PatchText) → IsTextOf bytes text → IsFirstHeadFault text f → IsSpellingFault bytes f
  in_rules : {f : PatchFault} (text : PatchText) (heads : List RuleHead) → IsTextOf bytes text
      → AreHeads text [] text.rules heads → IsFirstRuleFault text heads f → IsSpellingFault bytes f

-- The bytes spell the patch, and what its rules mean has no fault.
pub record IsPatchOf (bytes : List ℕ) (patch : Patch) : Type 0 where
  pub spelled : IsSpelled bytes patch
  pub checked : first_fault patch ≡ None

-- the first fault of what the bytes spell, or else of what the patch means
pub data IsFirstFault (bytes : List ℕ) : PatchFault → Type 0 where
  spelling : {f : PatchFault} → IsSpellingFault bytes f → IsFirstFault bytes f
  meaning : {f : PatchFault} (patch : Patch) → IsSpelled bytes patch → first_fault patch ≡ Some f → IsFirstFault bytes f
