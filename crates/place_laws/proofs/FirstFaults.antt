-- The first fault of a patch has a byte, unless the patch is too long.
-- Proof: a fault has a byte of its own, or is that of a rule of the text. A text's fault is not that of a rule.
use Rattle.std.proofs.Common.{◌≡◌, ◌<◌, ℕ, List, [], ◌∷◌, ◌++◌, Option, Some, None, IfSome, refl, arith}
use Rattle.std.specs.Prelude.{length, slice_get}
use Rattle.smpl_patch.specs.declared.rule.Patch.{Patch}
use Rattle.smpl_patch.specs.declared.fault.PatchFault.{PatchFault}
use Rattle.smpl_patch.specs.declared.fault.PatchFault.TheVariants.{PatchTooLong}
use Rattle.smpl_lexer.specs.declared.text.RuleText.{RuleText}
use Rattle.smpl_lexer.specs.declared.text.PatchText.{PatchText}
use Rattle.smpl_lexer.specs.Texts.{IsTextFault}
use Rattle.smpl_lexer.specs.Texts.IsTextFault.{too_long, first}
use Rattle.smpl_meta.specs.declared.head.RuleHead.{RuleHead}
use Rattle.smpl_meta.specs.Heads.{AreHeads, IsHeadFault}
use Rattle.smpl_file.specs.Exports.{taken}
use Rattle.smpl_file.specs.Patches.{IsRuleFault, IsSpelled, IsSpellingFault, IsFirstFault}
use Rattle.smpl_file.specs.Patches.IsSpellingFault.{in_text, in_heads, in_rules}
use Rattle.smpl_file.specs.Patches.IsFirstFault.{spelling, meaning}
use Rattle.smpl_file.specs.SmplCheck.Checks.{first_fault}
use Rattle.smpl_places.specs.FaultPlaces.{FaultAt}
use Rattle.place_laws.proofs.Below.{Below, TextOnce, is_within, fault_there, byte_there}
use Rattle.place_laws.proofs.SpellingFaults.{text_below, head_below, rule_below}
use Rattle.place_laws.proofs.MeaningFaults.{rules_below}

module _ (n : ℕ) (text : PatchText) (f : PatchFault) where
  -- the fault of the rule with a number, by what is found under it
  of_head : (earlier : List RuleHead) (o : Option RuleText) → (o ≡ None → ⊥) → IfSome o (λ r. IsHeadFault text.virtuals earlier r f) → Below n f
  of_head earlier None some h = absurd (some refl)
  of_head earlier (Some r) some h = head_below n text.virtuals earlier r f h

  of_rule : (rule : ℕ) → rule < n → (o : Option RuleText) → (o ≡ None → ⊥) → (p : Option RuleHead) → (p ≡ None → ⊥)
      → IfSome o (λ r. IfSome p (λ h. IsRuleFault rule r h f)) → Below n f
  of_rule rule lt None some p also h = absurd (some refl)
  of_rule rule lt (Some r) some None also h = absurd (also refl)
  of_rule rule lt (Some r) some (Some head) also h = rule_below n rule r head f lt h

heads_long : (text : PatchText) (earlier : List RuleHead) (rs : List RuleText) (hs : List RuleHead) → AreHeads text earlier rs hs → length hs ≡ length rs
heads_long text earlier [] [] are = refl
heads_long text earlier [] (h ∷ hs) are = absurd are
heads_long text earlier (r ∷ rs) [] are = absurd are
heads_long text earlier (r ∷ rs) (h ∷ hs) are = let rest = heads_long text (earlier ++ h ∷ []) rs hs are.1 in omega (arith, rest)

module _ (once : TextOnce) (bytes : List ℕ) (at : Option ℕ) where
  in_a_text : (f : PatchFault) → IsTextFault bytes f → FaultAt bytes f at → at ≡ None → f ≡ PatchTooLong
  in_a_text f (too_long many) there absent = refl
  in_a_text f (first lines are e) there absent = absurd (byte_there bytes f at (text_below 0 (length bytes) lines f e) there absent)

  in_spelling : (f : PatchFault) → IsSpellingFault bytes f → FaultAt bytes f at → at ≡ None → f ≡ PatchTooLong
  in_spelling f (in_text h) there absent = in_a_text f h there absent
  in_spelling f (in_heads text is h) there absent =
      absurd (fault_there once bytes text is f at
      (of_head (length text.rules) text f h.heads (slice_get text.rules h.rule) (is_within text.rules h.rule h.within) h.here) there absent)
  in_spelling f (in_rules text heads is are h) there absent =
      let long : length heads ≡ length text.rules = heads_long text [] text.rules heads are in
      absurd (fault_there once bytes text is f at
      (of_rule (length text.rules) text f h.rule h.within (slice_get text.rules h.rule) (is_within text.rules h.rule h.within)
      (slice_get heads h.rule) (is_within heads h.rule (omega (arith, long, h.within))) h.here) there absent)

  in_meaning : (f : PatchFault) (patch : Patch) → IsSpelled bytes patch → first_fault patch ≡ Some f → FaultAt bytes f at → at ≡ None → f ≡ PatchTooLong
  in_meaning f patch s e there absent =
      absurd (fault_there once bytes s.text s.is_text f at
      (rules_below s.text (taken s.heads) (length s.text.rules) [] s.text.rules s.heads patch.rules 0 f refl (omega arith) s.are_heads
      s.are_rules.rules e) there absent)

  by_phase : (f : PatchFault) → IsFirstFault bytes f → FaultAt bytes f at → at ≡ None → f ≡ PatchTooLong
  by_phase f (spelling h) there absent = in_spelling f h there absent
  by_phase f (meaning patch s e) there absent = in_meaning f patch s e there absent

pub first_fault_there : TextOnce → (bytes : List ℕ) (fault : PatchFault) (at : Option ℕ) → IsFirstFault bytes fault → FaultAt bytes fault at
    → at ≡ None → fault ≡ PatchTooLong
first_fault_there once bytes fault at is there absent = by_phase once bytes at fault is there absent
