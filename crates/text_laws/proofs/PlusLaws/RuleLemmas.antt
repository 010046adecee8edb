-- The plus code of each rule of a patch that bytes spell.
use Rattle.std.proofs.Common.{◌≡◌, ℕ, suc, true, sym, subst, arith, List, [], ◌∷◌, ◌++◌, length}
use Rattle.std.specs.Prelude.{All}
use Rattle.std.specs.List.{list_all}
use Rattle.std.proofs.lemmas.List.Elements.{All-nil, All-cons, All-head, All-tail}
use Rattle.smpl_terms.specs.declared.var.Var.{Var as Variable}
use Rattle.smpl_patch.specs.declared.rule.Iso.{Iso}
use Rattle.smpl_patch.specs.declared.rule.Rule.{Rule}
use Rattle.smpl_patch.specs.declared.rule.Patch.{Patch}
use Rattle.smpl_lexer.specs.declared.text.RuleText.{RuleText}
use Rattle.smpl_meta.specs.declared.head.RuleHead.{RuleHead}
use Rattle.smpl_file.specs.Exports.{taken}
use Rattle.smpl_file.specs.Patches.{IsRule, AreRules, IsSpelled}
use Rattle.sound_laws.specs.SmplSound.Parts.{EachPasses, EachHas, whole_token}
use Rattle.sound_laws.proofs.SmplSound.LineLemmas.{AllLines, AllBodies}
use Rattle.sound_laws.proofs.SmplSound.PlusLemmas.{WhenPlus, at_token, anchored_pass}
use Rattle.sound_laws.proofs.SmplSound.GapLemmas.{BlankLaw}
use Rattle.iso_expand.specs.Patches.{AreExpanded, IsExpanded}
use Rattle.text_laws.specs.Sound.{HavePlusCode}
use Rattle.text_laws.proofs.PlusLaws.GapLemmas.{IsContent, spaced_block, block_spaced, text_contents}
use Rattle.text_laws.proofs.PlusLaws.TokenLemmas.{plus_code}

abbrev pub RuleHasCode : Rule → Type 0
RuleHasCode r = HavePlusCode r.tokens

module _ (law : BlankLaw) where
  abbrev IsSpaced : Rule → Type 0
  IsSpaced r = list_all (at_token spaced_block) r.tokens ≡ true

  rule_spaced : (known : List Variable) (n : ℕ) (t : RuleText) (h : RuleHead) (x : Rule) → IsRule known n t h x → AllLines (WhenPlus IsContent) t.body
      → IsSpaced x
  rule_spaced known n t h x made lines =
      anchored_pass IsContent h.vars spaced_block (length t.body) (block_spaced law h.vars (length t.body)) n t.body x.tokens made.tokens lines (omega arith)

  rules_spaced : (known : List Variable) (n : ℕ) (ts : List RuleText) (hs : List RuleHead) (xs : List Rule) → AreRules known n ts hs xs
      → AllBodies (WhenPlus IsContent) ts → EachHas IsSpaced xs
  rules_spaced known n [] [] [] a lines = tt
  rules_spaced known n [] [] (x ∷ xs) a lines = absurd a
  rules_spaced known n [] (h ∷ hs) [] a lines = absurd a
  rules_spaced known n [] (h ∷ hs) (x ∷ xs) a lines = absurd a
  rules_spaced known n (t ∷ ts) [] [] a lines = absurd a
  rules_spaced known n (t ∷ ts) [] (x ∷ xs) a lines = absurd a
  rules_spaced known n (t ∷ ts) (h ∷ hs) [] a lines = absurd a
  rules_spaced known n (t ∷ ts) (h ∷ hs) (x ∷ xs) a lines =
      (rule_spaced known n t h x a.0 lines.0, rules_spaced known (suc n) ts hs xs a.1 lines.1)

  rules_code : (earlier rules : List Rule) → EachPasses (λ before r. list_all (whole_token r.vars) r.tokens) earlier rules → EachHas IsSpaced rules
      → All RuleHasCode rules
  rules_code earlier [] w g = All-nil RuleHasCode
  rules_code earlier (r ∷ rs) w g = All-cons RuleHasCode r rs (plus_code r.vars r.tokens w.0 g.0) (rules_code (earlier ++ r ∷ []) rs w.1 g.1)

  pub patch_code : (bytes : List ℕ) (patch : Patch) → IsSpelled bytes patch
      → EachPasses (λ before r. list_all (whole_token r.vars) r.tokens) [] patch.rules → All RuleHasCode patch.rules
  patch_code bytes patch s whole =
      rules_code [] patch.rules whole
      (rules_spaced (taken s.heads) 0 s.text.rules s.heads patch.rules s.are_rules.rules (text_contents bytes s.text s.is_text))

-- forms leave the plus code as it is
expanded_code : (isos : List Iso) (rs ss : List Rule) → AreExpanded isos rs ss → All RuleHasCode rs → All RuleHasCode ss
expanded_code isos [] [] a h = All-nil RuleHasCode
expanded_code isos [] (s ∷ ss) a h = absurd a
expanded_code isos (r ∷ rs) [] a h = absurd a
expanded_code isos (r ∷ rs) (s ∷ ss) a h =
    All-cons RuleHasCode s ss (subst HavePlusCode (sym a.0.tokens) (All-head RuleHasCode r rs h)) (expanded_code isos rs ss a.1 (All-tail RuleHasCode r rs h))

pub whole_code : (isos : List Iso) (patch whole : Patch) → IsExpanded isos patch whole → All RuleHasCode patch.rules → All RuleHasCode whole.rules
whole_code isos patch whole is h = expanded_code isos patch.rules whole.rules is.rules h
