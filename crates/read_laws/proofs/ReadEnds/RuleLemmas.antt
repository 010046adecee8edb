-- Plus code and bodies are read or have a first fault, and so have the rules of a patch, and the patch.
use Rattle.std.proofs.Common.{◌≡◌, ◌+◌, ◌<◌, ℕ, suc, Option, Some, None, IfSome, List, [], ◌∷◌, ◌++◌, map, length, take}
use Rattle.std.proofs.Common.{slice_get, inl, inr, refl, subst, arith}
use Rattle.c_terms.specs.declared.tree.Tree.{Tree}
use Rattle.smpl_terms.specs.declared.var.Var.{Var as Variable}
use Rattle.smpl_patch.specs.declared.pattern.VarDecl.{VarDecl}
use Rattle.smpl_patch.specs.declared.pattern.PlusLine.{PlusLine}
use Rattle.smpl_patch.specs.declared.pattern.PlusBlock.{PlusBlock}
use Rattle.smpl_patch.specs.declared.pattern.PatToken.{PatToken}
use Rattle.smpl_patch.specs.declared.elem.Elem.{Elem}
use Rattle.smpl_patch.specs.declared.rule.Rule.{Rule}
use Rattle.smpl_patch.specs.declared.rule.Patch.{Patch}
use Rattle.smpl_patch.specs.declared.fault.PatchFault.{PatchFault}
use Rattle.smpl_patch.specs.declared.fault.PatchFault.TheVariants.{BadPattern}
use Rattle.smpl_lexer.specs.declared.text.BodyLine.{BodyLine}
use Rattle.smpl_lexer.specs.declared.text.RuleText.{RuleText}
use Rattle.smpl_lexer.specs.declared.text.PatchText.{PatchText}
use Rattle.smpl_lexer.specs.Texts.{IsTextOf}
use Rattle.smpl_meta.specs.declared.head.RuleHead.{RuleHead}
use Rattle.smpl_meta.specs.declared.patterns.Placed.{Placed}
use Rattle.smpl_meta.specs.Patterns.{made, pattern_tokens}
use Rattle.smpl_meta.specs.Heads.{AreHeads}
use Rattle.smpl_plus.specs.Blocks.{Block, blocks_of, gaps_from, lead_of, ArePlusLines, is_many, ArePlusBlocks}
use Rattle.smpl_plus.specs.Anchors.{plus_faults, first_phase, bare, with_blocks, AreAnchored}
use Rattle.smpl_body.specs.SmplWhen.Cutting.{cut}
use Rattle.smpl_body.specs.Deep.{deep_fault}
use Rattle.smpl_body.specs.Bodies.{Spells, place_in, tree_fault, body_elements, IsBody, IsBodyFault}
use Rattle.smpl_file.specs.SmplCheck.Checks.{first_fault}
use Rattle.smpl_file.specs.Exports.{taken}
use Rattle.smpl_file.specs.Patches as file
use Rattle.smpl_file.specs.Patches.{IsRule, AreRules, IsRuleFault, IsSpelled, IsPatchOf, IsFirstFault}
use Rattle.smpl_file.specs.Patches.IsRuleFault.{in_plus, in_body}
use Rattle.smpl_file.specs.Patches.IsSpellingFault.{in_text, in_heads, in_rules}
use Rattle.smpl_file.specs.Patches.IsFirstFault.{spelling, meaning}
use Rattle.smpl_body.specs.Bodies.IsBodyFault.{deep, unspelled, misplaced}
use Rattle.read_laws.proofs.ReadEnds.PieceLemmas.{CutLaw, plus_cut}
use Rattle.read_laws.proofs.ReadEnds.TextLemmas.{text_end, heads_end}

-- ---- plus code

module _ (law : CutLaw) where
  plus_lines : (vars : List VarDecl) (ls : List BodyLine) → (ps : List PlusLine) × ArePlusLines vars ls ps
  plus_lines vars [] = ([], tt)
  plus_lines vars (l ∷ ls) =
      let cut = plus_cut law (l.text ++ 10 ∷ []) in
      let gaps : List (List ℕ) = gaps_from [] cut.pieces in
      let one : PlusLine = record { tokens = map (made vars 0) l.tokens; gaps = gaps; lead = lead_of gaps } in
      let more = plus_lines vars ls in (
        one ∷ more.0,
        (record { tokens = refl; gaps = record { pieces = cut.pieces; joins = cut.joins; cut = cut.cut; are = refl }; lead = refl }, more.1),
      )

  plus_blocks : (vars : List VarDecl) (bs : List Block) → (cs : List PlusBlock) × ArePlusBlocks vars bs cs
  plus_blocks vars [] = ([], tt)
  plus_blocks vars (b ∷ bs) =
      let lines = plus_lines vars b.lines in
      let one : PlusBlock = record { lines = lines.0; many = is_many b.lines } in
      let more = plus_blocks vars bs in
      (one ∷ more.0, (record { lines = lines.1; many = refl }, more.1))

  anchored : (vars : List VarDecl) (number : ℕ) (body : List BodyLine) → first_phase (plus_faults vars number body) ≡ None
      → (tokens : List PatToken) × AreAnchored vars number body tokens
  anchored vars number body e =
      let ps = pattern_tokens vars body in
      let blocks = plus_blocks vars (blocks_of ps body) in (
        with_blocks ps (map bare ps) (blocks_of ps body) blocks.0,
        record { faultless = e; blocks = blocks.0; lines = blocks.1; are = refl },
      )

-- ---- bodies

module _ (ps : List Placed) (end : ℕ) (accept : (es : List Elem) → IsBody ps es → ⊥) (refuse : (f : PatchFault) → IsBodyFault ps end f → ⊥) where
  tree_by : deep_fault ps ≡ None → (t : Tree) (cs : List Tree) → Spells ps t cs → (o : Option PatchFault) → tree_fault ps (cut ps) (t ∷ cs) ≡ o → ⊥
  tree_by shallow t cs is None e =
      accept (body_elements (cut ps).said t cs) (record { shallow = shallow; tree = t; codes = cs; spells = is; faultless = e; are = refl })
  tree_by shallow t cs is (Some f) e = refuse f (misplaced shallow t cs is e)

  body_by : (o : Option PatchFault) → deep_fault ps ≡ o → ⊥
  body_by (Some f) e = refuse f (deep e)
  body_by None e = refuse (BadPattern (place_in ps end)) (unspelled e (λ t cs is. tree_by e t cs is (tree_fault ps (cut ps) (t ∷ cs)) refl))

  body_end : ⊥
  body_end = body_by (deep_fault ps) refl

-- ---- rules

module _ (law : CutLaw) (known : List Variable) where
  module _ (number : ℕ) (r : RuleText) (h : RuleHead) (accept : (rule : Rule) → IsRule known number r h rule → ⊥)
      (refuse : (f : PatchFault) → IsRuleFault number r h f → ⊥) where
    rule_by : (o : Option PatchFault) → first_phase (plus_faults h.vars number r.body) ≡ o → ⊥
    rule_by (Some f) e = refuse f (in_plus e)
    rule_by None e =
        let tokens = anchored law h.vars number r.body e in
        body_end (pattern_tokens h.vars r.body) r.end
        (λ es is. accept (file.made h known tokens.0 es)
        (record { name = refl; depends = refl; mode = refl; vars = refl; exports = refl; tokens = tokens.1; body = is }))
        (λ f is. refuse f (in_body e is))

    rule_end : ⊥
    rule_end = rule_by (first_phase (plus_faults h.vars number r.body)) refl

  -- rules before a number, and a first fault of the rule of this number
  record Wrong (n : ℕ) (rs : List RuleText) (hs : List RuleHead) : Type 0 where
    rule : ℕ
    within : rule < length rs
    before : List Rule
    are : AreRules known n (take rule rs) (take rule hs) before
    fault : PatchFault
    here : IfSome (slice_get rs rule) (λ r. IfSome (slice_get hs rule) (λ h. IsRuleFault (n + rule) r h fault))

  wrong_here : (n : ℕ) (r : RuleText) (rs : List RuleText) (h : RuleHead) (hs : List RuleHead) (f : PatchFault) → IsRuleFault n r h f
      → Wrong n (r ∷ rs) (h ∷ hs)
  wrong_here n r rs h hs f is = record {
    rule = 0;
    within = omega arith;
    before = [];
    are = tt;
    fault = f;
    here = subst (λ (k : ℕ). IsRuleFault k r h f) (let e : n ≡ n + 0 = omega arith in e) is;
  }

  wrong_later : (n : ℕ) (r : RuleText) (rs : List RuleText) (h : RuleHead) (hs : List RuleHead) (rule : Rule) → IsRule known n r h rule
      → Wrong (suc n) rs hs → Wrong n (r ∷ rs) (h ∷ hs)
  wrong_later n r rs h hs rule is w = record {
    rule = suc w.rule;
    within = omega (arith, w.within);
    before = rule ∷ w.before;
    are = (is, w.are);
    fault = w.fault;
    here = subst (λ (k : ℕ). IfSome (slice_get rs w.rule) (λ q. IfSome (slice_get hs w.rule) (λ g. IsRuleFault k q g w.fault)))
        (let e : suc n + w.rule ≡ n + suc w.rule = omega arith in e) w.here;
  }

  rules_from : (text : PatchText) (earlier : List RuleHead) (n : ℕ) (rs : List RuleText) (hs : List RuleHead) → AreHeads text earlier rs hs
      → ((rules : List Rule) → AreRules known n rs hs rules → ⊥) → (Wrong n rs hs → ⊥) → ⊥
  rules_from text earlier n [] [] heads accept refuse = accept [] tt
  rules_from text earlier n [] (h ∷ hs) heads accept refuse = absurd heads
  rules_from text earlier n (r ∷ rs) [] heads accept refuse = absurd heads
  rules_from text earlier n (r ∷ rs) (h ∷ hs) heads accept refuse =
      rule_end n r h
      (λ rule is. rules_from text (earlier ++ h ∷ []) (suc n) rs hs heads.1 (λ rules are. accept (rule ∷ rules) (is, are))
      (λ w. refuse (wrong_later n r rs h hs rule is w)))
      (λ f is. refuse (wrong_here n r rs h hs f is))

-- ---- the patch

module _ (law : CutLaw) (bytes : List ℕ) (accept : (patch : Patch) → IsPatchOf bytes patch → ⊥) (refuse : (f : PatchFault) → IsFirstFault bytes f → ⊥) where
  meant : (patch : Patch) → IsSpelled bytes patch → (o : Option PatchFault) → first_fault patch ≡ o → ⊥
  meant patch is None e = accept patch (record { spelled = is; checked = e })
  meant patch is (Some f) e = refuse f (meaning patch is e)

  ruled : (text : PatchText) → IsTextOf bytes text → (hs : List RuleHead) → AreHeads text [] text.rules hs → ⊥
  ruled text is hs heads =
      rules_from law (taken hs) text [] 0 text.rules hs heads
      (λ rules are.
      let patch : Patch = record { virtuals = text.virtuals; rules = rules } in
      meant patch (record { text = text; is_text = is; heads = hs; are_heads = heads; are_rules = record { virtuals = refl; rules = are } })
      (first_fault patch) refl)
      (λ w.
      let e : 0 + w.rule ≡ w.rule = omega arith in
      let here : IfSome (slice_get text.rules w.rule) (λ r. IfSome (slice_get hs w.rule) (λ h. IsRuleFault w.rule r h w.fault)) =
      subst (λ (k : ℕ). IfSome (slice_get text.rules w.rule) (λ r. IfSome (slice_get hs w.rule) (λ h. IsRuleFault k r h w.fault))) e w.here in
      refuse w.fault (spelling (in_rules text hs is heads
      (record { rule = w.rule; within = w.within; before = w.before; are = w.are; here = here }))))

  headed : (text : PatchText) → IsTextOf bytes text → ⊥
  headed text is = heads_end text (λ hs are. ruled text is hs are) (λ f w. refuse f (spelling (in_heads text is w)))

  pub patch_end : ⊥
  patch_end = elim (text_end law bytes) [
    | inl text ↦ headed text.0 text.1
    | inr f ↦ refuse f.0 (spelling (in_text f.1))
  ]
