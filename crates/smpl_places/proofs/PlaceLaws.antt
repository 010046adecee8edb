-- A fault has one place, and can't have none.
use Rattle.std.proofs.Common.{◌≡◌, ◌∙◌, ℕ, List, [], ◌∷◌, Option, Some, None, inl, inr, refl, sym, ap, subst}
use Rattle.smpl_patch.specs.declared.fault.PatchFault.{PatchFault}
use Rattle.smpl_patch.specs.declared.fault.PatchFault.TheVariants.{PatchTooLong, BadToken, BadHeader, BadMetavariable, TwiceNamed, UnknownRule}
use Rattle.smpl_patch.specs.declared.fault.PatchFault.TheVariants.{KindDiffers, BadPattern, StarWithEdit, PlusWithoutAnchor, DotsAtEdge}
use Rattle.smpl_patch.specs.declared.fault.PatchFault.TheVariants.{MinusDots, MayStayUnbound, UnboundInPlus, ScriptRule, TooDeep, TooLarge, NoMemory}
use Rattle.smpl_lexer.specs.declared.text.PatchText.{PatchText}
use Rattle.smpl_lexer.specs.declared.text.RuleText.{RuleText}
use Rattle.smpl_lexer.specs.Texts.{IsTextOf, AllGoOn}
use Rattle.smpl_meta.specs.declared.head.RuleHead.{RuleHead}
use Rattle.smpl_meta.specs.Heads.{AreHeads}
use Rattle.smpl_places.specs.declared.pieces.Piece.{Piece}
use Rattle.smpl_places.specs.Pieces.{pieces_of}
use Rattle.smpl_places.specs.Unspelled.{AreStatements, Tells, IsFirstUnspelled}
use Rattle.smpl_places.specs.FaultPlaces.{IsTextIn, HeadsIn, RuleAt, CodeAt, FaultAt, rule_start, code_around}

abbrev pub TextOnce : Type 0
TextOnce = (bytes : List ℕ) (one other : PatchText) → IsTextOf bytes one → IsTextOf bytes other → one ≡ other

text_once : TextOnce → (bytes : List ℕ) (one other : Option PatchText) → IsTextIn bytes one → IsTextIn bytes other → one ≡ other
text_once once bytes None None a b = refl
text_once once bytes None (Some other) a b = absurd (a other b)
text_once once bytes (Some one) None a b = absurd (b one a)
text_once once bytes (Some one) (Some other) a b = ap (λ (t : PatchText). Some t) (once bytes one other a b)

rule_once : TextOnce → (bytes : List ℕ) (rule : ℕ) (one other : Option ℕ) → RuleAt bytes rule one → RuleAt bytes rule other → one ≡ other
rule_once once bytes rule one other a b =
    a.1.1 ∙ ap (λ (t : Option PatchText). rule_start t rule) (text_once once bytes a.0 b.0 a.1.0 b.1.0) ∙ sym b.1.1

-- ---- code

abbrev pub HeadsOnce : Type 0
HeadsOnce = (text : PatchText) (earlier : List RuleHead) (rules : List RuleText) (one other : List RuleHead) → AllGoOn rules
    → AreHeads text earlier rules one → AreHeads text earlier rules other → one ≡ other

abbrev pub GoOn : Type 0
GoOn = (bytes : List ℕ) (text : PatchText) → IsTextOf bytes text → AllGoOn text.rules

heads_once : HeadsOnce → GoOn → (bytes : List ℕ) (text : Option PatchText) (one other : Option (List RuleHead)) → IsTextIn bytes text
    → HeadsIn text one → HeadsIn text other → one ≡ other
heads_once once go bytes None one other is a b = a ∙ sym b
heads_once once go bytes (Some text) None None is a b = refl
heads_once once go bytes (Some text) None (Some other) is a b = absurd (a other b)
heads_once once go bytes (Some text) (Some one) None is a b = absurd (b one a)
heads_once once go bytes (Some text) (Some one) (Some other) is a b =
    ap (λ (hs : List RuleHead). Some hs) (once text [] text.rules one other (go bytes text is) a b)

unspelled_once : (pieces : List Piece) (all one other : ℕ) → IsFirstUnspelled pieces all one → IsFirstUnspelled pieces all other → one ≡ other
unspelled_once [] all one other a b = a ∙ sym b
unspelled_once (p ∷ pieces) all one other (inl a) (inl b) = a.1 ∙ sym b.1
unspelled_once (p ∷ pieces) all one other (inl a) (inr b) = absurd (a.0 b.0.0 b.0.1)
unspelled_once (p ∷ pieces) all one other (inr a) (inl b) = absurd (b.0 a.0.0 a.0.1)
unspelled_once (p ∷ pieces) all one other (inr a) (inr b) = unspelled_once pieces all one other a.1 b.1

code_once : TextOnce → HeadsOnce → GoOn → (bytes : List ℕ) (at : ℕ) (one other : Option ℕ) → CodeAt bytes at one → CodeAt bytes at other → one ≡ other
code_once once heads go bytes at one other a b =
    let text : a.0 ≡ b.0 = text_once once bytes a.0 b.0 a.1.0 b.1.0 in
    let there : HeadsIn b.0 a.1.1.0 = subst (λ (t : Option PatchText). HeadsIn t a.1.1.0) text a.1.1.1.0 in
    let same : a.1.1.0 ≡ b.1.1.0 = heads_once heads go bytes b.0 a.1.1.0 b.1.1.0 b.1.0 there b.1.1.1.0 in
    let first : IsFirstUnspelled (pieces_of (code_around b.0 b.1.1.0 at)) at a.1.1.1.1.0 =
    subst (λ (hs : Option (List RuleHead)). IsFirstUnspelled (pieces_of (code_around b.0 hs at)) at a.1.1.1.1.0) same
    (subst (λ (t : Option PatchText). IsFirstUnspelled (pieces_of (code_around t a.1.1.0 at)) at a.1.1.1.1.0) text a.1.1.1.1.1.0) in
    a.1.1.1.1.1.1 ∙ ap (λ (n : ℕ). Some n) (unspelled_once (pieces_of (code_around b.0 b.1.1.0 at)) at a.1.1.1.1.0 b.1.1.1.1.0 first b.1.1.1.1.1.0)
    ∙ sym b.1.1.1.1.1.1

-- it is impossible that no piece is first
unspelled_some : (pieces : List Piece) (all : ℕ) → ((at : ℕ) → IsFirstUnspelled pieces all at → ⊥) → ⊥
unspelled_some [] all absent = absent all refl
unspelled_some (p ∷ pieces) all absent =
    absent p.at (inl ((λ t is. unspelled_some pieces all (λ at rest. absent at (inr ((t, is), rest)))), refl))

code_by : (bytes : List ℕ) (at : ℕ) (text : Option PatchText) → IsTextIn bytes text → (heads : Option (List RuleHead)) → HeadsIn text heads
    → ((found : Option ℕ) → CodeAt bytes at found → ⊥) → ⊥
code_by bytes at text is heads are absent =
    unspelled_some (pieces_of (code_around text heads at)) at (λ place first. absent (Some place) (text, (is, (heads, (are, (place, (first, refl)))))))

code_some : (bytes : List ℕ) (at : ℕ) → ((found : Option ℕ) → CodeAt bytes at found → ⊥) → ⊥
code_some bytes at absent =
    code_by bytes at None (λ text is.
    code_by bytes at (Some text) is None (λ heads are. code_by bytes at (Some text) is (Some heads) are absent) absent) None refl absent

-- ---- all faults

module _ (once : TextOnce) (heads : HeadsOnce) (go : GoOn) (bytes : List ℕ) where
  pub fault_once : (fault : PatchFault) (one other : Option ℕ) → FaultAt bytes fault one → FaultAt bytes fault other → one ≡ other
  fault_once PatchTooLong one other a b = a ∙ sym b
  fault_once (StarWithEdit rule) one other a b = rule_once once bytes rule one other a b
  fault_once (TooLarge rule) one other a b = rule_once once bytes rule one other a b
  fault_once (MayStayUnbound x) one other a b = rule_once once bytes x.rule one other a b
  fault_once (UnboundInPlus x) one other a b = rule_once once bytes x.rule one other a b
  fault_once NoMemory one other a b = a ∙ sym b
  fault_once (BadToken at) one other a b = a ∙ sym b
  fault_once (BadHeader at) one other a b = a ∙ sym b
  fault_once (BadMetavariable at) one other a b = a ∙ sym b
  fault_once (TwiceNamed at) one other a b = a ∙ sym b
  fault_once (UnknownRule at) one other a b = a ∙ sym b
  fault_once (KindDiffers at) one other a b = a ∙ sym b
  fault_once (BadPattern at) one other a b = code_once once heads go bytes at one other a b
  fault_once (PlusWithoutAnchor at) one other a b = a ∙ sym b
  fault_once (DotsAtEdge at) one other a b = a ∙ sym b
  fault_once (MinusDots at) one other a b = a ∙ sym b
  fault_once (ScriptRule at) one other a b = a ∙ sym b
  fault_once (TooDeep at) one other a b = a ∙ sym b

module _ (bytes : List ℕ) where
  rule_some : (rule : ℕ) → ((at : Option ℕ) → RuleAt bytes rule at → ⊥) → ⊥
  rule_some rule absent =
      absent None (None, ((λ text is. absent (rule_start (Some text) rule) (Some text, (is, refl))), refl))

  pub fault_some : (fault : PatchFault) → ((at : Option ℕ) → FaultAt bytes fault at → ⊥) → ⊥
  fault_some PatchTooLong absent = absent None refl
  fault_some (StarWithEdit rule) absent = rule_some rule absent
  fault_some (TooLarge rule) absent = rule_some rule absent
  fault_some (MayStayUnbound x) absent = rule_some x.rule absent
  fault_some (UnboundInPlus x) absent = rule_some x.rule absent
  fault_some NoMemory absent = absent None refl
  fault_some (BadToken at) absent = absent (Some at) refl
  fault_some (BadHeader at) absent = absent (Some at) refl
  fault_some (BadMetavariable at) absent = absent (Some at) refl
  fault_some (TwiceNamed at) absent = absent (Some at) refl
  fault_some (UnknownRule at) absent = absent (Some at) refl
  fault_some (KindDiffers at) absent = absent (Some at) refl
  fault_some (BadPattern at) absent = code_some bytes at absent
  fault_some (PlusWithoutAnchor at) absent = absent (Some at) refl
  fault_some (DotsAtEdge at) absent = absent (Some at) refl
  fault_some (MinusDots at) absent = absent (Some at) refl
  fault_some (ScriptRule at) absent = absent (Some at) refl
  fault_some (TooDeep at) absent = absent (Some at) refl
