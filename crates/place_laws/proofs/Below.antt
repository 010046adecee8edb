-- Faults that have a byte if the patch has more rules than a number says, and the first of several such faults.
use Rattle.std.proofs.Common.{◌≡◌, ◌∙◌, ◌<◌, ℕ, suc, zero, Bool, true, false, cond, List, [], ◌∷◌, ◌++◌, Option, Some, None, refl, sym, ap, subst, arith}
use Rattle.std.specs.Prelude.{length, slice_get, option_map}
use Rattle.smpl_patch.specs.declared.fault.PatchFault.{PatchFault}
use Rattle.smpl_patch.specs.declared.fault.PatchFault.TheVariants.{PatchTooLong, BadToken, BadHeader, BadMetavariable, TwiceNamed, UnknownRule}
use Rattle.smpl_patch.specs.declared.fault.PatchFault.TheVariants.{KindDiffers, BadPattern, StarWithEdit, PlusWithoutAnchor, DotsAtEdge}
use Rattle.smpl_patch.specs.declared.fault.PatchFault.TheVariants.{MinusDots, MayStayUnbound, UnboundInPlus, ScriptRule, TooDeep, TooLarge, NoMemory}
use Rattle.smpl_patch.specs.Faults.{is_before, first_from, first_of}
use Rattle.smpl_lexer.specs.declared.text.RuleText.{RuleText}
use Rattle.smpl_lexer.specs.declared.text.PatchText.{PatchText}
use Rattle.smpl_lexer.specs.Texts.{IsTextOf}
use Rattle.smpl_places.specs.FaultPlaces.{IsTextIn, RuleAt, FaultAt, rule_start}

-- the fault has a byte of its own, or its rule is one of so many
abbrev pub Below : ℕ → PatchFault → Type 0
Below n PatchTooLong = ⊥
Below n (StarWithEdit rule) = rule < n
Below n (TooLarge rule) = rule < n
Below n (MayStayUnbound x) = x.rule < n
Below n (UnboundInPlus x) = x.rule < n
Below n NoMemory = ⊥
Below n fault = Unit {0}

abbrev pub AllBelow : ℕ → List PatchFault → Type 0
AllBelow n [] = Unit {0}
AllBelow n (f ∷ fs) = Below n f × AllBelow n fs

pub both_below : (n : ℕ) (fs gs : List PatchFault) → AllBelow n fs → AllBelow n gs → AllBelow n (fs ++ gs)
both_below n [] gs one other = other
both_below n (f ∷ fs) gs one other = (one.0, both_below n fs gs one.1 other)

-- ---- the first of several

abbrev FirstBelow : ℕ → Option PatchFault → Type 0
FirstBelow n None = Unit {0}
FirstBelow n (Some f) = Below n f

either_below : (n : ℕ) (b : Bool) (f g : PatchFault) → Below n f → Below n g → Below n (cond b f g)
either_below n true f g one other = one
either_below n false f g one other = other

from_below : (n : ℕ) (o : Option PatchFault) (fs : List PatchFault) → FirstBelow n o → AllBelow n fs → FirstBelow n (first_from o fs)
from_below n o [] first all = first
from_below n None (f ∷ fs) first all = from_below n (Some f) fs all.0 all.1
from_below n (Some g) (f ∷ fs) first all =
    from_below n (Some (cond (is_before f g) f g)) fs (either_below n (is_before f g) f g all.0 first) all.1

is_below : (n : ℕ) (o : Option PatchFault) (f : PatchFault) → FirstBelow n o → o ≡ Some f → Below n f
is_below n None f below e = absurd cc
is_below n (Some g) f below e = let same : g ≡ f = cc in subst (Below n) same below

pub first_below : (n : ℕ) (fs : List PatchFault) (f : PatchFault) → AllBelow n fs → first_of fs ≡ Some f → Below n f
first_below n fs f all e = is_below n (first_of fs) f (from_below n None fs tt all) e

-- ---- the byte of such a fault

pub is_within : {X : Type 0} (xs : List X) (i : ℕ) → i < length xs → slice_get xs i ≡ None → ⊥
is_within [] i lt e = omega (arith, lt)
is_within (x ∷ xs) zero lt e = cc
is_within (x ∷ xs) (suc i) lt e = is_within xs i (omega (arith, lt)) e

begins : (o : Option RuleText) → option_map (λ (r : RuleText). r.start) o ≡ None → o ≡ None
begins None e = refl
begins (Some r) e = absurd cc

abbrev pub TextOnce : Type 0
TextOnce = (bytes : List ℕ) (one other : PatchText) → IsTextOf bytes one → IsTextOf bytes other → one ≡ other

module _ (once : TextOnce) (bytes : List ℕ) (text : PatchText) (is : IsTextOf bytes text) where
  rule_there : (rule : ℕ) (at : Option ℕ) (found : Option PatchText) → IsTextIn bytes found → at ≡ rule_start found rule
      → rule < length text.rules → at ≡ None → ⊥
  rule_there rule at None none e lt absent = none text is
  rule_there rule at (Some other) also e lt absent =
      let same : other ≡ text = once bytes other text also is in
      let none : rule_start (Some text) rule ≡ None = ap (λ (t : PatchText). rule_start (Some t) rule) (sym same) ∙ sym e ∙ absent in
      is_within text.rules rule lt (begins (slice_get text.rules rule) none)

  rule_at : (rule : ℕ) (at : Option ℕ) → RuleAt bytes rule at → rule < length text.rules → at ≡ None → ⊥
  rule_at rule at h lt absent = rule_there rule at h.0 h.1.0 h.1.1 lt absent

  pub fault_there : (fault : PatchFault) (at : Option ℕ) → Below (length text.rules) fault → FaultAt bytes fault at → at ≡ None → ⊥
  fault_there PatchTooLong at below h absent = below
  fault_there (BadToken byte) at below h absent = cc
  fault_there (BadHeader byte) at below h absent = cc
  fault_there (BadMetavariable byte) at below h absent = cc
  fault_there (TwiceNamed byte) at below h absent = cc
  fault_there (UnknownRule byte) at below h absent = cc
  fault_there (KindDiffers byte) at below h absent = cc
  fault_there (BadPattern byte) at below h absent = let e : at ≡ Some h.1.1.1.1.0 = h.1.1.1.1.1.1 in cc
  fault_there (StarWithEdit rule) at below h absent = rule_at rule at h below absent
  fault_there (PlusWithoutAnchor byte) at below h absent = cc
  fault_there (DotsAtEdge byte) at below h absent = cc
  fault_there (MinusDots byte) at below h absent = cc
  fault_there (MayStayUnbound x) at below h absent = rule_at x.rule at h below absent
  fault_there (UnboundInPlus x) at below h absent = rule_at x.rule at h below absent
  fault_there (ScriptRule byte) at below h absent = cc
  fault_there (TooDeep byte) at below h absent = cc
  fault_there (TooLarge rule) at below h absent = rule_at rule at h below absent
  fault_there NoMemory at below h absent = below

-- a fault of no rule has a byte without a text
pub byte_there : (bytes : List ℕ) (fault : PatchFault) (at : Option ℕ) → Below 0 fault → FaultAt bytes fault at → at ≡ None → ⊥
byte_there bytes PatchTooLong at below h absent = below
byte_there bytes (BadToken byte) at below h absent = cc
byte_there bytes (BadHeader byte) at below h absent = cc
byte_there bytes (BadMetavariable byte) at below h absent = cc
byte_there bytes (TwiceNamed byte) at below h absent = cc
byte_there bytes (UnknownRule byte) at below h absent = cc
byte_there bytes (KindDiffers byte) at below h absent = cc
byte_there bytes (BadPattern byte) at below h absent = let e : at ≡ Some h.1.1.1.1.0 = h.1.1.1.1.1.1 in cc
byte_there bytes (StarWithEdit rule) at below h absent = omega (arith, below)
byte_there bytes (PlusWithoutAnchor byte) at below h absent = cc
byte_there bytes (DotsAtEdge byte) at below h absent = cc
byte_there bytes (MinusDots byte) at below h absent = cc
byte_there bytes (MayStayUnbound x) at below h absent = omega (arith, below)
byte_there bytes (UnboundInPlus x) at below h absent = omega (arith, below)
byte_there bytes (ScriptRule byte) at below h absent = cc
byte_there bytes (TooDeep byte) at below h absent = cc
byte_there bytes (TooLarge rule) at below h absent = omega (arith, below)
byte_there bytes NoMemory at below h absent = below
