-- The byte of a patch at which a fault is.
use Rattle.std.specs.Prelude.{ℕ, ◌≡◌, List, [], Option, Some, None, slice_get, option_map}
use Rattle.smpl_patch.specs.declared.fault.PatchFault.{PatchFault}
use Rattle.smpl_patch.specs.declared.fault.PatchFault.TheVariants.{PatchTooLong, BadPattern, StarWithEdit, TooLarge, MayStayUnbound, UnboundInPlus, NoMemory}
use Rattle.smpl_patch.specs.Faults.{place_of}
use Rattle.smpl_lexer.specs.declared.text.RuleText.{RuleText}
use Rattle.smpl_lexer.specs.declared.text.PatchText.{PatchText}
use Rattle.smpl_lexer.specs.Texts.{IsTextOf}
use Rattle.smpl_meta.specs.declared.head.RuleHead.{RuleHead}
use Rattle.smpl_meta.specs.declared.patterns.Placed.{Placed}
use Rattle.smpl_meta.specs.Heads.{AreHeads}
use Rattle.smpl_places.specs.Pieces.{pieces_of}
use Rattle.smpl_places.specs.Unspelled.{IsFirstUnspelled, tokens_around}

-- the bytes spell this text, or none
abbrev pub IsTextIn : List ℕ → Option PatchText → Type 0
IsTextIn bytes None = (text : PatchText) → IsTextOf bytes text → ⊥
IsTextIn bytes (Some text) = IsTextOf bytes text

-- where the header of the rule with this number begins
abbrev pub rule_start : Option PatchText → ℕ → Option ℕ
rule_start None rule = None
rule_start (Some text) rule = option_map (λ (r : RuleText). r.start) (slice_get text.rules rule)

abbrev pub RuleAt : List ℕ → ℕ → Option ℕ → Type 0
RuleAt bytes rule at = (text : Option PatchText) × (IsTextIn bytes text × (at ≡ rule_start text rule))

-- the rules of the text have these heads, or none
abbrev pub HeadsIn : Option PatchText → Option (List RuleHead) → Type 0
HeadsIn None heads = heads ≡ None
HeadsIn (Some text) None = (heads : List RuleHead) → AreHeads text [] text.rules heads → ⊥
HeadsIn (Some text) (Some heads) = AreHeads text [] text.rules heads

-- the tokens of the patterns of the rule around a byte
abbrev pub code_around : Option PatchText → Option (List RuleHead) → ℕ → List Placed
code_around None heads at = []
code_around (Some text) None at = []
code_around (Some text) (Some heads) at = tokens_around text heads at

-- Of the code around a byte, the first piece that isn't statements begins here; if each is, it is that byte.
abbrev pub CodeAt : List ℕ → ℕ → Option ℕ → Type 0
CodeAt bytes at found = (text : Option PatchText) × (IsTextIn bytes text × ((heads : Option (List RuleHead)) × (HeadsIn text heads
    × ((place : ℕ) × (IsFirstUnspelled (pieces_of (code_around text heads at)) at place × (found ≡ Some place))))))

-- The fault is at this byte: the byte that it has; or the first of the header of its rule, or of the rule that declares its
-- variable; or the first of the piece of code that isn't spelled. A patch that is too long has no byte where it is so.
abbrev pub FaultAt : List ℕ → PatchFault → Option ℕ → Type 0
FaultAt bytes PatchTooLong at = at ≡ None
FaultAt bytes (BadPattern byte) at = CodeAt bytes byte at
FaultAt bytes (StarWithEdit rule) at = RuleAt bytes rule at
FaultAt bytes (TooLarge rule) at = RuleAt bytes rule at
FaultAt bytes (MayStayUnbound x) at = RuleAt bytes x.rule at
FaultAt bytes (UnboundInPlus x) at = RuleAt bytes x.rule at
FaultAt bytes NoMemory at = at ≡ None
FaultAt bytes fault at = at ≡ Some (place_of fault)
