-- Where code isn't spelled: in bytes without a text, in a text without heads, and in a text with heads.
use Rattle.std.proofs.Common.{◌≡◌, ℕ, List, [], Option, Some, None, refl}
use Rattle.smpl_lexer.specs.declared.text.PatchText.{PatchText}
use Rattle.smpl_lexer.specs.Texts.{IsTextOf}
use Rattle.smpl_meta.specs.declared.head.RuleHead.{RuleHead}
use Rattle.smpl_meta.specs.Heads.{AreHeads}
use Rattle.smpl_places.specs.Pieces.{pieces_of}
use Rattle.smpl_places.specs.Unspelled.{IsFirstUnspelled, tokens_around}
use Rattle.smpl_places.specs.FaultPlaces.{CodeAt}

pub without_text : (bytes : List ℕ) (at : ℕ) → ((text : PatchText) → IsTextOf bytes text → ⊥) → CodeAt bytes at (Some at)
without_text bytes at none = (None, (none, (None, (refl, (at, (refl, refl))))))

pub without_heads : (bytes : List ℕ) (at : ℕ) (text : PatchText) → IsTextOf bytes text
    → ((heads : List RuleHead) → AreHeads text [] text.rules heads → ⊥) → CodeAt bytes at (Some at)
without_heads bytes at text is none = (Some text, (is, (None, (none, (at, (refl, refl))))))

pub with_heads : (bytes : List ℕ) (at : ℕ) (text : PatchText) → IsTextOf bytes text → (heads : List RuleHead) → AreHeads text [] text.rules heads
    → (place : ℕ) → IsFirstUnspelled (pieces_of (tokens_around text heads at)) at place → CodeAt bytes at (Some place)
with_heads bytes at text is heads are place first = (Some text, (is, (Some heads, (are, (place, (first, refl))))))
