-- Which fault of a phase is the first of all.
use Rattle.std.proofs.Common.{◌≡◌, ℕ, List, Some, refl, inl, inr, [], Result, Ok, Err, IfErr, IfOk}
use Rattle.smpl_patch.specs.declared.fault.PatchFault.{PatchFault}
use Rattle.smpl_patch.specs.declared.fault.PatchFault.TheVariants as fault
use Rattle.smpl_patch.specs.declared.rule.Patch.{Patch}
use Rattle.smpl_lexer.specs.Texts.{OrNoMemory}
use Rattle.smpl_file.specs.SmplCheck.Checks.{first_fault, IsFaultOf}
use Rattle.smpl_lexer.specs.declared.text.PatchText.{PatchText}
use Rattle.smpl_lexer.specs.Texts.{IsTextOf, IsTextFault}
use Rattle.smpl_meta.specs.declared.head.RuleHead.{RuleHead}
use Rattle.smpl_meta.specs.Heads.{AreHeads, IsFirstHeadFault}
use Rattle.smpl_file.specs.Patches.{IsSpelled, IsSpellingFault, IsFirstRuleFault, IsFirstFault}
use Rattle.smpl_file.specs.Patches.IsSpellingFault.{in_text, in_heads, in_rules}
use Rattle.smpl_file.specs.Patches.IsFirstFault.{spelling, meaning}

pub or-map : (P Q : PatchFault → Type 0) (f : PatchFault) → ((g : PatchFault) → P g → Q g) → OrNoMemory P f → OrNoMemory Q f
or-map P Q f k (inl e) = inl e
or-map P Q f k (inr p) = inr (k f p)

-- what a fault of the last phase must satisfy
pub checked-fault : (patch : Patch) (f : PatchFault) → IsFaultOf patch f → OrNoMemory (λ g. first_fault patch ≡ Some g) f
checked-fault patch fault.NoMemory h = inl refl
checked-fault patch fault.PatchTooLong h = inr h
checked-fault patch (fault.BadToken n) h = inr h
checked-fault patch (fault.BadHeader n) h = inr h
checked-fault patch (fault.BadMetavariable n) h = inr h
checked-fault patch (fault.TwiceNamed n) h = inr h
checked-fault patch (fault.UnknownRule n) h = inr h
checked-fault patch (fault.KindDiffers n) h = inr h
checked-fault patch (fault.BadPattern n) h = inr h
checked-fault patch (fault.StarWithEdit n) h = inr h
checked-fault patch (fault.PlusWithoutAnchor n) h = inr h
checked-fault patch (fault.DotsAtEdge n) h = inr h
checked-fault patch (fault.MinusDots n) h = inr h
checked-fault patch (fault.MayStayUnbound x) h = inr h
checked-fault patch (fault.UnboundInPlus x) h = inr h
checked-fault patch (fault.ScriptRule n) h = inr h
checked-fault patch (fault.TooDeep n) h = inr h
checked-fault patch (fault.TooLarge n) h = inr h

pub meaning-fault : (bytes : List ℕ) (patch : Patch) (f : PatchFault) → IsSpelled bytes patch → IsFaultOf patch f → OrNoMemory (IsFirstFault bytes) f
meaning-fault bytes patch f s h = or-map (λ g. first_fault patch ≡ Some g) (IsFirstFault bytes) f (λ g e. meaning patch s e) (checked-fault patch f h)

-- ---- phase by phase

pub text-fault : (bytes : List ℕ) (f : PatchFault) → OrNoMemory (IsTextFault bytes) f → OrNoMemory (IsSpellingFault bytes) f
text-fault bytes f h = or-map (IsTextFault bytes) (IsSpellingFault bytes) f (λ g k. in_text k) h

pub heads-fault : (bytes : List ℕ) (text : PatchText) (f : PatchFault) → IsTextOf bytes text
    → OrNoMemory (IsFirstHeadFault text) f → OrNoMemory (IsSpellingFault bytes) f
heads-fault bytes text f is h = or-map (IsFirstHeadFault text) (IsSpellingFault bytes) f (λ g k. in_heads text is k) h

pub rules-fault : (bytes : List ℕ) (text : PatchText) (heads : List RuleHead) (f : PatchFault) → IsTextOf bytes text → AreHeads text [] text.rules heads
    → OrNoMemory (IsFirstRuleFault text heads) f → OrNoMemory (IsSpellingFault bytes) f
rules-fault bytes text heads f is are h = or-map (IsFirstRuleFault text heads) (IsSpellingFault bytes) f (λ g k. in_rules text heads is are k) h

pub spelling-fault : (bytes : List ℕ) (f : PatchFault) → OrNoMemory (IsSpellingFault bytes) f → OrNoMemory (IsFirstFault bytes) f
spelling-fault bytes f h = or-map (IsSpellingFault bytes) (IsFirstFault bytes) f (λ g k. spelling k) h

pub err-map : {T : Type 0} (P Q : PatchFault → Type 0) (r : Result T PatchFault) → ((f : PatchFault) → P f → Q f) → IfErr r P → IfErr r Q
err-map P Q (Ok x) k h = tt
err-map P Q (Err f) k h = k f h

pub ok-map : {T : Type 0} (P Q : T → Type 0) (r : Result T PatchFault) → ((x : T) → P x → Q x) → IfOk r P → IfOk r Q
ok-map P Q (Ok x) k h = k x h
ok-map P Q (Err f) k h = tt
