-- The open groups determine what is_hidden reads from the lines before a place.
use Rattle.std.proofs.Common.{◌≡◌, ℕ, ◌&&◌, Bool, true, false, List, [], ◌∷◌, drop, suc, zero, not, refl, sym, ap, ◌∙◌}
use Rattle.std.specs.Prelude.{if◌then◌else◌}
use Rattle.std.proofs.Math.Seq.{drop-nil}
use Rattle.cpp_lines.specs.declared.directive.Directive.{Directive}
use Rattle.cpp_lines.specs.declared.directive.Directive.TheVariants.{Open, OpenZero, Next, Close, Other}
use Rattle.cpp_lines.specs.declared.group.Arm.{Arm}
use Rattle.cpp_lines.specs.declared.group.Arm.TheVariants.{Before, Shown, Past}
use Rattle.cpp_lines.specs.declared.group.Frame.{Frame}
use Rattle.cpp_lines.specs.Groups.{is_hidden}
use Rattle.cpp_lines.specs.Frames.{is_shown, all_shown, arm_after, next_arm, inner_closed, frames_after}

-- whether the arm that begins after some more is shown
abbrev pub shows_after : Arm → ℕ → Bool
shows_after Before zero = false
shows_after Before (suc zero) = true
shows_after Before (suc (suc n)) = false
shows_after Shown zero = true
shows_after Shown (suc n) = false
shows_after Past n = false

-- like is_hidden, but by the open groups
abbrev pub hides : ℕ → List Frame → Bool
hides arm [] = false
hides arm (frame ∷ frames) = if shows_after frame.arm arm then hides 0 frames else true

-- each group knows whether those around it are shown
abbrev pub AreSound : List Frame → Type 0
AreSound [] = Unit {0}
AreSound (frame ∷ frames) = (frame.outer ≡ all_shown frames) × AreSound frames

-- the groups determine what the lines before a place do
abbrev pub TellLines : List Directive → List Frame → Type 0
TellLines lines frames = (closed arm : ℕ) → is_hidden closed arm lines ≡ hides arm (drop closed frames)

shows_now : (arm : Arm) → shows_after arm 0 ≡ is_shown arm
shows_now Before = refl
shows_now Shown = refl
shows_now Past = refl

pub all_shown-hides : (frames : List Frame) → AreSound frames → all_shown frames ≡ not (hides 0 frames)
all_shown-hides [] sound = refl
all_shown-hides (frame ∷ frames) sound =
    rw (sound.0, shows_now frame.arm, all_shown-hides frames sound.1)
    (elim (is_shown frame.arm) as (λ (b : Bool). (not (hides 0 frames) && b) ≡ not (if b then hides 0 frames else true)) [
      | true ↦ elim (hides 0 frames) as (λ (b : Bool). (not b && true) ≡ not b) [ true ↦ refl | false ↦ refl ]
      | false ↦ elim (hides 0 frames) as (λ (b : Bool). (not b && false) ≡ false) [ true ↦ refl | false ↦ refl ]
    ])

shows_next : (arm : Arm) (n : ℕ) → shows_after (arm_after arm) n ≡ shows_after arm (suc n)
shows_next Before zero = refl
shows_next Before (suc n) = refl
shows_next Shown n = refl
shows_next Past n = refl

next_hides : (arm : ℕ) (frames : List Frame) → hides (suc arm) frames ≡ hides arm (next_arm frames)
next_hides arm [] = refl
next_hides arm (frame ∷ frames) = rw (shows_next frame.arm arm) refl

next_outer : (closed : ℕ) (frames : List Frame) → drop (suc closed) frames ≡ drop (suc closed) (next_arm frames)
next_outer closed [] = refl
next_outer closed (frame ∷ frames) = refl

close_outer : (closed : ℕ) (frames : List Frame) → drop (suc closed) frames ≡ drop closed (inner_closed frames)
close_outer closed [] = sym (drop-nil closed)
close_outer closed (frame ∷ frames) = refl

pub tell_line : (d : Directive) (lines : List Directive) (frames : List Frame) → TellLines lines frames → TellLines (d ∷ lines) (frames_after d frames)
tell_line Open lines frames tell zero zero = tell zero zero
tell_line Open lines frames tell zero (suc arm) = refl
tell_line Open lines frames tell (suc closed) arm = tell closed arm
tell_line OpenZero lines frames tell zero zero = refl
tell_line OpenZero lines frames tell zero (suc zero) = tell zero zero
tell_line OpenZero lines frames tell zero (suc (suc arm)) = refl
tell_line OpenZero lines frames tell (suc closed) arm = tell closed arm
tell_line Next lines frames tell zero arm = tell zero (suc arm) ∙ next_hides arm frames
tell_line Next lines frames tell (suc closed) arm = tell (suc closed) arm ∙ ap (hides arm) (next_outer closed frames)
tell_line Close lines frames tell closed arm = tell (suc closed) arm ∙ ap (hides arm) (close_outer closed frames)
tell_line Other lines frames tell closed arm = tell closed arm

next_sound : (frames : List Frame) → AreSound frames → AreSound (next_arm frames)
next_sound [] sound = tt
next_sound (frame ∷ frames) sound = sound

close_sound : (frames : List Frame) → AreSound frames → AreSound (inner_closed frames)
close_sound [] sound = tt
close_sound (frame ∷ frames) sound = sound.1

pub line_sound : (d : Directive) (frames : List Frame) → AreSound frames → AreSound (frames_after d frames)
line_sound Open frames sound = (refl, sound)
line_sound OpenZero frames sound = (refl, sound)
line_sound Next frames sound = next_sound frames sound
line_sound Close frames sound = close_sound frames sound
line_sound Other frames sound = sound
