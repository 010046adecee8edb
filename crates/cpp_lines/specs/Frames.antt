-- The groups that are open, the innermost first.
use Rattle.std.specs.Prelude.{◌&&◌, Bool, true, false, List, [], ◌∷◌}
use Rattle.cpp_lines.specs.declared.directive.Directive.{Directive}
use Rattle.cpp_lines.specs.declared.directive.Directive.TheVariants.{Open, OpenZero, Next, Close, Other}
use Rattle.cpp_lines.specs.declared.group.Arm.{Arm}
use Rattle.cpp_lines.specs.declared.group.Arm.TheVariants.{Before, Shown, Past}
use Rattle.cpp_lines.specs.declared.group.Frame.{Frame}

abbrev pub is_shown : Arm → Bool
is_shown Before = false
is_shown Shown = true
is_shown Past = false

-- decided by the innermost group, which knows about those around it
abbrev pub all_shown : List Frame → Bool
all_shown [] = true
all_shown (frame ∷ frames) = frame.outer && is_shown frame.arm

abbrev pub arm_after : Arm → Arm
arm_after Before = Shown
arm_after Shown = Past
arm_after Past = Past

-- the innermost group goes to its next arm
abbrev pub next_arm : List Frame → List Frame
next_arm [] = []
next_arm (frame ∷ frames) = record { arm = arm_after frame.arm; outer = frame.outer } ∷ frames

abbrev pub inner_closed : List Frame → List Frame
inner_closed [] = []
inner_closed (frame ∷ frames) = frames

abbrev pub frames_after : Directive → List Frame → List Frame
frames_after Open frames = record { arm = Shown; outer = all_shown frames } ∷ frames
frames_after OpenZero frames = record { arm = Before; outer = all_shown frames } ∷ frames
frames_after Next frames = next_arm frames
frames_after Close frames = inner_closed frames
frames_after Other frames = frames
