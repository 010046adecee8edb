-- The order of faults, and the first of several.
use Rattle.std.specs.Prelude.{ℕ, ◌≡◌, ◌==◌, ◌&&◌, ◌||◌, Bool, false, nat_lt, if◌then◌else◌, ◌⊎◌, List, [], ◌∷◌, Option, Some, None}
use Rattle.smpl_patch.specs.declared.fault.PatchFault.{PatchFault}
use Rattle.smpl_patch.specs.declared.fault.PatchFault.TheVariants.{PatchTooLong, BadToken, BadHeader, BadMetavariable}
use Rattle.smpl_patch.specs.declared.fault.PatchFault.TheVariants.{TwiceNamed, UnknownRule, KindDiffers, BadPattern}
use Rattle.smpl_patch.specs.declared.fault.PatchFault.TheVariants.{StarWithEdit, PlusWithoutAnchor, DotsAtEdge, MinusDots}
use Rattle.smpl_patch.specs.declared.fault.PatchFault.TheVariants.{MayStayUnbound, UnboundInPlus, ScriptRule, TooDeep, TooLarge}
use Rattle.smpl_patch.specs.declared.fault.PatchFault.TheVariants.{NoMemory}

-- the number that users see
abbrev pub number_of : PatchFault → ℕ
number_of PatchTooLong = 1
number_of (BadToken at) = 2
number_of (BadHeader at) = 3
number_of (BadMetavariable at) = 4
number_of (TwiceNamed at) = 5
number_of (UnknownRule at) = 6
number_of (KindDiffers at) = 7
number_of (BadPattern at) = 8
number_of (StarWithEdit rule) = 9
number_of (PlusWithoutAnchor at) = 10
number_of (DotsAtEdge at) = 11
number_of (MinusDots at) = 12
number_of (MayStayUnbound x) = 13
number_of (UnboundInPlus x) = 14
number_of (ScriptRule at) = 15
number_of (TooDeep at) = 16
number_of (TooLarge rule) = 17
number_of NoMemory = 18

-- the offset of the byte where the fault is, or 0 if it has no place
abbrev pub place_of : PatchFault → ℕ
place_of PatchTooLong = 0
place_of (BadToken at) = at
place_of (BadHeader at) = at
place_of (BadMetavariable at) = at
place_of (TwiceNamed at) = at
place_of (UnknownRule at) = at
place_of (KindDiffers at) = at
place_of (BadPattern at) = at
place_of (StarWithEdit rule) = 0
place_of (PlusWithoutAnchor at) = at
place_of (DotsAtEdge at) = at
place_of (MinusDots at) = at
place_of (MayStayUnbound x) = 0
place_of (UnboundInPlus x) = 0
place_of (ScriptRule at) = at
place_of (TooDeep at) = at
place_of (TooLarge rule) = 0
place_of NoMemory = 0

-- f is at an earlier place than g, or at the same place with a lesser number
abbrev pub is_before : PatchFault → PatchFault → Bool
is_before f g = nat_lt (place_of f) (place_of g) || (place_of f == place_of g && nat_lt (number_of f) (number_of g))

abbrev pub earlier : Option PatchFault → PatchFault → PatchFault
earlier None f = f
earlier (Some g) f = if is_before f g then f else g

-- the first of an optional fault and of several more
abbrev pub first_from : Option PatchFault → List PatchFault → Option PatchFault
first_from o [] = o
first_from o (f ∷ fs) = first_from (Some (earlier o f)) fs

-- the fault at the least place; at one place, the one with the least number
abbrev pub first_of : List PatchFault → Option PatchFault
first_of = first_from None

abbrev pub IsAmong : PatchFault → List PatchFault → Type 0
IsAmong f [] = ⊥
IsAmong f (g ∷ gs) = (g ≡ f) ⊎ IsAmong f gs

abbrev pub NoneBefore : PatchFault → List PatchFault → Type 0
NoneBefore f [] = Unit {0}
NoneBefore f (g ∷ gs) = (is_before g f ≡ false) × NoneBefore f gs

-- f is one of the faults, and none of them is before it
pub record IsFirstOf (faults : List PatchFault) (f : PatchFault) : Type 0 where
  pub among : IsAmong f faults
  pub least : NoneBefore f faults
