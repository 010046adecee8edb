-- How an act breaks: the counts may begin earlier, and if nothing fails, no act breaks.
use Rattle.std.proofs.Common.{◌≡◌, ℕ, ◌≤◌, List, inl, inr, arith}
use Rattle.outer_io.specs.Faults.{Rose}
use Rattle.run_acts.specs.Acts.{Act, Load, Store, Print, Report, Observed}
use Rattle.run_acts.specs.Breaks.{Counts, NoneRose, NoneFell, LineMayStand, Fails, Breaks}

Rose-earlier : (a b c : ℕ) → a ≤ b → Rose b c → Rose a c
Rose-earlier a b c le rose = omega arith

pub NoneFell-refl : (now : Counts) → NoneFell now now
NoneFell-refl now = record { shelf = omega arith; out = omega arith; err = omega arith }

pub NoneFell-then : (first before now : Counts) → NoneFell first before → NoneFell before now → NoneFell first now
NoneFell-then first before now one two = record { shelf = omega arith; out = omega arith; err = omega arith }

LineMayStand-earlier : (first before now : Counts) (line : List ℕ) (old new : Observed) → NoneFell first before
    → LineMayStand before now line old new → LineMayStand first now line old new
LineMayStand-earlier first before now line old new fell (inl whole) = inl whole
LineMayStand-earlier first before now line old new fell (inr (inl none)) = inr (inl none)
LineMayStand-earlier first before now line old new fell (inr (inr part)) =
    inr (inr (Rose-earlier _ _ _ fell.err part.0, part.1))

Fails-earlier : (first before now : Counts) (act : Act) (old new : Observed) (status : ℕ) → NoneFell first before
    → Fails before now act old new status → Fails first now act old new status
Fails-earlier first before now (Load name limit) old new status fell fails = (
  Rose-earlier _ _ _ fell.shelf fails.0,
  elim fails.1 [
    | inl five ↦ inl five
    | inr six ↦ inr (six.0, Rose-earlier _ _ _ fell.err six.1, six.2)
  ],
)
Fails-earlier first before now (Store name bytes) old new status fell fails =
    (fails.0, Rose-earlier _ _ _ fell.shelf fails.1, LineMayStand-earlier first before now _ _ new fell fails.2)
Fails-earlier first before now (Print bytes) old new status fell fails =
    (fails.0, Rose-earlier _ _ _ fell.out fails.1, (fails.2.0, LineMayStand-earlier first before now _ _ new fell fails.2.1))
Fails-earlier first before now (Report line) old new status fell fails =
    (fails.0, Rose-earlier _ _ _ fell.err fails.1, fails.2)

-- the counts may begin earlier
pub Breaks-earlier : (first before now : Counts) (act : Act) (old new : Observed) (status : ℕ) → NoneFell first before
    → Breaks before now act old new status → Breaks first now act old new status
Breaks-earlier first before now act old new status fell (inl none) = inl none
Breaks-earlier first before now act old new status fell (inr fails) = inr (Fails-earlier first before now act old new status fell fails)

-- an act fails only if a count rose
pub not_failed : (before now : Counts) → NoneRose before now → (act : Act) (old new : Observed) (status : ℕ) → Fails before now act old new status → ⊥
not_failed before now calm (Load name limit) old new status fails = calm.shelf fails.0
not_failed before now calm (Store name bytes) old new status fails = calm.shelf fails.1
not_failed before now calm (Print bytes) old new status fails = calm.out fails.1
not_failed before now calm (Report line) old new status fails = calm.err fails.1

-- an act breaks only if memory ran out or a count rose
pub not_broken : (before now : Counts) → NoneRose before now → (act : Act) (old new : Observed) (status : ℕ) → (status ≡ 7 → ⊥)
    → Breaks before now act old new status → ⊥
not_broken before now calm act old new status memory (inl none) = memory none.0
not_broken before now calm act old new status memory (inr fails) = not_failed before now calm act old new status fails
