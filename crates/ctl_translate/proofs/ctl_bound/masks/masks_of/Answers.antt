use Rattle.std.proofs.Common.{sym, ap, ◌∙◌, ◌&&◌, ◌||◌, not, false, length}
use Rattle.ctl_formula.proofs.TableLemmas.{and-left, and-right}
use Rattle.ctl_translate.specs.CtlBound.Bits.{is_bit, bit_binds}
use Rattle.ctl_translate.specs.CtlBound.Steps.{is_below}
use Rattle.ctl_translate.proofs.CtlBound.MaskLemmas.{no_masks, part}
use Rattle.ctl_translate.proofs.ctl_bound.masks.masks_of.Goals as goal

pub returns-in-Not : goal.returns-in-Not
returns-in-Not c = λ k h.
    let within = ap (is_below (length c.args.known.now)) (sym c.in-Not.is) ∙ c.requires in
    let p = part (λ m. bit_binds m k) c.args.known.now c.in-Not.f no_masks within in
    let said = c.turned.ensures k ∙ (λ i. record { holding = (p i).failing; failing = (p i).holding; guarded = (p i).guarded }) in
    rw c.in-Not.is said

pub returns-in-And : goal.returns-in-And
returns-in-And c = λ k h.
    let within = ap (is_below (length c.args.known.now)) (sym c.in-And.is) ∙ c.requires in
    let p = part (λ m. bit_binds m k) c.args.known.now c.in-And.f no_masks (and-left _ _ within) in
    let q = part (λ m. bit_binds m k) c.args.known.now c.in-And.g no_masks (and-right _ _ within) in
    let said = c.both.ensures k ∙ (λ i. record {
      holding = (p i).holding || (q i).holding;
      failing = (p i).failing && (q i).failing;
      guarded = (p i).guarded && (q i).guarded;
    }) in
    rw c.in-And.is said

pub returns-in-Or : goal.returns-in-Or
returns-in-Or c = λ k h.
    let within = ap (is_below (length c.args.known.now)) (sym c.in-Or.is) ∙ c.requires in
    let p = part (λ m. bit_binds m k) c.args.known.now c.in-Or.f no_masks (and-left _ _ within) in
    let q = part (λ m. bit_binds m k) c.args.known.now c.in-Or.g no_masks (and-right _ _ within) in
    let said = c.either.ensures k ∙ (λ i. record {
      holding = (p i).holding && (q i).holding;
      failing = (p i).failing || (q i).failing;
      guarded = (p i).guarded && (q i).guarded;
    }) in
    rw c.in-Or.is said

pub returns-in-Next : goal.returns-in-Next
returns-in-Next c = λ k h.
    let within = ap (is_below (length c.args.known.now)) (sym c.in-Next.is) ∙ c.requires in
    let said = part (λ m. bit_binds m k) c.args.known.now c.in-Next.f no_masks within in
    rw c.in-Next.is said

pub returns-in-Until : goal.returns-in-Until
returns-in-Until c = λ k h.
    let within = ap (is_below (length c.args.known.now)) (sym c.in-Until.is) ∙ c.requires in
    let p = part (λ m. bit_binds m k) c.args.known.now c.in-Until.f no_masks (and-left _ _ within) in
    let q = part (λ m. bit_binds m k) c.args.known.now c.in-Until.g no_masks (and-right _ _ within) in
    let said = c.until.ensures k ∙ (λ i. record {
      holding = (q i).holding;
      failing = (q i).failing;
      guarded = (p i).guarded && (q i).guarded;
    }) in
    rw c.in-Until.is said

pub returns-in-Moved : goal.returns-in-Moved
returns-in-Moved c = λ k h.
    let within = ap (is_below (length c.args.known.now)) (sym c.in-Moved.is) ∙ c.requires in
    let p = part (λ m. bit_binds m k) c.args.known.now c.in-Moved.f no_masks within in
    let said = c.moved.ensures k ∙ (λ i. record { holding = (p i).holding; failing = false; guarded = (p i).guarded }) in
    rw c.in-Moved.is said

pub returns-in-Exists : goal.returns-in-Exists
returns-in-Exists c = λ k h.
    let within = ap (is_below (length c.args.known.now)) (sym c.in-Exists.is) ∙ c.requires in
    let p = part (λ m. bit_binds m k) c.args.known.now c.in-Exists.f no_masks within in
    let said = c.exists.ensures k h ∙ (λ i. record {
      holding = (p i).holding && not (is_bit c.args.own k);
      failing = (p i).failing && not (is_bit c.args.own k);
      guarded = (not (is_bit c.args.own k) || (p i).holding) && (p i).guarded;
    }) in
    rw c.in-Exists.is said
