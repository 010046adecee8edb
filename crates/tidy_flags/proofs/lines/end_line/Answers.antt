use Rattle.std.proofs.Common.{◌≡◌, ◌<◌, ◌≤◌, ◌+◌, ◌-◌, ◌==◌, ◌++◌, ℕ, Bool, true, false, refl, ap, List, length, get_or, take, drop}
use Rattle.std.proofs.lemmas.Bool.Decides.{Decides-eqb}
use Rattle.std.proofs.lemmas.List.{get_or_default}
use Rattle.tidy_flags.specs.declared.lines.LineByte.{LineByte}
use Rattle.tidy_flags.specs.Lines.{emptied_from, line_flags}
use Rattle.tidy_flags.proofs.LineLemmas.{line_ends, line_goes_on}
use Rattle.tidy_flags.proofs.lines.end_line.Goals as goal

other : (a b : ℕ) → (a ≡ b → ⊥) → (a == b) ≡ false
other a b differ = by (a == b) refl
  where
    by : (x : Bool) → (a == b) ≡ x → x ≡ false
    by true e = absurd (differ ((Decides-eqb a b).0 e))
    by false e = refl

module _ (bytes : List LineByte) (start at : ℕ) (d : LineByte) (rise : start ≤ at) (within : at < length bytes) where
  goes_on : ((get_or bytes at d).byte ≡ 10 → ⊥) → (flags : List Bool)
      → flags ++ emptied_from (take (at + 1 - start) (drop start bytes)) (drop (at + 1) bytes)
      ≡ flags ++ emptied_from (take (at - start) (drop start bytes)) (drop at bytes)
  goes_on differ flags =
      let b = get_or bytes at d in
      ap (λ (l : List Bool). flags ++ l) (line_goes_on bytes start at b rise within (get_or_default bytes at d b within) (other b.byte 10 differ))

  ends : (get_or bytes at d).byte ≡ 10 → (old new : List Bool) → new ≡ old ++ line_flags (take (at + 1 - start) (drop start bytes))
      → new ++ emptied_from (take (at + 1 - (at + 1)) (drop (at + 1) bytes)) (drop (at + 1) bytes)
      ≡ old ++ emptied_from (take (at - start) (drop start bytes)) (drop at bytes)
  ends is old new is_new =
      let b = get_or bytes at d in
      line_ends bytes start at b rise within (get_or_default bytes at d b within) ((Decides-eqb b.byte 10).1 is) old new is_new

pub returns-then-bytes-at-ne10-clause-flags : goal.returns-then-bytes-at-ne10-clause-flags
returns-then-bytes-at-ne10-clause-flags c =
    goes_on c.args.bytes.now c.args.start c.args.at _ c.requires.rise c.requires.within c.if-bytes-at-ne10.true c.args.flags.now.items

pub returns-clause-flags : goal.returns-clause-flags
returns-clause-flags c =
    ends c.args.bytes.now c.args.start c.args.at _ c.requires.rise c.requires.within c.if-bytes-at-ne10.false
    c.args.flags.now.items c.put_line.new.flags.items c.in_ok-put_line.ensures
