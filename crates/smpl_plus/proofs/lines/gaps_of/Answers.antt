use Rattle.std.proofs.Common.{◌≡◌, ◌+◌, ◌-◌, ◌≤◌, ℕ, length, take, drop, ap, arith}
use Rattle.std.proofs.lemmas.List.{take_rest, length-drop}
use Rattle.std.proofs.Math.ListN.{drop_of_length-le}
use Rattle.c_lexer.specs.First.{IsFirst}
use Rattle.smpl_plus.proofs.Cutting.{leads_first, leads_more, leads_last}
use Rattle.smpl_plus.proofs.lines.gaps_of.Goals as goal

pub loop-start-init : goal.loop-start-init
loop-start-init c = rw (c.new.ensures, c.new-2.ensures) (leads_first c.args.bytes.now)

pub loop-start-preserved : goal.loop-start-preserved
loop-start-preserved c =
    let bytes = c.args.bytes.now in
    let start = c.loop-start.start in
    let len = c.first_piece-kind.result.1 in
    let same : start + len - start ≡ len = omega arith in
    let within : len ≤ length (drop start bytes) = omega (arith, c.first_piece-kind.ensures.within, length-drop start bytes) in
    let first : IsFirst c.first_piece-kind.result.0 (take len (drop start bytes)) (drop len (drop start bytes)) =
    rw take_rest at c.first_piece-kind.ensures.first in
    leads_more bytes start c.loop-start.so_far.gaps c.loop-start.so_far.blank c.first_piece-kind.result.0 len _
    c.in_ok-so_far.so_far.gaps c.in_ok-so_far.so_far.blank
    c.loop-start.invariant within (ap (λ (n : ℕ). take n (drop start bytes)) same) first c.in_ok-so_far.ensures

pub returns : goal.returns
returns c = leads_last c.args.bytes.now c.loop-start.start c.loop-start.so_far.gaps c.loop-start.so_far.blank
    c.loop-start.invariant (drop_of_length-le c.args.bytes.now c.loop-start-test.false)
