use Rattle.std.proofs.Common.{◌≡◌, ◌≤◌, ◌<◌, is_some, true, false, length, arith}
use Rattle.iso_file.proofs.Chain.{lost_at, looked, found_here, none_more, second_within}
use Rattle.iso_file.proofs.lost.lost_from.Goals as goal

pub returns-then-is_some : goal.returns-then-is_some
returns-then-is_some c =
    let vars = c.args.vars.now in
    let sides = c.args.sides.now in
    let arrows = c.args.both.now in
    let o = c.lost_between-lost.result in
    let at : o ≡ lost_at vars sides arrows c.args.i c.loop-j.j =
    looked vars sides arrows c.args.i c.loop-j.j c.as_slice.result.now c.index-sides-i.result c.as_slice-in-loop-j.result.now c.index-sides-j.result o
    (c.lost_between-lost.ensures c.as_slice.result.now c.in_ok-held.ensures) c.as_slice.ensures c.index-sides-i.is
    c.requires.within c.as_slice-in-loop-j.ensures
    c.index-sides-j.is c.loop-j-test.true in
    let near : c.start_of-j.result ≤ c.loop-j.j = omega arith in
    let some : is_some o ≡ true = cc (c.is_some.ensures, c.if-is_some.true) in
    found_here vars sides arrows c.args.i c.start_of-j.result c.loop-j.j o c.start_of-j.ensures near c.requires.within
    c.loop-j-test.true at some c.loop-j.invariant

pub loop-j-preserved : goal.loop-j-preserved
loop-j-preserved c =
    let vars = c.args.vars.now in
    let sides = c.args.sides.now in
    let arrows = c.args.both.now in
    let o = c.lost_between-lost.result in
    let at : o ≡ lost_at vars sides arrows c.args.i c.loop-j.j =
    looked vars sides arrows c.args.i c.loop-j.j c.as_slice.result.now c.index-sides-i.result c.as_slice-in-loop-j.result.now c.index-sides-j.result o
    (c.lost_between-lost.ensures c.as_slice.result.now c.in_ok-held.ensures) c.as_slice.ensures c.index-sides-i.is
    c.requires.within c.as_slice-in-loop-j.ensures
    c.index-sides-j.is c.loop-j-test.true in
    let none : is_some o ≡ false = cc (c.is_some.ensures, c.if-is_some.false) in
    none_more vars sides arrows c.args.i c.loop-j.j o at none c.loop-j.invariant

pub returns : goal.returns
returns c j at loses =
    let within : j < length c.args.sides.now = second_within c.args.vars.now c.args.sides.now c.args.both.now c.args.i j at loses in
    let less : j < c.loop-j.j = omega arith in
    c.loop-j.invariant j at less loses
