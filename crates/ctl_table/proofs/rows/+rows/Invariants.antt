use Rattle.std.proofs.Common.{◌+◌, ◌<◌, drop, take, length}
use Rattle.smpl_patch.specs.Bodies.{body, element}
use Rattle.smpl_patch.proofs.BodyLemmas.{bodies}
use Rattle.ctl_table.specs.Table as table
use Rattle.ctl_table.specs.Settings.{setting_at, follow, MakesAll, MakesFollows}
use Rattle.ctl_table.specs.Columns.{MakesColumns}
use Rattle.ctl_table.specs.Suffixes.{begins, along}
use Rattle.smpl_patch.proofs.Weights.{weight_element, weight_body, weight_bodies}
use Rattle.ctl_table.proofs.rows.+rows.Given as goal

abbrev pub decreases-sequence : goal.decreases-sequence
decreases-sequence l = 2 + weight_body (body l.b.now)

abbrev pub decreases-sequences : goal.decreases-sequences
decreases-sequences l = 1 + weight_body (body l.b.now)

abbrev pub decreases-suffixes : goal.decreases-suffixes
decreases-suffixes l = weight_body (body l.b.now)

abbrev pub decreases-suffix : goal.decreases-suffix
decreases-suffix l = weight_element (element l.e.now)

abbrev pub decreases-compound : goal.decreases-compound
decreases-compound l = 2 + weight_bodies (bodies l.bs.now)

abbrev pub decreases-block : goal.decreases-block
decreases-block l = 3 + weight_body (body l.b.now)

abbrev pub decreases-nest : goal.decreases-nest
decreases-nest l = 3 + weight_body (body l.b.now)

abbrev pub decreases-when_parts : goal.decreases-when_parts
decreases-when_parts l = 1 + weight_bodies (bodies l.whens.now)

abbrev pub decreases-when_part : goal.decreases-when_part
decreases-when_part l = 3 + weight_body (body l.w.now)

abbrev pub decreases-choice : goal.decreases-choice
decreases-choice l = 2 + weight_bodies (bodies l.bs.now)

abbrev pub decreases-one_branch : goal.decreases-one_branch
decreases-one_branch l = 2 + weight_body (body l.b.now)

abbrev pub decreases-branches : goal.decreases-branches
decreases-branches l = weight_bodies (bodies l.bs.now)

abbrev pub decreases-every : goal.decreases-every
decreases-every l = 2 + weight_bodies (bodies l.bs.now)

abbrev pub decreases-each : goal.decreases-each
decreases-each l = weight_bodies (bodies l.bs.now)

abbrev pub invariant-each-loop-b : goal.invariant-each-loop-b
invariant-each-loop-b l =
    MakesAll l.initial.parts l.parts l.made.items
    (table.each (setting_at l.m) (bodies (take l.b-index l.bs)) table.nothing l.vars l.scope)

abbrev pub invariant-branches-loop-b : goal.invariant-branches-loop-b
invariant-branches-loop-b l =
    MakesColumns l.initial.parts l.parts l.nexts l.rows.items
    (λ n. table.each (setting_at l.m) (bodies (take l.b-index l.bs))
    (follow l.initial.parts l.m n) l.vars l.scope)

abbrev pub invariant-when_parts-loop-w : goal.invariant-when_parts-loop-w
invariant-when_parts-loop-w l =
    MakesAll l.initial.parts l.parts l.made.items
    (table.when_parts (setting_at l.m) (bodies (take l.w-index l.whens)) l.scope)

abbrev pub decreases-suffixes-loop-i : goal.decreases-suffixes-loop-i
decreases-suffixes-loop-i l = l.i

abbrev pub invariant-suffixes-loop-i : goal.invariant-suffixes-loop-i
invariant-suffixes-loop-i l =
    (l.i < length l.b)
    × MakesFollows (setting_at l.m) l.fn.parts l.parts l.nexts l.made.items
    (λ n. begins (drop l.i l.b) (follow l.fn.parts l.m n).start)
    (λ n. along (setting_at l.m) (follow l.fn.parts l.m n) (drop l.i l.b) (drop l.i l.places))
