use Rattle.std.proofs.Common.{◌≡◌, ◌<◌, ◌+◌, ◌++◌, ◌∷◌, [], List, ℕ, false, refl, rules, arith, length, get_or}
use Rattle.std.specs.Prelude.{if◌then◌else◌}
use Rattle.std.proofs.lemmas.Grind.{common_steps}
use Rattle.tidy_flags.proofs.LineLemmas.{left_more}
use Rattle.tidy_flags.proofs.lines.left_of.Goals as goal

pub loop-i-preserved : goal.loop-i-preserved
loop-i-preserved c =
    let text = c.args.text.now in
    let flags = c.args.flags.now in
    let at = c.args.at in
    let i = c.loop-i.i in
    let within : i < length text = omega arith in
    let added : c.put_left.new.left.items ≡ c.loop-i.left.items ++ (if get_or flags (at + i) false then [] else get_or text i 0 ∷ []) =
    first_of (search rules, grind (arith, common_steps)) in
    left_more flags text c.loop-i.left.items c.put_left.new.left.items _ at i (get_or text i 0) within refl added c.loop-i.invariant
