use Rattle.std.proofs.Common.{◌≡◌, ◌<◌, false, rules, arith, length, get_or}
use Rattle.std.proofs.lemmas.Grind.{common_steps}
use Rattle.std.proofs.lemmas.List.{get_or_default}
use Rattle.tidy_flags.specs.declared.signs.Sign.TheVariants.{Token}
use Rattle.tidy_flags.proofs.ClearLemmas.{blank_kept}
use Rattle.tidy_flags.proofs.clear.step_blank.Goals as goal

pub returns-then-not-stays-at : goal.returns-then-not-stays-at
returns-then-not-stays-at c =
    let signs = c.args.signs.now in
    let flags = c.args.stays.now in
    let x = get_or signs c.args.at Token in
    let within : c.args.at < length signs = omega arith in
    let fits : c.args.at < length flags = omega arith in
    let is = get_or_default signs c.args.at Token x within in
    let e : get_or flags c.args.at false ≡ false = first_of (search rules, grind (arith, common_steps)) in
    blank_kept signs flags c.args.at x within fits is e
