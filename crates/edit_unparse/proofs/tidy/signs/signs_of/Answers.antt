use Rattle.std.proofs.Common.{◌≤◌, ap, ◌∙◌, arith, length, map}
use Rattle.std.proofs.lemmas.List.{take_all}
use Rattle.edit_unparse.specs.Tidy.Commas.{sign_of}
use Rattle.edit_unparse.specs.Tidy.Made.{part_in}
use Rattle.edit_unparse.proofs.StayLemmas.{signs_are}
use Rattle.edit_unparse.proofs.tidy.signs.signs_of.Goals as goal

pub returns-clause-signs : goal.returns-clause-signs
returns-clause-signs c =
    let past : length c.args.parts.now ≤ c.loop-part.part-index = omega arith in
    c.loop-part.invariant
    ∙ ap (map (λ p. sign_of (part_in c.args.lexed.now p))) (take_all c.loop-part.part-index c.args.parts.now past)
    ∙ signs_are c.args.lexed.now c.args.parts.now
