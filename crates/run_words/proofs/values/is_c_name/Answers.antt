use Rattle.run_words.proofs.Names.{name_told, other_told}
use Rattle.run_words.proofs.values.is_c_name.Goals as goal

pub returns-in-Name : goal.returns-in-Name
returns-in-Name c =
    let first = c.first_piece-kind in
    name_told c.args.text.now first.result.0 first.result.1 first.ensures.within first.ensures.first c.in-Name.is

pub returns-in_default : goal.returns-in_default
returns-in_default c =
    let first = c.first_piece-kind in
    other_told c.args.text.now first.result.0 first.result.1 first.ensures.within first.ensures.first c.in_default.not-Name
