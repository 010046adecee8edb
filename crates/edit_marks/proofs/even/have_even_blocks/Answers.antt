use Rattle.std.proofs.Common.{sym, ◌∙◌}
use Rattle.edit_marks.proofs.EvenLemmas.{blocks_even, even_blocks}
use Rattle.edit_marks.proofs.even.have_even_blocks.Goals as goal

pub returns : goal.returns
returns c =
    let tokens = c.args.tokens.now in
    ((λ e. blocks_even tokens (sym c.all_even-are_even.ensures ∙ e)), (λ h. c.all_even-are_even.ensures ∙ even_blocks tokens h))
