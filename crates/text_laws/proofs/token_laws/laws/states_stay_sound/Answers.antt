use Rattle.std.proofs.Common.{◌&&◌, refl}
use Rattle.rule_chain.specs.RuleEdits.Pages.{is_edited}
use Rattle.rule_chain.specs.RuleRun.OneRule.{state_after}
use Rattle.text_laws.proofs.TokenLaws.StateLemmas.{left_sound, read_sound}
use Rattle.text_laws.proofs.token_laws.laws.states_stay_sound.Goals as goal

pub returns : goal.returns
returns c = λ defined number rule followed s next plus sound leads.
    let left = state_after defined number rule s leads.edits in
    let carried = c.found_values_are_sound.ensures.carried defined s.had number rule s.pieces s.items s.file_envs sound.cuts sound.reads sound.carried in
    read_sound (is_edited leads.edits && followed) left next
    (left_sound s left sound refl refl (c.ids_stay_below_next.ensures.rises s.page.next s.pieces leads.edits) carried) (record {
      differ = c.ids_stay_apart.ensures s.page.next s.pieces leads.edits sound.differ sound.below;
      below = c.ids_stay_below_next.ensures.below s.page.next s.pieces leads.edits sound.below;
    }) leads.reads
