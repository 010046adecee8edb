use Rattle.rule_chain.specs.RuleRun.OneRule.{file_witnesses, state_after}
use Rattle.rule_chain.specs.RuleEdits.Nodes.{nodes_of}
use Rattle.text_laws.proofs.TokenLaws.PieceLemmas.{cut_again}
use Rattle.text_laws.proofs.token_laws.laws.new_texts_are_cut.Goals as goal

pub returns-clause-counted : goal.returns-clause-counted
returns-clause-counted c = λ defined number rule s edits again plus sound are lexes.
    let terms = c.found_values_are_sound.ensures.found defined s.had number rule s.pieces s.items s.file_envs sound.cuts sound.reads sound.carried in
    c.text_keeps_its_tokens.ensures (file_witnesses defined number rule s) rule s.items (nodes_of rule s.items) s.pieces edits s.page.next again
    sound.cuts sound.reads sound.differ (c.touches_are_sound.ensures rule (file_witnesses defined number rule s) plus terms) are lexes

pub returns-clause-pieces : goal.returns-clause-pieces
returns-clause-pieces c = λ defined number rule s edits plus sound are.
    let left = state_after defined number rule s edits in
    let cut = c.every_text_is_cut.ensures.pieces left.page.bytes in
    let terms = c.found_values_are_sound.ensures.found defined s.had number rule s.pieces s.items s.file_envs sound.cuts sound.reads sound.carried in
    cut_again left.page cut.0 cut.1
    (c.text_keeps_its_tokens.ensures (file_witnesses defined number rule s) rule s.items (nodes_of rule s.items) s.pieces edits s.page.next cut.0
    sound.cuts sound.reads sound.differ (c.touches_are_sound.ensures rule (file_witnesses defined number rule s) plus terms) are cut.1)
