use Rattle.rule_chain.specs.RuleRun.OneRule.{file_witnesses}
use Rattle.rule_chain.specs.RuleEdits.Nodes.{nodes_of}
use Rattle.c_lexer.proofs.Exists.{lexes_some}
use Rattle.text_laws.proofs.AgainLaws.TokenLemmas.{again_solid, cut_tokens}
use Rattle.text_laws.proofs.again_laws.laws.new_texts_are_of_their_tokens.Goals as goal

pub returns-clause-solid : goal.returns-clause-solid
returns-clause-solid c = λ defined number rule s edits again plus sound are lexes.
    let found = file_witnesses defined number rule s in
    let terms = c.found_values_are_sound.ensures.found defined s.had number rule s.pieces s.items s.file_envs sound.cuts sound.reads sound.carried in
    let fair = c.edits_are_fair.ensures found rule s.items (nodes_of rule s.items) s.pieces edits sound.cuts sound.reads sound.differ
    (c.touches_are_sound.ensures rule found plus terms) are in
    again_solid s.page.next s.pieces edits again sound.cuts fair lexes

pub returns-clause-tokens : goal.returns-clause-tokens
returns-clause-tokens c = λ defined number rule s edits pieces plus sound are is.
    let found = file_witnesses defined number rule s in
    let terms = c.found_values_are_sound.ensures.found defined s.had number rule s.pieces s.items s.file_envs sound.cuts sound.reads sound.carried in
    let fair = c.edits_are_fair.ensures found rule s.items (nodes_of rule s.items) s.pieces edits sound.cuts sound.reads sound.differ
    (c.touches_are_sound.ensures rule found plus terms) are in
    cut_tokens lexes_some s.page.next s.pieces edits pieces sound.cuts fair is
