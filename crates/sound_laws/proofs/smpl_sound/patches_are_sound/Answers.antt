use Rattle.sound_laws.proofs.SmplSound.PatchLemmas.{patch-passes, patch-positions, patch-leads, rules-few}
use Rattle.sound_laws.proofs.SmplSound.RuleLemmas.{names-few, patch-formed, patch-atoms, patch-patterns, patch-sure, patch-whole, patch-gaps}
use Rattle.sound_laws.proofs.SmplSound.FewLemmas.{patch-few}
use Rattle.sound_laws.proofs.smpl_sound.patches_are_sound.Goals as goal

pub returns-clause-count : goal.returns-clause-count
returns-clause-count c = rules-few c.patch_is_read_once.ensures.small

pub returns-clause-names : goal.returns-clause-names
returns-clause-names c bytes patch s = (patch-passes c.headers_have_conditions.ensures.some c.patch_is_read_once.ensures.headers bytes patch s).names

pub returns-clause-exports : goal.returns-clause-exports
returns-clause-exports c bytes patch s = (patch-passes c.headers_have_conditions.ensures.some c.patch_is_read_once.ensures.headers bytes patch s).exports

pub returns-clause-vars : goal.returns-clause-vars
returns-clause-vars c bytes patch s = (patch-passes c.headers_have_conditions.ensures.some c.patch_is_read_once.ensures.headers bytes patch s).vars

pub returns-clause-wanted : goal.returns-clause-wanted
returns-clause-wanted c bytes patch s = (patch-passes c.headers_have_conditions.ensures.some c.patch_is_read_once.ensures.headers bytes patch s).wanted

pub returns-clause-depends : goal.returns-clause-depends
returns-clause-depends c bytes patch s = (patch-passes c.headers_have_conditions.ensures.some c.patch_is_read_once.ensures.headers bytes patch s).depends

pub returns-clause-positions : goal.returns-clause-positions
returns-clause-positions c = patch-positions c.tokens_keep_their_lines.ensures.positions

pub returns-clause-leads : goal.returns-clause-leads
returns-clause-leads c = patch-leads

pub returns-clause-virtuals : goal.returns-clause-virtuals
returns-clause-virtuals c = names-few

pub returns-clause-atoms : goal.returns-clause-atoms
returns-clause-atoms c = patch-atoms c.bodies_are_formed.ensures.atoms c.patch_is_read_once.ensures.small

pub returns-clause-patterns : goal.returns-clause-patterns
returns-clause-patterns c = patch-patterns c.bodies_are_formed.ensures.patterns c.tokens_keep_their_lines.ensures.positions c.patch_is_read_once.ensures.small

pub returns-clause-formed : goal.returns-clause-formed
returns-clause-formed c = patch-formed c.bodies_are_formed.ensures.formed c.patch_is_read_once.ensures.small

pub returns-clause-sure : goal.returns-clause-sure
returns-clause-sure c = patch-sure c.bodies_are_formed.ensures.sure c.patch_is_read_once.ensures.small

pub returns-clause-whole : goal.returns-clause-whole
returns-clause-whole c = patch-whole c.patch_is_read_once.ensures.small

pub returns-clause-few : goal.returns-clause-few
returns-clause-few c = patch-few c.bodies_are_formed.ensures.few c.bodies_are_formed.ensures.narrow
    c.tokens_keep_their_lines.ensures.positions c.patch_is_read_once.ensures.small

pub returns-clause-gaps : goal.returns-clause-gaps
returns-clause-gaps c = patch-gaps c.blank_texts.ensures c.patch_is_read_once.ensures.small
