-- Patterns, declarations, tokens of a rule and witnesses may be sent to other threads and shared between them.
use denote.Param.Send.{IsSend, IsSync, sendable}
use Rattle.std.proofs.Crossing.{crosses}
use Rattle.c_terms.proofs.token.Token.TheSendSync as Token
use Rattle.c_terms.proofs.Crossing.{tree_send, tree_sync}
use Rattle.c_types.proofs.Crossing.{ty_in_send, ty_in_sync}
use Rattle.smpl_terms.proofs.Crossing.{var_send, var_sync, value_in_send, value_in_sync, env_send, env_sync}
use Rattle.smpl_patch.specs.contracts.witness.Witness as Witness
use Rattle.smpl_patch.specs.contracts.witness.RuleWitness as RuleWitness
use Rattle.smpl_patch.proofs.witness.Witness.TheLaws.TheKnot.{send-Witness, sync-Witness}
use Rattle.smpl_patch.specs.contracts.pattern.Pattern as Pattern
use Rattle.smpl_patch.specs.contracts.pattern.VarDecl as VarDecl
use Rattle.smpl_patch.specs.contracts.pattern.PatToken as PatToken
use Rattle.smpl_patch.specs.contracts.pattern.PlusLine as PlusLine
use Rattle.smpl_patch.specs.contracts.pattern.PlusBlock as PlusBlock
use Rattle.smpl_patch.proofs.pattern.Mark.TheSendSync as Mark
use Rattle.smpl_patch.proofs.pattern.Spot.TheSendSync as Spot

pub witness_send : IsSend Witness.the_row
witness_send = search (send-Witness, value_in_send, crosses, sendable) depth 60

pub witness_sync : IsSync Witness.the_row
witness_sync = search (sync-Witness, value_in_sync, crosses, sendable) depth 60

pub rule_witness_send : IsSend RuleWitness.the_row
rule_witness_send = search (env_send, witness_send, crosses, sendable) depth 60

pub rule_witness_sync : IsSync RuleWitness.the_row
rule_witness_sync = search (env_sync, witness_sync, crosses, sendable) depth 60

pub pattern_send : IsSend Pattern.the_row
pattern_send = search (tree_send, Spot.the_field_send, crosses, sendable) depth 60

pub pattern_sync : IsSync Pattern.the_row
pattern_sync = search (tree_sync, Spot.the_field_sync, crosses, sendable) depth 60

-- as it is in an enum or a struct
pub pattern_in_send : IsSend (Pattern.the_field).row
pattern_in_send = search (tree_send, Spot.the_field_send, crosses, sendable) depth 60

pub pattern_in_sync : IsSync (Pattern.the_field).row
pattern_in_sync = search (tree_sync, Spot.the_field_sync, crosses, sendable) depth 60

pub decl_send : IsSend VarDecl.the_row
decl_send = search (var_send, ty_in_send, crosses, sendable) depth 60

pub decl_sync : IsSync VarDecl.the_row
decl_sync = search (var_sync, ty_in_sync, crosses, sendable) depth 60

plus_line_send : IsSend PlusLine.the_row
plus_line_send = search (Token.the_field_send, crosses, sendable) depth 60

plus_line_sync : IsSync PlusLine.the_row
plus_line_sync = search (Token.the_field_sync, crosses, sendable) depth 60

plus_block_send : IsSend PlusBlock.the_row
plus_block_send = search (plus_line_send, crosses, sendable) depth 60

plus_block_sync : IsSync PlusBlock.the_row
plus_block_sync = search (plus_line_sync, crosses, sendable) depth 60

pub token_send : IsSend PatToken.the_row
token_send = search (var_send, plus_block_send, Mark.the_field_send, crosses, sendable) depth 60

pub token_sync : IsSync PatToken.the_row
token_sync = search (var_sync, plus_block_sync, Mark.the_field_sync, crosses, sendable) depth 60
