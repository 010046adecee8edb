-- What is looked for in an item may be shared by several threads. What is kept of an item may be sent to another thread and be shared by several.
use denote.Param.Send.{IsSend, IsSync, sendable}
use denote.Ref.{NamedLft}
use Rattle.std.proofs.Crossing.{crosses}
use Rattle.smpl_terms.proofs.Crossing.{var_sync}
use Rattle.ctl_formula.proofs.Crossing.{formula_sync}
use Rattle.env_sets.proofs.Crossing.{row_send, row_sync}
use Rattle.rule_chain.specs.contracts.rule_witnesses.matched.SatSets as SatSets
use Rattle.rule_chain.specs.contracts.rule_witnesses.query.ItemQuery as ItemQuery
use Rattle.rule_chain.specs.contracts.file_witnesses.job.Cached as Cached

-- as fields of an enum or a struct
matched_in_send : IsSend (SatSets.the_field).row
matched_in_send = search (row_send, crosses, sendable) depth 60

matched_in_sync : IsSync (SatSets.the_field).row
matched_in_sync = search (row_sync, crosses, sendable) depth 60

pub kept_in_send : IsSend (Cached.the_field).row
kept_in_send = search (matched_in_send, crosses, sendable) depth 60

pub kept_sync : IsSync Cached.the_row
kept_sync = search (matched_in_sync, crosses, sendable) depth 60

pub query_in_sync : (κ : NamedLft) → IsSync (ItemQuery.the_field κ).row
query_in_sync κ = search (formula_sync, var_sync, crosses, sendable) depth 60
