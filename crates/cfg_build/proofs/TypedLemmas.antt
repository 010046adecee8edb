-- Graphs with types.
use Rattle.c_types.specs.Tables.{ItemTypes}
use Rattle.cfg_build.specs.CfgGraph.Flow.{Flow, IsSound, with_types}

-- types make no graph less sound
pub typed-sound : (g : Flow) (types : ItemTypes) → IsSound g → IsSound (with_types g types)
typed-sound g types s = record {
  few = s.few;
  succ_each = s.succ_each;
  past_each = s.past_each;
  down_each = s.down_each;
  succ_links = s.succ_links;
  past_nodes = s.past_nodes;
  down_nodes = s.down_nodes;
}
