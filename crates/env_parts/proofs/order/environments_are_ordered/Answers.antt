use Rattle.env_parts.specs.Ordered.{env_order_total}
use Rattle.env_parts.proofs.EnvOrder.{is_eq-env_order}
use Rattle.env_parts.proofs.order.environments_are_ordered.Goals as goal

pub returns : goal.returns
returns c = record { total = env_order_total; equal = is_eq-env_order }
