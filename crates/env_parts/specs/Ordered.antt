-- The order of environments is total.
use Rattle.std.specs.Cmp.{IsTotalOrder}
use Rattle.std.proofs.lemmas.Cmp.{lists_total, on_total, then_total}
use Rattle.smpl_terms.specs.declared.var.Var.{Var}
use Rattle.smpl_terms.specs.declared.value.Value.{Value}
use Rattle.smpl_terms.proofs.VarLaws.{var_order_total}
use Rattle.smpl_terms.proofs.ValueLaws.{value_order_total}
use Rattle.env_parts.specs.Parts.{pair_order, env_order}

pair_order_total : IsTotalOrder pair_order
pair_order_total =
    then_total (on_total (λ (p : Var × Value). p.0) var_order_total) (on_total (λ (p : Var × Value). p.1) value_order_total)

pub env_order_total : IsTotalOrder env_order
env_order_total = lists_total pair_order_total
