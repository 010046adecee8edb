use Rattle.std.proofs.Common.{◌≡◌, ℕ, ◌<◌, false, true, Option, Some, None, is_some, sym, ◌∙◌, List, length, get_or}
use Rattle.std.specs.Option.{MatchOption}
use Rattle.std.specs.List.{list_any}
use Rattle.smpl_terms.specs.declared.value.Value.{Value}
use Rattle.smpl_terms.specs.Values.{same}
use Rattle.env_sets.proofs.LoopLemmas.{any_at}
use Rattle.env_sets.proofs.RisingLemmas.{read_again}
use Rattle.env_sets.proofs.values.has_in_order.Goals as goal

placed : (ws : List Value) (v : Value) (o : Option ℕ)
    → MatchOption o (list_any (λ w. same w v) ws ≡ false) (λ k. (k < length ws) × (same (get_or ws k v) v ≡ true)) → is_some o ≡ list_any (λ w. same w v) ws
placed ws v None h = sym h
placed ws v (Some k) h = sym (any_at (λ w. same w v) ws k (get_or ws k v) h.0 (read_again ws k v h.0) h.1)

pub returns : goal.returns
returns c = c.is_some.ensures ∙ placed c.args.items.now c.args.v.now c.place_in_order.result c.place_in_order.ensures
