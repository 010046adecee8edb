use Rattle.std.proofs.Common.{ap, sym, ◌∙◌, ◌&&◌, not, Bool, cond, Some, List, ℕ}
use Rattle.c_terms.specs.Same.{same_bytes}
use Rattle.smpl_patch.specs.Patterns.{is_position_kind}
use Rattle.pattern_vars.specs.Index.{number_in}
use Rattle.pattern_vars.proofs.IndexLemmas.{inserted, pairs}
use Rattle.pattern_vars.proofs.decls.put_number.Goals as goal

pub returns-in_ok-insert-in-Meta : goal.returns-in_ok-insert-in-Meta
returns-in_ok-insert-in-Meta c name =
    let entries = c.args.numbers.now.entries in
    let before = number_in (pairs (λ k. k.items) entries) name in
    let own = c.args.d.now.var.name in
    ap (λ es. number_in (pairs (λ k. k.items) es) name) c.in_ok-insert-in-Meta.ensures.entries
    ∙ inserted (λ k. k.items) c.in_ok-key-in-Meta.key c.args.i name entries
    ∙ ap (λ (w : List ℕ). cond (same_bytes w name) (Some c.args.i) before) (c.in_ok-key-in-Meta.ensures.items ∙ c.as_bytes.ensures.bytes)
    ∙ ap (λ (b : Bool). cond (b && same_bytes own name) (Some c.args.i) before) (sym (ap (λ k. not (is_position_kind k)) c.in-Meta.is))
