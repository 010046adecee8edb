use Rattle.std.proofs.Common.{◌≡◌, List, ℕ, length, sym, ap, subst, ◌∙◌}
use Rattle.smpl_meta.specs.Index.{Indexes, number_in, or_else, only}
use Rattle.smpl_meta.proofs.IndexLemmas.{indexes-more}
use Rattle.smpl_meta.proofs.index.NameTable.«with».Goals as goal

pub invariant_of-result : goal.invariant_of-result
invariant_of-result c =
    let names = c.self.inside.names in
    let put : (other : List ℕ) → number_in c.put.new.self other ≡ or_else (number_in c.self.inside.index other) (only c.args.name (length names) other) =
    λ other. c.in_ok-put.ensures other
    ∙ ap (λ n. or_else (number_in c.self.inside.index other) (only n c.len.result other)) c.as_bytes.ensures.bytes
    ∙ ap (λ k. or_else (number_in c.self.inside.index other) (only c.args.name k other)) c.len.ensures in
    subst (Indexes c.put.new.self) (sym c.in_ok-push.ensures.ok) (indexes-more c.self.inside.index c.put.new.self names c.args.name c.self.invariant put)
