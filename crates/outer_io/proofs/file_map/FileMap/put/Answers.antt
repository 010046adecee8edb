use Rattle.std.proofs.Common.{◌≡◌, ap, ◌∙◌, rules}
use Rattle.std.specs.FinMap.{insert}
use Rattle.outer_io.specs.Stored.{files_in}
use Rattle.outer_io.proofs.FileMapLemmas.{files_in-insert}
use Rattle.outer_io.proofs.file_map.FileMap.put.Goals as goal

pub returns-clause-ok : goal.returns-clause-ok
returns-clause-ok c =
    let name_kept : c.in_ok-name.name.items ≡ c.args.name.now = search rules in
    ap files_in c.in_ok-insert.ensures.entries
    ∙ files_in-insert c.in_ok-name.name c.args.bytes c.self.inside.by_name.entries
    ∙ (λ i. insert (c.self.view_is i) (name_kept i) c.args.bytes.items)
