use Rattle.std.proofs.Common.{ap, sym, ◌∙◌}
use Rattle.std.specs.Option.{option_map}
use Rattle.std.specs.FinMap.{get}
use Rattle.outer_io.proofs.FileMapLemmas.{get-files_in, items_of}
use Rattle.outer_io.proofs.file_map.FileMap.get.Goals as goal

pub returns : goal.returns
returns c =
    items_of c.get.result
    ∙ ap (option_map (λ bytes. bytes.items)) c.get.ensures.value
    ∙ sym (get-files_in c.args.name.now c.self.inside.by_name.entries)
    ∙ ap (λ files. get files c.args.name.now) c.self.view_is
