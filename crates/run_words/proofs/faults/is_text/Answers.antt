use Rattle.std.proofs.Common.{◌∙◌, ap}
use Rattle.std.specs.Str.{is_utf8}
use Rattle.run_words.proofs.Texts.{read_as_text}
use Rattle.run_words.proofs.faults.is_text.Goals as goal

pub returns : goal.returns
returns c = c.is_ok.ensures.value ∙ (read_as_text c.as_bytes.result.now c.from_utf8.result _ c.from_utf8.ensures.cases ∙ ap is_utf8 c.as_bytes.ensures.bytes)
