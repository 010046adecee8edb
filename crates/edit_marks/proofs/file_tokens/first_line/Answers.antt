use Rattle.std.proofs.Common.{ℕ, ap, ◌∙◌, ◌+◌, take}
use Rattle.std.proofs.lemmas.List.{take_min}
use Rattle.edit_marks.proofs.file_tokens.first_line.Goals as goal

pub returns : goal.returns
returns c =
    let bytes = c.args.bytes.now in
    ap (λ (n : ℕ). take n bytes) c.min.ensures
    ∙ take_min (c.line_length-count.result + 1) bytes
    ∙ ap (λ (n : ℕ). take (n + 1) bytes) c.line_length-count.ensures.value
