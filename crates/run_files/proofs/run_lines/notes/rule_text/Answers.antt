use Rattle.std.proofs.Common.{◌≡◌, ◌∙◌, ap, ◌++◌, List, ℕ, codes, arith}
use Rattle.std.specs.Fmt.{decimal}
use Rattle.run_files.proofs.run_lines.notes.rule_text.Goals as goal

pub returns : goal.returns
returns c =
    let n : c.from.result ≡ c.args.rule = omega arith in
    c.finish.ensures ∙ c.in_ok-put.ensures
    ∙ ap (λ (l : List ℕ). l ++ codes ": ") (c.in_ok-put_numbered.ensures
    ∙ ap (λ (l : List ℕ). l ++ codes "rule " ++ decimal c.from.result) c.new-text.ensures)
    ∙ ap (λ (k : ℕ). codes "rule " ++ decimal k ++ codes ": ") n
