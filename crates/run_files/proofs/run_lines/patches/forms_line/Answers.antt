use Rattle.std.proofs.Common.{◌≡◌, ◌∙◌, ap, ◌++◌, List, ℕ, codes, append_assoc, arith}
use Rattle.std.specs.Fmt.{decimal}
use Rattle.run_files.specs.RunLines.Patches.{begun}
use Rattle.run_files.proofs.run_lines.patches.forms_line.Goals as goal

pub returns : goal.returns
returns c =
    let name = c.args.name.now in
    let n : c.from.result ≡ c.args.rule = omega arith in
    record {
      bytes = c.finish.ensures ∙ c.in_ok-put.ensures
          ∙ ap (λ (l : List ℕ). l ++ codes "\n") (c.in_ok-put_numbered.ensures
          ∙ ap (λ (l : List ℕ). l ++ codes "too many forms in rule " ++ decimal c.from.result) c.in_ok-line.ensures
          ∙ append_assoc (begun name) (codes "too many forms in rule ") (decimal c.from.result)
          ∙ ap (λ (k : ℕ). begun name ++ (codes "too many forms in rule " ++ decimal k)) n);
    }
