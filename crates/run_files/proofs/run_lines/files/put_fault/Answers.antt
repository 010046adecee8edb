use Rattle.std.proofs.Common.{◌≡◌, ◌∙◌, ap, ◌++◌, ℕ, List, codes, append_assoc, arith}
use Rattle.std.specs.Fmt.{decimal}
use Rattle.std.proofs.lemmas.Result.{on_ok_weaker}
use Rattle.run_files.proofs.run_lines.files.put_fault.Goals as goal

pub returns-in-FileTooLong : goal.returns-in-FileTooLong
returns-in-FileTooLong c =
    let n : c.from.result ≡ c.in-FileTooLong.rule = omega arith in
    rw c.in-FileTooLong.is (on_ok_weaker c.put_numbered.result
    (λ h. h ∙ append_assoc c.args.line.now (codes "file too long after rule ") (decimal c.from.result)
    ∙ ap (λ (k : ℕ). c.args.line.now ++ (codes "file too long after rule " ++ decimal k)) n) c.put_numbered.ensures)

pub returns-in-TooManyWitnesses : goal.returns-in-TooManyWitnesses
returns-in-TooManyWitnesses c =
    let n : c.from-in-TooManyWitnesses.result ≡ c.in-TooManyWitnesses.rule = omega arith in
    rw c.in-TooManyWitnesses.is (on_ok_weaker c.put_numbered-in-TooManyWitnesses.result
    (λ h. h ∙ append_assoc c.args.line.now (codes "too many witnesses in rule ") (decimal c.from-in-TooManyWitnesses.result)
    ∙ ap (λ (k : ℕ). c.args.line.now ++ (codes "too many witnesses in rule " ++ decimal k)) n) c.put_numbered-in-TooManyWitnesses.ensures)

pub returns-in_ok-put_numbered-in-Body : goal.returns-in_ok-put_numbered-in-Body
returns-in_ok-put_numbered-in-Body c =
    let n : c.from-in-Body.result ≡ c.in-Body.rule = omega arith in
    let line = c.args.line.now in
    let rule = codes "rule " in
    let leaves = codes " leaves a body without braces at token " in
    let token = decimal c.in-Body.token in
    rw c.in-Body.is (on_ok_weaker c.put_numbered-in-Body-2.result
    (λ h. h ∙ ap (λ (x : List ℕ). x ++ leaves ++ token)
    (c.in_ok-put_numbered-in-Body.ensures ∙ append_assoc line rule (decimal c.from-in-Body.result))
    ∙ ap (λ (x : List ℕ). x ++ token) (append_assoc line (rule ++ decimal c.from-in-Body.result) leaves)
    ∙ append_assoc line (rule ++ decimal c.from-in-Body.result ++ leaves) token
    ∙ ap (λ (k : ℕ). line ++ (rule ++ decimal k ++ leaves ++ token)) n) c.put_numbered-in-Body-2.ensures)
