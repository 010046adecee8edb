use Rattle.std.proofs.Common.{◌≡◌, inr, true, false, Some, codes}
use Rattle.std.proofs.lemmas.Result.{IfErr-weaker}
use Rattle.smpl_lexer.specs.Tokens.{is_word}
use Rattle.iso_file.specs.Isos.{IsBlockFault, OrNoMemory, first_word}
use Rattle.iso_file.specs.Stepped.{IsFormFault}
use Rattle.iso_file.proofs.FormLemmas.{other, raised, or_map, first_seen}
use Rattle.iso_file.proofs.block.read_block.Goals as goal

pub returns-then-not-is_word-clause-fault : goal.returns-then-not-is_word-clause-fault
returns-then-not-is_word-clause-fault c =
    let lines = c.args.lines.now in
    let t = c.index-line-0.result in
    let first : first_word lines ≡ Some t = first_seen lines c.index-lines-0.result c.as_slice-line.result.now t c.requires
    c.as_slice-line.ensures c.index-lines-0.is c.index-line-0.is in
    let word : is_word (codes "Expression") t ≡ false = cc (c.is_word.ensures.value, c.if-not-is_word.true) in
    inr (other lines t first word)

pub returns-clause-fault : goal.returns-clause-fault
returns-clause-fault c =
    let lines = c.args.lines.now in
    let t = c.index-line-0.result in
    let first : first_word lines ≡ Some t = first_seen lines c.index-lines-0.result c.as_slice-line.result.now t c.requires
    c.as_slice-line.ensures c.index-lines-0.is c.index-line-0.is in
    let word : is_word (codes "Expression") t ≡ true = cc (c.is_word.ensures.value, c.if-not-is_word.false) in
    IfErr-weaker c.read_lines.result (λ f. OrNoMemory (IsFormFault lines t.at) f) (λ f. OrNoMemory (IsBlockFault lines) f)
    (λ f h. or_map (IsFormFault lines t.at) (IsBlockFault lines) f (λ g k. raised lines t g first word k) h) c.read_lines.ensures.fault
