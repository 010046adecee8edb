use Rattle.std.proofs.Common.{◌≤◌, inr, sym, subst, length, List, arith}
use Rattle.std.proofs.lemmas.Result.{IfErr-weaker}
use Rattle.smpl_lexer.specs.declared.token.PatchToken.{PatchToken}
use Rattle.iso_file.specs.Lines.{AreLinesOf}
use Rattle.iso_file.specs.Blocks.{blocks}
use Rattle.iso_file.specs.Isos.{IsFirstBlockFault, IsFileFault, OrNoMemory, most_bytes}
use Rattle.iso_file.specs.Isos.IsFileFault.{too_long, in_block}
use Rattle.iso_file.specs.Stepped.{AllFilled}
use Rattle.iso_file.proofs.FormLemmas.{or_map}
use Rattle.iso_file.proofs.BlockLemmas.{lines_filled}
use Rattle.iso_file.proofs.read_isos.Goals as goal

pub returns-then-bytes-gt-MOST_BYTES-clause-fault : goal.returns-then-bytes-gt-MOST_BYTES-clause-fault
returns-then-bytes-gt-MOST_BYTES-clause-fault c = inr (too_long c.if-bytes-gt-MOST_BYTES.true)

pub read_blocks-requires : goal.read_blocks-requires
read_blocks-requires c =
    subst (λ (ls : List (List PatchToken)). AllFilled ls) (sym c.as_slice.ensures) (lines_filled c.args.bytes.now c.in_ok-lines.lines c.in_ok-lines.ensures)

pub returns-clause-fault : goal.returns-clause-fault
returns-clause-fault c =
    let bytes = c.args.bytes.now in
    let lines = c.as_slice.result.now in
    let are : AreLinesOf bytes lines = subst (λ (ls : List (List PatchToken)). AreLinesOf bytes ls) (sym c.as_slice.ensures) c.in_ok-lines.ensures in
    let short : length bytes ≤ most_bytes = omega arith in
    IfErr-weaker c.read_blocks.result (λ f. OrNoMemory (IsFirstBlockFault (blocks lines)) f) (λ f. OrNoMemory (IsFileFault bytes) f)
    (λ f h. or_map (IsFirstBlockFault (blocks lines)) (IsFileFault bytes) f (λ g k. in_block short lines are k) h) c.read_blocks.ensures.fault
