use Rattle.std.proofs.Common.{◌∙◌, sym, ◌<◌, [], ◌∷◌, length}
use Rattle.std.proofs.lemmas.Bool.{eqb-true}
use Rattle.std.proofs.lemmas.Result.{err_from_is_err_and}
use Rattle.iso_file.specs.Lines.{filled}
use Rattle.iso_file.specs.Isos.{IsBlockFault, IsFirstBlockFault}
use Rattle.iso_file.proofs.FormLemmas.{or_map}
use Rattle.iso_file.proofs.BlockLemmas.{adds_none, adds_one, fault_one, no_lines, some_lines}
use Rattle.iso_file.proofs.blocks.with_block.Goals as goal

pub returns-then-is_empty-clause-isos : goal.returns-then-is_empty-clause-isos
returns-then-is_empty-clause-isos c =
    let lines = c.args.lines.now in
    adds_none c.args.isos lines (no_lines lines (eqb-true (length lines) 0 (sym c.is_empty.ensures ∙ c.if-is_empty.true)))

pub returns-in_err-iso-clause-fault : goal.returns-in_err-iso-clause-fault
returns-in_err-iso-clause-fault c =
    let p = err_from_is_err_and c.from_residual.result c.from_residual.ensures.1 in
    let f = c.in_err-iso.field-0.0 in
    let lines = c.args.lines.now in
    let some : 0 < length lines = some_lines lines (sym c.is_empty.ensures ∙ c.if-is_empty.false) in
    rw (p.1, p.2) (or_map (IsBlockFault lines) (IsFirstBlockFault (filled (lines ∷ []))) f (λ g k. fault_one lines g some k) c.in_err-iso.ensures.fault)

pub returns-clause-isos : goal.returns-clause-isos
returns-clause-isos c =
    let lines = c.args.lines.now in
    let some : 0 < length lines = some_lines lines (sym c.is_empty.ensures ∙ c.if-is_empty.false) in
    adds_one c.args.isos c.push.new.self lines c.in_ok-iso.iso some c.in_ok-iso.ensures.iso c.in_ok-push.ensures.ok
