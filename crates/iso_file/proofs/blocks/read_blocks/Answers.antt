use Rattle.std.proofs.Common.{◌≡◌, ◌&&◌, ◌+◌, ◌≤◌, [], ◌∷◌, length, drop, slice_range, arith}
use Rattle.std.proofs.lemmas.List.{take_rest}
use Rattle.std.proofs.lemmas.Result.{err_from_is_err_and, IfOk-weaker, IfErr-weaker}
use Rattle.iso_file.specs.Lines.{filled}
use Rattle.iso_file.specs.Blocks.{header_next, blocks}
use Rattle.iso_file.specs.Isos.{AreIsos, IsFirstBlockFault, OrNoMemory}
use Rattle.iso_file.specs.Stepped.{Adds}
use Rattle.iso_file.proofs.FormLemmas.{or_map}
use Rattle.iso_file.proofs.BlockLemmas.{filled_range, led_first, step_begun, step_on, step_fault, led_last, fault_last, all_read, led_along, end_range}
use Rattle.iso_file.proofs.blocks.read_blocks.Goals as goal
use Rattle.iso_file.proofs.blocks.read_blocks.Goals.{then-is_begin+in_ok-isos, else-is_begin}

pub loop-i-init : goal.loop-i-init
loop-i-init c = rw (c.new-isos.ensures) (led_first c.args.lines.now)

pub with_block-requires : goal.with_block-requires
with_block-requires c = filled_range c.loop-i.start c.loop-i.i c.args.lines.now c.requires

pub with_block-requires-2 : goal.with_block-requires-2
with_block-requires-2 c = filled_range c.loop-i.start (length c.args.lines.now) c.args.lines.now c.requires

pub returns-in_err-isos-clause-fault : goal.returns-in_err-isos-clause-fault
returns-in_err-isos-clause-fault c =
    let p = err_from_is_err_and c.from_residual.result c.from_residual.ensures.1 in
    let f = c.in_err-isos.field-0.0 in
    let lines = c.args.lines.now in
    let v = c.loop-i in
    let begins : c.is_begin.result ≡ c.seen_at-seen.result && header_next (drop (v.i + 1) lines) = rw take_rest at c.is_begin.ensures in
    rw (p.1, p.2)
    (or_map (IsFirstBlockFault (filled (slice_range lines v.start v.i ∷ []))) (IsFirstBlockFault (blocks lines)) f
    (λ g k. step_fault lines v.isos v.start v.i v.seen c.seen_at-seen.result c.is_begin.result c.as_slice.result.now
    c.index-lines-i.result g v.invariant c.loop-i-test.true
    c.as_slice.ensures c.index-lines-i.is c.seen_at-seen.ensures begins c.if-is_begin.true k)
    c.in_err-isos.ensures.fault)

pub loop-i-preserved : goal.loop-i-preserved
loop-i-preserved c =
    let lines = c.args.lines.now in
    let v = c.loop-i in
    let begins : c.is_begin.result ≡ c.seen_at-seen.result && header_next (drop (v.i + 1) lines) = rw take_rest at c.is_begin.ensures in
    elim c.if-is_begin.branch [
      | then-is_begin+in_ok-isos w ↦
          led_along lines c.if-is_begin.isos w.in_ok-isos.isos c.if-is_begin.start v.i (v.i + 1) c.seen_at-seen.result w.isos-is w.start-is
          (step_begun lines v.isos w.in_ok-isos.isos v.start v.i v.seen c.seen_at-seen.result c.is_begin.result
          c.as_slice.result.now c.index-lines-i.result v.invariant c.loop-i-test.true
          c.as_slice.ensures c.index-lines-i.is c.seen_at-seen.ensures begins w.if-is_begin.true w.in_ok-isos.ensures.isos)
      | else-is_begin w ↦
          led_along lines c.if-is_begin.isos v.isos c.if-is_begin.start v.start (v.i + 1) c.seen_at-seen.result w.isos-is w.start-is
          (step_on lines v.isos v.start v.i v.seen c.seen_at-seen.result c.is_begin.result c.as_slice.result.now
          c.index-lines-i.result v.invariant c.loop-i-test.true
          c.as_slice.ensures c.index-lines-i.is c.seen_at-seen.ensures begins w.if-is_begin.false)
    ]

pub returns-clause-isos : goal.returns-clause-isos
returns-clause-isos c =
    let lines = c.args.lines.now in
    let v = c.loop-i in
    let end : length lines ≤ v.i = omega arith in
    let same : slice_range lines v.start (length lines) ≡ slice_range lines v.start v.i = end_range lines v.start v.i end in
    IfOk-weaker c.with_block-2.result (λ all. Adds v.isos (filled (slice_range lines v.start (length lines) ∷ [])) all) (λ isos. AreIsos (blocks lines) isos)
    (λ all h. led_last lines v.isos all v.start v.i v.seen (slice_range lines v.start (length lines)) v.invariant (all_read lines v.i end) same h)
    c.with_block-2.ensures.isos

pub returns-clause-fault : goal.returns-clause-fault
returns-clause-fault c =
    let lines = c.args.lines.now in
    let v = c.loop-i in
    let end : length lines ≤ v.i = omega arith in
    let same : slice_range lines v.start (length lines) ≡ slice_range lines v.start v.i = end_range lines v.start v.i end in
    IfErr-weaker c.with_block-2.result (λ f. OrNoMemory (IsFirstBlockFault (filled (slice_range lines v.start (length lines) ∷ []))) f)
    (λ f. OrNoMemory (IsFirstBlockFault (blocks lines)) f)
    (λ f h. or_map (IsFirstBlockFault (filled (slice_range lines v.start (length lines) ∷ []))) (IsFirstBlockFault (blocks lines)) f
    (λ g k. fault_last lines v.isos v.start v.i v.seen (slice_range lines v.start (length lines)) g v.invariant (all_read lines v.i end) same k) h)
    c.with_block-2.ensures.fault
