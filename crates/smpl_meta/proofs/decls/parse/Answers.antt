use Rattle.std.proofs.Common.{◌≡◌, ◌≤◌, ◌<◌, ◌++◌, length, take, drop, arith}
use Rattle.std.proofs.lemmas.List.{take_rest, length-drop}
use Rattle.std.proofs.Math.ListN.{drop_of_length-le}
use Rattle.smpl_patch.specs.Faults.{first_from}
use Rattle.smpl_meta.specs.Splits.{part_length}
use Rattle.smpl_meta.specs.TypeNames.{with_type_names}
use Rattle.smpl_meta.specs.Declarations.{IsDeclared, items_or_none}
use Rattle.smpl_meta.specs.Decls.{form_fault}
use Rattle.smpl_meta.proofs.PartLemmas.{parts_first, parts_more, parts_last}
use Rattle.smpl_meta.proofs.decls.parse.Goals as goal

pub loop-start-init : goal.loop-start-init
loop-start-init c = rw (c.new.ensures, c.new-types.ensures.none) (parts_first c.args.tokens.now c.args.first)

pub loop-start-preserved : goal.loop-start-preserved
loop-start-preserved c =
    let ts = c.args.tokens.now in
    let start = c.loop-start.start in
    let types = c.loop-start.types in
    let n = c.part_length-n.result in
    let more = c.in_ok-more.more in
    let n_is : c.part_length-n.result ≡ part_length (drop start ts) = rw take_rest at c.part_length-n.ensures.value in
    let within : n ≤ length (drop start ts) = omega (arith, c.part_length-n.ensures.within, length-drop start ts) in
    let some : 0 < length (drop start ts) = omega (arith, length-drop start ts, c.loop-start-test.true) in
    let is : IsDeclared types (take n (drop start ts)) more = rw take_rest at c.in_ok-more.ensures in
    let later : c.add_types.new.types ≡ with_type_names types (items_or_none more) = c.in_ok-add_types.ensures.types in
    let items : c.in_ok-parsed.parsed.items ≡ c.loop-start.parsed.items ++ items_or_none more = c.in_ok-parsed.ensures.items in
    let first : c.in_ok-parsed.parsed.first ≡ first_from c.loop-start.parsed.first (form_fault (take n (drop start ts)) more)
    = rw take_rest at c.in_ok-parsed.ensures.first in
    parts_more ts c.args.first start c.loop-start.parsed.items _ c.loop-start.parsed.first _ types _ n more c.loop-start.invariant some n_is within is later
    items first

pub returns : goal.returns
returns c = record {
  parsed = parts_last c.args.tokens.now c.args.first c.loop-start.start c.loop-start.parsed c.loop-start.types
      c.loop-start.invariant (drop_of_length-le c.args.tokens.now c.loop-start-test.false);
}
