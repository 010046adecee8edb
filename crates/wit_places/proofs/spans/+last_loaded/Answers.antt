use Rattle.std.proofs.Common.{◌≡◌, ◌∙◌, ◌<◌, ◌+◌, ◌-◌, take, length, ap, arith}
use Rattle.wit_places.specs.Spans.{loaded_ids}
use Rattle.wit_places.proofs.RowLemmas.{row_ids, last_found, last_earlier}
use Rattle.wit_places.proofs.spans.+last_loaded.Goals as goal

pub returns-in-Some : goal.returns-in-Some
returns-in-Some t c =
    let lt : c.loop-i.i - 1 < length c.as_slice-children.result.now = omega arith in
    let same : c.loop-i.i - 1 + 1 ≡ c.loop-i.i = omega arith in
    let upto : row_ids c.args.loaded (take (c.loop-i.i - 1 + 1) c.as_slice-children.result.now) ≡ loaded_ids c.args.loaded c.args.tree.now =
    ap (λ n. row_ids c.args.loaded (take n c.as_slice-children.result.now)) same ∙ c.loop-i.invariant.ids in
    last_found c.args.loaded c.as_slice-children.result.now (c.loop-i.i - 1) c.index-children-i.result lt c.index-children-i.is
    (loaded_ids c.args.loaded c.args.tree.now) upto c.in-Some.id c.in-Some.ensures

pub loop-i-preserved : goal.loop-i-preserved
loop-i-preserved t c =
    let lt : c.loop-i.i - 1 < length c.as_slice-children.result.now = omega arith in
    let same : c.loop-i.i - 1 + 1 ≡ c.loop-i.i = omega arith in
    let upto : row_ids c.args.loaded (take (c.loop-i.i - 1 + 1) c.as_slice-children.result.now) ≡ loaded_ids c.args.loaded c.args.tree.now =
    ap (λ n. row_ids c.args.loaded (take n c.as_slice-children.result.now)) same ∙ c.loop-i.invariant.ids in
    record {
      within = omega arith;
      ids = last_earlier c.args.loaded c.as_slice-children.result.now (c.loop-i.i - 1) c.index-children-i.result lt c.index-children-i.is
          (loaded_ids c.args.loaded c.args.tree.now) upto c.in_default.ensures;
    }
