use Rattle.std.proofs.Common.{◌<◌, ◌*◌, ◌^◌, [], length, get_or, sym, ap, ◌∙◌, arith, rules}
use Rattle.std.specs.List.{slice_range}
use Rattle.cfg_build.specs.CfgGraph.LinkRows.{lists_of, last_end}
use Rattle.cfg_build.proofs.CfgGraph.LinkLemmas.{kept-within, lists-get, ends-get}
use Rattle.cfg_build.proofs.cfg_graph.link_rows.LinkRows.get.Goals as goal

pub end_before-requires : goal.end_before-requires
end_before-requires c =
    let h = kept-within c.self.inside.ends.items c.self.inside.numbers.items c.args.self.now c.as_slice-ends.result.now c.args.n
    c.self.view_is c.as_slice-ends.ensures.value c.requires in omega (arith, h)

pub bounds-ends-n : goal.bounds-ends-n
bounds-ends-n c = kept-within c.self.inside.ends.items c.self.inside.numbers.items c.args.self.now c.as_slice-ends.result.now
    c.args.n c.self.view_is c.as_slice-ends.ensures.value c.requires

pub offset_bounds-ends-n : goal.offset_bounds-ends-n
offset_bounds-ends-n c =
    let h = kept-within c.self.inside.ends.items c.self.inside.numbers.items c.args.self.now c.as_slice-ends.result.now c.args.n
    c.self.view_is c.as_slice-ends.ensures.value c.requires in
    let r = c.as_slice-ends.type_inv in
    let fits : c.args.n * 4 < 2 ^ 64 = omega (arith, h, r.1) in
    search rules

pub part-requires : goal.part-requires
part-requires c =
    let h = kept-within c.self.inside.ends.items c.self.inside.numbers.items c.args.self.now c.as_slice-ends.result.now c.args.n
    c.self.view_is c.as_slice-ends.ensures.value c.requires in
    let e = ends-get 0 c.as_slice-ends.result.now c.args.n (rw c.as_slice-ends.ensures.value c.self.invariant.rising) h in
    let n = ap length c.as_slice.ensures.value in
    let l = ap (last_end 0) c.as_slice-ends.ensures.value in
    let w = c.self.invariant.within in
    record { order = omega (arith, e.0, c.end_before.ensures); inside = omega (arith, e.1, l, w, n) }

pub returns : goal.returns
returns c =
    let h = kept-within c.self.inside.ends.items c.self.inside.numbers.items c.args.self.now c.as_slice-ends.result.now c.args.n
    c.self.view_is c.as_slice-ends.ensures.value c.requires in
    let g = lists-get 0 c.as_slice-ends.result.now c.self.inside.numbers.items c.args.n h in
    let s = c.as_slice.ensures.value in
    let b = c.end_before.ensures in
    c.part.ensures ∙ (λ j. slice_range (s j) (b j) (get_or c.as_slice-ends.result.now c.args.n 0)) ∙ sym g
    ∙ ap (λ es. get_or (lists_of 0 es c.self.inside.numbers.items) c.args.n []) c.as_slice-ends.ensures.value ∙ ap (λ ls. get_or ls c.args.n []) c.self.view_is
