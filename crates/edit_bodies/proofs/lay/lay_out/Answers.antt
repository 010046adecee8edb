use Rattle.std.proofs.Common.{List, subst, sym}
use Rattle.edit_unparse.specs.declared.tidy.commas.CommaList.{CommaList}
use Rattle.edit_bodies.specs.Outcomes.{Falls}
use Rattle.edit_bodies.proofs.LayoutLemmas.{broken_from, frame_from, laid_from}
use Rattle.edit_bodies.proofs.RowLemmas.{none_left}
use Rattle.edit_bodies.proofs.lay.lay_out.Goals as goal

pub returns-in-Some : goal.returns-in-Some
returns-in-Some c =
    let pieces = c.args.lexed.now in
    let edits = c.args.edits.now in
    let plan = c.in_ok-plan.plan in
    let lists = c.in_ok-lists.lists.items in
    let frame = frame_from pieces edits plan c.edits-all.result.now c.in_ok-gone.gone.items c.as_slice-extents.result.now c.in_ok-depths.depths.items
    c.as_slice-numbers.result.now lists c.edits-all.ensures.edits c.in_ok-gone.ensures c.as_slice-extents.ensures.value c.in_ok-depths.ensures
    c.as_slice-numbers.ensures.value c.in_ok-lists.ensures c.in_ok-plan.ensures in
    let here : Falls pieces edits.list plan c.as_slice-signs.result.now c.in_ok-fallen.fallen =
    record { count = c.in_ok-fallen.ensures.count; old = c.in_ok-fallen.ensures.pieces; added = c.in_ok-fallen.ensures.added } in
    let falls = subst (λ (ls : List CommaList). Falls pieces edits.list plan ls c.in_ok-fallen.fallen) c.as_slice-signs.ensures.value here in
    record {
      laid = tt;
      fault = broken_from pieces c.args.items.now edits plan c.in_ok-gone.gone.items c.in_ok-depths.depths.items lists c.in_ok-bodies.bodies c.in-Some.token
          frame (c.in_ok-bodies.ensures lists falls) c.in-Some.is;
    }

pub returns : goal.returns
returns c =
    let pieces = c.args.lexed.now in
    let edits = c.args.edits.now in
    let plan = c.in_ok-plan.plan in
    let lists = c.in_ok-lists.lists.items in
    let made = c.in_ok-bodies.bodies in
    let frame = frame_from pieces edits plan c.edits-all.result.now c.in_ok-gone.gone.items c.as_slice-extents.result.now c.in_ok-depths.depths.items
    c.as_slice-numbers.result.now lists c.edits-all.ensures.edits c.in_ok-gone.ensures c.as_slice-extents.ensures.value c.in_ok-depths.ensures
    c.as_slice-numbers.ensures.value c.in_ok-lists.ensures c.in_ok-plan.ensures in
    let here : Falls pieces edits.list plan c.as_slice-signs.result.now c.in_ok-fallen.fallen =
    record { count = c.in_ok-fallen.ensures.count; old = c.in_ok-fallen.ensures.pieces; added = c.in_ok-fallen.ensures.added } in
    let falls = subst (λ (ls : List CommaList). Falls pieces edits.list plan ls c.in_ok-fallen.fallen) c.as_slice-signs.ensures.value here in
    record {
      laid = laid_from pieces c.args.items.now edits _ made c.as_slice.result.now c.all-coming.result.items frame (c.in_ok-bodies.ensures lists falls)
          (sym (none_left made.broken c.in_default.not-Some)) c.as_slice.ensures.value c.all-coming.ensures c.in_ok-braces.ensures;
      fault = tt;
    }
