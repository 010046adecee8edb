use Rattle.std.proofs.Common.{◌≡◌, ◌<◌, ◌≤◌, ◌+◌, ℕ, true, ap, ◌∙◌, arith, List, Bool, length, fold, replicate, sym, get_or, drop, subst}
use Rattle.std.specs.List.{items_where_true, position_or_len}
use Rattle.std.proofs.lemmas.List.{length-map, length-replicate}
use Rattle.edit_unparse.specs.Output.{Part}
use Rattle.edit_unparse.specs.Tidy.Commas.{is_from}
use Rattle.edit_unparse.specs.Tidy.Text.{with_commas}
use Rattle.edit_unparse.specs.Tidy.Plans.{placement_in}
use Rattle.edit_unparse.specs.Tidy.Made.{part_in, parts_in}
use Rattle.edit_unparse.proofs.AlikeLemmas.{looks_length}
use Rattle.edit_unparse.proofs.StayLemmas.{all_stay, lent_back, lists_more}
use Rattle.edit_unparse.proofs.tidy.commas.staying.Goals as goal

pub loop-list-init : goal.loop-list-init
loop-list-init c =
    let parts = c.args.parts.now in
    let is : c.in_ok-stays.stays.items ≡ replicate (length parts) true = c.in_ok-stays.ensures.items_if_clones_equal (λ y same. same) in
    record {
      len = ap length is ∙ length-replicate (length parts) true;
      stays = λ ps looks.
          let same : length ps ≡ length parts =
          looks_length c.args.plan.now.pieces.items ps (parts_in c.args.lexed.now parts) looks ∙ length-map parts (part_in c.args.lexed.now) in
          ap (λ (l : List Part). fold (with_commas (placement_in c.args.edits.now c.args.plan.now) c.args.plan.now.pieces.items) l c.args.lists.now)
          (ap (λ (fs : List Bool). items_where_true fs ps) is ∙ all_stay ps (length parts) (sym same));
    }

pub loop-list-preserved : goal.loop-list-preserved
loop-list-preserved c =
    let pieces = c.args.lexed.now in
    let parts = parts_in pieces c.args.parts.now in
    let f = with_commas (placement_in c.args.edits.now c.args.plan.now) c.args.plan.now.pieces.items in
    let lists = c.args.lists.now in
    let i = c.loop-list.list-index in
    let new = c.clear_touched.new.stays in
    let lent = c.deref_mut.result.now in
    let items = c.loop-list.stays.items in
    let value : lent ≡ items = c.deref_mut.ensures.value in
    let many : length new ≡ length items = omega (arith, c.clear_touched.auto.stays, ap length value) in
    let whole = lent_back c.loop-list.stays.len new items c.loop-list.stays.ok.0 many in
    let least = λ (n : ℕ). subst (λ (l : List ℕ). get_or l n 0 ≤ position_or_len (λ p. is_from n p.from) parts) (sym c.deref-2.ensures.value)
    (c.in_ok-firsts.ensures pieces n) in
    let less : i < length lists = omega arith in
    record {
      len = ap length whole ∙ many ∙ c.loop-list.invariant.len;
      stays = λ ps looks.
          ap (λ (fs : List Bool). fold f (items_where_true fs ps) (drop (i + 1) lists)) whole
          ∙ lists_more f (items_where_true lent ps) (items_where_true new ps) _ lists i _ less
          (c.clear_touched.ensures pieces ps (c.deref.ensures.value ∙ c.in_ok-signs.ensures.signs) looks least)
          (ap (λ (fs : List Bool). fold f (items_where_true fs ps) (drop i lists)) value ∙ c.loop-list.invariant.stays ps looks);
    }
