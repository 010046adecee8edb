use Rattle.std.proofs.Common.{◌≡◌, ◌+◌, ◌-◌, ◌&&◌, Bool, true, false, sym, ap, ◌∙◌, arith, rules}
use Rattle.std.specs.List.{list_any, range_with_len}
use Rattle.std.proofs.lemmas.Grind.{common_steps}
use Rattle.edit_unparse.specs.Tidy.Text.{changes, stays}
use Rattle.edit_unparse.specs.Tidy.Plans.{placement_in}
use Rattle.edit_unparse.proofs.tidy.commas.is_touched.Goals as goal

pub returns-then-not-stays : goal.returns-then-not-stays
returns-then-not-stays c =
    let at = placement_in c.args.edits.now c.args.plan.now in
    let l = c.args.list in
    let tokens = c.args.plan.now.pieces.items in
    let e : c.stays.result ≡ false = first_of (search rules, grind (arith, common_steps)) in
    sym (ap (λ (b : Bool). b && stays at tokens l.closing && list_any (changes at) (range_with_len l.opening (l.closing + 1 - l.opening)))
    (sym (c.stays.ensures c.args.edits.now) ∙ e))

pub returns-then-not-stays-2 : goal.returns-then-not-stays-2
returns-then-not-stays-2 c =
    let at = placement_in c.args.edits.now c.args.plan.now in
    let l = c.args.list in
    let e : c.stays.result ≡ true = first_of (search rules, grind (arith, common_steps)) in
    let f : c.stays-2.result ≡ false = first_of (search rules, grind (arith, common_steps)) in
    sym (λ i. (sym (c.stays.ensures c.args.edits.now) ∙ e) i && (sym (c.stays-2.ensures c.args.edits.now) ∙ f) i
    && list_any (changes at) (range_with_len l.opening (l.closing + 1 - l.opening)))

pub returns : goal.returns
returns c =
    let at = placement_in c.args.edits.now c.args.plan.now in
    let l = c.args.list in
    let e : c.stays.result ≡ true = first_of (search rules, grind (arith, common_steps)) in
    let f : c.stays-2.result ≡ true = first_of (search rules, grind (arith, common_steps)) in
    c.changes_between.ensures
    ∙ sym (λ i. (sym (c.stays.ensures c.args.edits.now) ∙ e) i && (sym (c.stays-2.ensures c.args.edits.now) ∙ f) i
    && list_any (changes at) (range_with_len l.opening (l.closing + 1 - l.opening)))
