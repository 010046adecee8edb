use Rattle.std.proofs.Common.{◌≡◌, ◌≤◌, ℕ, Bool, true, sym, ap, ◌∙◌, arith, rules, get_or, subst}
use Rattle.std.specs.Prelude.{if◌then◌else◌}
use Rattle.std.specs.List.{items_where_true, position_or_len}
use Rattle.std.proofs.lemmas.Grind.{common_steps}
use Rattle.edit_unparse.specs.Tidy.Commas.{is_from, with_list}
use Rattle.edit_unparse.specs.Tidy.Fallen.{StandAlike}
use Rattle.edit_unparse.specs.Tidy.Made.{parts_in}
use Rattle.edit_unparse.proofs.AlikeLemmas.{position_alike}
use Rattle.edit_unparse.proofs.tidy.commas.clear_touched.Goals as goal

pub returns : goal.returns
returns c = λ pieces ps are looks least.
    let list = c.args.list in
    let tokens = c.args.plan.now.pieces.items in
    let parts = parts_in pieces c.args.all.now.parts.now in
    let old = items_where_true c.args.stays.now ps in
    let e : c.is_touched.result ≡ true = first_of (search rules, grind (arith, common_steps)) in
    let begins : StandAlike c.piece-begin.result ps parts = subst (λ (n : ℕ). StandAlike n ps parts) (sym c.piece-begin.ensures) (looks.pieces list.opening) in
    let closes : StandAlike c.piece-close.result ps parts = subst (λ (n : ℕ). StandAlike n ps parts) (sym c.piece-close.ensures) (looks.pieces list.closing) in
    let same : position_or_len (λ p. is_from c.piece-begin.result p.from) ps ≡ position_or_len (λ p. is_from c.piece-begin.result p.from) parts =
    position_alike c.piece-begin.result ps parts begins in
    let first : c.place_at-from.result ≤ position_or_len (λ p. is_from c.piece-begin.result p.from) ps =
    let most = least c.piece-begin.result in omega (arith, c.place_at-from.ensures, most, same) in
    c.clear_list.ensures pieces ps (are ∙ sym looks.signs) begins closes first
    ∙ (λ i. with_list list.may_end (c.piece-begin.ensures i) (c.piece-close.ensures i) old)
    ∙ sym (ap (λ (b : Bool). if b then with_list list.may_end (get_or tokens list.opening 0) (get_or tokens list.closing 0) old else old)
    (sym c.is_touched.ensures ∙ e))
