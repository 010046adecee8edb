use Rattle.std.proofs.Common.{◌≡◌, ◌∙◌, ap, true, false, arith}
use Rattle.std.proofs.lemmas.Grind.{common_steps}
use Rattle.std.proofs.lemmas.Result.{IfOk-weaker}
use Rattle.c_terms.specs.Same.{same_bytes}
use Rattle.std.specs.List.{list_any}
use Rattle.run_files.specs.Treatment.{is_starred}
use Rattle.run_files.proofs.HitLemmas.{hit_unasked, hit_changed, hit_found}
use Rattle.run_files.proofs.hits.is_checked_hit.Goals as goal

pub returns-then-not-check : goal.returns-then-not-check
returns-then-not-check c = λ unread s a.
    let off : c.args.check ≡ false = grind (arith, common_steps) in
    hit_unasked c.args.check c.args.patch.now c.args.bytes.now c.args.applied.now unread s a off

pub returns-then-not-same_text : goal.returns-then-not-same_text
returns-then-not-same_text c = λ unread s a.
    let on : c.args.check ≡ true = grind (arith, common_steps) in
    let differs : same_bytes c.args.bytes.now c.args.applied.now.bytes.items ≡ false = grind (arith, common_steps) in
    hit_changed c.args.check c.args.patch.now c.args.bytes.now c.args.applied.now unread s a on differs

pub returns : goal.returns
returns c =
    let on : c.args.check ≡ true = grind (arith, common_steps) in
    let same : same_bytes c.args.bytes.now c.args.applied.now.bytes.items ≡ true = grind (arith, common_steps) in
    IfOk-weaker c.has_starred.result _ _ (λ hit is unread s a.
    is ∙ ap (list_any (is_starred c.args.patch.now)) c.as_slice.ensures
    ∙ hit_found c.args.check c.args.patch.now c.args.bytes.now c.args.applied.now unread s a on same) c.has_starred.ensures
