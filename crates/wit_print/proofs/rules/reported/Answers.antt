use Rattle.std.proofs.Common.{◌≡◌, sym, ap, ◌∙◌, ◌++◌, ◌∷◌, [], map, cond, arith}
use Rattle.std.proofs.lemmas.List.{map-append, append-nil}
use Rattle.std.specs.List.{list_any}
use Rattle.c_terms.specs.Same.{same_bytes}
use Rattle.wit_print.proofs.Sets.{reported_next}
use Rattle.wit_print.proofs.rules.reported.Goals as goal
use Rattle.wit_print.proofs.rules.reported.Goals.{then-is_reported+in_ok-push, else-is_reported}

pub loop-d-preserved : goal.loop-d-preserved
loop-d-preserved c =
    let old = map (λ d. d.now) c.loop-d.vars.items in
    reported_next c.args.rule.now.exports (map (λ key. key.items) c.in_ok-exports.exports.keys) c.as_slice-d-items.result.now c.loop-d.d-index c.d-item.result
    old (map (λ d. d.now) c.if-is_reported.vars.items) c.is_reported.result
    c.loop-d-test.true (grind (arith, c.d-item.is, c.loop-d-test.true))
    (λ name. c.in_ok-exports.ensures name ∙ ap (λ xs. list_any (λ x. same_bytes x.name name) xs) c.as_slice.ensures)
    c.is_reported.ensures c.loop-d.invariant
    (elim c.if-is_reported.branch [
      | then-is_reported+in_ok-push w ↦ ap (λ v. map (λ d. d.now) v.items) w.vars-is ∙ ap (map (λ d. d.now)) w.in_ok-push.ensures.items
          ∙ map-append (λ d. d.now) c.loop-d.vars.items _ ∙ ap (λ b. old ++ cond b (c.d-item.result ∷ []) []) (sym w.if-is_reported.true)
      | else-is_reported w ↦ ap (λ v. map (λ d. d.now) v.items) w.vars-is ∙ sym (append-nil old)
          ∙ ap (λ b. old ++ cond b (c.d-item.result ∷ []) []) (sym w.if-is_reported.false)
    ])
