use Rattle.std.proofs.Common.{◌≡◌, ◌∙◌, ◌≤◌, ◌<◌, ◌∷◌, ◌++◌, [], true, false, Some, sym, ap, take, drop, length, arith}
use Rattle.std.specs.List.{prefix_len}
use Rattle.std.proofs.lemmas.List.{take_rest}
use Rattle.run_words.specs.Values.{is_c_name}
use Rattle.run_words.proofs.Names.{is_no_comma, so_far_begin, so_far_last, so_far_more, so_far_none}
use Rattle.run_words.proofs.values.names.Goals as goal

pub texts-init : goal.texts-init
texts-init c = rw c.new-names.ensures.items (so_far_begin c.args.text.now)

pub returns-then-not-is_c_name : goal.returns-then-not-is_c_name
returns-then-not-is_c_name c =
    let text = c.args.text.now in
    let start = c.texts.start in
    let n = c.name_end-end.result in
    let is : n ≡ prefix_len is_no_comma (drop start text) = rw take_rest at c.name_end-end.ensures.first in
    let within : n ≤ length (drop start text) = rw take_rest at c.name_end-end.ensures.within in
    let other : false ≡ is_c_name (take n (drop start text)) = rw take_rest at c.if-not-is_c_name.ensures in
    so_far_none text c.texts.names.items start n c.texts.invariant is within (sym other)

pub returns-then-end-rest : goal.returns-then-end-rest
returns-then-end-rest c =
    let text = c.args.text.now in
    let start = c.texts.start in
    let n = c.name_end-end.result in
    let is : n ≡ prefix_len is_no_comma (drop start text) = rw take_rest at c.name_end-end.ensures.first in
    let all : n ≡ length (drop start text) = rw take_rest at c.if-end-rest.true in
    let named : true ≡ is_c_name (take n (drop start text)) = rw take_rest at c.if-not-is_c_name.ensures in
    let name : c.in_ok-from_bytes.field-0 ≡ take n (drop start text) = rw take_rest at c.in_ok-from_bytes.ensures.bytes in
    let items : c.push.new.self.items ≡ c.texts.names.items ++ take n (drop start text) ∷ [] = c.in_ok-push.ensures.items
    ∙ ap (λ t. c.texts.names.items ++ t ∷ []) name in
    ap Some items ∙ so_far_last text c.texts.names.items start n c.texts.invariant is all (sym named)

pub texts-preserved : goal.texts-preserved
texts-preserved c =
    let text = c.args.text.now in
    let start = c.texts.start in
    let n = c.name_end-end.result in
    let is : n ≡ prefix_len is_no_comma (drop start text) = rw take_rest at c.name_end-end.ensures.first in
    let within : n ≤ length (drop start text) = rw take_rest at c.name_end-end.ensures.within in
    let not_all : n ≡ length (drop start text) → ⊥ = rw take_rest at c.if-end-rest.false in
    let less : n < length (drop start text) = omega (arith, within, not_all) in
    let named : true ≡ is_c_name (take n (drop start text)) = rw take_rest at c.if-not-is_c_name.ensures in
    let name : c.in_ok-from_bytes.field-0 ≡ take n (drop start text) = rw take_rest at c.in_ok-from_bytes.ensures.bytes in
    let items : c.push.new.self.items ≡ c.texts.names.items ++ take n (drop start text) ∷ [] = c.in_ok-push.ensures.items
    ∙ ap (λ t. c.texts.names.items ++ t ∷ []) name in
    rw items (so_far_more text c.texts.names.items start n c.texts.invariant is less (sym named))
