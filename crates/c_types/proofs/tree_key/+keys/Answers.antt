use Rattle.std.proofs.Common.{◌≡◌, ◌+◌, ◌++◌, [], ◌∷◌, sym, ap, ◌∙◌, arith, length, length-append}
use Rattle.std.specs.Prelude.{slice_set as set}
use Rattle.std.specs.Option.{option_or}
use Rattle.std.proofs.lemmas.List.{append-nil}
use Rattle.c_terms.specs.declared.tree.Tree.TheVariants.{Leaf, Branch}
use Rattle.c_terms.proofs.PathLemmas.{child-levels}
use Rattle.c_types.specs.TreeKeys.{first_id, level_count, key_of, part_keys}
use Rattle.c_types.proofs.JoinLemmas.{filled}
use Rattle.c_types.proofs.KeyLemmas.{first-start, first-more, first-end, count_start, count_more, count_end, key-leaf}
use Rattle.c_types.proofs.KeyLemmas.{no_key, keys-start, keys-more, keys-end, keys-leaf}
use Rattle.c_types.proofs.tree_key.+keys.Goals as goal

pub put_keys-loop-i-init : goal.put_keys-loop-i-init
put_keys-loop-i-init t c =
    let label = c.in-Branch.label in
    let items = c.as_slice-child-items.result.now in
    let e : c.args.tree.now ≡ Branch label items = c.in-Branch.is ∙ ap (Branch label) (sym c.as_slice-child-items.ensures) in
    record {
      first = first-start label items ∙ ap first_id (sym e);
      most = count_start label items ∙ ap level_count (sym e);
      found = ap (λ ks. c.args.found.now ++ ks) (keys-start label items ∙ ap part_keys (sym e));
    }

pub put_keys-put_child-requires : goal.put_keys-put_child-requires
put_keys-put_child-requires t c =
    let e = c.in-Branch.is ∙ ap (Branch c.in-Branch.label) (sym c.as_slice-child-items.ensures) in
    let d = child-levels c.args.tree.now c.in-Branch.label c.as_slice-child-items.result.now c.loop-i.i c.child-item.result e
    c.loop-i-test.true c.child-item.is in
    (omega (arith, d), tt)

pub put_keys-loop-i-preserved : goal.put_keys-loop-i-preserved
put_keys-loop-i-preserved t c =
    let label = c.in-Branch.label in
    let items = c.as_slice-child-items.result.now in
    let child = c.child-item.result in
    record {
      first = first-more items c.loop-i.i child c.loop-i.first c.or-first.result _ c.loop-i-test.true c.child-item.is
          (c.or-first.ensures ∙ ap (λ k. option_or c.loop-i.first k.first) c.in_ok-key-in-Branch.ensures.own) c.loop-i.invariant.first;
      most = count_more items c.loop-i.i child c.loop-i.most c.max-most.result _ c.loop-i-test.true c.child-item.is
          (let l = ap (λ k. k.levels) c.in_ok-key-in-Branch.ensures.own in omega (arith, l, c.max-most.ensures)) c.loop-i.invariant.most;
      found = keys-more label items c.loop-i.i child c.loop-i.found c.put_child.new.found _ c.is_expression_part-is_part.result
          c.loop-i-test.true c.child-item.is c.is_expression_part-is_part.ensures.value c.in_ok-key-in-Branch.ensures.parts c.loop-i.invariant.found;
    }

pub put_keys-returns-in-Leaf-clause-own : goal.put_keys-returns-in-Leaf-clause-own
put_keys-returns-in-Leaf-clause-own t c = key-leaf c.in-Leaf.token ∙ ap key_of (sym c.in-Leaf.is)

pub put_keys-returns-in-Leaf-clause-parts : goal.put_keys-returns-in-Leaf-clause-parts
put_keys-returns-in-Leaf-clause-parts t c =
    let none : part_keys c.args.tree.now ≡ [] = ap part_keys c.in-Leaf.is ∙ keys-leaf c.in-Leaf.token in
    sym (append-nil c.args.found.now) ∙ ap (λ ks. c.args.found.now ++ ks) (sym none)

pub put_keys-returns-after-loop-i-clause-own : goal.put_keys-returns-after-loop-i-clause-own
put_keys-returns-after-loop-i-clause-own t c =
    let items = c.as_slice-child-items.result.now in
    let f = first-end items c.loop-i.i c.loop-i.first _ c.loop-i-test.false c.loop-i.invariant.first in
    let n = c.saturating_add.ensures ∙ count_end items c.loop-i.i c.loop-i.most _ c.loop-i-test.false c.loop-i.invariant.most in
    λ j. record { first = f j; levels = n j }

pub put_keys-returns-after-loop-i-clause-parts : goal.put_keys-returns-after-loop-i-clause-parts
put_keys-returns-after-loop-i-clause-parts t c =
    keys-end c.in-Branch.label c.as_slice-child-items.result.now c.loop-i.i c.loop-i.found _ c.loop-i-test.false c.loop-i.invariant.found

pub put_child-set-requires : goal.put_child-set-requires
put_child-set-requires t c =
    let more = part_keys c.args.child.now in
    let all : c.put_keys.new.found ≡ (c.args.found.now ++ no_key ∷ []) ++ more =
    c.in_ok-key.ensures.parts ∙ ap (λ ks. ks ++ more) c.in_ok-push.ensures.ok in
    omega (arith, c.len-at.ensures, simp length-append at (ap length all))

pub put_child-returns-in_ok-key-clause-parts : goal.put_child-returns-in_ok-key-clause-parts
put_child-returns-in_ok-key-clause-parts t c =
    let more = part_keys c.args.child.now in
    rw c.if-is_part.true (c.set.ensures
    ∙ ap (λ i. set c.put_keys.new.found i c.in_ok-key.key) c.len-at.ensures
    ∙ filled c.args.found.now more c.put_keys.new.found no_key c.in_ok-key.key
    (c.in_ok-key.ensures.parts ∙ ap (λ ks. ks ++ more) c.in_ok-push.ensures.ok)
    ∙ ap (λ k. c.args.found.now ++ k ∷ more) c.in_ok-key.ensures.own)

pub put_child-returns-else-is_part-clause-parts : goal.put_child-returns-else-is_part-clause-parts
put_child-returns-else-is_part-clause-parts t c = rw c.if-is_part.false c.put_keys-else-is_part.ensures.parts
