use Rattle.std.proofs.Common.{◌≡◌, ◌++◌, ◌+◌, ◌∷◌, [], ℕ, List, refl, sym, ap, subst, ◌∙◌, arith, drop, length, length-append}
use Rattle.c_terms.specs.declared.tree.Tree.{Tree}
use Rattle.c_terms.specs.declared.tree.Tree.TheVariants.{Branch}
use Rattle.c_terms.proofs.PathLemmas.{child-levels}
use Rattle.edit_marks.specs.Tidy.Outlines.{AddsTree, bodies_of, bounds, lists_of, own_bodies, own_lists, own_statements, statement_of, tokens_of}
use Rattle.edit_marks.proofs.Tidied.GatherLemmas.{all_of_branch, all_of_leaf, bounds_end, bounds_step, gather_step_more, popped}
use Rattle.edit_marks.proofs.Tidied.OutlineLemmas.{tokens_branch, tokens_end, tokens_leaf, tokens_more}
use Rattle.edit_marks.proofs.tidy.shape.+put_tree.Goals as goal

pub returns-in_ok-put_leaf-in-Leaf-clause-adds : goal.returns-in_ok-put_leaf-in-Leaf-clause-adds
returns-in_ok-put_leaf-in-Leaf-clause-adds t c =
    let ids = c.args.ids.now in
    let item = c.args.item in
    let old = c.args.made.now in
    let from = length old.leaves.items in
    let path = c.args.path.now.items in
    record {
      leaves = c.in_ok-put_leaf-in-Leaf.ensures
          ∙ ap (λ (l : List ℕ). old.leaves.items ++ l) (sym (ap (tokens_of ids) c.in-Leaf.is ∙ tokens_leaf ids c.in-Leaf.token));
      bodies = all_of_leaf ids (own_bodies ids item) c.args.tree.now c.in-Leaf.token path from old.bodies.items c.in-Leaf.is;
      statements = all_of_leaf ids (own_statements ids item) c.args.tree.now c.in-Leaf.token path from old.statements.items c.in-Leaf.is;
      lists = all_of_leaf ids (own_lists ids item) c.args.tree.now c.in-Leaf.token path from old.lists.items c.in-Leaf.is;
    }

pub loop-i-init : goal.loop-i-init
loop-i-init t c = record {
  leaves = refl;
  bodies = refl;
  statements = refl;
  lists = refl;
  bounds_are = ap (λ (xs : List ℕ). xs ++ bounds c.args.ids.now (length c.args.made.now.leaves.items) c.as_slice-child-items.result.now)
      c.in_ok-bounds-in-Branch.ensures.items;
  path = refl;
}

pub put_tree-requires : goal.put_tree-requires
put_tree-requires t c =
    let e = c.in-Branch.is ∙ ap (Branch c.in-Branch.label) (sym c.as_slice-child-items.ensures) in
    let d = child-levels c.args.tree.now c.in-Branch.label c.as_slice-child-items.result.now c.loop-i.i c.child-item.result e
    c.loop-i-test.true c.child-item.is in
    (omega arith, c.requires)

pub loop-i-preserved : goal.loop-i-preserved
loop-i-preserved t c =
    let ids = c.args.ids.now in
    let item = c.args.item in
    let items = c.as_slice-child-items.result.now in
    let i = c.loop-i.i in
    let own = c.child-item.result in
    let old = c.loop-i.made in
    let new = c.put_tree.new.made in
    let path = c.args.path.now.items in
    let from = length old.leaves.items in
    let less = c.loop-i-test.true in
    let is = c.child-item.is in
    let h = c.loop-i.invariant in
    let there : c.push-in-loop-i.new.self.items ≡ path ++ i ∷ [] =
    c.in_ok-push-in-Branch-2.ensures.items ∙ (λ k. h.path k ++ c.in_ok-step_of-in-Branch.ensures k ∷ []) in
    let adds : AddsTree ids item own (path ++ i ∷ []) old new =
    subst (λ (p : List ℕ). AddsTree ids item own p old new) there c.in_ok-put_tree-in-Branch.ensures.adds in
    let after : length new.leaves.items ≡ from + length (tokens_of ids own) = ap length adds.leaves ∙ length-append old.leaves.items (tokens_of ids own) in
    record {
      leaves = tokens_more ids items i own old.leaves.items new.leaves.items _ less is adds.leaves h.leaves;
      bodies = gather_step_more ids (own_bodies ids item) items i own path from _ old.bodies.items new.bodies.items _ less is after adds.bodies h.bodies;
      statements =
          gather_step_more ids (own_statements ids item) items i own path from _ old.statements.items new.statements.items _ less is after adds.statements
          h.statements;
      lists = gather_step_more ids (own_lists ids item) items i own path from _ old.lists.items new.lists.items _ less is after adds.lists h.lists;
      bounds_are =
          bounds_step ids items i own from _ c.loop-i.bounds.items c.push.new.self.items _ less is after
          (c.in_ok-push-in-Branch.ensures.items ∙ ap (λ (n : ℕ). c.loop-i.bounds.items ++ n ∷ []) (c.len-in-loop-i.ensures ∙ old.leaves.ok.0)) h.bounds_are;
      path = popped path c.push-in-loop-i.new.self.items c.put_tree.new.path.items c.pop.new.self.items i _ there
          c.in_ok-put_tree-in-Branch.ensures.path c.put_tree.new.path.ok.0 c.pop.ensures.rest;
    }

pub returns-in_ok-put_own-in-Branch-clause-adds : goal.returns-in_ok-put_own-in-Branch-clause-adds
returns-in_ok-put_own-in-Branch-clause-adds t c =
    let ids = c.args.ids.now in
    let item = c.args.item in
    let l = c.in-Branch.label in
    let items = c.as_slice-child-items.result.now in
    let i = c.loop-i.i in
    let old = c.args.made.now in
    let found = c.loop-i.made in
    let new = c.put_own.new.made in
    let path = c.args.path.now.items in
    let from = length old.leaves.items in
    let after = length found.leaves.items in
    let le = c.loop-i-test.false in
    let h = c.loop-i.invariant in
    let adds = c.in_ok-put_own-in-Branch.ensures in
    let same = c.as_slice-child-items.ensures in
    let children : c.as_slice.result.now ≡ items = c.as_slice.ensures ∙ sym same in
    let there : c.deref-in-Branch.result.now ≡ path = c.deref-in-Branch.ensures.value ∙ h.path in
    let where_at : c.deref.result.now ≡ bounds ids from items =
    c.deref.ensures.value ∙ c.in_ok-push-in-Branch-3.ensures.items ∙ ap (λ (n : ℕ). c.loop-i.bounds.items ++ n ∷ []) (c.len-in-Branch.ensures ∙ found.leaves.ok.0)
    ∙ bounds_end ids items i after c.loop-i.bounds.items _ le h.bounds_are in
    record {
      leaves = adds.leaves ∙ tokens_end ids items i found.leaves.items _ le h.leaves
          ∙ ap (λ (xs : List ℕ). old.leaves.items ++ xs) (sym (ap (tokens_of ids) (c.in-Branch.is ∙ ap (Branch l) (sym same)) ∙ tokens_branch ids l items));
      bodies = all_of_branch ids (own_bodies ids item) c.args.tree.now l items c.in-Branch.children i path from after old.bodies.items found.bodies.items
          new.bodies.items _ c.in-Branch.is same le h.bodies (λ k. bodies_of item (there k) l (where_at k) (children k)) adds.bodies;
      statements = all_of_branch ids (own_statements ids item) c.args.tree.now l items c.in-Branch.children i path from after old.statements.items
          found.statements.items new.statements.items _ c.in-Branch.is same le h.statements
          (λ k. statement_of l (where_at k) (length (children k))) adds.statements;
      lists = all_of_branch ids (own_lists ids item) c.args.tree.now l items c.in-Branch.children i path from after old.lists.items found.lists.items
          new.lists.items _ c.in-Branch.is same le h.lists (λ k. lists_of l (where_at k) (children k)) adds.lists;
    }
