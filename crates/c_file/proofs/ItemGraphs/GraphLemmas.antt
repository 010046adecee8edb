-- The graphs of all items, one after another.
use Rattle.std.proofs.Common.{◌≡◌, ◌+◌, ◌<◌, ℕ, zero, suc, Bool, refl, sym, ap, ◌∙◌, add-zero, arith, List, [], ◌∷◌, length, None, Some}
use Rattle.std.specs.Prelude.{slice_get, slice_index_or}
use Rattle.cpp_lines.specs.declared.reading.Item.{Item}
use Rattle.c_file.specs.ItemGraphs.Typed.{graph_in, graphs_from, all_graphs}

module _ (typed : Bool) (items : List Item) where
  there_from : (at : ℕ) (xs : List Item) (i : ℕ) (x : Item) → slice_get xs i ≡ Some x
      → slice_get (graphs_from typed items at xs) i ≡ Some (graph_in typed items (at + i))
  there_from at [] i x e = absurd (cc)
  there_from at (y ∷ ys) zero x e = ap (λ n. Some (graph_in typed items n)) (sym (add-zero at))
  there_from at (y ∷ ys) (suc i) x e =
      let one : suc at + i ≡ at + suc i = omega arith in
      there_from (suc at) ys i x e ∙ ap (λ n. Some (graph_in typed items n)) one

-- the graph of each item is at the item's place
pub graph_there : (typed : Bool) (items : List Item) (i : ℕ) (item : Item) → slice_get items i ≡ Some item
    → slice_get (all_graphs typed items) i ≡ Some (graph_in typed items i)
graph_there typed items i item e =
    let none : 0 + i ≡ i = omega arith in there_from typed items 0 items i item e ∙ ap (λ n. Some (graph_in typed items n)) none

module _ (typed : Bool) (items : List Item) where
  count_from : (at : ℕ) (xs : List Item) → length (graphs_from typed items at xs) ≡ length xs
  count_from at [] = refl
  count_from at (x ∷ xs) = ap suc (count_from (suc at) xs)

  or_from : (at : ℕ) (xs : List Item) (i : ℕ) → i < length xs → slice_index_or (graphs_from typed items at xs) i None ≡ graph_in typed items (at + i)
  or_from at [] i lt = absurd (omega (arith, lt))
  or_from at (x ∷ xs) zero lt = ap (graph_in typed items) (sym (add-zero at))
  or_from at (x ∷ xs) (suc i) lt =
      let one : suc at + i ≡ at + suc i = omega arith in or_from (suc at) xs i (omega (arith, lt)) ∙ ap (graph_in typed items) one

pub graph_count : (typed : Bool) (items : List Item) → length (all_graphs typed items) ≡ length items
graph_count typed items = count_from typed items 0 items

pub graph_or : (typed : Bool) (items : List Item) (i : ℕ) → i < length items → slice_index_or (all_graphs typed items) i None ≡ graph_in typed items i
graph_or typed items i lt = let none : 0 + i ≡ i = omega arith in or_from typed items 0 items i lt ∙ ap (graph_in typed items) none
