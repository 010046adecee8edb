-- What the items before one have declared.
use Rattle.std.proofs.Common.{◌≡◌, ◌+◌, ◌<◌, ℕ, sym, ap, ◌∙◌, arith, get_or, take, length, List, [], ◌∷◌, ◌++◌, Option, Some}
use Rattle.std.specs.Prelude.{slice_get}
use Rattle.std.specs.Option.{option_map}
use Rattle.std.proofs.lemmas.List.{take_more}
use Rattle.std.proofs.lemmas.List.Sums.{fold-append}
use Rattle.c_typing.specs.declared.scope.Scope.{Scope}
use Rattle.c_typing.specs.Scopes.{no_declarations}
use Rattle.c_typing.specs.ItemTypes.{item_types}
use Rattle.c_terms.specs.declared.tree.Tree.{Tree}
use Rattle.cfg_build.specs.CfgGraph.Flow.{Flow, with_types}
use Rattle.cfg_build.specs.Graphs.{graph_of}
use Rattle.cpp_lines.specs.declared.reading.Item.{Item}
use Rattle.cpp_lines.specs.declared.reading.Item.TheVariants.{Parsed}
use Rattle.c_file.specs.declared.item_graphs.reached.Reached.{Reached}
use Rattle.c_file.specs.ItemGraphs.Typed.{with_read, scope_of, typed_tree, typed_graph, IsReached}
use Rattle.c_file.specs.ItemGraphs.Trees.{item_tree}

-- nothing is declared before the first item
pub reached_new : (items : List Item) (r : Reached) → r.next ≡ 0 → r.scope ≡ scope_of [] → IsReached items r
reached_new items r n e = record { within = omega (arith, n); scope_is = e ∙ ap (λ k. scope_of (take k items)) (sym n) }

-- one more item is added
pub reached_more : (items : List Item) (r : Reached) (item : Item) (later : Scope) → IsReached items r → r.next < length items
    → item ≡ get_or items r.next item → later ≡ with_read r.scope item → IsReached items (record { scope = later; next = r.next + 1 })
reached_more items r item later is within at e =
    let longer : take (r.next + 1) items ≡ take r.next items ++ item ∷ []
    = take_more items r.next item within ∙ ap (λ (y : Item). take r.next items ++ y ∷ []) (sym at) in
    record {
      within = omega (arith, within);
      scope_is = e ∙ (ap (λ (s : Scope). with_read s item) is.scope_is
          ∙ (sym (fold-append with_read no_declarations (take r.next items) (item ∷ [])) ∙ ap scope_of (sym longer)));
    }

-- an item that couldn't be added changes nothing
pub reached_same : (items : List Item) (r : Reached) (scope : Scope) → IsReached items r → scope ≡ r.scope
    → IsReached items (record { scope = scope; next = r.next })
reached_same items r scope is e = record { within = is.within; scope_is = e ∙ is.scope_is }

-- a graph with types
pub typed_here : (items : List Item) (i : ℕ) (t : Tree) (g : Flow) (r : Reached) → Some (Parsed t) ≡ slice_get items i → IsReached items r → r.next ≡ i
    → g ≡ with_types (graph_of t) (item_types r.scope t) → Some g ≡ typed_graph items i
typed_here items i t g r e is next own =
    ap Some own ∙ ap (λ (s : Scope). Some (typed_tree s t)) (is.scope_is ∙ ap (λ n. scope_of (take n items)) next)
    ∙ ap (λ (o : Option Item). option_map (typed_tree (scope_of (take i items))) (item_tree o)) e
