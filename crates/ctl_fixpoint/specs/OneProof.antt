-- What is known of a graph has one proof, so that a struct may keep it.
use Rattle.std.specs.Prelude.{ℕ, ◌<◌, List, [], ◌∷◌, length, slice_index_or, Option, None, Some, All, IfSome}
use Rattle.std.specs.Coded.{Coded-set, coded_ℕ, ×_prop, Π_prop, Unit-prop, le_prop}
use Rattle.cfg_build.specs.CfgGraph.Flow.{Flow, IsBelow, IsRising, AreLinks, IsSound, count_of}

all-prop : {X : Type 0} (P : X → Type 0) → ((x : X) → IsProp (P x)) → (xs : List X) → IsProp (All P xs)
all-prop P h xs = Π_prop (λ k. Π_prop (λ d. Π_prop (λ lt. h (slice_index_or xs k d))))

-- the numbers are nodes of a graph of `count` nodes
nodes-prop : (count : ℕ) (numbers : List ℕ) → IsProp (All (λ n. n < count) numbers)
nodes-prop count numbers = all-prop (λ n. n < count) (λ n. le_prop) numbers

is_below-prop : (n : ℕ) (ks : List ℕ) → IsProp (IsBelow n ks)
is_below-prop n [] = Unit-prop
is_below-prop n (k ∷ ks) = le_prop

is_rising-prop : (ns : List ℕ) → IsProp (IsRising ns)
is_rising-prop [] = Unit-prop
is_rising-prop (n ∷ ns) = ×_prop (is_below-prop n ns) (is_rising-prop ns)

are_links-prop : (count : ℕ) (numbers : List ℕ) → IsProp (AreLinks count numbers)
are_links-prop count numbers x y = λ i. record {
  some = le_prop x.some y.some i;
  rising = is_rising-prop numbers x.rising y.rising i;
  nodes = nodes-prop count numbers x.nodes y.nodes i;
}

is_past-prop : (count : ℕ) (p : Option ℕ) → IsProp (IfSome p (λ n. n < count))
is_past-prop count None = Unit-prop
is_past-prop count (Some n) = le_prop

pub is_sound-prop : (g : Flow) → IsProp (IsSound g)
is_sound-prop g x y =
    let count = count_of g in
    λ i. record {
      few = le_prop x.few y.few i;
      succ_each = Coded-set coded_ℕ (length g.succ) count x.succ_each y.succ_each i;
      past_each = Coded-set coded_ℕ (length g.past) count x.past_each y.past_each i;
      down_each = Coded-set coded_ℕ (length g.down) count x.down_each y.down_each i;
      succ_links = all-prop (AreLinks count) (are_links-prop count) g.succ x.succ_links y.succ_links i;
      past_nodes = all-prop (λ p. IfSome p (λ n. n < count)) (is_past-prop count) g.past x.past_nodes y.past_nodes i;
      down_nodes = all-prop (λ numbers. All (λ n. n < count) numbers) (nodes-prop count) g.down x.down_nodes y.down_nodes i;
    }
