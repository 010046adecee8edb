-- How a brace changes which blocks are open.
use Rattle.std.proofs.Common.{◌≡◌, ℕ, Bool, true, false, not, ◌&&◌, ◌||◌, refl, sym, ap, ◌∙◌, Option, Some, slice_get}
use Rattle.cfg_build.specs.declared.cfg_graph.label.NodeLabel.{NodeLabel}
use Rattle.cfg_build.specs.CfgGraph.Flow.{Flow}
use Rattle.smpl_terms.specs.declared.value.Value.{Value}
use Rattle.smpl_terms.specs.declared.value.Value.TheVariants.{Place}
use Rattle.smpl_terms.specs.Values.{same}
use Rattle.ctl_fixpoint.specs.CtlHolds.Holding.{passes_label, at_node, is_open, is_close, is_brace}

pub twice : (a : Bool) → not (not a) ≡ a
twice true = refl
twice false = refl

-- p: the node is a `{`, q: it is a `}`, x: its block is the given one, a: that block was open before it
opens : (p q x a : Bool) → p ≡ true → (a || x) ≡ ((p && x) || (not (q && x) && a))
opens true q true true h = refl
opens true q true false h = refl
opens true true false true h = refl
opens true true false false h = refl
opens true false false true h = refl
opens true false false false h = refl
opens false q x a h = absurd cc

closes : (p q x a : Bool) → p ≡ false → q ≡ true → (a && not x) ≡ ((p && x) || (not (q && x) && a))
closes false true true true h k = refl
closes false true true false h k = refl
closes false true false true h k = refl
closes false true false false h k = refl
closes true q x a h k = absurd cc
closes false false x a h k = absurd cc

passes : (p q x a : Bool) → p ≡ false → q ≡ false → a ≡ ((p && x) || (not (q && x) && a))
passes false false x a h k = refl
passes true q x a h k = absurd cc
passes false true x a h k = absurd cc

-- d: the block was closed before the node
opens-shut : (p q x d : Bool) → p ≡ true → (d && not x) ≡ not ((p && x) || (not (q && x) && not d))
opens-shut true q true true h = refl
opens-shut true q true false h = refl
opens-shut true true false true h = refl
opens-shut true true false false h = refl
opens-shut true false false true h = refl
opens-shut true false false false h = refl
opens-shut false q x d h = absurd cc

closes-shut : (p q x d : Bool) → p ≡ false → q ≡ true → (d || x) ≡ not ((p && x) || (not (q && x) && not d))
closes-shut false true true true h k = refl
closes-shut false true true false h k = refl
closes-shut false true false true h k = refl
closes-shut false true false false h k = refl
closes-shut true q x d h k = absurd cc
closes-shut false false x d h k = absurd cc

passes-shut : (p q x d : Bool) → p ≡ false → q ≡ false → d ≡ not ((p && x) || (not (q && x) && not d))
passes-shut false false x true h k = refl
passes-shut false false x false h k = refl
passes-shut true q x d h k = absurd cc
passes-shut false true x d h k = absurd cc

-- the end of the block is neither inside nor outside it
ends : (q x d : Bool) → q ≡ true → (d && not x) ≡ (not (q && x) && d)
ends true true true h = refl
ends true true false h = refl
ends true false true h = refl
ends true false false h = refl
ends false x d h = absurd cc

ends-not : (q x d : Bool) → q ≡ false → d ≡ (not (q && x) && d)
ends-not false x d h = refl
ends-not true x d h = absurd cc

-- the same at a node with this label
module _ (g : Flow) (s : ℕ) (l : NodeLabel) (e : slice_get g.labels s ≡ Some l) (v : Value) where
  abbrev x : Bool
  x = same (Place l.brace) v

  at-label : (test : NodeLabel → Bool) → test l ≡ at_node g s test
  at-label test = sym (ap (passes_label test) e)

  abbrev after : Bool → NodeLabel → Bool
  after a = λ l. is_brace is_open v l || (not (is_brace is_close v l) && a)

  pub open-brace : (a : Bool) → is_open l.kind ≡ true → (a || x) ≡ at_node g s (after a)
  open-brace a h = opens (is_open l.kind) (is_close l.kind) x a h ∙ at-label (after a)

  pub close-brace : (a : Bool) → is_open l.kind ≡ false → is_close l.kind ≡ true → (a && not x) ≡ at_node g s (after a)
  close-brace a h k = closes (is_open l.kind) (is_close l.kind) x a h k ∙ at-label (after a)

  pub no-brace : (a : Bool) → is_open l.kind ≡ false → is_close l.kind ≡ false → a ≡ at_node g s (after a)
  no-brace a h k = passes (is_open l.kind) (is_close l.kind) x a h k ∙ at-label (after a)

  pub open-brace_shut : (d : Bool) → is_open l.kind ≡ true → (d && not x) ≡ not (at_node g s (after (not d)))
  open-brace_shut d h = opens-shut (is_open l.kind) (is_close l.kind) x d h ∙ ap not (at-label (after (not d)))

  pub close-brace_shut : (d : Bool) → is_open l.kind ≡ false → is_close l.kind ≡ true
      → (d || x) ≡ not (at_node g s (after (not d)))
  close-brace_shut d h k = closes-shut (is_open l.kind) (is_close l.kind) x d h k ∙ ap not (at-label (after (not d)))

  pub no-brace_shut : (d : Bool) → is_open l.kind ≡ false → is_close l.kind ≡ false
      → d ≡ not (at_node g s (after (not d)))
  no-brace_shut d h k = passes-shut (is_open l.kind) (is_close l.kind) x d h k ∙ ap not (at-label (after (not d)))

  abbrev other : Bool → NodeLabel → Bool
  other d = λ l. not (is_brace is_close v l) && d

  pub end-of_block : (d : Bool) → is_close l.kind ≡ true → (d && not x) ≡ at_node g s (other d)
  end-of_block d h = ends (is_close l.kind) x d h ∙ at-label (other d)

  pub no-end : (d : Bool) → is_close l.kind ≡ false → d ≡ at_node g s (other d)
  no-end d h = ends-not (is_close l.kind) x d h ∙ at-label (other d)
