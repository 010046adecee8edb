-- The spans of the touches of a tree of a witness, and of a row of such trees.
use Rattle.std.proofs.Common.{◌≡◌, ◌∙◌, ◌<◌, ◌≤◌, ◌+◌, ℕ, suc, List, [], ◌∷◌, ◌++◌, map, drop, length, get_or, Option}
use Rattle.std.proofs.Common.{sym, ap, add-one, append_assoc}
use Rattle.std.proofs.Math.Seq.{drop-cons}
use Rattle.std.proofs.lemmas.List.{append-nil, drop_all, map-append}
use Rattle.c_terms.specs.declared.tree.Tree.{Tree}
use Rattle.smpl_terms.specs.declared.var.Var.{Var}
use Rattle.smpl_terms.specs.declared.value.Value.{Value}
use Rattle.smpl_patch.specs.declared.witness.Witness.{Witness}
use Rattle.smpl_patch.specs.declared.witness.Witness.TheVariants.{Touch, Bind, rolls-Touch, rolls-Bind}
use Rattle.smpl_patch.specs.declared.witness.Witness.TheFolds.{fold-roll-Witness}
use Rattle.wit_places.specs.declared.spans.TokenSpan.{TokenSpan}
use Rattle.wit_places.specs.Touches.{paths, paths_step, touch_paths}
use Rattle.wit_places.specs.Spans.{span_at, touch_spans}

pub paths-Touch : (node atom : ℕ) (path : List ℕ) → paths (Touch node atom path) ≡ path ∷ []
paths-Touch node atom path = ap paths (sym (rolls-Touch node atom path)) ∙ fold-roll-Witness (List (List ℕ)) paths_step _

pub paths-Bind : (node : ℕ) (x : Var) (v : Value) (under : List Witness) → paths (Bind node x v under) ≡ touch_paths under
paths-Bind node x v under = ap paths (sym (rolls-Bind node x v under)) ∙ fold-roll-Witness (List (List ℕ)) paths_step _

module _ (loaded : ℕ) (t : Tree) where
  -- the spans of one tree
  abbrev pub spans_in : Witness → List (Option TokenSpan)
  spans_in w = map (span_at loaded t) (paths w)

  touch_spans-cons : (w : Witness) (ws : List Witness) → touch_spans loaded t (w ∷ ws) ≡ spans_in w ++ touch_spans loaded t ws
  touch_spans-cons w ws = map-append (span_at loaded t) (paths w) (touch_paths ws)

  -- a touch
  pub touch_whole : (old new : List (Option TokenSpan)) (s : Option TokenSpan) (w : Witness) (node atom : ℕ) (path steps : List ℕ)
      → w ≡ Touch node atom path → steps ≡ path → s ≡ span_at loaded t steps → new ≡ old ++ s ∷ [] → new ≡ old ++ spans_in w
  touch_whole old new s w node atom path steps is same span more =
      let one : spans_in w ≡ span_at loaded t path ∷ [] = ap (map (span_at loaded t)) (ap paths is ∙ paths-Touch node atom path) in
      let here : s ≡ span_at loaded t path = span ∙ ap (span_at loaded t) same in
      more ∙ ap (λ r. old ++ r ∷ []) here ∙ ap (λ spans. old ++ spans) (sym one)

  -- the trees under a value
  pub bind_whole : (old : List (Option TokenSpan)) (w : Witness) (node : ℕ) (x : Var) (v : Value) (under ws : List Witness)
      → w ≡ Bind node x v under → ws ≡ under → old ++ touch_spans loaded t ws ≡ old ++ spans_in w
  bind_whole old w node x v under ws is same =
      let all : spans_in w ≡ touch_spans loaded t under = ap (map (span_at loaded t)) (ap paths is ∙ paths-Bind node x v under) in
      ap (λ spans. old ++ spans) (ap (touch_spans loaded t) same ∙ sym all)

  -- one tree more
  pub spans_more : (start done new : List (Option TokenSpan)) (ws : List Witness) (i : ℕ) (w : Witness) → i < length ws → w ≡ get_or ws i w
      → done ++ touch_spans loaded t (drop i ws) ≡ start → new ≡ done ++ spans_in w → new ++ touch_spans loaded t (drop (i + 1) ws) ≡ start
  spans_more start done new ws i w lt at so_far more =
      let here : drop i ws ≡ w ∷ drop (suc i) ws = drop-cons ws i w lt ∙ ap (λ v. v ∷ drop (suc i) ws) (sym at) in
      let rest = touch_spans loaded t (drop (suc i) ws) in
      let both : touch_spans loaded t (drop i ws) ≡ spans_in w ++ rest = ap (touch_spans loaded t) here ∙ touch_spans-cons w (drop (suc i) ws) in
      rw add-one (ap (λ spans. spans ++ rest) more ∙ append_assoc done (spans_in w) rest ∙ ap (λ spans. done ++ spans) (sym both) ∙ so_far)

  -- all trees
  pub spans_end : (start done : List (Option TokenSpan)) (ws : List Witness) (i : ℕ) → length ws ≤ i
      → done ++ touch_spans loaded t (drop i ws) ≡ start → done ≡ start
  spans_end start done ws i le so_far =
      let none : touch_spans loaded t (drop i ws) ≡ [] = ap (touch_spans loaded t) (drop_all i ws le) in
      sym (append-nil done) ∙ ap (λ spans. done ++ spans) (sym none) ∙ so_far
