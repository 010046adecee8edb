-- The local names in a branch, with one more child.
use Rattle.std.proofs.Common.{◌≡◌, ℕ, suc, ◌+◌, ◌<◌, ◌≤◌, Bool, true, false, cond, refl, sym, ap, ◌∙◌, arith}
use Rattle.std.proofs.Common.{List, [], ◌∷◌, ◌++◌, map, length, drop, get_or, append_assoc}
use Rattle.std.specs.List.{flat_map}
use Rattle.std.proofs.lemmas.List.{append-nil}
use Rattle.std.proofs.lemmas.Grind.{flat_map-append}
use Rattle.c_terms.specs.declared.token.Token.{Token}
use Rattle.c_terms.specs.declared.label.Label.{Label}
use Rattle.c_terms.specs.declared.tree.Tree.{Tree}
use Rattle.c_terms.specs.declared.tree.Tree.TheVariants.{Leaf, Branch}
use Rattle.c_terms.specs.Shapes.{is_expression_part}
use Rattle.c_terms.specs.Places.{Place, below, part_at, parts, parts_from}
use Rattle.c_terms.proofs.PlaceLaws.{child_known, parts-Branch, parts-Leaf}
use Rattle.c_typing.specs.declared.binding.Binding.{Binding}
use Rattle.c_typing.specs.Parts.{declared_around}
use Rattle.c_typing.specs.Locals.{local, locals_under, child_locals}
use Rattle.c_types.proofs.JoinLemmas.{left-next, dropped}
use Rattle.c_typing.proofs.PartLemmas.{before, around-child}

module _ (names : List Binding) where
  -- the id of the expression at a place in a tree, if it is a local name
  abbrev pub local_at : Tree → Place → List ℕ
  local_at t p = local (names ++ declared_around t p.path) p.tree

  -- those from child i on
  abbrev pub locals_from : Label → List Tree → ℕ → List ℕ
  locals_from l cs i = flat_map (local_at (Branch l cs)) (parts_from is_expression_part l i (map (child_known is_expression_part) (drop i cs)))

  pub locals-leaf : (a : Token) → locals_under names (Leaf a) ≡ []
  locals-leaf a = ap (flat_map (local_at (Leaf a))) (parts-Leaf is_expression_part a)

  pub locals-start : (l : Label) (cs : List Tree) → locals_from l cs 0 ≡ locals_under names (Branch l cs)
  locals-start l cs = ap (flat_map (local_at (Branch l cs))) (sym (parts-Branch is_expression_part l cs))

  module _ (l : Label) (cs : List Tree) (i : ℕ) (c : Tree) (lt : i < length cs) (e : c ≡ get_or cs i c) where
    local-below : (p : Place) → local_at (Branch l cs) (below i p) ≡ local ((names ++ before l cs i) ++ declared_around c p.path) p.tree
    local-below p =
        ap (λ ns. local (names ++ ns) p.tree) (around-child l cs i c p.path lt e)
        ∙ ap (λ ns. local ns p.tree) (sym (append_assoc names (before l cs i) (declared_around c p.path)))

    locals-below : (ps : List Place) → flat_map (local_at (Branch l cs)) (map (below i) ps)
        ≡ flat_map (λ (p : Place). local ((names ++ before l cs i) ++ declared_around c p.path) p.tree) ps
    locals-below [] = refl
    locals-below (p ∷ ps) = let h = local-below p in let r = locals-below ps in λ j. h j ++ r j

    locals-own : flat_map (local_at (Branch l cs)) (part_at is_expression_part l i c)
        ≡ cond (is_expression_part l i c) (local (names ++ before l cs i) c) []
    locals-own = by (is_expression_part l i c)
      where
        own : local_at (Branch l cs) (record { path = i ∷ []; tree = c }) ≡ local (names ++ before l cs i) c
        own = local-below (record { path = []; tree = c }) ∙ ap (λ ns. local ns c) (append-nil (names ++ before l cs i))

        by : (b : Bool) → flat_map (local_at (Branch l cs)) (cond b (record { path = i ∷ []; tree = c } ∷ []) [])
            ≡ cond b (local (names ++ before l cs i) c) []
        by true = append-nil (local_at (Branch l cs) (record { path = i ∷ []; tree = c })) ∙ own
        by false = refl

    -- those of child i, and those from the next child on
    locals-step : locals_from l cs i ≡ child_locals (is_expression_part l i c) (names ++ before l cs i) c ++ locals_from l cs (i + 1)
    locals-step =
        let one : i + 1 ≡ suc i = omega arith in
        let f = local_at (Branch l cs) in
        let own = part_at is_expression_part l i c in
        let deep = map (below i) (parts is_expression_part c) in
        let rest = parts_from is_expression_part l (suc i) (map (child_known is_expression_part) (drop (i + 1) cs)) in
        let o = locals-own in
        let b = locals-below (parts is_expression_part c) in
        ap (λ ts. flat_map f (parts_from is_expression_part l i (map (child_known is_expression_part) ts))) (left-next cs i c lt e)
        ∙ flat_map-append f (own ++ deep) rest ∙ ap (λ ts. ts ++ flat_map f rest) (flat_map-append f own deep)
        ∙ (λ j. (o j ++ b j) ++ flat_map f (parts_from is_expression_part l (sym one j) (map (child_known is_expression_part) (drop (i + 1) cs))))

    pub locals-more : (own after all : List ℕ) (b : Bool) → b ≡ is_expression_part l i c
        → after ≡ own ++ child_locals b (names ++ before l cs i) c → own ++ locals_from l cs i ≡ all → after ++ locals_from l cs (i + 1) ≡ all
    locals-more own after all b f g h =
        let mine = child_locals (is_expression_part l i c) (names ++ before l cs i) c in
        let now : after ≡ own ++ mine = g ∙ ap (λ t. own ++ child_locals t (names ++ before l cs i) c) f in
        ap (λ xs. xs ++ locals_from l cs (i + 1)) now ∙ append_assoc own mine (locals_from l cs (i + 1))
        ∙ ap (λ xs. own ++ xs) (sym locals-step) ∙ h

  pub locals-end : (l : Label) (cs : List Tree) (i : ℕ) (own all : List ℕ) → length cs ≤ i → own ++ locals_from l cs i ≡ all → own ≡ all
  locals-end l cs i own all past h =
      sym (append-nil own)
      ∙ ap (λ ts. own ++ flat_map (local_at (Branch l cs)) (parts_from is_expression_part l i (map (child_known is_expression_part) ts)))
      (sym (dropped cs i past)) ∙ h
