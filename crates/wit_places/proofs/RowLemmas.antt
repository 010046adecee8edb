-- The loaded ids of a row of trees, and the first and the last of them.
use Rattle.std.proofs.Common.{◌≡◌, ◌∙◌, ◌<◌, ◌+◌, ℕ, suc, List, [], ◌∷◌, ◌++◌, map, take, drop, length, get_or, Option, Some, None, slice_get}
use Rattle.std.proofs.Common.{refl, sym, ap, add-one, append_assoc}
use Rattle.std.specs.List.{filter_map, last_or}
use Rattle.std.proofs.Math.Seq.{drop-cons}
use Rattle.std.proofs.lemmas.List.{append-nil, take_more}
use Rattle.std.proofs.lemmas.List.Elements.{filter_map-append}
use Rattle.c_terms.specs.declared.label.Label.{Label}
use Rattle.c_terms.specs.declared.tree.Tree.{Tree}
use Rattle.c_terms.specs.declared.tree.Tree.TheVariants.{Branch}
use Rattle.c_terms.specs.Trees.{join, leaves}
use Rattle.c_terms.proofs.TreeLemmas.{leaves-Branch}
use Rattle.wit_places.specs.Spans.{loaded_id, loaded_ids}

-- ---- the first and the last of numbers that are joined

some_first : (xs ys : List ℕ) (id : ℕ) → Some id ≡ slice_get xs 0 → Some id ≡ slice_get (xs ++ ys) 0
some_first [] ys id h = absurd cc
some_first (x ∷ xs) ys id h = h

none_first : (xs : List ℕ) → None ≡ slice_get xs 0 → xs ≡ []
none_first [] h = refl
none_first (x ∷ xs) h = absurd cc

last_or-append : (xs ys : List ℕ) (o : Option ℕ) → last_or o (xs ++ ys) ≡ last_or (last_or o xs) ys
last_or-append [] ys o = refl
last_or-append (x ∷ xs) ys o = last_or-append xs ys (Some x)

some_last : (xs : List ℕ) (o : Option ℕ) (id : ℕ) → Some id ≡ last_or None xs → Some id ≡ last_or o xs
some_last [] o id h = absurd cc
some_last (x ∷ xs) o id h = h

has_last : (x : ℕ) (xs : List ℕ) → None ≡ last_or (Some x) xs → ⊥
has_last x [] h = cc
has_last x (y ∷ ys) h = has_last y ys h

none_last : (xs : List ℕ) → None ≡ last_or None xs → xs ≡ []
none_last [] h = refl
none_last (x ∷ xs) h = absurd (has_last x xs h)

-- ---- rows of trees

module _ (loaded : ℕ) where
  -- the loaded ids of a row of trees
  abbrev pub row_ids : List Tree → List ℕ
  row_ids ts = filter_map (loaded_id loaded) (join (map leaves ts))

  pub ids-Branch : (l : Label) (cs : List Tree) → loaded_ids loaded (Branch l cs) ≡ row_ids cs
  ids-Branch l cs = ap (filter_map (loaded_id loaded)) (leaves-Branch l cs)

  row_ids-cons : (t : Tree) (ts : List Tree) → row_ids (t ∷ ts) ≡ loaded_ids loaded t ++ row_ids ts
  row_ids-cons t ts = filter_map-append (loaded_id loaded) (leaves t) (join (map leaves ts))

  pub row_ids-append : (ts us : List Tree) → row_ids (ts ++ us) ≡ row_ids ts ++ row_ids us
  row_ids-append [] us = refl
  row_ids-append (t ∷ ts) us =
      row_ids-cons t (ts ++ us) ∙ ap (λ ids. loaded_ids loaded t ++ ids) (row_ids-append ts us)
      ∙ sym (append_assoc (loaded_ids loaded t) (row_ids ts) (row_ids us)) ∙ ap (λ ids. ids ++ row_ids us) (sym (row_ids-cons t ts))

  module _ (ts : List Tree) (i : ℕ) (c : Tree) (lt : i < length ts) (at : c ≡ get_or ts i c) where
    -- those of a tree and of the trees after it
    pub ids_from : row_ids (drop i ts) ≡ loaded_ids loaded c ++ row_ids (drop (i + 1) ts)
    ids_from =
        let here : drop i ts ≡ c ∷ drop (suc i) ts = drop-cons ts i c lt ∙ ap (λ t. t ∷ drop (suc i) ts) (sym at) in
        rw (add-one, here) (row_ids-cons c (drop (suc i) ts))

    -- those of the trees before a tree and of the tree
    ids_upto : row_ids (take (i + 1) ts) ≡ row_ids (take i ts) ++ loaded_ids loaded c
    ids_upto =
        let here : take (i + 1) ts ≡ take i ts ++ c ∷ [] = take_more ts i c lt ∙ ap (λ t. take i ts ++ t ∷ []) (sym at) in
        let one : row_ids (c ∷ []) ≡ loaded_ids loaded c = row_ids-cons c [] ∙ append-nil (loaded_ids loaded c) in
        ap row_ids here ∙ row_ids-append (take i ts) (c ∷ []) ∙ ap (λ ids. row_ids (take i ts) ++ ids) one

    module _ (all : List ℕ) (from : row_ids (drop i ts) ≡ all) where
      -- the first of all is the tree's, if it has one
      pub first_found : (id : ℕ) → Some id ≡ slice_get (loaded_ids loaded c) 0 → Some id ≡ slice_get all 0
      first_found id h =
          some_first (loaded_ids loaded c) (row_ids (drop (i + 1) ts)) id h ∙ ap (λ ids. slice_get ids 0) (sym ids_from ∙ from)

      pub first_later : None ≡ slice_get (loaded_ids loaded c) 0 → row_ids (drop (i + 1) ts) ≡ all
      first_later h = ap (λ ids. ids ++ row_ids (drop (i + 1) ts)) (sym (none_first (loaded_ids loaded c) h)) ∙ sym ids_from ∙ from

    module _ (all : List ℕ) (upto : row_ids (take (i + 1) ts) ≡ all) where
      -- the last of all is the tree's, if it has one
      pub last_found : (id : ℕ) → Some id ≡ last_or None (loaded_ids loaded c) → Some id ≡ last_or None all
      last_found id h =
          some_last (loaded_ids loaded c) (last_or None (row_ids (take i ts))) id h
          ∙ sym (last_or-append (row_ids (take i ts)) (loaded_ids loaded c) None) ∙ ap (last_or None) (sym ids_upto ∙ upto)

      pub last_earlier : None ≡ last_or None (loaded_ids loaded c) → row_ids (take i ts) ≡ all
      last_earlier h =
          sym (append-nil (row_ids (take i ts))) ∙ ap (λ ids. row_ids (take i ts) ++ ids) (sym (none_last (loaded_ids loaded c) h))
          ∙ sym ids_upto ∙ upto
