-- Tokens that are split at arrows up to some place.
use Rattle.std.proofs.Common.{◌≡◌, ℕ, ◌+◌, ◌<◌, Bool, List, [], ◌∷◌, ◌++◌, length, drop, Option, Some, None, refl, sym, ap, ◌∙◌}
use Rattle.std.proofs.Common.{subst, append_assoc, get_or, arith}
use Rattle.std.proofs.lemmas.List.{append-nil, drop-drop, drop_more}
use Rattle.smpl_lexer.specs.declared.token.PatchToken.{PatchToken}
use Rattle.iso_file.specs.declared.side.Parting.{Parting}
use Rattle.iso_file.specs.Lines.{put}
use Rattle.iso_file.specs.Sides.{arrow_of, sides_in, arrows_in}
use Rattle.iso_file.proofs.Groups.{join_put}
use Rattle.iso_file.specs.Stepped.{join, arrow_first, with_arrow, with_token, sides_with}

-- what is split so far, and what is left
pub record Parts (all left : List PatchToken) (p : Parting) : Type 0 where
  pub sides : sides_with p (sides_in left) ≡ sides_in all
  pub both : p.both ++ arrows_in left ≡ arrows_in all

record Some_more (gs : List (List PatchToken)) : Type 0 where
  first : List PatchToken
  rest : List (List PatchToken)
  is : gs ≡ first ∷ rest

put_some : (t : PatchToken) (gs : List (List PatchToken)) → Some_more (put t gs)
put_some t [] = record { first = t ∷ []; rest = []; is = refl }
put_some t (g ∷ gs) = record { first = t ∷ g; rest = gs; is = refl }

sides_by : (t n : PatchToken) (ts : List PatchToken) (o : Option Bool)
    → Some_more (elim o as (λ x. List (List PatchToken)) [ Some both ↦ [] ∷ sides_in ts | None ↦ put t (sides_in (n ∷ ts)) ])
sides_by t n ts (Some b) = record { first = []; rest = sides_in ts; is = refl }
sides_by t n ts None = put_some t (sides_in (n ∷ ts))

sides_some : (ts : List PatchToken) → Some_more (sides_in ts)
sides_some [] = record { first = []; rest = []; is = refl }
sides_some (t ∷ []) = record { first = t ∷ []; rest = []; is = refl }
sides_some (t ∷ n ∷ ts) = sides_by t n ts (arrow_of t n)

join_none : (gs : List (List PatchToken)) → Some_more gs → join [] gs ≡ gs
join_none gs s = ap (λ (l : List (List PatchToken)). join [] l) s.is ∙ sym s.is

pub parts_first : (all : List PatchToken) → Parts all all (record { both = []; sides = []; side = [] })
parts_first all = record { sides = join_none (sides_in all) (sides_some all); both = refl }

-- a token that begins no arrow
sides_none : (t : PatchToken) (ts : List PatchToken) → arrow_first (t ∷ ts) ≡ None → sides_in (t ∷ ts) ≡ put t (sides_in ts)
sides_none t [] e = refl
sides_none t (n ∷ ts) e = ap (λ (o : Option Bool). elim o as (λ x. List (List PatchToken)) [
  | Some both ↦ [] ∷ sides_in ts
  | None ↦ put t (sides_in (n ∷ ts))
]) e

arrows_none : (t : PatchToken) (ts : List PatchToken) → arrow_first (t ∷ ts) ≡ None → arrows_in (t ∷ ts) ≡ arrows_in ts
arrows_none t [] e = refl
arrows_none t (n ∷ ts) e = ap (λ (o : Option Bool). elim o as (λ x. List Bool) [ Some both ↦ both ∷ arrows_in ts | None ↦ arrows_in (n ∷ ts) ]) e

pub token_more : (all : List PatchToken) (t : PatchToken) (ts : List PatchToken) (p : Parting) → Parts all (t ∷ ts) p
    → arrow_first (t ∷ ts) ≡ None → Parts all ts (with_token t p)
token_more all t ts p so_far e = record {
  sides = ap (λ (gs : List (List PatchToken)). p.sides ++ gs) (join_put p.side t (sides_in ts))
      ∙ ap (λ (gs : List (List PatchToken)). p.sides ++ join p.side gs) (sym (sides_none t ts e)) ∙ so_far.sides;
  both = ap (λ (l : List Bool). p.both ++ l) (sym (arrows_none t ts e)) ∙ so_far.both;
}

pub arrow_more : (all : List PatchToken) (t n : PatchToken) (ts : List PatchToken) (p : Parting) (way : Bool) → Parts all (t ∷ n ∷ ts) p
    → arrow_of t n ≡ Some way → Parts all ts (with_arrow way p)
arrow_more all t n ts p way so_far e =
    let sides_are : sides_in (t ∷ n ∷ ts) ≡ [] ∷ sides_in ts =
    ap (λ (o : Option Bool). elim o as (λ x. List (List PatchToken)) [ Some both ↦ [] ∷ sides_in ts | None ↦ put t (sides_in (n ∷ ts)) ]) e in
    let arrows_are : arrows_in (t ∷ n ∷ ts) ≡ way ∷ arrows_in ts =
    ap (λ (o : Option Bool). elim o as (λ x. List Bool) [ Some both ↦ both ∷ arrows_in ts | None ↦ arrows_in (n ∷ ts) ]) e in
    record {
      sides = ap (λ (gs : List (List PatchToken)). (p.sides ++ p.side ∷ []) ++ gs) (join_none (sides_in ts) (sides_some ts))
          ∙ append_assoc p.sides (p.side ∷ []) (sides_in ts)
          ∙ ap (λ (l : List PatchToken). p.sides ++ l ∷ sides_in ts) (sym (append-nil p.side))
          ∙ ap (λ (gs : List (List PatchToken)). p.sides ++ join p.side gs) (sym sides_are) ∙ so_far.sides;
      both = append_assoc p.both (way ∷ []) (arrows_in ts) ∙ ap (λ (l : List Bool). p.both ++ l) (sym arrows_are) ∙ so_far.both;
    }

pub parts_last : (all left : List PatchToken) (p : Parting) → Parts all left p → left ≡ []
    → (p.both ≡ arrows_in all) × (p.sides ++ p.side ∷ [] ≡ sides_in all)
parts_last all left p so_far none =
    let s = subst (λ (l : List PatchToken). Parts all l p) none so_far in
    (sym (append-nil p.both) ∙ s.both, ap (λ (l : List PatchToken). p.sides ++ l ∷ []) (sym (append-nil p.side)) ∙ s.sides)

-- ---- one more side than arrows

put_length : (t : PatchToken) (gs : List (List PatchToken)) → Some_more gs → length (put t gs) ≡ length gs
put_length t gs s = ap (λ (l : List (List PatchToken)). length (put t l)) s.is ∙ sym (ap (λ (l : List (List PatchToken)). length l) s.is)

pub one_more : (ts : List PatchToken) → length (sides_in ts) ≡ length (arrows_in ts) + 1
one_more [] = refl
one_more (t ∷ []) = refl
one_more (t ∷ n ∷ ts) = by (arrow_of t n) (one_more ts) (one_more (n ∷ ts))
  where
    by : (o : Option Bool) → length (sides_in ts) ≡ length (arrows_in ts) + 1 → length (sides_in (n ∷ ts)) ≡ length (arrows_in (n ∷ ts)) + 1
        → length (elim o as (λ x. List (List PatchToken)) [ Some both ↦ [] ∷ sides_in ts | None ↦ put t (sides_in (n ∷ ts)) ])
        ≡ length (elim o as (λ x. List Bool) [ Some both ↦ both ∷ arrows_in ts | None ↦ arrows_in (n ∷ ts) ]) + 1
    by (Some b) h k = omega (arith, h)
    by None h k = put_length t (sides_in (n ∷ ts)) (sides_some (n ∷ ts)) ∙ k

-- ---- steps

pub arrow_step : (all : List PatchToken) (i : ℕ) (p after : Parting) (way : Bool) → Parts all (drop i all) p → arrow_first (drop i all) ≡ Some way
    → after ≡ with_arrow way p → Parts all (drop (i + 2) all) after
arrow_step all i p after way so_far e is =
    let P : Parting → Type 0 = λ x. Parts all (drop (i + 2) all) x in
    subst P (sym is) (subst (λ (ls : List PatchToken). Parts all ls (with_arrow way p)) (drop-drop 2 i all) (by (drop i all) so_far e))
  where
    by : (ls : List PatchToken) → Parts all ls p → arrow_first ls ≡ Some way → Parts all (drop 2 ls) (with_arrow way p)
    by [] s h = let none : None ≡ Some way = h in cc
    by (t ∷ []) s h = let none : None ≡ Some way = h in cc
    by (t ∷ n ∷ ts) s h = arrow_more all t n ts p way s h

pub token_step : (all : List PatchToken) (i : ℕ) (t : PatchToken) (p after : Parting) → i < length all → t ≡ get_or all i t → Parts all (drop i all) p
    → arrow_first (drop i all) ≡ None → after ≡ with_token t p → Parts all (drop (i + 1) all) after
token_step all i t p after within here so_far e is =
    let left : drop i all ≡ t ∷ drop (i + 1) all = drop_more all i t within ∙ ap (λ (x : PatchToken). x ∷ drop (i + 1) all) (sym here) in
    let first : arrow_first (t ∷ drop (i + 1) all) ≡ None = ap arrow_first (sym left) ∙ e in
    let P : Parting → Type 0 = λ x. Parts all (drop (i + 1) all) x in
    subst P (sym is) (token_more all t (drop (i + 1) all) p (subst (λ (ls : List PatchToken). Parts all ls p) left so_far) first)
