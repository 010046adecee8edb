-- The parts of a list, between its brackets.
use Rattle.std.proofs.Common.{◌≡◌, ◌<◌, ◌≤◌, ◌+◌, ◌&&◌, ℕ, zero, suc, Bool, true, false, not, refl, sym, ap, ◌∙◌, arith, map, cond}
use Rattle.std.proofs.Common.{List, [], ◌∷◌, ◌++◌, append_assoc, length, length-drop, length-take, get_or, take, drop, take-append-drop}
use Rattle.std.specs.Prelude.{None, if◌then◌else◌}
use Rattle.std.specs.List.{items_where_true, position_or_len}
use Rattle.std.proofs.lemmas.List.{append-nil, drop-map, drop_all, drop_more, length-map, take-map, take_all, take_more}
use Rattle.c_lexer.specs.declared.piece.PieceKind.TheVariants.{Blank}
use Rattle.tidy_flags.specs.declared.signs.Sign.{Sign}
use Rattle.edit_unparse.specs.Output.{Part}
use Rattle.tidy_flags.specs.Signs.{list_start}
use Rattle.edit_unparse.specs.Tidy.Commas.{front_of, inside, is_from, rest_of, sign_of, with_list, without_commas}
use Rattle.tidy_flags.specs.Clearing.{comma_flags, early_flags}
use Rattle.edit_unparse.specs.Tidy.Clearing.{place_of}
use Rattle.tidy_flags.proofs.ClearLemmas.{last_is}
use Rattle.edit_unparse.proofs.CommaLemmas.{commas_are, early_length, left_length}

kept-append : (f1 f2 : List Bool) (p1 p2 : List Part) → length f1 ≡ length p1
    → items_where_true (f1 ++ f2) (p1 ++ p2) ≡ items_where_true f1 p1 ++ items_where_true f2 p2
kept-append [] f2 [] p2 long = refl
kept-append [] f2 (p ∷ p1) p2 long = absurd (omega arith)
kept-append (f ∷ f1) f2 [] p2 long = absurd (omega arith)
kept-append (true ∷ f1) f2 (p ∷ p1) p2 long = ap (λ (l : List Part). p ∷ l) (kept-append f1 f2 p1 p2 (omega arith))
kept-append (false ∷ f1) f2 (p ∷ p1) p2 long = kept-append f1 f2 p1 p2 (omega arith)

front_is : (n : ℕ) (flags : List Bool) (parts : List Part) → length flags ≡ length parts
    → front_of n (items_where_true flags parts) ≡ items_where_true (take (place_of n flags parts) flags) (take (place_of n flags parts) parts)
front_is n [] [] long = refl
front_is n [] (p ∷ parts) long = absurd (omega arith)
front_is n (f ∷ flags) [] long = absurd (omega arith)
front_is n (f ∷ flags) (p ∷ parts) long = by f (is_from n p.from) refl (front_is n flags parts (omega arith))
  where
    next : place_of n flags parts + 1 ≡ suc (place_of n flags parts)
    next = omega arith

    by : (g b : Bool) → is_from n p.from ≡ b
        → front_of n (items_where_true flags parts) ≡ items_where_true (take (place_of n flags parts) flags) (take (place_of n flags parts) parts)
        → front_of n (items_where_true (g ∷ flags) (p ∷ parts))
        ≡ (let k : ℕ = if g && b then 0 else place_of n flags parts + 1 in items_where_true (take k (g ∷ flags)) (take k (p ∷ parts)))
    by true true e rest = ap (λ (x : Bool). if x then [] else p ∷ front_of n (items_where_true flags parts)) e
    by true false e rest =
        ap (λ (x : Bool). if x then [] else p ∷ front_of n (items_where_true flags parts)) e
        ∙ ap (λ (l : List Part). p ∷ l) rest
        ∙ sym (λ i. items_where_true (take (next i) (true ∷ flags)) (take (next i) (p ∷ parts)))
    by false true e rest = rest ∙ sym (λ i. items_where_true (take (next i) (false ∷ flags)) (take (next i) (p ∷ parts)))
    by false false e rest = rest ∙ sym (λ i. items_where_true (take (next i) (false ∷ flags)) (take (next i) (p ∷ parts)))

rest_is : (n : ℕ) (flags : List Bool) (parts : List Part) → length flags ≡ length parts
    → rest_of n (items_where_true flags parts) ≡ items_where_true (drop (place_of n flags parts) flags) (drop (place_of n flags parts) parts)
rest_is n [] [] long = refl
rest_is n [] (p ∷ parts) long = absurd (omega arith)
rest_is n (f ∷ flags) [] long = absurd (omega arith)
rest_is n (f ∷ flags) (p ∷ parts) long = by f (is_from n p.from) refl (rest_is n flags parts (omega arith))
  where
    next : place_of n flags parts + 1 ≡ suc (place_of n flags parts)
    next = omega arith

    by : (g b : Bool) → is_from n p.from ≡ b
        → rest_of n (items_where_true flags parts) ≡ items_where_true (drop (place_of n flags parts) flags) (drop (place_of n flags parts) parts)
        → rest_of n (items_where_true (g ∷ flags) (p ∷ parts))
        ≡ (let k : ℕ = if g && b then 0 else place_of n flags parts + 1 in items_where_true (drop k (g ∷ flags)) (drop k (p ∷ parts)))
    by true true e rest = ap (λ (x : Bool). if x then p ∷ items_where_true flags parts else rest_of n (items_where_true flags parts)) e
    by true false e rest =
        ap (λ (x : Bool). if x then p ∷ items_where_true flags parts else rest_of n (items_where_true flags parts)) e
        ∙ rest
        ∙ sym (λ i. items_where_true (drop (next i) (true ∷ flags)) (drop (next i) (p ∷ parts)))
    by false true e rest = rest ∙ sym (λ i. items_where_true (drop (next i) (false ∷ flags)) (drop (next i) (p ∷ parts)))
    by false false e rest = rest ∙ sym (λ i. items_where_true (drop (next i) (false ∷ flags)) (drop (next i) (p ∷ parts)))

pub place_most : (n : ℕ) (flags : List Bool) (parts : List Part) → length flags ≡ length parts → place_of n flags parts ≤ length parts
place_most n [] [] long = omega arith
place_most n (f ∷ flags) [] long = absurd (omega arith)
place_most n [] (p ∷ parts) long = absurd (omega arith)
place_most n (f ∷ flags) (p ∷ parts) long = by (f && is_from n p.from) (place_most n flags parts (omega arith))
  where
    by : (b : Bool) → place_of n flags parts ≤ length parts → (let k : ℕ = if b then 0 else place_of n flags parts + 1 in k) ≤ suc (length parts)
    by true most = omega arith
    by false most = omega arith

-- the part that was found stays
place_stays : (n : ℕ) (flags : List Bool) (parts : List Part) → length flags ≡ length parts → place_of n flags parts < length parts
    → get_or flags (place_of n flags parts) false ≡ true
place_stays n flags [] long less = absurd (omega arith)
place_stays n [] (p ∷ parts) long less = absurd (omega arith)
place_stays n (f ∷ flags) (p ∷ parts) long less = by f (is_from n p.from) (λ l. place_stays n flags parts (omega arith) l) less
  where
    next : place_of n flags parts + 1 ≡ suc (place_of n flags parts)
    next = omega arith

    later : (place_of n flags parts < length parts → get_or flags (place_of n flags parts) false ≡ true)
        → place_of n flags parts + 1 < suc (length parts) → (g : Bool) → get_or (g ∷ flags) (place_of n flags parts + 1) false ≡ true
    later more fits g = ap (λ (k : ℕ). get_or (g ∷ flags) k false) next ∙ more (omega arith)

    by : (g b : Bool) → (place_of n flags parts < length parts → get_or flags (place_of n flags parts) false ≡ true)
        → (let k : ℕ = if g && b then 0 else place_of n flags parts + 1 in k) < suc (length parts)
        → get_or (g ∷ flags) (if g && b then 0 else place_of n flags parts + 1) false ≡ true
    by true true more fits = refl
    by true false more fits = later more fits true
    by false true more fits = later more fits false
    by false false more fits = later more fits false

-- the search from a place before which the part isn't
pub place_from : (n : ℕ) (flags : List Bool) (parts : List Part) (from : ℕ) → length flags ≡ length parts
    → from ≤ position_or_len (λ p. is_from n p.from) parts → place_of n flags parts ≡ from + place_of n (drop from flags) (drop from parts)
place_from n flags parts zero long most = omega arith
place_from n flags [] (suc from) long most = absurd (omega arith)
place_from n [] (p ∷ parts) (suc from) long most = absurd (omega arith)
place_from n (f ∷ flags) (p ∷ parts) (suc from) long most = by f (is_from n p.from) (λ m. place_from n flags parts from (omega arith) m) most
  where
    by : (g b : Bool) → (from ≤ position_or_len (λ q. is_from n q.from) parts → place_of n flags parts ≡ from + place_of n (drop from flags) (drop from parts))
        → suc from ≤ cond (not b) (1 + position_or_len (λ q. is_from n q.from) parts) 0
        → (let k : ℕ = if g && b then 0 else place_of n flags parts + 1 in k) ≡ suc from + place_of n (drop from flags) (drop from parts)
    by g true more fits = absurd (omega arith)
    by true false more fits = let rest : place_of n flags parts ≡ from + place_of n (drop from flags) (drop from parts) = more (omega arith) in omega arith
    by false false more fits = let rest : place_of n flags parts ≡ from + place_of n (drop from flags) (drop from parts) = more (omega arith) in omega arith

-- one part more from the back
pub position_back : (test : Part → Bool) (parts : List Part) (at : ℕ) (p : Part) (b : Bool) → at < length parts → p ≡ get_or parts at p → test p ≡ b
    → at + position_or_len test (drop at parts) ≡ (if b then at else at + 1 + position_or_len test (drop (at + 1) parts))
position_back test parts at p b within is e =
    let here : drop at parts ≡ p ∷ drop (at + 1) parts = drop_more parts at p within ∙ ap (λ (x : Part). x ∷ drop (at + 1) parts) (sym is) in
    ap (λ (l : List Part). at + position_or_len test l) here
    ∙ ap (λ (x : Bool). at + cond (not x) (1 + position_or_len test (drop (at + 1) parts)) 0) e
    ∙ elim b as (λ x. at + cond (not x) (1 + position_or_len test (drop (at + 1) parts)) 0
    ≡ (if x then at else at + 1 + position_or_len test (drop (at + 1) parts))) [ true ↦ omega arith | false ↦ omega arith ]

comma_length : (may_end : Bool) (signs : List Sign) (flags : List Bool) → length flags ≡ length signs → length (comma_flags may_end signs flags) ≡ length signs
comma_length true signs flags long = early_length list_start signs flags long
comma_length false signs flags long =
    let early = early_length list_start signs flags long in
    ap length (last_is signs (early_flags list_start signs flags) early) ∙ left_length 0 signs (early_flags list_start signs flags) early

module _ (may_end : Bool) (begin close : ℕ) (parts : List Part) (signs : List Sign) (flags : List Bool)
    (long : length flags ≡ length parts) (are : signs ≡ map sign_of parts) where
  abbrev all : List Part
  all = items_where_true flags parts

  -- there is no such list
  pub list_none : length parts ≤ place_of begin flags parts → all ≡ with_list may_end begin close all
  list_none past =
      let k = place_of begin flags parts in
      let fits : length flags ≤ k = omega arith in
      let front : front_of begin all ≡ all =
      front_is begin flags parts long ∙ (λ i. items_where_true (take_all k flags fits i) (take_all k parts past i)) in
      let rest : rest_of begin all ≡ [] =
      rest_is begin flags parts long ∙ (λ i. items_where_true (drop_all k flags fits i) (drop_all k parts past i)) in
      sym ((λ i. front i ++ inside may_end close (rest i)) ∙ append-nil all)

  module _ (start : ℕ) (here : start ≡ place_of begin flags parts) (within : start < length parts) where
    abbrev later_flags : List Bool
    later_flags = drop (start + 1) flags

    abbrev later : List Part
    later = drop (start + 1) parts

    abbrev opening : Part
    opening = get_or parts start (record { from = None; piece = record { kind = Blank; text = [] } })

    later_long : length later_flags ≡ length later
    later_long = omega (arith, length-drop (start + 1) flags, length-drop (start + 1) parts, long)

    stays : get_or flags start false ≡ true
    stays = ap (λ (k : ℕ). get_or flags k false) here ∙ place_stays begin flags parts long (omega arith)

    fits : start < length flags
    fits = omega arith

    front : front_of begin all ≡ items_where_true (take start flags) (take start parts)
    front = front_is begin flags parts long ∙ sym (λ i. items_where_true (take (here i) flags) (take (here i) parts))

    rest : rest_of begin all ≡ opening ∷ items_where_true later_flags later
    rest = rest_is begin flags parts long
        ∙ sym (λ i. items_where_true (drop (here i) flags) (drop (here i) parts))
        ∙ (λ i. items_where_true ((drop_more flags start false fits ∙ ap (λ (x : Bool). x ∷ later_flags) stays) i)
        (drop_more parts start (record { from = None; piece = record { kind = Blank; text = [] } }) within i))

    take_long : (k : ℕ) → length (take k flags) ≡ length (take k parts)
    take_long k = omega (arith, length-take k flags, length-take k parts, long)

    take_later : (k : ℕ) → length (take k later_flags) ≡ length (take k later)
    take_later k = omega (arith, length-take k later_flags, length-take k later, later_long)

    to_opening : items_where_true (take (start + 1) flags) (take (start + 1) parts) ≡ front_of begin all ++ opening ∷ []
    to_opening =
        (λ i. items_where_true ((take_more flags start false fits ∙ ap (λ (x : Bool). take start flags ++ x ∷ []) stays) i)
        (take_more parts start (record { from = None; piece = record { kind = Blank; text = [] } }) within i))
        ∙ kept-append (take start flags) (true ∷ []) (take start parts) (opening ∷ []) (take_long start)
        ∙ ap (λ (l : List Part). l ++ opening ∷ []) (sym front)

    -- the flags after the commas have been cleared
    pub list_some : (m : ℕ) (new : List Bool) → m ≡ place_of close later_flags later
        → new ≡ take (start + 1) flags ++ (comma_flags may_end (take m (drop (start + 1) signs)) (take m later_flags) ++ drop m later_flags)
        → items_where_true new parts ≡ with_list may_end begin close all
    list_some m new count is =
        let own = comma_flags may_end (take m (drop (start + 1) signs)) (take m later_flags) in
        let own_signs : take m (drop (start + 1) signs) ≡ map sign_of (take m later) =
        ap (λ (l : List Sign). take m (drop (start + 1) l)) are ∙ ap (take m) (drop-map sign_of (start + 1) parts) ∙ take-map sign_of m later in
        let signs_long : length (take m (drop (start + 1) signs)) ≡ length (take m later) = ap length own_signs ∙ length-map (take m later) sign_of in
        let own_long : length own ≡ length (take m later) =
        comma_length may_end (take m (drop (start + 1) signs)) (take m later_flags) (take_later m ∙ sym signs_long) ∙ signs_long in
        let whole : parts ≡ take (start + 1) parts ++ (take m later ++ drop m later) =
        sym (take-append-drop (start + 1) parts) ∙ ap (λ (l : List Part). take (start + 1) parts ++ l) (sym (take-append-drop m later)) in
        let middle : items_where_true own (take m later) ≡ without_commas may_end (front_of close (items_where_true later_flags later)) =
        commas_are may_end (take m later) (take m (drop (start + 1) signs)) (take m later_flags) own_signs (take_later m)
        ∙ ap (without_commas may_end) ((λ i. items_where_true (take (count i) later_flags) (take (count i) later))
        ∙ sym (front_is close later_flags later later_long)) in
        let behind : items_where_true (drop m later_flags) (drop m later) ≡ rest_of close (items_where_true later_flags later) =
        (λ i. items_where_true (drop (count i) later_flags) (drop (count i) later)) ∙ sym (rest_is close later_flags later later_long) in
        let inner = without_commas may_end (front_of close (items_where_true later_flags later)) ++ rest_of close (items_where_true later_flags later) in
        (λ i. items_where_true (is i) (whole i))
        ∙ kept-append (take (start + 1) flags) (own ++ drop m later_flags) (take (start + 1) parts) (take m later ++ drop m later) (take_long (start + 1))
        ∙ (λ i. to_opening i ++ (kept-append own (drop m later_flags) (take m later) (drop m later) own_long ∙ (λ j. middle j ++ behind j)) i)
        ∙ append_assoc (front_of begin all) (opening ∷ []) inner
        ∙ ap (λ (l : List Part). front_of begin all ++ inside may_end close l) (sym rest)
