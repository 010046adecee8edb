-- Parts with numbers of their own, and which of them are left.
use Rattle.std.proofs.Common.{◌≡◌, ◌<◌, ◌≤◌, ◌+◌, ◌==◌, ◌&&◌, ◌||◌, ℕ, Bool, true, false, not, refl, sym, ap, ◌∙◌, arith, map, subst}
use Rattle.std.proofs.Common.{List, [], ◌∷◌, ◌++◌, append_assoc, length}
use Rattle.std.specs.Prelude.{Option, None, Some, if◌then◌else◌}
use Rattle.std.specs.List.{items_where_true, list_any}
use Rattle.std.proofs.lemmas.Bool.{false≢true}
use Rattle.std.proofs.lemmas.Bool.Decides.{nat_tests}
use Rattle.std.proofs.lemmas.List.{append-nil}
use Rattle.c_lexer.specs.Pieces.{TextPiece}
use Rattle.edit_unparse.specs.declared.tidy.parts.Origin.{Origin}
use Rattle.edit_unparse.specs.declared.tidy.parts.TextPart.{TextPart}
use Rattle.edit_unparse.specs.declared.tidy.parts.TextPart.TheVariants.{Old, Cut, New}
use Rattle.edit_unparse.specs.Output.{Part}
use Rattle.edit_unparse.specs.Tidy.Commas.{is_from}
use Rattle.edit_unparse.specs.Tidy.Fallen.{falls_from, has_part, is_origin, numbered, part_number}
use Rattle.edit_unparse.specs.Tidy.Made.{origin_in, origins_in, part_in, parts_in}
use Rattle.edit_unparse.proofs.FallenLemmas.{or_assoc, or_end}

pub other : (a b : ℕ) → b < a → (a == b) ≡ false
other a b less = grind (arith, nat_tests)

other_way : (a b : ℕ) → a < b → (a == b) ≡ false
other_way a b less = grind (arith, nat_tests)

equal : (a b : ℕ) → (a == b) ≡ true → a ≡ b
equal a b e = grind (arith, nat_tests)

same_number : (a : ℕ) → (a == a) ≡ true
same_number a = grind (arith, nat_tests)

below_it : (count n : ℕ) → (count ≤ n → ⊥) → n < count
below_it count n never = omega arith

or_first : (a b : Bool) → (a || b) ≡ false → a ≡ false
or_first true b e = e
or_first false b e = refl

or_second : (a b : Bool) → (a || b) ≡ false → b ≡ false
or_second true b e = absurd (false≢true (sym e))
or_second false b e = e

-- no two of the parts have one number
abbrev pub Apart : List Part → Type 0
Apart [] = Unit {0}
Apart (p ∷ parts) = ((n : ℕ) → is_from n p.from ≡ true → has_part n parts ≡ false) × Apart parts

-- a number that none of them has, none of some of them has
pub none_of : (n : ℕ) (flags : List Bool) (parts : List Part) → has_part n parts ≡ false → has_part n (items_where_true flags parts) ≡ false
none_of n [] [] e = refl
none_of n (f ∷ flags) [] e = refl
none_of n [] (p ∷ parts) e = refl
none_of n (true ∷ flags) (p ∷ parts) e =
    (λ i. or_first (is_from n p.from) (has_part n parts) e i || has_part n (items_where_true flags parts))
    ∙ none_of n flags parts (or_second (is_from n p.from) (has_part n parts) e)
none_of n (false ∷ flags) (p ∷ parts) e = none_of n flags parts (or_second (is_from n p.from) (has_part n parts) e)

gone_by : (n : ℕ) (t b : Bool) (p : Part) (stays : List Bool) (parts : List Part) → is_from n p.from ≡ b → (is_from n p.from ≡ true → has_part n parts ≡ false)
    → has_part n (items_where_true (map not stays) parts) ≡ (has_part n parts && not (has_part n (items_where_true stays parts)))
    → has_part n (items_where_true (map not (t ∷ stays)) (p ∷ parts)) ≡ (has_part n (p ∷ parts) && not (has_part n (items_where_true (t ∷ stays) (p ∷ parts))))
gone_by n true true p stays parts e none rest =
    none_of n (map not stays) parts (none e) ∙ sym (λ i. (e i || has_part n parts) && not (e i || has_part n (items_where_true stays parts)))
gone_by n true false p stays parts e none rest =
    rest ∙ sym (λ i. (e i || has_part n parts) && not (e i || has_part n (items_where_true stays parts)))
gone_by n false true p stays parts e none rest =
    ap (λ (x : Bool). x || has_part n (items_where_true (map not stays) parts)) e
    ∙ sym (λ i. (e i || has_part n parts) && not (none_of n stays parts (none e) i))
gone_by n false false p stays parts e none rest =
    ap (λ (x : Bool). x || has_part n (items_where_true (map not stays) parts)) e
    ∙ rest
    ∙ sym (λ i. (e i || has_part n parts) && not (has_part n (items_where_true stays parts)))

-- those that go are those of all that aren't left
pub gone_are : (n : ℕ) (stays : List Bool) (parts : List Part) → length stays ≡ length parts → Apart parts
    → has_part n (items_where_true (map not stays) parts) ≡ (has_part n parts && not (has_part n (items_where_true stays parts)))
gone_are n [] [] long apart = refl
gone_are n [] (p ∷ parts) long apart = absurd (omega arith)
gone_are n (s ∷ stays) [] long apart = absurd (omega arith)
gone_are n (s ∷ stays) (p ∷ parts) long apart =
    gone_by n s (is_from n p.from) p stays parts refl (apart.0 n) (gone_are n stays parts (omega arith) apart.1)

-- a number below those of new parts
pub below_new : (n next : ℕ) (parts : List Part) → n < next → has_part n (numbered next parts) ≡ has_part n parts
below_new n next [] less = refl
below_new n next (p ∷ parts) less =
    λ i. by p.from i || below_new n (next + 1) parts (omega arith) i
  where
    by : (o : Option ℕ) → is_from n (Some (part_number next o)) ≡ is_from n o
    by None = other next n less
    by (Some m) = refl

pub below_gone : (n next : ℕ) (flags : List Bool) (parts : List Part) → n < next
    → has_part n (items_where_true flags (numbered next parts)) ≡ has_part n (items_where_true flags parts)
below_gone n next [] [] less = refl
below_gone n next (f ∷ flags) [] less = refl
below_gone n next [] (p ∷ parts) less = refl
below_gone n next (true ∷ flags) (p ∷ parts) less =
    λ i. by p.from i || below_gone n (next + 1) flags parts (omega arith) i
  where
    by : (o : Option ℕ) → is_from n (Some (part_number next o)) ≡ is_from n o
    by None = other next n less
    by (Some m) = refl
below_gone n next (false ∷ flags) (p ∷ parts) less = below_gone n (next + 1) flags parts (omega arith)

-- the old pieces among the parts have numbers below this one
abbrev pub AreBelow : ℕ → List Part → Type 0
AreBelow count parts = (n : ℕ) → count ≤ n → has_part n parts ≡ false

below_rest : (count : ℕ) (p : Part) (parts : List Part) → AreBelow count (p ∷ parts) → AreBelow count parts
below_rest count p parts below = λ n most. or_second (is_from n p.from) (has_part n parts) (below n most)

pub numbered_apart : (count next : ℕ) (parts : List Part) → count ≤ next → Apart parts → AreBelow count parts → Apart (numbered next parts)
numbered_apart count next [] most apart below = tt
numbered_apart count next (p ∷ parts) most apart below =
    (λ n e. by n p.from refl e, numbered_apart count (next + 1) parts (omega arith) apart.1 (below_rest count p parts below))
  where
    by : (n : ℕ) (o : Option ℕ) → p.from ≡ o → is_from n (Some (part_number next o)) ≡ true → has_part n (numbered (next + 1) parts) ≡ false
    by n None is e =
        let same : next ≡ n = equal next n e in
        below_new n (next + 1) parts (omega arith) ∙ below_rest count p parts below n (omega arith)
    by n (Some m) is e =
        let own : is_from n p.from ≡ true = ap (is_from n) is ∙ e in
        let less : n < count = below_it count n (λ high. false≢true (sym (or_first (is_from n p.from) (has_part n parts) (below n high)) ∙ own)) in
        below_new n (next + 1) parts (omega arith) ∙ apart.0 n own

-- for each new part: one with its number, which counts up with the parts, is left exactly if its flag says so
abbrev pub Tied : ℕ → List (Option Origin) → List Bool → List Part → Type 0
Tied next [] stays left = Unit {0}
Tied next (o ∷ origins) [] left = ⊥
Tied next (None ∷ origins) (s ∷ stays) left = Tied (next + 1) origins stays left
Tied next (Some o ∷ origins) (s ∷ stays) left = (has_part next left ≡ s) × Tied (next + 1) origins stays left

none_falls : (b rest : Bool) → ((b && false) || rest) ≡ rest
none_falls true rest = refl
none_falls false rest = refl

one_falls : (b rest : Bool) → ((b && true) || rest) ≡ (b || rest)
one_falls true rest = refl
one_falls false rest = refl

pub falls_is : (edit insert offset next : ℕ) (origins : List (Option Origin)) (stays : List Bool) (left : List Part) → Tied next origins stays left
    → list_any (is_origin edit insert offset) (items_where_true (map not stays) origins) ≡ falls_from edit insert offset next origins left
falls_is edit insert offset next [] [] left tied = refl
falls_is edit insert offset next [] (s ∷ stays) left tied = refl
falls_is edit insert offset next (o ∷ origins) [] left tied = absurd tied
falls_is edit insert offset next (None ∷ origins) (true ∷ stays) left tied = falls_is edit insert offset (next + 1) origins stays left tied
falls_is edit insert offset next (None ∷ origins) (false ∷ stays) left tied = falls_is edit insert offset (next + 1) origins stays left tied
falls_is edit insert offset next (Some o ∷ origins) (true ∷ stays) left tied =
    falls_is edit insert offset (next + 1) origins stays left tied.1
    ∙ sym (ap (λ (b : Bool). (is_origin edit insert offset (Some o) && not b) || falls_from edit insert offset (next + 1) origins left) tied.0
    ∙ none_falls (is_origin edit insert offset (Some o)) (falls_from edit insert offset (next + 1) origins left))
falls_is edit insert offset next (Some o ∷ origins) (false ∷ stays) left tied =
    ap (λ (b : Bool). is_origin edit insert offset (Some o) || b) (falls_is edit insert offset (next + 1) origins stays left tied.1)
    ∙ sym (ap (λ (b : Bool). (is_origin edit insert offset (Some o) && not b) || falls_from edit insert offset (next + 1) origins left) tied.0
    ∙ one_falls (is_origin edit insert offset (Some o)) (falls_from edit insert offset (next + 1) origins left))

pub has_append : (n : ℕ) (xs ys : List Part) → has_part n (xs ++ ys) ≡ (has_part n xs || has_part n ys)
has_append n [] ys = refl
has_append n (x ∷ xs) ys = ap (λ (b : Bool). is_from n x.from || b) (has_append n xs ys) ∙ sym (or_assoc (is_from n x.from) (has_part n xs) (has_part n ys))

-- whether a part that stays, or goes, is among those that are left
abbrev one_if : Bool → Part → List Part
one_if s p = if s then p ∷ [] else []

abbrev with_number : ℕ → Part → Part
with_number next p = record { from = Some (part_number next p.from); piece = p.piece }

left_step : (s : Bool) (p : Part) (stays : List Bool) (front parts : List Part) (next : ℕ)
    → front ++ items_where_true (s ∷ stays) (numbered next (p ∷ parts))
    ≡ (front ++ one_if s (with_number next p)) ++ items_where_true stays (numbered (next + 1) parts)
left_step true p stays front parts next = sym (append_assoc front (with_number next p ∷ []) (items_where_true stays (numbered (next + 1) parts)))
left_step false p stays front parts next = ap (λ (l : List Part). l ++ items_where_true stays (numbered (next + 1) parts)) (sym (append-nil front))

-- a later number is not that of a part
later : (count next n : ℕ) (s : Bool) (p : Part) (parts : List Part) → count ≤ next → AreBelow count (p ∷ parts) → next + 1 ≤ n
    → has_part n (one_if s (with_number next p)) ≡ false
later count next n false p parts most below less = refl
later count next n true p parts most below less = or_end (is_from n (Some (part_number next p.from))) ∙ by p.from refl
  where
    by : (o : Option ℕ) → p.from ≡ o → is_from n (Some (part_number next o)) ≡ false
    by None is = other_way next n (omega arith)
    by (Some m) is = sym (ap (is_from n) is) ∙ or_first (is_from n p.from) (has_part n parts) (below n (omega arith))

own_is : (count next : ℕ) (s : Bool) (p : Part) (stays : List Bool) (parts front : List Part) → count ≤ next → AreBelow count (p ∷ parts)
    → has_part next front ≡ false → p.from ≡ None → has_part next (front ++ items_where_true (s ∷ stays) (numbered next (p ∷ parts))) ≡ s
own_is count next true p stays parts front most below none is =
    has_append next front (with_number next p ∷ items_where_true stays (numbered (next + 1) parts))
    ∙ (λ i. none i || (is_from next (Some (part_number next (is i))) || has_part next (items_where_true stays (numbered (next + 1) parts))))
    ∙ ap (λ (b : Bool). b || has_part next (items_where_true stays (numbered (next + 1) parts))) (same_number next)
own_is count next false p stays parts front most below none is =
    has_append next front (items_where_true stays (numbered (next + 1) parts))
    ∙ (λ i. none i || below_gone next (next + 1) stays parts (omega arith) i)
    ∙ none_of next stays parts (below_rest count p parts below next most)

tie_more : (pieces : List TextPiece) (next : ℕ) (x : TextPart) (origins : List (Option Origin)) (s : Bool) (stays : List Bool) (all : List Part)
    → Tied (next + 1) origins stays all → ((part_in pieces x).from ≡ None → has_part next all ≡ s)
    → Tied next (origin_in x ∷ origins) (s ∷ stays) all
tie_more pieces next (Old number) origins s stays all rest own = rest
tie_more pieces next (Cut number text) origins s stays all rest own = rest
tie_more pieces next (New q) origins s stays all rest own = by q.origin
  where
    by : (o : Option Origin) → Tied next (o ∷ origins) (s ∷ stays) all
    by None = rest
    by (Some o) = (own refl, rest)

-- the new parts are left as their flags say
pub ties : (pieces : List TextPiece) (count next : ℕ) (made : List TextPart) (stays : List Bool) (front : List Part) → count ≤ next
    → length stays ≡ length made → AreBelow count (parts_in pieces made) → ((n : ℕ) → next ≤ n → has_part n front ≡ false)
    → Tied next (origins_in made) stays (front ++ items_where_true stays (numbered next (parts_in pieces made)))
ties pieces count next [] stays front most long below none = tt
ties pieces count next (x ∷ made) [] front most long below none = absurd (omega arith)
ties pieces count next (x ∷ made) (s ∷ stays) front most long below none =
    let p = part_in pieces x in
    let parts = parts_in pieces made in
    tie_more pieces next x (origins_in made) s stays (front ++ items_where_true (s ∷ stays) (numbered next (p ∷ parts)))
    (subst (Tied (next + 1) (origins_in made) stays) (sym (left_step s p stays front parts next))
    (ties pieces count (next + 1) made stays (front ++ one_if s (with_number next p)) (omega arith) (omega arith) (below_rest count p parts below)
    (λ n less. has_append n front (one_if s (with_number next p))
    ∙ (λ i. none n (omega arith) i || later count next n s p parts most below less i))))
    (own_is count next s p stays parts front most below (none next (omega arith)))
