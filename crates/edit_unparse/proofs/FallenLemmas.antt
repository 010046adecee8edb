-- Which parts go, by their flags: one part after another.
use Rattle.std.proofs.Common.{◌≡◌, ◌<◌, ◌≤◌, ◌+◌, ◌&&◌, ◌||◌, ℕ, Bool, true, false, not, refl, sym, ap, ◌∙◌, arith, map}
use Rattle.std.proofs.Common.{List, [], ◌∷◌, length, get_or, drop}
use Rattle.std.specs.Prelude.{if◌then◌else◌}
use Rattle.std.specs.List.{items_where_true, list_any}
use Rattle.std.proofs.lemmas.List.{drop_all, drop_more}

pub or_none : (a b : Bool) → ((a || false) || b) ≡ (a || b)
or_none true b = refl
or_none false b = refl

pub or_assoc : (a b c : Bool) → ((a || b) || c) ≡ (a || (b || c))
or_assoc true b c = refl
or_assoc false b c = refl

pub or_end : (a : Bool) → (a || false) ≡ a
or_end true = refl
or_end false = refl

more_by : {X Y : Type 0} (f : X → Y) (test : Y → Bool) (s : Bool) (x : X) (stays : List Bool) (xs : List X) (old : Bool)
    → ((old || (not s && test (f x))) || list_any test (items_where_true (map not stays) (map f xs)))
    ≡ (old || list_any test (items_where_true (map not (s ∷ stays)) (map f (x ∷ xs))))
more_by f test true x stays xs old = or_none old (list_any test (items_where_true (map not stays) (map f xs)))
more_by f test false x stays xs old = or_assoc old (test (f x)) (list_any test (items_where_true (map not stays) (map f xs)))

-- one part more: whether one of those that go passes a test
pub any_more : {X Y : Type 0} (f : X → Y) (test : Y → Bool) (stays : List Bool) (xs : List X) (i : ℕ) (s : Bool) (x : X) (old new all : Bool)
    → i < length stays → i < length xs → s ≡ get_or stays i false → x ≡ get_or xs i x → new ≡ (old || (not s && test (f x)))
    → (old || list_any test (items_where_true (map not (drop i stays)) (map f (drop i xs)))) ≡ all
    → (new || list_any test (items_where_true (map not (drop (i + 1) stays)) (map f (drop (i + 1) xs)))) ≡ all
any_more {X} {Y} f test stays xs i s x old new all less within s_is x_is new_is before =
    let flags : drop i stays ≡ s ∷ drop (i + 1) stays =
    drop_more stays i false less ∙ ap (λ (b : Bool). b ∷ drop (i + 1) stays) (sym s_is) in
    let items : drop i xs ≡ x ∷ drop (i + 1) xs = drop_more xs i x within ∙ ap (λ (y : X). y ∷ drop (i + 1) xs) (sym x_is) in
    ap (λ (b : Bool). b || list_any test (items_where_true (map not (drop (i + 1) stays)) (map f (drop (i + 1) xs)))) new_is
    ∙ more_by f test s x (drop (i + 1) stays) (drop (i + 1) xs) old
    ∙ sym (λ j. old || list_any test (items_where_true (map not (flags j)) (map f (items j))))
    ∙ before

pub any_end : {X Y : Type 0} (f : X → Y) (test : Y → Bool) (stays : List Bool) (xs : List X) (i : ℕ) (old all : Bool)
    → length stays ≡ length xs → length xs ≤ i → (old || list_any test (items_where_true (map not (drop i stays)) (map f (drop i xs)))) ≡ all → old ≡ all
any_end {X} {Y} f test stays xs i old all long past before =
    let flags : drop i stays ≡ [] = drop_all i stays (omega arith) in
    let items : drop i xs ≡ [] = drop_all i xs past in
    sym (or_end old)
    ∙ sym (λ j. old || list_any test (items_where_true (map not (flags j)) (map f (items j))))
    ∙ before

pub if_or : (b old : Bool) → (if b then true else old) ≡ (old || b)
if_or true true = refl
if_or true false = refl
if_or false true = refl
if_or false false = refl
