-- Depths, names, lists and braces of a layout.
use Rattle.std.proofs.Common.{◌≡◌, ◌<◌, ◌≤◌, ◌+◌, ◌&&◌, ◌⊎◌, ℕ, zero, suc, inl, inr, Bool, true, false, not, refl, sym, ap, subst, ◌∙◌, arith, cond}
use Rattle.std.proofs.Common.{List, [], ◌∷◌, ◌++◌, length, get_or, map, max, min, take}
use Rattle.std.specs.Prelude.{◌==◌, None, Some, filter, fold, nat_eq, if◌then◌else◌}
use Rattle.std.specs.Ordering.{is_lt, nat_cmp}
use Rattle.std.proofs.lemmas.Bool.Decides.{nat_tests}
use Rattle.std.proofs.lemmas.List.{append-nil, take_more, take_all}
use Rattle.std.proofs.lemmas.List.Elements.{filter_more}
use Rattle.std.proofs.lemmas.List.Sums.{fold_more}
use Rattle.c_terms.specs.Names.{listed_names}
use Rattle.c_rows.specs.Look.{Names}
use Rattle.c_file.specs.Reads.{names_after}
use Rattle.cpp_lines.specs.declared.reading.Item.{Item}
use Rattle.c_lexer.specs.Pieces.{TextPiece}
use Rattle.edit_marks.specs.declared.edit_conflict.edit.Edit.{Edit}
use Rattle.edit_marks.specs.declared.file_tokens.FileToken.{FileToken}
use Rattle.edit_marks.specs.declared.tidy.walk.TidiedEdits.{TidiedEdits}
use Rattle.edit_marks.specs.Tokens.{file_tokens}
use Rattle.edit_unparse.specs.declared.tidy.commas.CommaList.{CommaList}
use Rattle.edit_unparse.specs.declared.tidy.flags.Extent.{Extent}
use Rattle.edit_unparse.specs.declared.tidy.plan.Plan.{Plan}
use Rattle.edit_unparse.specs.Tidy.Plans.{IsPlan}
use Rattle.edit_marks.specs.declared.tidy.touch.PatternStatement.{PatternStatement}
use Rattle.edit_unparse.specs.declared.tidy.parts.Brace.{Brace}
use Rattle.edit_unparse.specs.declared.tidy.plan.Spot.{Spot}
use Rattle.edit_unparse.specs.Tidy.Spots.{brace_number, spot, spot_number}
use Rattle.edit_bodies.specs.declared.braces.Coming.{Coming}
use Rattle.edit_bodies.specs.declared.lay.TidyLayout.{TidyLayout}
use Rattle.edit_bodies.specs.declared.see.SeenBodies.{SeenBodies}
use Rattle.edit_bodies.specs.Gone.{gone_of}
use Rattle.edit_bodies.specs.Laid.{AreBraces, AreDepths, AreLists, IsBroken, IsFrame, IsLaidOut, brace_of, depth_of, names_at}
use Rattle.edit_bodies.specs.Outcomes.{IsSeen}
use Rattle.edit_bodies.specs.Scenes.{least_of}
use Rattle.edit_bodies.proofs.OutcomeLemmas.{least_among, least_below, none_broken}

-- ---- lists that grow

map_push : {X Y : Type 0} (f : X → Y) (xs : List X) (x : X) → map f (xs ++ x ∷ []) ≡ map f xs ++ f x ∷ []
map_push f [] x = refl
map_push {Y = Y} f (y ∷ xs) x = ap (λ (l : List Y). f y ∷ l) (map_push f xs x)

pub map_more : {X Y : Type 0} (f : X → Y) (xs : List X) (i : ℕ) (d : X) (y : Y) (old new : List Y) → i < length xs → new ≡ old ++ y ∷ []
    → y ≡ f (get_or xs i d) → old ≡ map f (take i xs) → new ≡ map f (take (i + 1) xs)
map_more f xs i d y old new less made is h =
    made ∙ (λ j. h j ++ is j ∷ []) ∙ sym (ap (map f) (take_more xs i d less) ∙ map_push f (take i xs) (get_or xs i d))

-- ---- depths

fold_push : {X : Type 0} (f : X → ℕ) (a : ℕ) (xs : List X) (x : X) → fold max a (map f (xs ++ x ∷ [])) ≡ max (fold max a (map f xs)) (f x)
fold_push f a [] x = refl
fold_push f a (y ∷ xs) x = fold_push f (max a (f y)) xs x

fold_if : {X : Type 0} (f : X → ℕ) (xs : List X) (x : X) (b : Bool)
    → fold max 0 (map f (xs ++ cond b (x ∷ []) [])) ≡ (if b then max (fold max 0 (map f xs)) (f x) else fold max 0 (map f xs))
fold_if f xs x true = fold_push f 0 xs x
fold_if {X} f xs x false = ap (λ (l : List X). fold max 0 (map f l)) (append-nil xs)

pub depth_more : (statements : List (ℕ × PatternStatement)) (i : ℕ) (s : ℕ × PatternStatement) (n old new : ℕ) → i < length statements
    → s ≡ get_or statements i s → new ≡ (if nat_eq s.0 n then max old (length s.1.path) else old) → old ≡ depth_of (take i statements) n
    → new ≡ depth_of (take (i + 1) statements) n
depth_more statements i s n old new less is made h =
    let test : ℕ × PatternStatement → Bool = λ t. nat_eq t.0 n in
    let depth : ℕ × PatternStatement → ℕ = λ t. length t.1.path in
    let front = filter test (take i statements) in
    made ∙ ap (λ (m : ℕ). if nat_eq s.0 n then max m (length s.1.path) else m) h
    ∙ sym (ap (λ (l : List (ℕ × PatternStatement)). fold max 0 (map depth l))
    (filter_more test statements i s less ∙ ap (λ (t : ℕ × PatternStatement). front ++ cond (test t) (t ∷ []) []) (sym is))
    ∙ fold_if depth front s (test s))

-- ---- names

order : (a b : ℕ) → (a ≤ b) ⊎ (b < a)
order a b = grind arith

pub names_more : (items : List Item) (i : ℕ) (item : Item) (old new : Names) → i < length items → item ≡ get_or items i item → old ≡ names_at items i
    → new ≡ names_after old item → new ≡ names_at items (i + 1)
names_more items i item old new less is h made =
    made ∙ (λ j. names_after (h j) (is j)) ∙ sym (fold_more names_after listed_names items i item less)

pub names_end : (items : List Item) (i item end : ℕ) (names : Names) → end ≡ min item (length items) → end ≤ i → i ≤ item → names ≡ names_at items i
    → names ≡ names_at items item
names_end items i item end names is le within h =
    elim (order (length items) i) [
      | inl past ↦
          h ∙ ap (fold names_after listed_names) (take_all i items past ∙ sym (take_all item items (omega (arith, past, within))))
      | inr low ↦ let same : i ≡ item = omega (arith, is, le, within, low) in h ∙ ap (names_at items) same
    ]

-- ---- braces

pub no_items : (n : ℕ) → true ≡ (n == 0) → n ≡ 0
no_items n h = grind (arith, nat_tests)

pub no_braces : (files : List FileToken) (coming : List Coming) → length coming ≡ 0 → AreBraces files coming []
no_braces files [] e = record { rise = λ i j d le less. absurd (omega (arith, less)); same = λ n. refl }
no_braces files (b ∷ coming) e = absurd (omega (arith, e))

pub record HasNumber (n : ℕ) : Type 0 where
  pub place : Spot
  pub number : spot_number place ≡ n

next_place : (n token : ℕ) (after : Bool) → spot_number (spot token after) ≡ n → HasNumber (suc n)
next_place n token true e = record { place = spot (token + 1) false; number = omega (arith, e) }
next_place n token false e = record { place = spot token true; number = omega (arith, e) }

-- each number is that of a place
pub place_at : (n : ℕ) → HasNumber n
place_at zero = record { place = spot 0 false; number = refl }
place_at (suc n) = let p = place_at n in next_place n p.place.token p.place.after p.number

abbrev pub probe_in : Spot → Brace
probe_in s = record { token = s.token; after = s.after; inserts = 0; text = [] }

abbrev pub probe : ℕ → Brace
probe n = probe_in (place_at n).place

pub probe_number : (n : ℕ) → brace_number (probe n) ≡ n
probe_number n = (place_at n).number

pub tied_same : (t n : ℕ) → (not (is_lt (nat_cmp t n)) && not (is_lt (nat_cmp n t))) ≡ nat_eq n t
tied_same t n = grind (arith, nat_tests)

-- two that are as great as each other are equal
pub tied : (t n m : ℕ) → t ≡ m → (not (is_lt (nat_cmp t n)) && not (is_lt (nat_cmp n t))) ≡ nat_eq n m
tied t n m e = tied_same t n ∙ ap (nat_eq n) e

pub made_braces : (files tokens : List FileToken) (coming : List Coming) (braces : List Brace) (n : ℕ) → files ≡ tokens
    → braces ≡ map (brace_of files) coming
    → filter (λ b. nat_eq (brace_number b) n) braces ≡ filter (λ b. nat_eq (brace_number b) n) (map (brace_of tokens) coming)
made_braces files tokens coming braces n e is =
    ap (filter (λ (b : Brace). nat_eq (brace_number b) n)) (is ∙ ap (λ (l : List FileToken). map (brace_of l) coming) e)

-- ---- the layout

-- what a layout says but for the braces
pub frame_from : (pieces : List TextPiece) (edits : TidiedEdits) (plan : Plan) (all : List Edit) (gone extents : List Extent) (depths numbers : List ℕ)
    (lists : List CommaList) → all ≡ edits.list → gone ≡ gone_of all edits.outline → extents ≡ gone
    → AreDepths (length edits.list) edits.statements.items depths → numbers ≡ depths → AreLists pieces edits.outline lists
    → IsPlan pieces edits.list extents numbers plan → IsFrame pieces edits plan gone depths lists
frame_from pieces edits plan all gone extents depths numbers lists e is same are same_depths are_lists planned = record {
  all_gone = is ∙ ap (λ (es : List Edit). gone_of es edits.outline) e;
  are_depths = are;
  are_lists = are_lists;
  planned = subst (λ (xs : List Extent). IsPlan pieces edits.list xs depths plan) same
      (subst (λ (ns : List ℕ). IsPlan pieces edits.list extents ns plan) same_depths planned);
}

-- some body is broken
pub broken_from : (pieces : List TextPiece) (items : List Item) (edits : TidiedEdits) (plan : Plan) (gone : List Extent) (depths : List ℕ)
    (lists : List CommaList) (made : SeenBodies) (token : ℕ) → IsFrame pieces edits plan gone depths lists → IsSeen pieces items edits plan lists made
    → made.broken ≡ Some token → IsBroken pieces items edits token
broken_from pieces items edits plan gone depths lists made token frame h e =
    let least : Some token ≡ least_of h.seen.broken = sym e ∙ ap (λ (m : SeenBodies). m.broken) h.made_so in
    record {
      plan = plan;
      gone = gone;
      depths = depths;
      lists = lists;
      frame = frame;
      seen = h.seen;
      are_seen = h.are_seen;
      among = least_among h.seen.broken token least;
      least = least_below h.seen.broken token least;
    }

-- no body is broken
pub laid_from : (pieces : List TextPiece) (items : List Item) (edits : TidiedEdits) (laid : TidyLayout) (made : SeenBodies) (coming all : List Coming)
    → IsFrame pieces edits laid.plan laid.layout.gone.items laid.layout.depths.items laid.layout.lists.items
    → IsSeen pieces items edits laid.plan laid.layout.lists.items made → made.broken ≡ None → coming ≡ all → all ≡ made.braces
    → AreBraces (file_tokens pieces) coming laid.layout.braces.items → IsLaidOut pieces items edits laid
laid_from pieces items edits laid made coming all frame h none same is braced = record {
  frame = frame;
  seen = h.seen;
  are_seen = h.are_seen;
  whole = none_broken h.seen.broken (sym none ∙ ap (λ (m : SeenBodies). m.broken) h.made_so);
  braced = subst (λ (bs : List Coming). AreBraces (file_tokens pieces) bs laid.layout.braces.items)
      (same ∙ is ∙ ap (λ (m : SeenBodies). m.braces) h.made_so) braced;
}
