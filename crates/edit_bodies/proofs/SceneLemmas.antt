-- What a scene has of inserts and of the statements of patterns, entry by entry.
use Rattle.std.proofs.Common.{◌≡◌, ◌<◌, ◌≤◌, ◌+◌, ◌-◌, ◌&&◌, ◌||◌, ℕ, zero, suc, Bool, true, false, refl, sym, ap, subst, inl, inr, ◌∙◌, arith}
use Rattle.std.proofs.Common.{List, [], ◌∷◌, ◌++◌, append_assoc, take, length, get_or}
use Rattle.std.specs.Prelude.{Option, None, nat_eq, nat_lt, not, slice_get, if◌then◌else◌}
use Rattle.std.specs.Cmp.Lexicographic.{pointwise}
use Rattle.std.specs.List.{list_all}
use Rattle.std.proofs.lemmas.Bool.{cases_lt, le-ltb}
use Rattle.std.proofs.lemmas.List.{append-nil, get_or_past, length-take-le, take_more, take_all}
use Rattle.std.proofs.lemmas.List.Folds.{list_all-append}
use Rattle.std.proofs.lemmas.Option.{slice_get_past}
use Rattle.edit_marks.specs.declared.tidy.shape.Body.{Body}
use Rattle.edit_marks.specs.declared.tidy.touch.PatternStatement.{PatternStatement}
use Rattle.edit_unparse.specs.declared.tidy.plan.Placed.{Placed}
use Rattle.edit_bodies.specs.Places.{AreByEdit, numbers_from}
use Rattle.edit_bodies.specs.Rows.{counted, is_around, is_proper_start, is_within, unless_last}
use Rattle.edit_bodies.specs.Scenes.{is_within_some}

-- ---- lists that grow by an entry for each element

module _ {A B : Type 0} (R : ℕ → Option A → B → Type 0) (none : B) where
  -- the entries are those of the first elements, of which there are this many
  pub record AreFirst (xs : List A) (ys : List B) (count : ℕ) : Type 0 where
    pub long : length ys ≡ count
    pub each : (k : ℕ) → k < count → R k (slice_get xs k) (get_or ys k none)

  pub first_all : (xs : List A) (ys : List B) (i : ℕ) → length xs ≤ i → AreFirst xs ys i → ((k : ℕ) → R k None none)
      → (k : ℕ) → R k (slice_get xs k) (get_or ys k none)
  first_all xs ys i le h past k = elim (cases_lt k i) as (λ _. R k (slice_get xs k) (get_or ys k none)) [
    | inl less ↦ h.each k less
    | inr more ↦
        let beyond : length xs ≤ k = omega (arith, le, more) in
        let end : length ys ≤ k = omega (arith, h.long, more) in
        subst (λ (b : B). R k (slice_get xs k) b) (sym (get_or_past ys k none end))
        (subst (λ (o : Option A). R k o none) (sym (slice_get_past xs k beyond)) (past k))
  ]

-- ---- the statements of patterns by edit

numbers_push : (next edit : ℕ) (ss : List (ℕ × PatternStatement)) (s : ℕ × PatternStatement)
    → numbers_from next edit (ss ++ s ∷ []) ≡ numbers_from next edit ss ++ (if nat_eq s.0 edit then (next + length ss) ∷ [] else [])
numbers_push next edit [] s =
    let same : next ≡ next + 0 = omega arith in
    append-nil (if nat_eq s.0 edit then next ∷ [] else []) ∙ ap (λ (n : ℕ). if nat_eq s.0 edit then n ∷ [] else []) same
numbers_push next edit (x ∷ ss) s =
    let own = if nat_eq x.0 edit then next ∷ [] else [] in
    let same : next + 1 + length ss ≡ next + length (x ∷ ss) = omega arith in
    ap (λ (l : List ℕ). own ++ l) (numbers_push (next + 1) edit ss s)
    ∙ sym (append_assoc own (numbers_from (next + 1) edit ss) (if nat_eq s.0 edit then (next + 1 + length ss) ∷ [] else []))
    ∙ ap (λ (n : ℕ). (own ++ numbers_from (next + 1) edit ss) ++ (if nat_eq s.0 edit then n ∷ [] else [])) same

pub by_edit_more : (ss : List (ℕ × PatternStatement)) (i : ℕ) (s : ℕ × PatternStatement) (all new : List (List ℕ)) → i < length ss
    → s ≡ get_or ss i s → AreByEdit (take i ss) all
    → ((n : ℕ) → get_or new n [] ≡ get_or all n [] ++ (if nat_eq s.0 n then i ∷ [] else [])) → AreByEdit (take (i + 1) ss) new
by_edit_more ss i s all new less is h k = λ edit.
    let long : length (take i ss) ≡ i = length-take-le i ss (omega (arith, less)) in
    let same : i ≡ 0 + length (take i ss) = omega (arith, long) in
    let more : take (i + 1) ss ≡ take i ss ++ s ∷ [] =
    take_more ss i s less ∙ ap (λ (x : ℕ × PatternStatement). take i ss ++ x ∷ []) (sym is) in
    k edit ∙ ap (λ (l : List ℕ). l ++ (if nat_eq s.0 edit then i ∷ [] else [])) (h edit)
    ∙ ap (λ (n : ℕ). numbers_from 0 edit (take i ss) ++ (if nat_eq s.0 edit then n ∷ [] else [])) same
    ∙ sym (numbers_push 0 edit (take i ss) s) ∙ ap (numbers_from 0 edit) (sym more)

module _ (all : List (ℕ × PatternStatement)) (b : Body) where
  abbrev within_at : ℕ → Bool
  within_at n = is_within_some (slice_get all n) b

  within_one : (n : ℕ) (own within : Bool) → within_at n ≡ within → list_all (λ k. is_within_some (slice_get all k) b) (if own then n ∷ [] else [])
      ≡ (not own || within)
  within_one n false within e = refl
  within_one n true true e = ap (λ (w : Bool). w && true) e
  within_one n true false e = ap (λ (w : Bool). w && true) e

  within_rest : (edit next : ℕ) (ss : List (ℕ × PatternStatement)) → ((k : ℕ) → slice_get all (next + k) ≡ slice_get ss k)
      → list_all (λ k. is_within_some (slice_get all k) b) (numbers_from next edit ss) ≡ is_around ss b edit
  within_rest edit next [] same = refl
  within_rest edit next (s ∷ ss) same =
      let test = λ (k : ℕ). is_within_some (slice_get all k) b in
      let own = if nat_eq s.0 edit then next ∷ [] else [] in
      let rest : (k : ℕ) → slice_get all (next + 1 + k) ≡ slice_get ss k =
      λ k. let moved : next + 1 + k ≡ next + suc k = omega arith in ap (slice_get all) moved ∙ same (suc k) in
      let here : next ≡ next + 0 = omega arith in
      let found : within_at next ≡ is_within s.1 b =
      ap (λ (o : Option (ℕ × PatternStatement)). is_within_some o b) (ap (slice_get all) here ∙ same 0) in
      list_all-append test own (numbers_from (next + 1) edit ss)
      ∙ (λ i. within_one next (nat_eq s.0 edit) (is_within s.1 b) found i && within_rest edit (next + 1) ss rest i)

  pub within_all : (edit : ℕ) → list_all (λ k. is_within_some (slice_get all k) b) (numbers_from 0 edit all) ≡ is_around all b edit
  within_all edit = within_rest edit 0 all (λ k. let same : 0 + k ≡ k = omega arith in ap (slice_get all) same)

-- ---- paths

pub shorter : (path other : List ℕ) → length other ≤ length path → nat_lt (length path) (length other) ≡ is_proper_start path other
shorter path [] le = le-ltb (length path) 0 le
shorter [] (i ∷ other) le = absurd (omega (arith, le))
shorter (j ∷ path) (i ∷ other) le =
    let rest : length other ≤ length path = omega (arith, le) in
    le-ltb (length (j ∷ path)) (length (i ∷ other)) le
    ∙ sym (neither (nat_eq j i) (sym (shorter path other rest) ∙ le-ltb (length path) (length other) rest))
  where
    neither : (b : Bool) → is_proper_start path other ≡ false → (b && is_proper_start path other) ≡ false
    neither true e = e
    neither false e = refl

pub starts : (path other : List ℕ) → length path < length other → pointwise nat_eq path (take (length path) other) ≡ is_proper_start path other
starts path [] less = absurd (omega (arith, less))
starts [] (i ∷ other) less = refl
starts (j ∷ path) (i ∷ other) less = ap (λ (b : Bool). nat_eq j i && b) (starts path other (omega (arith, less)))

-- ---- the inserts that are counted

module _ (statements : List (ℕ × PatternStatement)) (b : Body) where
  kept : (around : Bool) (q : Placed) (ps : List Placed) (p : Placed) → unless_last around q (ps ++ p ∷ []) ≡ q ∷ (ps ++ p ∷ [])
  kept false q ps p = refl
  kept true q [] p = refl
  kept true q (r ∷ ps) p = refl

  counted_push : (ps : List Placed) (p : Placed) → is_around statements b p.edit ≡ true
      → counted statements b (ps ++ p ∷ []) ≡ counted statements b ps
  counted_push [] p e = ap (λ (around : Bool). unless_last around p []) e
  counted_push (q ∷ ps) p e = ap (unless_last (is_around statements b q.edit) q) (counted_push ps p e)

  counted_whole : (ps : List Placed) (p : Placed) → is_around statements b p.edit ≡ false
      → counted statements b (ps ++ p ∷ []) ≡ ps ++ p ∷ []
  counted_whole [] p e = ap (λ (around : Bool). unless_last around p []) e
  counted_whole (q ∷ ps) p e =
      ap (unless_last (is_around statements b q.edit) q) (counted_whole ps p e) ∙ kept (is_around statements b q.edit) q ps p

  pub counted_start : (ps : List Placed) → counted statements b ps ≡ counted statements b (take (length ps) ps)
  counted_start ps = let all : length ps ≤ length ps = omega arith in ap (counted statements b) (sym (take_all (length ps) ps all))

  parts : (ps : List Placed) (n : ℕ) (e : Placed) → 0 < n → n ≤ length ps → take n ps ≡ take (n - 1) ps ++ get_or ps (n - 1) e ∷ []
  parts ps n e some le =
      let same : n ≡ n - 1 + 1 = omega (arith, some) in
      ap (λ (k : ℕ). take k ps) same ∙ take_more ps (n - 1) e (omega (arith, some, le))

  -- a loop from the end: at an insert that isn't counted, and at one that is
  pub counted_less : (ps : List Placed) (n : ℕ) (e : Placed) → 0 < n → n ≤ length ps → is_around statements b (get_or ps (n - 1) e).edit ≡ true
      → counted statements b ps ≡ counted statements b (take n ps) → counted statements b ps ≡ counted statements b (take (n - 1) ps)
  counted_less ps n e some le around h =
      h ∙ ap (counted statements b) (parts ps n e some le) ∙ counted_push (take (n - 1) ps) (get_or ps (n - 1) e) around

  pub counted_stop : (ps : List Placed) (n : ℕ) (e : Placed) → 0 < n → n ≤ length ps → is_around statements b (get_or ps (n - 1) e).edit ≡ false
      → counted statements b ps ≡ counted statements b (take n ps) → take n ps ≡ counted statements b ps
  counted_stop ps n e some le around h =
      let own = parts ps n e some le in
      own ∙ sym (counted_whole (take (n - 1) ps) (get_or ps (n - 1) e) around) ∙ sym (ap (counted statements b) own) ∙ sym h

  pub counted_none : (ps : List Placed) (n : ℕ) → n ≤ 0 → counted statements b ps ≡ counted statements b (take n ps) → take 0 ps ≡ counted statements b ps
  counted_none ps n le h = let none : n ≡ 0 = omega (arith, le) in sym (h ∙ ap (λ (k : ℕ). counted statements b (take k ps)) none)

  pub counted_long : (ps : List Placed) (n : ℕ) → n ≤ length ps → take n ps ≡ counted statements b ps → n ≡ length (counted statements b ps)
  counted_long ps n le e = sym (length-take-le n ps le) ∙ ap length e
