-- Names as they are kept: the last entry of a name, with one entry more or one less.
use Rattle.std.proofs.Common.{◌≡◌, ℕ, zero, suc, ◌+◌, ◌-◌, ◌<◌, ◌≤◌, Bool, true, false, cond, refl, sym, ap, subst, ◌∙◌, arith, ◌⊎◌, inl, inr}
use Rattle.std.proofs.Common.{List, [], ◌∷◌, ◌++◌, map, length, take, get_or, Option, Some, None, slice_get, length-append}
use Rattle.std.specs.Option.{option_map, option_or}
use Rattle.std.proofs.Math.ListN.{get_or-append}
use Rattle.std.proofs.Math.Seq.{get_or-append_seam, take-suc, take-length}
use Rattle.std.proofs.lemmas.List.{map-append, length-map, get_or-map, take-map}
use Rattle.std.proofs.lemmas.Option.{slice_get_cases, slice_get-get_or}
use Rattle.c_terms.specs.Same.{same_bytes}
use Rattle.c_terms.proofs.SameLaws.{bytes-refl}
use Rattle.c_terms.proofs.BareLaws.{same_bytes-equal}
use Rattle.c_types.specs.declared.ty.Ty.{Ty}
use Rattle.c_types.proofs.KeyLemmas.{or_assoc, or_none}
use Rattle.c_typing.specs.declared.binding.Binding.{Binding}
use Rattle.c_typing.specs.declared.bindings.Entry.{Entry}
use Rattle.c_typing.specs.Numbers.{Numbered, no_numbers, number_of}
use Rattle.c_typing.specs.Entries.{last_below, names_of, AreLinked, binding_at, bindings_of}
use Rattle.c_typing.specs.Names.{own_type, last_type}

-- what stands behind the first k places doesn't count
last-before : (xs ys : List (List ℕ)) (k : ℕ) (name : List ℕ) → k ≤ length xs → last_below (xs ++ ys) k name ≡ last_below xs k name
last-before xs ys zero name h = refl
last-before xs ys (suc k) name h =
    let g : get_or (xs ++ ys) k [] ≡ get_or xs k [] = get_or-append xs ys [] k (omega (arith, h)) in
    let r = last-before xs ys k name (omega (arith, h)) in
    λ j. cond (same_bytes name (g j)) (suc k) (r j)

-- the name that is added last is at the last place
last-added : (xs : List (List ℕ)) (x name : List ℕ)
    → last_below (xs ++ x ∷ []) (suc (length xs)) name ≡ cond (same_bytes name x) (suc (length xs)) (last_below xs (length xs) name)
last-added xs x name =
    let g : get_or (xs ++ x ∷ []) (length xs) [] ≡ x = get_or-append_seam xs x [] [] in
    let r = last-before xs (x ∷ []) (length xs) name (omega arith) in
    λ j. cond (same_bytes name (g j)) (suc (length xs)) (r j)

-- the last place is one of the places
pub last-within : (xs : List (List ℕ)) (k : ℕ) (name : List ℕ) → last_below xs k name ≤ k
last-within xs zero name = omega arith
last-within xs (suc k) name = by (same_bytes name (get_or xs k [])) (last-within xs k name)
  where
    by : (b : Bool) → last_below xs k name ≤ k → cond b (suc k) (last_below xs k name) ≤ suc k
    by true h = omega arith
    by false h = omega (arith, h)

names-more : (es : List Entry) (e : Entry) → names_of (es ++ e ∷ []) ≡ names_of es ++ e.name ∷ []
names-more es e = map-append (λ (x : Entry). x.name) es (e ∷ [])

length-names : (es : List Entry) → length (names_of es) ≡ length es
length-names es = length-map es (λ (x : Entry). x.name)

-- the last entries, with one entry more
pub last-more : (es : List Entry) (e : Entry) (name : List ℕ)
    → last_below (names_of (es ++ e ∷ [])) (length (es ++ e ∷ [])) name
    ≡ cond (same_bytes name e.name) (suc (length es)) (last_below (names_of es) (length es) name)
last-more es e name =
    let n : length (es ++ e ∷ []) ≡ suc (length (names_of es)) = length-append es (e ∷ []) ∙ omega (arith, length-names es) in
    let m = names-more es e in
    (λ j. last_below (m j) (n j) name) ∙ last-added (names_of es) e.name name
    ∙ (λ j. cond (same_bytes name e.name) (suc (length-names es j)) (last_below (names_of es) (length-names es j) name))

-- at a place among the first, nothing changes
at-first : (es : List Entry) (e : Entry) (k : ℕ) → k < length es
    → last_below (names_of (es ++ e ∷ [])) k (get_or (names_of (es ++ e ∷ [])) k []) ≡ last_below (names_of es) k (get_or (names_of es) k [])
at-first es e k h =
    let m = names-more es e in
    let within : k < length (names_of es) = omega (arith, h, length-names es) in
    let g = get_or-append (names_of es) (e.name ∷ []) [] k within in
    (λ j. last_below (m j) k (get_or (m j) k [])) ∙ (λ j. last_below (names_of es ++ e.name ∷ []) k (g j))
    ∙ last-before (names_of es) (e.name ∷ []) k (get_or (names_of es) k []) (omega (arith, within))

-- and at the place of the new entry
at-new : (es : List Entry) (e : Entry) → last_below (names_of (es ++ e ∷ [])) (length es) (get_or (names_of (es ++ e ∷ [])) (length es) [])
    ≡ last_below (names_of es) (length es) e.name
at-new es e =
    let m = names-more es e in
    let n : get_or (names_of es ++ e.name ∷ []) (length es) [] ≡ e.name =
    ap (λ i. get_or (names_of es ++ e.name ∷ []) i []) (sym (length-names es)) ∙ get_or-append_seam (names_of es) e.name [] [] in
    (λ j. last_below (m j) (length es) (get_or (m j) (length es) [])) ∙ (λ j. last_below (names_of es ++ e.name ∷ []) (length es) (n j))
    ∙ last-before (names_of es) (e.name ∷ []) (length es) e.name (omega (arith, length-names es))

before-first : (es : List Entry) (e : Entry) (k : ℕ) → k < length es
    → get_or (map (λ (x : Entry). x.before) (es ++ e ∷ [])) k 0 ≡ get_or (map (λ (x : Entry). x.before) es) k 0
before-first es e k h =
    let n = length-map es (λ (x : Entry). x.before) in
    let within : k < length (map (λ (x : Entry). x.before) es) = omega (arith, h, n) in
    ap (λ xs. get_or xs k 0) (map-append (λ (x : Entry). x.before) es (e ∷ []))
    ∙ get_or-append (map (λ (x : Entry). x.before) es) (e.before ∷ []) 0 k within

before-new : (es : List Entry) (e : Entry) → get_or (map (λ (x : Entry). x.before) (es ++ e ∷ [])) (length es) 0 ≡ e.before
before-new es e =
    ap (λ xs. get_or xs (length es) 0) (map-append (λ (x : Entry). x.before) es (e ∷ []))
    ∙ ap (λ i. get_or (map (λ (x : Entry). x.before) es ++ e.before ∷ []) i 0) (sym (length-map es (λ (x : Entry). x.before)))
    ∙ get_or-append_seam (map (λ (x : Entry). x.before) es) e.before [] 0

less-or-last : (k n : ℕ) → k < suc n → (k < n) ⊎ (k ≡ n)
less-or-last zero zero h = inr refl
less-or-last zero (suc n) h = inl (omega arith)
less-or-last (suc k) zero h = absurd (omega (arith, h))
less-or-last (suc k) (suc n) h = by (less-or-last k n (omega (arith, h)))
  where
    by : (k < n) ⊎ (k ≡ n) → (suc k < suc n) ⊎ (suc k ≡ suc n)
    by (inl l) = inl (omega (arith, l))
    by (inr e) = inr (ap suc e)

module _ (lasts after : Numbered) (es : List Entry) (e : Entry) where
  -- one entry more
  pub linked-push : AreLinked lasts es
      → ((name : List ℕ) → number_of after name ≡ cond (same_bytes name e.name) (length es + 1) (number_of lasts name))
      → e.before ≡ number_of lasts e.name → AreLinked after (es ++ e ∷ [])
  linked-push h put own = record {
    last = λ name.
        let one : length es + 1 ≡ suc (length es) = omega arith in
        put name ∙ (λ j. cond (same_bytes name e.name) (one j) (h.last name j)) ∙ sym (last-more es e name);
    before = λ k l. by k (less-or-last k (length es) (omega (arith, l, length-append es (e ∷ []))));
  }
    where
      by : (k : ℕ) → (k < length es) ⊎ (k ≡ length es)
          → get_or (map (λ (x : Entry). x.before) (es ++ e ∷ [])) k 0 ≡ last_below (names_of (es ++ e ∷ [])) k (get_or (names_of (es ++ e ∷ [])) k [])
      by k (inl l) = before-first es e k l ∙ h.before k l ∙ sym (at-first es e k l)
      by k (inr q) =
          ap (λ i. get_or (map (λ (x : Entry). x.before) (es ++ e ∷ [])) i 0) q ∙ before-new es e ∙ own ∙ h.last e.name ∙ sym (at-new es e)
          ∙ ap (λ i. last_below (names_of (es ++ e ∷ [])) i (get_or (names_of (es ++ e ∷ [])) i [])) (sym q)

  -- one entry less
  pub linked-pop : AreLinked lasts (es ++ e ∷ [])
      → ((name : List ℕ) → number_of after name ≡ cond (same_bytes name e.name) e.before (number_of lasts name)) → AreLinked after es
  linked-pop h set = record {
    last = λ name. set name ∙ ap (λ n. cond (same_bytes name e.name) e.before n) (h.last name ∙ last-more es e name)
        ∙ back name (same_bytes name e.name) refl;
    before = λ k l.
        let more : k < length (es ++ e ∷ []) = omega (arith, l, length-append es (e ∷ [])) in
        sym (before-first es e k l) ∙ h.before k more ∙ at-first es e k l;
  }
    where
      own : e.before ≡ last_below (names_of es) (length es) e.name
      own =
          let more : length es < length (es ++ e ∷ []) = omega (arith, length-append es (e ∷ [])) in
          sym (before-new es e) ∙ h.before (length es) more ∙ at-new es e

      back : (name : List ℕ) (b : Bool) → same_bytes name e.name ≡ b
          → cond b e.before (cond b (suc (length es)) (last_below (names_of es) (length es) name)) ≡ last_below (names_of es) (length es) name
      back name true q = own ∙ ap (last_below (names_of es) (length es)) (sym (same_bytes-equal name e.name q))
      back name false q = refl

  -- the last entry is known by its name
  pub last-known : AreLinked lasts (es ++ e ∷ []) → 0 < number_of lasts e.name
  last-known h =
      let n : number_of lasts e.name ≡ suc (length es) =
      h.last e.name ∙ last-more es e e.name ∙ ap (λ b. cond b (suc (length es)) (last_below (names_of es) (length es) e.name)) (bytes-refl e.name) in
      omega (arith, n)

-- the type of the entry with this number, from 1 on
abbrev type_at : List Entry → ℕ → Option (Option Ty)
type_at es zero = None
type_at es (suc i) = option_map (λ (e : Entry). e.ty) (slice_get es i)

-- the last declaration of a name, with one declaration more
type-more : (bs : List Binding) (b : Binding) (name : List ℕ) → last_type (bs ++ b ∷ []) name ≡ option_or (own_type name b) (last_type bs name)
type-more [] b name = sym (or_none (own_type name b))
type-more (c ∷ bs) b name =
    ap (λ o. option_or o (own_type name c)) (type-more bs b name) ∙ or_assoc (own_type name b) (last_type bs name) (own_type name c)

module _ (es : List Entry) (name : List ℕ) where
  type-below : (k : ℕ) → k ≤ length es → last_type (bindings_of (take k es)) name ≡ type_at es (last_below (names_of es) k name)
  type-below zero h = refl
  type-below (suc k) h = by (slice_get_cases es k).1 (type-below k (omega (arith, h)))
    where
      lt : k < length es
      lt = omega (arith, h)

      step : (e : Entry) → slice_get es k ≡ Some e → (b : Bool) → same_bytes name e.name ≡ b
          → option_or (cond b (Some e.ty) None) (type_at es (last_below (names_of es) k name))
          ≡ type_at es (cond b (suc k) (last_below (names_of es) k name))
      step e g true q = sym (ap (option_map (λ (x : Entry). x.ty)) g)
      step e g false q = refl

      by : ((x : Entry) × (k < length es) × (slice_get es k ≡ Some x) × (get_or es k x ≡ x)) ⊎ ((length es ≤ k) × (slice_get es k ≡ None))
          → last_type (bindings_of (take k es)) name ≡ type_at es (last_below (names_of es) k name)
          → last_type (bindings_of (take (suc k) es)) name ≡ type_at es (last_below (names_of es) (suc k) name)
      by (inr f) r = absurd (omega (arith, lt, f.0))
      by (inl f) r =
          let e = f.0 in
          let own : get_or es k e ≡ e = f.3 in
          let t : take (suc k) es ≡ take k es ++ e ∷ [] = take-suc es k e lt ∙ ap (λ x. take k es ++ x ∷ []) own in
          let n : get_or (names_of es) k [] ≡ e.name = get_or-map (λ (x : Entry). x.name) es k e [] lt ∙ ap (λ (x : Entry). x.name) own in
          ap (λ ts. last_type (bindings_of ts) name) t
          ∙ ap (λ bs. last_type bs name) (map-append binding_at (take k es) (e ∷ []))
          ∙ type-more (bindings_of (take k es)) (binding_at e) name
          ∙ ap (option_or (own_type name (binding_at e))) r
          ∙ step e f.2 (same_bytes name e.name) refl
          ∙ ap (λ m. type_at es (cond (same_bytes name m) (suc k) (last_below (names_of es) k name))) (sym n)

  -- what the last declaration of a name gives
  pub type-last : last_type (bindings_of es) name ≡ type_at es (last_below (names_of es) (length es) name)
  type-last = ap (λ ts. last_type (bindings_of ts) name) (sym (take-length es)) ∙ type-below (length es) (omega arith)

-- no names
pub linked-none : AreLinked no_numbers []
linked-none = record { last = λ name. refl; before = λ k l. absurd (omega (arith, l)) }

-- a name that isn't declared
pub found_none : (lasts : Numbered) (es : List Entry) (name : List ℕ) (n : ℕ) → AreLinked lasts es → n ≡ number_of lasts name → n ≡ 0
    → None ≡ last_type (bindings_of es) name
found_none lasts es name n h e z =
    sym (type-last es name ∙ ap (type_at es) (sym (h.last name) ∙ sym e ∙ z))

-- the place of the last declaration of a name
pub found_within : (lasts : Numbered) (es : List Entry) (name : List ℕ) (n : ℕ) → AreLinked lasts es → n ≡ number_of lasts name → n ≤ length es
found_within lasts es name n h e = omega (arith, e, h.last name, last-within (names_of es) (length es) name)

-- and what it gives
pub found_some : (lasts : Numbered) (es : List Entry) (name : List ℕ) (n : ℕ) (x : Entry) → AreLinked lasts es → n ≡ number_of lasts name → (n ≡ 0 → ⊥)
    → x ≡ get_or es (n - 1) x → Some x.ty ≡ last_type (bindings_of es) name
found_some lasts es name zero x h e z g = absurd (z refl)
found_some lasts es name (suc i) x h e z g =
    let within : suc i ≤ length es = found_within lasts es name (suc i) h e in
    let one : suc i - 1 ≡ i = omega arith in
    let at : slice_get es i ≡ Some x = slice_get-get_or es i x (omega (arith, within)) ∙ ap Some (ap (λ k. get_or es k x) (sym one) ∙ sym g) in
    sym (type-last es name ∙ ap (type_at es) (sym (h.last name) ∙ sym e) ∙ ap (option_map (λ (y : Entry). y.ty)) at)

-- what is pushed is seen at the end
pub seen-push : (es mid new : List Entry) (e : Entry) → mid ≡ es → new ≡ mid ++ e ∷ [] → bindings_of new ≡ bindings_of es ++ binding_at e ∷ []
seen-push es mid new e h g =
    ap bindings_of (g ∙ ap (λ xs. xs ++ e ∷ []) h) ∙ map-append binding_at es (e ∷ [])

-- a push, in the order of its steps: room is made, the name has the new place, the entry is put last
pub push-linked : (lasts after : Numbered) (es mid new : List Entry) (e : Entry) (n : ℕ) (a b : List ℕ) → new ≡ mid ++ e ∷ [] → a ≡ e.name → b ≡ e.name
    → AreLinked lasts es → mid ≡ es → n ≡ length mid
    → ((name : List ℕ) → number_of after name ≡ cond (same_bytes name a) (n + 1) (number_of lasts name))
    → e.before ≡ number_of lasts b → AreLinked after new
push-linked lasts after es mid new e n a b g p q h m k put own =
    let at : n ≡ length es = k ∙ ap length m in
    let put' : (name : List ℕ) → number_of after name ≡ cond (same_bytes name e.name) (length es + 1) (number_of lasts name) =
    (λ name. put name ∙ (λ j. cond (same_bytes name (p j)) (at j + 1) (number_of lasts name))) in
    let all : new ≡ es ++ e ∷ [] = g ∙ ap (λ xs. xs ++ e ∷ []) m in
    subst (AreLinked after) (sym all) (linked-push lasts after es e h put' (own ∙ ap (number_of lasts) q))

-- a push that fails changes nothing
pub still-linked : (lasts after : Numbered) (es mid : List Entry) → AreLinked lasts es → mid ≡ es → after ≡ lasts → AreLinked after mid
still-linked lasts after es mid h m k = subst (λ n. AreLinked n mid) (sym k) (subst (AreLinked lasts) (sym m) h)

-- the last entry, and those before it
cut-last : (es new : List Entry) (e : Entry) (i : ℕ) → new ≡ take i es → e ≡ get_or es i e → i + 1 ≡ length es → es ≡ new ++ e ∷ []
cut-last es new e i t g n =
    let lt : i < length es = omega (arith, n) in
    let one : suc i ≡ length es = omega (arith, n) in
    let same : new ++ e ∷ [] ≡ take i es ++ get_or es i e ∷ [] = λ j. t j ++ g j ∷ [] in
    sym (take-length es) ∙ ap (λ k. take k es) (sym one) ∙ take-suc es i e lt ∙ sym same

-- what is left without the last entry
pub cut-linked : (lasts after : Numbered) (es new : List Entry) (e : Entry) (i : ℕ) (name : List ℕ) → new ≡ take i es → e ≡ get_or es i e
    → i + 1 ≡ length es → name ≡ e.name → AreLinked lasts es
    → ((x : List ℕ) → number_of after x ≡ cond (same_bytes x name) e.before (number_of lasts x)) → AreLinked after new
cut-linked lasts after es new e i name t g n q h set =
    linked-pop lasts after new e (subst (AreLinked lasts) (cut-last es new e i t g n) h)
    (λ x. set x ∙ ap (λ m. cond (same_bytes x m) e.before (number_of lasts x)) q)

pub cut-known : (lasts : Numbered) (es : List Entry) (e : Entry) (i : ℕ) (name : List ℕ) → e ≡ get_or es i e → i + 1 ≡ length es → name ≡ e.name
    → AreLinked lasts es → 0 < number_of lasts name
cut-known lasts es e i name g n q h =
    subst (λ m. 0 < number_of lasts m) (sym q)
    (last-known lasts lasts (take i es) e (subst (AreLinked lasts) (cut-last es (take i es) e i refl g n) h))

-- and keeps the first ones
pub cut-kept : (len : ℕ) (first es new : List Entry) (i : ℕ) → new ≡ take i es → len ≤ i → take len es ≡ take len first → take len new ≡ take len first
cut-kept len first es new i t l h = ap (take len) t ∙ shorter len i es l ∙ h
  where
    shorter : (n m : ℕ) (xs : List Entry) → n ≤ m → take n (take m xs) ≡ take n xs
    shorter zero m xs l = refl
    shorter (suc n) zero xs l = absurd (omega (arith, l))
    shorter (suc n) (suc m) [] l = refl
    shorter (suc n) (suc m) (x ∷ xs) l = ap (λ ys. x ∷ ys) (shorter n m xs (omega (arith, l)))

-- the first ones are all that are left
pub kept-whole : (len : ℕ) (first es : List Entry) → length es ≤ len → take len es ≡ take len first → bindings_of es ≡ take len (bindings_of first)
kept-whole len first es l h = ap bindings_of (sym (take-all len es l) ∙ h) ∙ sym (take-map binding_at len first)
  where
    take-all : {A : Type 0} (n : ℕ) (xs : List A) → length xs ≤ n → take n xs ≡ xs
    take-all zero [] l = refl
    take-all (suc n) [] l = refl
    take-all zero (x ∷ xs) l = absurd (omega (arith, l))
    take-all (suc n) (x ∷ xs) l = let r = take-all n xs (omega (arith, l)) in λ i. x ∷ r i

-- the last declaration in two lists: that of the second, or else that of the first
pub last_append : (xs ys : List Binding) (name : List ℕ) → last_type (xs ++ ys) name ≡ option_or (last_type ys name) (last_type xs name)
last_append [] ys name = sym (or_none (last_type ys name))
last_append (x ∷ xs) ys name =
    ap (λ o. option_or o (own_type name x)) (last_append xs ys name) ∙ or_assoc (last_type ys name) (last_type xs name) (own_type name x)
