-- Lists that grow, touch by touch.
use Rattle.std.proofs.Common.{◌≡◌, ◌<◌, ◌≤◌, ◌+◌, ℕ, sym, ap, subst, ◌∙◌, List, [], ◌∷◌, ◌++◌, append_assoc, length, take, get_or}
use Rattle.std.proofs.lemmas.List.{append-nil, take_more, take_all}
use Rattle.std.proofs.lemmas.List.Concat.{flat_map-append}
use Rattle.std.specs.List.{flat_map, AllZip}
use Rattle.edit_marks.specs.EditWalk.Touches.{Touched}
use Rattle.edit_marks.specs.EditWalk.Growing.{Adds}

module _ {E : Type 0} (R : Touched → E → Type 0) where
  each_both : (ts us : List Touched) (es fs : List E) → AllZip R ts es → AllZip R us fs → AllZip R (ts ++ us) (es ++ fs)
  each_both [] us [] fs a b = b
  each_both [] us (e ∷ es) fs a b = absurd a
  each_both (t ∷ ts) us [] fs a b = absurd a
  each_both (t ∷ ts) us (e ∷ es) fs a b = (a.0, each_both ts us es fs a.1 b)

  pub adds_none : (es : List E) → Adds R es es []
  adds_none es = record { more = []; joined = sym (append-nil es); each = tt }

  pub adds_one : (old new : List E) (t : Touched) (e : E) → R t e → new ≡ old ++ e ∷ [] → Adds R old new (t ∷ [])
  adds_one old new t e is h = record { more = e ∷ []; joined = h; each = (is, tt) }

  pub adds_both : (a b c : List E) (ts us : List Touched) → Adds R a b ts → Adds R b c us → Adds R a c (ts ++ us)
  adds_both a b c ts us h k = record {
    more = h.more ++ k.more;
    joined = k.joined ∙ ap (λ (l : List E). l ++ k.more) h.joined ∙ append_assoc a h.more k.more;
    each = each_both ts us h.more k.more h.each k.each;
  }

  -- a loop over things that have touches
  pub adds_more : {X : Type 0} (f : X → List Touched) (xs : List X) (i : ℕ) (x : X) (a b c : List E) → i < length xs → x ≡ get_or xs i x
      → Adds R a b (flat_map f (take i xs)) → Adds R b c (f x) → Adds R a c (flat_map f (take (i + 1) xs))
  adds_more f xs i x a b c lt is h k =
      let done = flat_map f (take i xs) in
      let longer : flat_map f (take (i + 1) xs) ≡ done ++ f x =
      ap (flat_map f) (take_more xs i x lt) ∙ flat_map-append f (take i xs) (get_or xs i x ∷ [])
      ∙ ap (λ (l : List Touched). done ++ l) (append-nil (f (get_or xs i x)) ∙ ap f (sym is)) in
      subst (Adds R a c) (sym longer) (adds_both a b c done (f x) h k)

  pub adds_end : {X : Type 0} (f : X → List Touched) (xs : List X) (i : ℕ) (a b : List E) → length xs ≤ i
      → Adds R a b (flat_map f (take i xs)) → Adds R a b (flat_map f xs)
  adds_end f xs i a b le h = subst (λ l. Adds R a b (flat_map f l)) (take_all i xs le) h

  -- from the empty list on
  pub adds_all : (old es : List E) (ts : List Touched) → old ≡ [] → Adds R old es ts → AllZip R ts es
  adds_all old es ts none h = subst (AllZip R ts) (sym (h.joined ∙ ap (λ (l : List E). l ++ h.more) none)) h.each
