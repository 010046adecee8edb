-- Acts that follow one another.
use Rattle.std.proofs.Common.{◌≡◌, ◌<◌, ℕ, zero, suc, ◌+◌, List, [], ◌∷◌, ◌++◌, refl, sym, ap, ◌∙◌, inl, subst, append_assoc}
use Rattle.std.proofs.Common.{arith, length, map, take, drop, get_or, add-one}
use Rattle.run_acts.specs.Acts.{Act, Print, Observed, after_act, after}
use Rattle.run_acts.specs.Breaks.{Counts, NoneFell, Breaks}
use Rattle.run_acts.proofs.BreaksLemmas.{Breaks-earlier}
use Rattle.run_files.specs.Treatment.{printing}
use Rattle.run_files.specs.Does.{Does, Stops}

after-append : (acts more : List Act) (old : Observed) → after (acts ++ more) old ≡ after more (after acts old)
after-append [] more old = refl
after-append (act ∷ acts) more old = after-append acts more (after_act act old)

-- ---- acts that are done

pub Does-one : (act : Act) (old new : Observed) → new ≡ after_act act old → Does (act ∷ []) old new
Does-one act old new is = record { observed = is }

pub Does-then : (acts more : List Act) (old mid new : Observed) → Does acts old mid → Does more mid new → Does (acts ++ more) old new
Does-then acts more old mid new one two =
    record { observed = two.observed ∙ ap (after more) one.observed ∙ sym (after-append acts more old) }

-- the same acts, given by an equal list
pub Does-as : (acts others : List Act) (old new : Observed) → acts ≡ others → Does acts old new → Does others old new
Does-as acts others old new same does = record { observed = does.observed ∙ ap (λ (a : List Act). after a old) same }

-- ---- acts of which one breaks

pub Stops-one : (act : Act) (before now : Counts) (old new : Observed) (status : ℕ) → Breaks before now act old new status
    → Stops (act ∷ []) before now old new status
Stops-one act before now old new status breaks = record { part = []; act = act; rest = []; is = refl; breaks = breaks }

-- memory ran out before the only act
pub Stops-unfed : (act : Act) (before now : Counts) (old : Observed) → Stops (act ∷ []) before now old old 7
Stops-unfed act before now old = Stops-one act before now old old 7 (inl (refl, refl))

-- the first acts broke, whatever follows them
pub Stops-first : (acts more : List Act) (before now : Counts) (old new : Observed) (status : ℕ) → Stops acts before now old new status
    → Stops (acts ++ more) before now old new status
Stops-first acts more before now old new status stops = record {
  part = stops.part;
  act = stops.act;
  rest = stops.rest ++ more;
  is = ap (λ (x : List Act). x ++ more) stops.is ∙ append_assoc stops.part (stops.act ∷ stops.rest) more;
  breaks = stops.breaks;
}

-- the first acts were done, and then one broke
pub Stops-then : (acts more : List Act) (first before now : Counts) (old mid new : Observed) (status : ℕ) → NoneFell first before
    → Does acts old mid → Stops more before now mid new status → Stops (acts ++ more) first now old new status
Stops-then acts more first before now old mid new status fell does stops = record {
  part = acts ++ stops.part;
  act = stops.act;
  rest = stops.rest;
  is = ap (λ (x : List Act). acts ++ x) stops.is ∙ sym (append_assoc acts stops.part (stops.act ∷ stops.rest));
  breaks =
      let here : after (acts ++ stops.part) old ≡ after stops.part mid = after-append acts stops.part old ∙ ap (after stops.part) (sym does.observed) in
      Breaks-earlier first before now stops.act (after (acts ++ stops.part) old) new status fell
      (subst (λ (t : Observed). Breaks before now stops.act t new status) (sym here) stops.breaks);
}

pub Stops-as : (acts others : List Act) (before now : Counts) (old new : Observed) (status : ℕ) → acts ≡ others
    → Stops acts before now old new status → Stops others before now old new status
Stops-as acts others before now old new status same stops = subst (λ (a : List Act). Stops a before now old new status) same stops

-- ---- an act for each element of a list

map_at : {A : Type 0} (f : A → Act) (xs : List A) (i : ℕ) (x : A) → i < length xs → x ≡ get_or xs i x
    → map f xs ≡ map f (take i xs) ++ f x ∷ map f (drop (suc i) xs)
map_at f [] i x lt is = absurd (omega arith)
map_at f (y ∷ ys) zero x lt is = ap (λ z. f z ∷ map f ys) (sym is)
map_at f (y ∷ ys) (suc i) x lt is = ap (λ (r : List Act). f y ∷ r) (map_at f ys i x (omega arith) is)

map_take : {A : Type 0} (f : A → Act) (xs : List A) (i : ℕ) (x : A) → i < length xs → x ≡ get_or xs i x
    → map f (take (suc i) xs) ≡ map f (take i xs) ++ f x ∷ []
map_take f [] i x lt is = absurd (omega arith)
map_take f (y ∷ ys) zero x lt is = ap (λ z. f z ∷ []) (sym is)
map_take f (y ∷ ys) (suc i) x lt is = ap (λ (r : List Act). f y ∷ r) (map_take f ys i x (omega arith) is)

-- the act of the next element broke
pub stops_at : {A : Type 0} (f : A → Act) (xs : List A) (i : ℕ) (x : A) (first before now : Counts) (old mid new : Observed) (status : ℕ)
    → i < length xs → x ≡ get_or xs i x → NoneFell first before → Does (map f (take i xs)) old mid → Breaks before now (f x) mid new status
    → Stops (map f xs) first now old new status
stops_at f xs i x first before now old mid new status lt is fell does breaks = record {
  part = map f (take i xs);
  act = f x;
  rest = map f (drop (suc i) xs);
  is = map_at f xs i x lt is;
  breaks = Breaks-earlier first before now (f x) (after (map f (take i xs)) old) new status fell
      (subst (λ (t : Observed). Breaks before now (f x) t new status) does.observed breaks);
}

-- the act of the next element was done
pub does_at : {A : Type 0} (f : A → Act) (xs : List A) (i : ℕ) (x : A) (old mid new : Observed) → i < length xs → x ≡ get_or xs i x
    → Does (map f (take i xs)) old mid → new ≡ after_act (f x) mid → Does (map f (take (i + 1) xs)) old new
does_at f xs i x old mid new lt is does observed =
    let e : map f (take (i + 1) xs) ≡ map f (take i xs) ++ f x ∷ [] = rw add-one (map_take f xs i x lt is) in
    Does-as (map f (take i xs) ++ f x ∷ []) (map f (take (i + 1) xs)) old new (sym e)
    (Does-then (map f (take i xs)) (f x ∷ []) old mid new does (Does-one (f x) mid new observed))

any_default : {A : Type 0} (xs : List A) (i : ℕ) (d e : A) → i < length xs → get_or xs i d ≡ get_or xs i e
any_default [] i d e lt = absurd (omega arith)
any_default (y ∷ ys) zero d e lt = refl
any_default (y ∷ ys) (suc i) d e lt = any_default ys i d e (omega arith)

-- in range, the default doesn't matter
pub own_default : {A : Type 0} (xs : List A) (i : ℕ) (d : A) → i < length xs → get_or xs i d ≡ get_or xs i (get_or xs i d)
own_default xs i d lt = any_default xs i d (get_or xs i d) lt

-- no element, no act
pub no_acts : {A : Type 0} (f : A → Act) (xs : List A) (old : Observed) → length xs ≡ 0 → Does (map f xs) old old
no_acts f [] old none = record { observed = refl }
no_acts f (x ∷ xs) old none = absurd (omega (arith, none))

-- memory ran out before the act of the first element
pub stops_unfed_first : {A : Type 0} (f : A → Act) (xs : List A) (before now : Counts) (old : Observed) → 0 < length xs
    → Stops (map f xs) before now old old 7
stops_unfed_first f [] before now old some = absurd (omega arith)
stops_unfed_first f (x ∷ xs) before now old some =
    record { part = []; act = f x; rest = map f xs; is = refl; breaks = inl (refl, refl) }

-- ---- printing

pub printing_some : (text : List ℕ) → 0 < length text → printing text ≡ Print text ∷ []
printing_some [] some = absurd (omega arith)
printing_some (byte ∷ text) some = refl

-- a text that ends with some byte isn't empty
pub printing_after : (front text : List ℕ) → printing text ≡ Print text ∷ [] → printing (front ++ text) ≡ Print (front ++ text) ∷ []
printing_after [] text e = e
printing_after (byte ∷ front) text e = refl
