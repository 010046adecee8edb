-- A text cut into pieces with no Stray and no Line has the same number of tokens when a newline is appended.
-- Proof: piece by piece the two are the same, up to a piece that includes the newline: what was in its place has no token.
use Rattle.std.proofs.Common.{◌≡◌, ℕ, zero, suc, ◌+◌, ◌<◌, ◌==◌, ◌⊎◌, inl, inr, Bool, true, false, refl, sym, ap, ◌∙◌, subst}
use Rattle.std.proofs.Common.{arith, add-one, true≢false, List, [], ◌∷◌, ◌++◌, length, take, Option, Some, None, if◌then◌else◌}
use Rattle.std.proofs.Common.{option_map, option_and_then, append_assoc}
use Rattle.std.proofs.lemmas.List.{take_at, append-nil}
use Rattle.c_lexer.specs.declared.state.Kind.{Kind}
use Rattle.c_lexer.specs.declared.state.Kind.TheVariants as kind
use Rattle.c_lexer.specs.declared.state.Splice.{Splice}
use Rattle.c_lexer.specs.declared.state.Splice.TheVariants.{Plain, Back, BackReturn}
use Rattle.c_lexer.specs.declared.state.State.{State}
use Rattle.c_lexer.specs.declared.state.State.TheVariants.{Start, Blanks, Backslash, Word, Digits, One, Two, Open, Rest, Literal, Unended, Hash, Closed, Lone}
use Rattle.c_lexer.specs.Words.{is_space}
use Rattle.c_lexer.specs.Kinds.{begin, blanks, step, kind_at, walk, named, kind_of}
use Rattle.c_lexer.specs.First.{IsFirst}
use Rattle.c_lexer.specs.Blanks.{AreBlanks, none, space, splice, splice_return}
use Rattle.smpl_lexer.proofs.Once.{first_once, none_empty}
use Rattle.smpl_plus.specs.Blocks.{Piece, joined, Cut, gaps_by, gaps_from}
use Rattle.sound_laws.proofs.SmplSound.GapLemmas.{BlankLaw}
use Rattle.sound_laws.proofs.SmplAllSound.StepLemmas.{silent, bad, Outcome, newline}
use Rattle.sound_laws.proofs.SmplAllSound.StepLemmas.Outcome.{worse, quiet, blank}

-- ---- how many pieces are tokens

abbrev pub count_by : Kind → ℕ → ℕ
count_by kind.Blank n = n
count_by kind.Comment n = n
count_by kind.Line n = n
count_by _ n = suc n

abbrev pub count : List Piece → ℕ
count [] = 0
count (p ∷ ps) = count_by p.kind (count ps)

abbrev pub NoneBad : List Piece → Type 0
NoneBad [] = Unit {0}
NoneBad (p ∷ ps) = (bad p.kind ≡ false) × NoneBad ps

silent-count : (k : Kind) (n : ℕ) → silent k ≡ true → count_by k n ≡ n
silent-count kind.Blank n h = refl
silent-count kind.Comment n h = refl
silent-count kind.Line n h = absurd (true≢false (sym h))
silent-count kind.Name n h = absurd (true≢false (sym h))
silent-count kind.Keyword n h = absurd (true≢false (sym h))
silent-count kind.Number n h = absurd (true≢false (sym h))
silent-count kind.Char n h = absurd (true≢false (sym h))
silent-count kind.Str n h = absurd (true≢false (sym h))
silent-count kind.Punct n h = absurd (true≢false (sym h))
silent-count kind.Stray n h = absurd (true≢false (sym h))

gaps-by-count : (k : Kind) (text gap : List ℕ) (more : List ℕ → List (List ℕ)) (n : ℕ) → ((b : List ℕ) → length (more b) ≡ n)
    → length (gaps_by k text gap more) ≡ count_by k n
gaps-by-count kind.Blank text gap more n h = h (gap ++ text)
gaps-by-count kind.Comment text gap more n h = h gap
gaps-by-count kind.Line text gap more n h = h gap
gaps-by-count kind.Name text gap more n h = ap suc (h [])
gaps-by-count kind.Keyword text gap more n h = ap suc (h [])
gaps-by-count kind.Number text gap more n h = ap suc (h [])
gaps-by-count kind.Char text gap more n h = ap suc (h [])
gaps-by-count kind.Str text gap more n h = ap suc (h [])
gaps-by-count kind.Punct text gap more n h = ap suc (h [])
gaps-by-count kind.Stray text gap more n h = ap suc (h [])

-- a token has one gap
pub gaps-count : (gap : List ℕ) (ps : List Piece) → length (gaps_from gap ps) ≡ count ps
gaps-count gap [] = refl
gaps-count gap (p ∷ ps) = gaps-by-count p.kind p.text gap (λ b. gaps_from b ps) (count ps) (λ b. gaps-count b ps)

-- ---- texts of spaces and backslashes

abbrev Soft : ℕ → Type 0
Soft b = (is_space b ≡ true) ⊎ (b ≡ 92)

abbrev AllSoft : List ℕ → Type 0
AllSoft [] = Unit {0}
AllSoft (b ∷ bs) = Soft b × AllSoft bs

soft-front : (xs ys : List ℕ) → AllSoft (xs ++ ys) → AllSoft xs
soft-front [] ys a = tt
soft-front (x ∷ xs) ys a = (a.0, soft-front xs ys a.1)

soft-back : (xs ys : List ℕ) → AllSoft (xs ++ ys) → AllSoft ys
soft-back [] ys a = a
soft-back (x ∷ xs) ys a = soft-back xs ys a.1

blanks-soft : (text : List ℕ) → AreBlanks text → AllSoft text
blanks-soft _ none = tt
blanks-soft _ (space b rest s more) = (inl s, blanks-soft rest more)
blanks-soft _ (splice rest more) = (inr refl, (inl refl, blanks-soft rest more))
blanks-soft _ (splice_return rest more) = (inr refl, (inl refl, (inl refl, blanks-soft rest more)))

abbrev SoftState : State → Type 0
SoftState (Blanks s) = Unit {0}
SoftState Backslash = Unit {0}
SoftState _ = ⊥

abbrev SoftSome : Option State → Type 0
SoftSome None = Unit {0}
SoftSome (Some s) = SoftState s

soft-if : (c : Bool) (x y : Option State) → SoftSome x → SoftSome y → SoftSome (if c then x else y)
soft-if true x y f g = f
soft-if false x y f g = g

blanks-step : (s : Splice) (b : ℕ) → SoftSome (blanks s b)
blanks-step Plain b = soft-if (is_space b) _ _ tt (soft-if (b == 92) _ _ tt tt)
blanks-step Back b = soft-if (b == 10) _ _ tt (soft-if (b == 13) _ _ tt tt)
blanks-step BackReturn b = soft-if (b == 10) _ _ tt tt

soft-step : (s : State) (b : ℕ) → SoftState s → SoftSome (step s b)
soft-step (Blanks s) b h = blanks-step s b
soft-step Backslash b h = blanks-step Back b
soft-step Start b h = absurd h
soft-step (Word p) b h = absurd h
soft-step (Digits l) b h = absurd h
soft-step (One a) b h = absurd h
soft-step (Two a c) b h = absurd h
soft-step (Open s) b h = absurd h
soft-step (Rest s) b h = absurd h
soft-step (Literal q p l) b h = absurd h
soft-step (Unended s) b h = absurd h
soft-step (Hash l) b h = absurd h
soft-step (Closed k) b h = absurd h
soft-step Lone b h = absurd h

soft-walk : (o : Option State) (bs : List ℕ) → SoftSome o → SoftSome (walk o bs)
soft-walk o [] h = h
soft-walk None (b ∷ bs) h = soft-walk None bs tt
soft-walk (Some s) (b ∷ bs) h = soft-walk (step s b) bs (soft-step s b h)

soft-then : (c : Bool) (x y : Option State) → c ≡ true → SoftSome x → SoftSome (if c then x else y)
soft-then true x y e h = h
soft-then false x y e h = absurd (true≢false (sym e))

soft-begin : (b : ℕ) → Soft b → SoftSome (begin b)
soft-begin b (inl e) = soft-then (is_space b) _ _ e tt
soft-begin b (inr e) = subst (λ (x : ℕ). SoftSome (begin x)) (sym e) tt

soft-state : (text : List ℕ) (k : Kind) (o : Option State) → SoftSome o
    → option_map (named text) (option_and_then kind_at o) ≡ Some k → bad k ≡ false → silent k ≡ true
soft-state text k None s h b = let no : None ≡ Some k = h in absurd (cc)
soft-state text k (Some (Blanks Plain)) s h b = let is : Some kind.Blank ≡ Some k = h in let same : kind.Blank ≡ k = cc in sym (ap silent same)
soft-state text k (Some (Blanks Back)) s h b = let no : None ≡ Some k = h in absurd (cc)
soft-state text k (Some (Blanks BackReturn)) s h b = let no : None ≡ Some k = h in absurd (cc)
soft-state text k (Some Backslash) s h b = let is : Some kind.Stray ≡ Some k = h in let same : kind.Stray ≡ k = cc in absurd (true≢false (ap bad same ∙ b))
soft-state text k (Some Start) s h b = absurd s
soft-state text k (Some (Word p)) s h b = absurd s
soft-state text k (Some (Digits l)) s h b = absurd s
soft-state text k (Some (One a)) s h b = absurd s
soft-state text k (Some (Two a c)) s h b = absurd s
soft-state text k (Some (Open x)) s h b = absurd s
soft-state text k (Some (Rest x)) s h b = absurd s
soft-state text k (Some (Literal q p l)) s h b = absurd s
soft-state text k (Some (Unended x)) s h b = absurd s
soft-state text k (Some (Hash l)) s h b = absurd s
soft-state text k (Some (Closed j)) s h b = absurd s
soft-state text k (Some Lone) s h b = absurd s

soft-kind : (text : List ℕ) (k : Kind) → AllSoft text → kind_of text ≡ Some k → bad k ≡ false → silent k ≡ true
soft-kind [] k a h b = let no : None ≡ Some k = h in absurd (cc)
soft-kind (x ∷ xs) k a h b = soft-state (x ∷ xs) k (walk (begin x) xs) (soft-walk (begin x) xs (soft-begin x a.0)) h b

-- pieces of such a text have no token
soft-count : (ps : List Piece) → Cut ps → NoneBad ps → AllSoft (joined ps) → count ps ≡ 0
soft-count [] cut good a = refl
soft-count (p ∷ ps) cut good a =
    silent-count p.kind (count ps) (soft-kind p.text p.kind (soft-front p.text (joined ps) a) cut.0.of_kind good.0)
    ∙ soft-count ps cut.1 good.1 (soft-back p.text (joined ps) a)

-- ---- fronts of one text

length-front : (xs ys : List ℕ) → length xs < length (xs ++ ys) + 1
length-front [] ys = omega arith
length-front (x ∷ xs) ys = omega (arith, length-front xs ys)

longer : (xs ys A B : List ℕ) → xs ++ A ≡ ys ++ B → length xs < length ys → (n : ℕ) × ((n < length A) × (ys ≡ xs ++ take (n + 1) A))
longer [] [] A B e less = absurd (omega arith)
longer [] (y ∷ ys) A B e less = (length ys, (rw e (omega (arith, length-front ys B)), rw (e, add-one, take_at ys B (length ys) refl) refl))
longer (x ∷ xs) [] A B e less = absurd (omega arith)
longer (x ∷ xs) (y ∷ ys) A B e less =
    let head : x ≡ y = cc in
    let rest : xs ++ A ≡ ys ++ B = cc in
    let more = longer xs ys A B rest (omega arith) in
    (more.0, (more.1.0, rw head (ap (λ (l : List ℕ). y ∷ l) more.1.1)))

same-front : (xs ys A B : List ℕ) → xs ++ A ≡ ys ++ B → length xs ≡ length ys → (xs ≡ ys) × (A ≡ B)
same-front [] [] A B e same = (refl, e)
same-front [] (y ∷ ys) A B e same = absurd (omega (arith, same))
same-front (x ∷ xs) [] A B e same = absurd (omega (arith, same))
same-front (x ∷ xs) (y ∷ ys) A B e same =
    let head : x ≡ y = cc in
    let rest : xs ++ A ≡ ys ++ B = cc in
    let more = same-front xs ys A B rest (omega (arith, same)) in
    (rw (head, more.0) refl, more.1)

order : (a b : ℕ) → (a < b) ⊎ ((a ≡ b) ⊎ (b < a))
order a b = grind arith

-- the front of a list with one more item is one of the list, or all of it
take-last : (A : List ℕ) (x n : ℕ) → n < length (A ++ x ∷ [])
    → ((n < length A) × (take (suc n) (A ++ x ∷ []) ≡ take (suc n) A)) ⊎ (take (suc n) (A ++ x ∷ []) ≡ A ++ x ∷ [])
take-last [] x zero less = inr refl
take-last [] x (suc n) less = absurd (omega (arith, less))
take-last (y ∷ A) x zero less = inl (omega arith, refl)
take-last (y ∷ A) x (suc n) less = elim (take-last A x n (omega (arith, less))) [
  | inl h ↦ inl (omega (arith, h.0), ap (λ (l : List ℕ). y ∷ l) h.1)
  | inr h ↦ inr (ap (λ (l : List ℕ). y ∷ l) h)
]

next : (n : ℕ) → n + 1 ≡ suc n
next n = omega arith

take-all : (A : List ℕ) → take (length A) A ≡ A
take-all [] = refl
take-all (x ∷ A) = ap (λ (l : List ℕ). x ∷ l) (take-all A)

cancel : (xs ys : List ℕ) → xs ++ ys ≡ xs → ys ≡ []
cancel [] ys e = e
cancel (x ∷ xs) ys e = let rest : xs ++ ys ≡ xs = cc in cancel xs ys rest

-- ---- two cuts

empty-first : (k : Kind) (xs A : List ℕ) → IsFirst k xs A → [] ≡ xs ++ A → ⊥
empty-first k [] A one e = none_empty k A one
empty-first k (x ∷ xs) A one e = absurd (cc)

no-pieces : (ps : List Piece) → Cut ps → joined ps ≡ [] → ps ≡ []
no-pieces [] cut e = refl
no-pieces (p ∷ ps) cut e = absurd (empty-first p.kind p.text (joined ps) cut.0 (sym e))

-- a text has one cut
pub count-once : (ps qs : List Piece) → Cut ps → Cut qs → joined ps ≡ joined qs → count ps ≡ count qs
count-once [] [] one other e = refl
count-once [] (q ∷ qs) one other e = absurd (empty-first q.kind q.text (joined qs) other.0 e)
count-once (p ∷ ps) [] one other e = absurd (empty-first p.kind p.text (joined ps) one.0 (sym e))
count-once (p ∷ ps) (q ∷ qs) one other e =
    let same = first_once p.kind q.kind p.text q.text (joined ps) (joined qs) e one.0 other.0 in
    ap (λ (k : Kind). count_by k (count ps)) same.0 ∙ ap (count_by q.kind) (count-once ps qs one.1 other.1 same.1.1)

-- a piece that is all of a text has nothing behind it
whole-first : (j k : Kind) (xs A : List ℕ) → IsFirst k xs A → kind_of (xs ++ A) ≡ Some j → A ≡ []
whole-first j k xs [] one h = refl
whole-first j k xs (a ∷ A) one h =
    let all : take (length A + 1) (a ∷ A) ≡ a ∷ A = rw add-one (ap (λ (l : List ℕ). a ∷ l) (take-all A)) in
    let none : kind_of (xs ++ a ∷ A) ≡ None = ap (λ (l : List ℕ). kind_of (xs ++ l)) (sym all) ∙ one.longest (length A) (omega arith) in
    let no : None ≡ Some j = sym none ∙ h in
    absurd (cc)

module _ (law : BlankLaw) where
  -- a piece of the text with the newline is all of it
  all-one : (t : List ℕ) (k : Kind) (q : Piece) (qs : List Piece) → Cut (q ∷ qs) → NoneBad (q ∷ qs) → t ≡ joined (q ∷ qs) → kind_of (t ++ 10 ∷ []) ≡ Some k
      → count_by k 0 ≡ count (q ∷ qs)
  all-one [] k q qs cut good e h = absurd (empty-first q.kind q.text (joined qs) cut.0 e)
  all-one (b ∷ bs) k q qs cut good e h = by (newline b bs k h)
    where
      piece : (j : Kind) → kind_of (b ∷ bs) ≡ Some j → (q.kind ≡ j) × (qs ≡ [])
      piece j is =
          let there : kind_of (q.text ++ joined qs) ≡ Some j = subst (λ (l : List ℕ). kind_of l ≡ Some j) e is in
          let nil : joined qs ≡ [] = whole-first j q.kind q.text (joined qs) cut.0 there in
          let text : q.text ++ joined qs ≡ q.text = ap (λ (l : List ℕ). q.text ++ l) nil ∙ append-nil q.text in
          let both : Some q.kind ≡ Some j = sym cut.0.of_kind ∙ (ap kind_of (sym text) ∙ there) in
          let same : q.kind ≡ j = cc in
          (same, no-pieces qs cut.1 nil)

      by : Outcome (b ∷ bs) k → count_by k 0 ≡ count (q ∷ qs)
      by (worse j is w) = absurd (true≢false (sym w ∙ (ap bad (sym (piece j is).0) ∙ good.0)))
      by (quiet j is s t) =
          silent-count k 0 t ∙ (sym (silent-count j 0 s)
          ∙ (ap (λ (x : Kind). count_by x 0) (sym (piece j is).0) ∙ ap (λ (l : List Piece). count_by q.kind (count l)) (sym (piece j is).1)))
      by (blank same) =
          let is : kind_of (b ∷ bs ++ 10 ∷ []) ≡ Some kind.Blank = h ∙ ap Some same in
          let soft : AllSoft (b ∷ bs ++ 10 ∷ []) = blanks-soft (b ∷ bs ++ 10 ∷ []) ((law (b ∷ bs ++ 10 ∷ [])).0 is).0 in
          let text : AllSoft (joined (q ∷ qs)) = subst AllSoft e (soft-front (b ∷ bs) (10 ∷ []) soft) in
          ap (λ (x : Kind). count_by x 0) same ∙ sym (soft-count (q ∷ qs) cut good text)

  pub count-newline : (qs rs : List Piece) → Cut qs → NoneBad qs → Cut rs → joined rs ≡ joined qs ++ 10 ∷ [] → count rs ≡ count qs
  count-newline [] rs cut good other e = count-once rs (record { kind = kind.Blank; text = 10 ∷ [] } ∷ []) other (newline-first, tt) e
    where
      newline-first : IsFirst kind.Blank (10 ∷ []) []
      newline-first = record { of_kind = refl; longest = λ n less. absurd (omega (arith, less)) }
  count-newline (q ∷ qs) [] cut good other e = absurd (nope (q.text ++ joined qs) (sym e))
    where
      nope : (xs : List ℕ) → xs ++ 10 ∷ [] ≡ [] → ⊥
      nope [] h = absurd (cc)
      nope (x ∷ xs) h = absurd (cc)
  count-newline (q ∷ qs) (r ∷ rs) cut good other e =
      let E : r.text ++ joined rs ≡ q.text ++ (joined qs ++ 10 ∷ []) = e ∙ append_assoc q.text (joined qs) (10 ∷ []) in
      elim (order (length r.text) (length q.text)) [
        | inl less ↦
            let m = longer r.text q.text (joined rs) (joined qs ++ 10 ∷ []) E less in
            let no : Some q.kind ≡ None = sym cut.0.of_kind ∙ (ap kind_of m.1.1 ∙ other.0.longest m.0 m.1.0) in
            absurd (cc)
        | inr more ↦ elim more [
          | inl same ↦
              let front = same-front r.text q.text (joined rs) (joined qs ++ 10 ∷ []) E same in
              let kinds : Some r.kind ≡ Some q.kind = sym other.0.of_kind ∙ (ap kind_of front.0 ∙ cut.0.of_kind) in
              let alike : r.kind ≡ q.kind = cc in
              ap (λ (k : Kind). count_by k (count rs)) alike ∙ ap (count_by q.kind) (count-newline qs rs cut.1 good.1 other.1 front.1)
          | inr greater ↦ over q qs r rs cut good other E greater
        ]
      ]
    where
      over : (q : Piece) (qs : List Piece) (r : Piece) (rs : List Piece) → Cut (q ∷ qs) → NoneBad (q ∷ qs) → Cut (r ∷ rs)
          → r.text ++ joined rs ≡ q.text ++ (joined qs ++ 10 ∷ [])
          → length q.text < length r.text → count (r ∷ rs) ≡ count (q ∷ qs)
      over q qs r rs cut good other E greater =
          let m = longer q.text r.text (joined qs ++ 10 ∷ []) (joined rs) (sym E) greater in
          let front : r.text ≡ q.text ++ take (suc m.0) (joined qs ++ 10 ∷ []) =
          subst (λ (k : ℕ). r.text ≡ q.text ++ take k (joined qs ++ 10 ∷ [])) (next m.0) m.1.1 in
          elim (take-last (joined qs) 10 m.0 m.1.0) [
            | inl h ↦
                let longest : kind_of (q.text ++ take (suc m.0) (joined qs)) ≡ None =
                subst (λ (k : ℕ). kind_of (q.text ++ take k (joined qs)) ≡ None) (next m.0) (cut.0.longest m.0 h.0) in
                let no : Some r.kind ≡ None = sym other.0.of_kind ∙ (ap kind_of front ∙ (ap (λ (l : List ℕ). kind_of (q.text ++ l)) h.1 ∙ longest)) in
                absurd (cc)
            | inr h ↦
                let text : r.text ≡ q.text ++ (joined qs ++ 10 ∷ []) = front ∙ ap (λ (l : List ℕ). q.text ++ l) h in
                let nil : joined rs ≡ [] = cancel r.text (joined rs) (E ∙ sym text) in
                let is : kind_of ((q.text ++ joined qs) ++ 10 ∷ []) ≡ Some r.kind =
                ap kind_of (append_assoc q.text (joined qs) (10 ∷ [])) ∙ (ap kind_of (sym text) ∙ other.0.of_kind) in
                ap (λ (l : List Piece). count_by r.kind (count l)) (no-pieces rs other.1 nil) ∙ all-one (q.text ++ joined qs) r.kind q qs cut good refl is
          ]
