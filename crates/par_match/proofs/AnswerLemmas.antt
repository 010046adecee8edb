-- Lists of answers: none, one more, two lists joined, and the first fault after some answers.
use Rattle.std.proofs.Common.{◌≡◌, ℕ, zero, suc, ◌+◌, ◌-◌, ◌<◌, ◌≤◌, refl, subst, arith, List, [], ◌∷◌, ◌++◌, length, Some, slice_get, ⊎_elim}
use Rattle.std.proofs.lemmas.Bool.{cases_lt}
use Rattle.std.proofs.lemmas.List.{length-append}
use Rattle.par_match.specs.Answers.{AreAnswers, Answers, IsWhy}
use Rattle.par_match.specs.declared.fault.JobFault.{JobFault}
use Rattle.par_match.specs.declared.fault.JobFault.TheVariants.{Worker, NoMemory}

module _ {A : Type 0} (may : ℕ → A → Type 0) where
  abbrev EachMay : ℕ → List A → Type 0
  EachMay from xs = (i : ℕ) (a : A) → slice_get xs i ≡ Some a → may (from + i) a

  each-join : (from : ℕ) (xs ys : List A) → EachMay from xs → EachMay (from + length xs) ys → EachMay from (xs ++ ys)
  each-join from [] ys h k i a e = subst (λ n. may n a) (omega arith) (k i a e)
  each-join from (x ∷ xs) ys h k zero a e = h zero a e
  each-join from (x ∷ xs) ys h k (suc i) a e =
      let rest = each-join (suc from) xs ys (λ j b f. subst (λ n. may n b) (omega arith) (h (suc j) b f))
      (λ j b f. subst (λ n. may n b) (omega arith) (k j b f)) in
      subst (λ n. may n a) (omega arith) (rest i a e)

  pub no-answers : (from : ℕ) → AreAnswers may from from []
  no-answers from = record { each = λ i a e. absurd (cc); count = omega arith }

  pub more-answers : (from mid to : ℕ) (xs ys : List A) → from ≤ mid → mid ≤ to → AreAnswers may from mid xs
      → AreAnswers may mid to ys → AreAnswers may from to (xs ++ ys)
  more-answers from mid to xs ys l m h k = record {
    each = each-join from xs ys h.each (subst (λ n. EachMay n ys) (omega (arith, h.count, l)) k.each);
    count = omega (arith, length-append xs ys, h.count, k.count, l, m);
  }

  pub one-answer : (job : ℕ) (a : A) → may job a → AreAnswers may job (job + 1) (a ∷ [])
  one-answer job a h = record {
    each = elim [ zero ↦ λ b e. subst (λ n. may n b) (omega arith) (subst (may job) (cc) h) | suc i ↦ λ b e. absurd (cc) ];
    count = omega arith;
  }

  get-some : (xs : List A) (i : ℕ) → i < length xs → (a : A) × (slice_get xs i ≡ Some a)
  get-some [] i l = absurd (omega (arith, l))
  get-some (x ∷ xs) zero l = (x, refl)
  get-some (x ∷ xs) (suc i) l = get-some xs i (omega (arith, l))

  -- each job of the range has an answer
  pub has-answer : (from to : ℕ) (xs : List A) → AreAnswers may from to xs → (i : ℕ) → from ≤ i → i < to → Answers may i
  has-answer from to xs h i l m =
      let g = get-some xs (i - from) (omega (arith, h.count, l, m)) in
      record { answer = g.0; may = subst (λ n. may n g.0) (omega (arith, l)) (h.each (i - from) g.0 g.1) }

  module _ {F : Type 0} (may_fail : ℕ → F → Type 0) where
    -- the first fault of a range is the first of all if the jobs before it have answers
    pub why-after : (from mid to n : ℕ) (xs : List A) (e : JobFault F) → from ≤ mid → to ≤ n → AreAnswers may from mid xs
        → IsWhy may may_fail mid to e → IsWhy may may_fail from n e
    why-after from mid to n xs (Worker j f) l m h w = record {
      after = omega (arith, l, w.after);
      before = omega (arith, m, w.before);
      fails = w.fails;
      lesser = λ i a b. ⊎_elim (λ below. has-answer from mid xs h i a below) (λ above. w.lesser i above b) (cases_lt i mid);
    }
    why-after from mid to n xs NoMemory l m h w = w

    pub fails-here : (from job to : ℕ) (xs : List A) (f : F) → from ≤ job → job < to → AreAnswers may from job xs
        → may_fail job f → IsWhy may may_fail from to (Worker job f)
    fails-here from job to xs f l m h w = record { after = l; before = m; fails = w; lesser = has-answer from job xs h }
