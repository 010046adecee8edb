-- One run of the search, among acts from a place on.
use Rattle.std.proofs.Common.{◌≡◌, ◌<◌, ◌+◌, ◌-◌, ℕ, suc, true, refl, sym, ap, ◌∙◌, arith, List, ◌∷◌, subst, take, drop, length}
use Rattle.std.proofs.Common.{get_or, fold, drop-cons, cond, ◌&&◌}
use Rattle.std.specs.Prelude.{Option, Some, None}
use Rattle.std.specs.List.{prefix_len}
use Rattle.std.proofs.lemmas.Bool.Decides.{Decides-eqb}
use Rattle.std.proofs.lemmas.List.{take_rest, drop-drop}
use Rattle.edit_marks.specs.declared.edit_conflict.mark.Mark.{Mark}
use Rattle.edit_marks.specs.declared.edit_conflict.clash.Clash.{Clash}
use Rattle.edit_marks.specs.declared.edit_conflict.clash.Acts.{Acts}
use Rattle.edit_marks.specs.EditConflict.Clashes.{NotAfter}
use Rattle.edit_marks.specs.EditConflict.Scan.{acts_with, acts_of_both, no_acts, conflicts, first_met, is_of}
use Rattle.edit_marks.proofs.EditConflict.Members.{In, In-drop}
use Rattle.edit_marks.proofs.EditConflict.Ordered.{Ordered, Ordered-drop}
use Rattle.edit_marks.proofs.EditConflict.Meets.{MarkClash}
use Rattle.edit_marks.proofs.EditConflict.Scans.{Quiet, quiet_both, not_met, back_up, go_on, is_met}

abbrev pub taken : List Mark → Acts
taken ms = fold (λ acts m. acts_with acts m.act) no_acts ms

-- the result of one run: the place after it, and what its acts meet
pub record Step (marks : List Mark) (at n : ℕ) (m : Mark) (acts : Acts) : Type 0 where
  pub place : at < length marks
  pub here : m ≡ get_or marks at m
  pub run : n ≡ prefix_len (is_of m.token m.edit) (take (length marks - at) (drop at marks))
  pub acts_is : acts ≡ taken (take (at + n - at) (drop at marks))

begins : (marks : List Mark) (at : ℕ) (m : Mark) → at < length marks → m ≡ get_or marks at m → drop at marks ≡ m ∷ drop (suc at) marks
begins marks at m less here = drop-cons marks at m less ∙ ap (λ (x : Mark). x ∷ drop (suc at) marks) (sym here)

own_run : (m : Mark) (ms : List Mark) → 0 < prefix_len (is_of m.token m.edit) (m ∷ ms)
own_run m ms =
    let same : is_of m.token m.edit m ≡ true = λ i. (Decides-eqb m.token m.token).1 refl i && (Decides-eqb m.edit m.edit).1 refl i in
    let is : prefix_len (is_of m.token m.edit) (m ∷ ms) ≡ 1 + prefix_len (is_of m.token m.edit) ms =
    ap (λ b. cond b (1 + prefix_len (is_of m.token m.edit) ms) 0) same in
    omega (arith, is)

module _ (marks : List Mark) (at n : ℕ) (m : Mark) (acts : Acts) (o : Ordered marks) (s : Step marks at n m acts) where
  rest : drop at marks ≡ m ∷ drop (suc at) marks
  rest = begins marks at m s.place s.here

  run_is : n ≡ prefix_len (is_of m.token m.edit) (m ∷ drop (suc at) marks)
  run_is = s.run ∙ ap (prefix_len (is_of m.token m.edit)) (take_rest marks at ∙ rest)

  pub goes_on : 0 < n
  goes_on = let less = own_run m (drop (suc at) marks) in omega (arith, run_is)

  ordered : Ordered (m ∷ drop (suc at) marks)
  ordered = subst Ordered rest (Ordered-drop at marks o)

  acts_are : acts ≡ taken (take (prefix_len (is_of m.token m.edit) (m ∷ drop (suc at) marks)) (m ∷ drop (suc at) marks))
  acts_are =
      let same : at + n - at ≡ n = omega arith in
      s.acts_is ∙ ap (λ (k : ℕ). taken (take k (drop at marks))) (same ∙ run_is)
      ∙ ap (λ (ms : List Mark). taken (take (prefix_len (is_of m.token m.edit) (m ∷ drop (suc at) marks)) ms)) rest

  back_is : drop (at + n) marks ≡ drop (prefix_len (is_of m.token m.edit) (m ∷ drop (suc at) marks)) (m ∷ drop (suc at) marks)
  back_is =
      sym (drop-drop n at marks) ∙ ap (λ (k : ℕ). drop k (drop at marks)) run_is
      ∙ ap (drop (prefix_len (is_of m.token m.edit) (m ∷ drop (suc at) marks))) rest

  answer : (r : Option ℕ) → r ≡ first_met (conflicts acts) m.token (take (length marks - (at + n)) (drop (at + n) marks))
      → first_met (conflicts (taken (take (prefix_len (is_of m.token m.edit) (m ∷ drop (suc at) marks))
      (m ∷ drop (suc at) marks)))) m.token (drop (prefix_len (is_of m.token m.edit) (m ∷ drop (suc at) marks)) (m ∷ drop (suc at) marks)) ≡ r
  answer r e = sym (e ∙ (λ i. first_met (conflicts (acts_are i)) m.token ((take_rest marks (at + n) ∙ back_is) i)))

  pub nothing_here : None ≡ first_met (conflicts acts) m.token (take (length marks - (at + n)) (drop (at + n) marks))
      → (d : Clash) → MarkClash (drop at marks) d → MarkClash (drop (at + n) marks) d
  nothing_here e d c =
      subst (λ (ms : List Mark). MarkClash ms d) (sym back_is)
      (go_on m (drop (suc at) marks) ordered (answer None e) d (subst (λ (ms : List Mark). MarkClash ms d) rest c))

  pub clash_here : (q : ℕ) → Some q ≡ first_met (conflicts acts) m.token (take (length marks - (at + n)) (drop (at + n) marks))
      → MarkClash (drop at marks) (record { token = m.token; first = m.edit; second = q })
      × ((d : Clash) → MarkClash (drop at marks) d → NotAfter (record { token = m.token; first = m.edit; second = q }) d)
  clash_here q e =
      let r = is_met m (drop (suc at) marks) ordered q (answer (Some q) e) in (
        subst (λ (ms : List Mark). MarkClash ms (record { token = m.token; first = m.edit; second = q })) (sym rest) r.0,
        λ d c. r.1 d (subst (λ (ms : List Mark). MarkClash ms d) rest c),
      )

  -- what was settled before, and what this edit does, is settled after its acts
  pub quiet_here : (known : Acts) → Quiet known m.token (drop at marks)
      → None ≡ first_met (conflicts acts) m.token (take (length marks - (at + n)) (drop (at + n) marks))
      → Quiet (acts_of_both known acts) m.token (drop (at + n) marks)
  quiet_here known h e = quiet_both known acts m.token (drop (at + n) marks)
      (λ d k. h d (In-drop d n (drop at marks) (subst (In d) (sym (drop-drop n at marks)) k)))
      (not_met (conflicts acts) m.token (drop (at + n) marks) (Ordered-drop (at + n) marks o)
      (λ x k. back_up m (drop (suc at) marks) ordered x (subst (In x) back_is k))
      (sym (e ∙ ap (first_met (conflicts acts) m.token) (take_rest marks (at + n)))))
