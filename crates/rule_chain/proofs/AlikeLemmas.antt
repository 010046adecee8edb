-- Ends that differ only in the notes that are told.
use Rattle.std.proofs.Common.{◌≡◌, ◌≤◌, ◌⊎◌, ℕ, Bool, refl, sym, ◌∙◌, subst, inl, inr, List, length}
use Rattle.run_choices.specs.declared.unread.Unread.{Unread}
use Rattle.run_choices.specs.declared.unread.Unread.TheVariants as unread
use Rattle.c_lexer.specs.Pieces.{most_bytes}
use Rattle.smpl_patch.specs.declared.rule.Rule.{Rule}
use Rattle.rule_chain.specs.RuleRun.States.{Chained}
use Rattle.rule_chain.specs.Chain.{Outcome, Done, Refused, Chain}
use Rattle.rule_chain.specs.Passed.{IsUntouched, IsPassed, EndsBy, AreAlike, AreToldAlike}
use Rattle.rule_chain.proofs.PassLemmas.{chain_still}

alike_self : (end : Outcome) → AreAlike end end
alike_self (Done s) = (refl, refl, refl)
alike_self (Refused f) = refl

told_self : (choice : Unread) (end : Outcome) → AreToldAlike choice end end
told_self choice (Done s) = refl
told_self choice (Refused f) = tt

-- two states in which nothing has happened
untouched_alike : (bytes : List ℕ) (s t : Chained) → IsUntouched bytes s → IsUntouched bytes t → AreAlike (Done s) (Done t)
untouched_alike bytes s t one two = (one.text ∙ sym two.text, one.found ∙ sym two.found, one.file_envs ∙ sym two.file_envs)

-- how a text ends, by how it is looked at: it is read, or passed over
abbrev Ends : Bool → List Rule → List (List ℕ) → List ℕ → Outcome → Type 0
Ends tidy rules defined bytes end = Chain tidy rules defined bytes end ⊎ IsPassed rules bytes end

ends_by : (tidy : Bool) (choice : Unread) (rules : List Rule) (defined : List (List ℕ)) (bytes : List ℕ) (end : Outcome)
    → EndsBy tidy choice rules defined bytes end → Ends tidy rules defined bytes end
ends_by tidy unread.All rules defined bytes end h = inl h
ends_by tidy unread.Needed rules defined bytes end h = h
ends_by tidy unread.None rules defined bytes end h = h

abbrev pub OneEnd : Type 0
OneEnd = (tidy : Bool) (rules : List Rule) (defined : List (List ℕ)) (bytes : List ℕ) (end other : Outcome) → Chain tidy rules defined bytes end
    → Chain tidy rules defined bytes other → end ≡ other

module _ (one_end : OneEnd) (tidy : Bool) (rules : List Rule) (defined : List (List ℕ)) (bytes : List ℕ) (short : length bytes ≤ most_bytes) where
  -- a chain over a text that is passed over
  beside : (P : Outcome → Outcome → Type 0) → ((s t : Chained) → IsUntouched bytes s → IsUntouched bytes t → P (Done s) (Done t))
      → (end last : Outcome) → Chain tidy rules defined bytes end → IsPassed rules bytes last → P end last
  beside P both end (Refused fault) chain passed = absurd passed
  beside P both end (Done t) chain passed =
      let still = chain_still tidy rules defined bytes end short passed.0 chain in
      subst (λ (e : Outcome). P e (Done t)) (sym still.1.0) (both still.0 t still.1.1 passed.1)

  two_passed : (P : Outcome → Outcome → Type 0) → ((s t : Chained) → IsUntouched bytes s → IsUntouched bytes t → P (Done s) (Done t))
      → (end last : Outcome) → IsPassed rules bytes end → IsPassed rules bytes last → P end last
  two_passed P both (Refused fault) last one two = absurd one
  two_passed P both (Done s) (Refused fault) one two = absurd two
  two_passed P both (Done s) (Done t) one two = both s t one.1 two.1

  two_ends : (P : Outcome → Outcome → Type 0) → ((end : Outcome) → P end end)
      → ((s t : Chained) → IsUntouched bytes s → IsUntouched bytes t → P (Done s) (Done t))
      → (end last : Outcome) → Ends tidy rules defined bytes end → Ends tidy rules defined bytes last → P end last
  two_ends P self both end last (inl one) (inl two) = subst (λ (e : Outcome). P end e) (one_end tidy rules defined bytes end last one two) (self end)
  two_ends P self both end last (inl one) (inr two) = beside P both end last one two
  two_ends P self both end last (inr one) (inl two) = beside (λ a b. P b a) (λ s t x y. both t s y x) last end two one
  two_ends P self both end last (inr one) (inr two) = two_passed P both end last one two

pub all_alike : OneEnd → (tidy : Bool) (one other : Unread) (rules : List Rule) (defined : List (List ℕ)) (bytes : List ℕ) (end last : Outcome)
    → length bytes ≤ most_bytes → EndsBy tidy one rules defined bytes end → EndsBy tidy other rules defined bytes last → AreAlike end last
all_alike one_end tidy one other rules defined bytes end last short h k =
    two_ends one_end tidy rules defined bytes short AreAlike alike_self (untouched_alike bytes) end last
    (ends_by tidy one rules defined bytes end h) (ends_by tidy other rules defined bytes last k)

pub told_alike : OneEnd → (tidy : Bool) (choice : Unread) (rules : List Rule) (defined : List (List ℕ)) (bytes : List ℕ) (end last : Outcome)
    → length bytes ≤ most_bytes → EndsBy tidy choice rules defined bytes end → EndsBy tidy choice rules defined bytes last → AreToldAlike choice end last
told_alike one_end tidy unread.All rules defined bytes end last short h k =
    subst (λ (e : Outcome). AreToldAlike unread.All end e) (one_end tidy rules defined bytes end last h k) (told_self unread.All end)
told_alike one_end tidy unread.Needed rules defined bytes end last short h k =
    two_ends one_end tidy rules defined bytes short (AreToldAlike unread.Needed) (told_self unread.Needed)
    (λ s t one two. one.needed ∙ sym two.needed) end last h k
told_alike one_end tidy unread.None rules defined bytes end last short h k =
    two_ends one_end tidy rules defined bytes short (AreToldAlike unread.None) (told_self unread.None) (λ s t one two. refl) end last h k
