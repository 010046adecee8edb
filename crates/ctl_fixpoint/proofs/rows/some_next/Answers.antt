use Rattle.std.proofs.Common.{◌≡◌, ℕ, ◌<◌, ◌≤◌, Bool, true, false, ◌||◌, refl, sym, ap, ◌∙◌, arith, List, [], ◌∷◌, length, get_or}
use Rattle.std.proofs.lemmas.Result.{IfOk-weaker}
use Rattle.env_sets.specs.Sets.{set_denotes, set_vars}
use Rattle.ctl_fixpoint.specs.CtlHolds.Rounds.{passes}
use Rattle.ctl_fixpoint.specs.Steps.{has}
use Rattle.ctl_fixpoint.proofs.RowLemmas.{member, row_vars-at}
use Rattle.ctl_fixpoint.proofs.rows.some_next.Goals as goal

or_nothing : (b : Bool) → (b || false) ≡ b
or_nothing true = refl
or_nothing false = refl

-- the case of a single node
one_passes : (next : List ℕ) (test : ℕ → Bool) → 1 ≤ length next → length next < 2 → test (get_or next 0 0) ≡ passes false test next
one_passes [] test some one = absurd (omega arith)
one_passes (k ∷ []) test some one = sym (or_nothing (test k))
one_passes (k ∷ j ∷ next) test some one = absurd (omega arith)

pub set_in-requires : goal.set_in-requires
set_in-requires c =
    let lt : 0 < length c.args.next.now = omega (arith, c.in-len1.len_at_least) in
    c.requires _ (member c.args.next.now 0 lt)

pub returns-in-len1-clause-gives : goal.returns-in-len1-clause-gives
returns-in-len1-clause-gives c = IfOk-weaker c.copy.result _ _ (λ r h env.
    ap (λ es. set_denotes es env) (h ∙ c.set_in.ensures)
    ∙ one_passes c.args.next.now (λ k. has c.args.x.now k env) (omega (arith, c.in-len1.len_at_least)) (omega (arith, c.in-len1.len_below)))
    c.copy.ensures.same

pub returns-in-len1-clause-vars : goal.returns-in-len1-clause-vars
returns-in-len1-clause-vars c =
    let lt : 0 < length c.args.next.now = omega (arith, c.in-len1.len_at_least) in
    IfOk-weaker c.copy.result _ _ (λ r h test all.
    ap (set_vars test) (h ∙ c.set_in.ensures) ∙ row_vars-at test c.args.x.now _ all (c.requires _ (member c.args.next.now 0 lt))) c.copy.ensures.same
