-- What a step says is what its node says.
use Rattle.std.proofs.Common.{◌≡◌, ℕ, zero, suc, ◌+◌, ◌<◌, true, ◌&&◌, ◌||◌, arith, refl, sym, ap, subst, ◌∙◌}
use Rattle.std.proofs.Common.{◌≤◌, List, [], ◌∷◌, ◌++◌, map, length, take, get_or, Some}
use Rattle.std.proofs.lemmas.Grind.{common_steps}
use Rattle.std.proofs.lemmas.List.{map_more, length-map}
use Rattle.std.proofs.lemmas.Option.{slice_get-get_or}
use Rattle.std.specs.Prelude.{slice_get}
use Rattle.smpl_terms.specs.declared.var.Var.{Var}
use Rattle.ctl_formula.specs.Plain.{Plain}
use Rattle.ctl_formula.specs.Bounds.{Surely}
use Rattle.ctl_formula.specs.Tables.{at, plain_of, below, ordered_from, ordered}
use Rattle.ctl_formula.specs.declared.node.Node.{Node}
use Rattle.ctl_formula.specs.declared.node.Node.TheVariants as node
use Rattle.ctl_translate.specs.CtlBound.Binding.{binds_at}
use Rattle.ctl_translate.specs.CtlBound.Naming.{names}
use Rattle.ctl_translate.specs.CtlBound.Steps.{step_of, is_below, AreOrdered, said_at, says}
use Rattle.ctl_translate.specs.declared.ctl_bound.steps.Step.{Step}

is_below-node : (i : ℕ) (n : Node) → is_below i (step_of n) ≡ below i n
is_below-node i node.True = refl
is_below-node i (node.Atom p) = refl
is_below-node i node.EarlyExit = refl
is_below-node i (node.BraceOpen p b) = refl
is_below-node i (node.BraceClose p b) = refl
is_below-node i (node.Inside b) = refl
is_below-node i (node.Outside b) = refl
is_below-node i (node.Not f) = refl
is_below-node i (node.And f g) = refl
is_below-node i (node.Or f g) = refl
is_below-node i (node.AX f) = refl
is_below-node i (node.EX f) = refl
is_below-node i (node.AU f g) = refl
is_below-node i (node.EU f g) = refl
is_below-node i (node.After f) = refl
is_below-node i (node.InBranch b f) = refl
is_below-node i (node.Exists y f) = refl

pub said-part : (sure : Surely) (x : Var) (fs : List Plain) (i : ℕ)
    → said_at (map (binds_at sure x) fs) i ≡ binds_at sure x (at fs i)
said-part sure x [] i = refl
said-part sure x (f ∷ fs) zero = refl
said-part sure x (f ∷ fs) (suc i) = said-part sure x fs i

pub says-node : (sure : Surely) (x : Var) (fs : List Plain) (n : Node)
    → says (map (binds_at sure x) fs) (names sure n x) (step_of n) ≡ binds_at sure x (plain_of fs n)
says-node sure x fs node.True = refl
says-node sure x fs (node.Atom p) = refl
says-node sure x fs node.EarlyExit = refl
says-node sure x fs (node.BraceOpen p b) = refl
says-node sure x fs (node.BraceClose p b) = refl
says-node sure x fs (node.Inside b) = refl
says-node sure x fs (node.Outside b) = refl
says-node sure x fs (node.Not f) =
    ap (λ p. says (p ∷ []) (names sure (node.Not f) x) (step_of (node.Not 0))) (said-part sure x fs f)
says-node sure x fs (node.And f g) =
    let p = said-part sure x fs f in let q = said-part sure x fs g in λ i. record {
      holding = (p i).holding || (q i).holding;
      failing = (p i).failing && (q i).failing;
      guarded = (p i).guarded && (q i).guarded;
    }
says-node sure x fs (node.Or f g) =
    let p = said-part sure x fs f in let q = said-part sure x fs g in λ i. record {
      holding = (p i).holding && (q i).holding;
      failing = (p i).failing || (q i).failing;
      guarded = (p i).guarded && (q i).guarded;
    }
says-node sure x fs (node.AX f) = said-part sure x fs f
says-node sure x fs (node.EX f) = said-part sure x fs f
says-node sure x fs (node.AU f g) =
    let p = said-part sure x fs f in let q = said-part sure x fs g in λ i. record {
      holding = (q i).holding;
      failing = (q i).failing;
      guarded = (p i).guarded && (q i).guarded;
    }
says-node sure x fs (node.EU f g) =
    let p = said-part sure x fs f in let q = said-part sure x fs g in λ i. record {
      holding = (q i).holding;
      failing = (q i).failing;
      guarded = (p i).guarded && (q i).guarded;
    }
says-node sure x fs (node.After f) =
    ap (λ p. says (p ∷ []) (names sure (node.After f) x) (step_of (node.After 0))) (said-part sure x fs f)
says-node sure x fs (node.InBranch b f) =
    ap (λ p. says (p ∷ []) (names sure (node.InBranch b f) x) (step_of (node.InBranch b 0))) (said-part sure x fs f)
says-node sure x fs (node.Exists y f) =
    ap (λ p. says (p ∷ []) (names sure (node.Exists y f) x) (step_of (node.Exists y 0))) (said-part sure x fs f)

-- what holds of each item, and of one more
each-more : (P : ℕ → Step → Type 0) (steps : List Step) (s : Step)
    → ((i : ℕ) (t : Step) → slice_get steps i ≡ Some t → P i t) → P (length steps) s
    → (i : ℕ) (t : Step) → slice_get (steps ++ s ∷ []) i ≡ Some t → P i t
each-more P [] s each here zero t e = let same : s ≡ t = cc in subst (P 0) same here
each-more P [] s each here (suc i) t e = absurd cc
each-more P (r ∷ steps) s each here zero t e = each zero t e
each-more P (r ∷ steps) s each here (suc i) t e =
    each-more (λ j. P (suc j)) steps s (λ j. each (suc j)) here i t e

pub ordered-none : AreOrdered []
ordered-none i s e = absurd cc

-- one more step, whose parts are earlier ones
pub ordered-more : (steps more : List Step) (n : Node) → more ≡ steps ++ step_of n ∷ [] → below (length steps) n ≡ true
    → AreOrdered steps → AreOrdered more
ordered-more steps more n e b o =
    let P : List Step → Type 0 = λ z. AreOrdered z in
    subst P (sym e) (each-more (λ i s. is_below i s ≡ true) steps (step_of n) o (is_below-node (length steps) n ∙ b))

ordered_from-each : (k : ℕ) (ns : List Node) → ((i : ℕ) (n : Node) → slice_get ns i ≡ Some n → below (k + i) n ≡ true)
    → ordered_from k ns ≡ true
ordered_from-each k [] each = refl
ordered_from-each k (n ∷ ns) each =
    let first : k + 0 ≡ k = omega arith in
    let here : below k n ≡ true = ap (λ z. below z n) (sym first) ∙ each zero n refl in
    let later = ordered_from-each (suc k) ns (λ i m e.
    let next : suc k + i ≡ k + suc i = omega arith in ap (λ z. below z m) next ∙ each (suc i) m e) in
    ap (λ z. z && ordered_from (suc k) ns) here ∙ later

step-get : (ns : List Node) (i : ℕ) (n : Node) → slice_get ns i ≡ Some n → slice_get (map step_of ns) i ≡ Some (step_of n)
step-get [] i n e = absurd cc
step-get (m ∷ ns) zero n e = let same : m ≡ n = cc in ap (λ z. Some (step_of z)) same
step-get (m ∷ ns) (suc i) n e = step-get ns i n e

-- a node's parts are earlier ones if those of its step are
pub below-step : (ns : List Node) → AreOrdered (map step_of ns) → (i : ℕ) (n : Node) → slice_get ns i ≡ Some n
    → below i n ≡ true
below-step ns o i n e = sym (is_below-node i n) ∙ o i (step_of n) (step-get ns i n e)

pub ordered-steps : (ns : List Node) → AreOrdered (map step_of ns) → ordered ns ≡ true
ordered-steps ns o = ordered_from-each 0 ns (λ i n e.
    let same : 0 + i ≡ i = omega arith in ap (λ z. below z n) same ∙ below-step ns o i n e)

front-length : (ns : List Node) (i : ℕ) → i < length ns → length (take i ns) ≡ i
front-length ns i h = grind (arith, common_steps)

-- the steps of one more node
pub steps-more : (ns : List Node) (i : ℕ) (n : Node) (steps more : List Step) (s : Step) → i < length ns
    → slice_get ns i ≡ Some n → below i n ≡ true → s ≡ step_of n → more ≡ steps ++ s ∷ []
    → (steps ≡ map step_of (take i ns)) × AreOrdered steps
    → (more ≡ map step_of (take (i + 1) ns)) × AreOrdered more
steps-more ns i n steps more s l e b r a before =
    let same : n ≡ get_or ns i n = let there = slice_get-get_or ns i n l in cc in
    let pushed : more ≡ steps ++ step_of n ∷ [] = a ∙ ap (λ z. steps ++ z ∷ []) r in
    let len : i ≡ length steps
    = sym (ap length before.0 ∙ length-map (take i ns) step_of ∙ front-length ns i l) in (
      pushed ∙ ap (λ z. z ++ step_of n ∷ []) before.0
          ∙ ap (λ z. map step_of (take i ns) ++ step_of z ∷ []) same ∙ sym (map_more step_of ns i n l),
      ordered-more steps more n pushed (ap (λ z. below z n) (sym len) ∙ b) before.1,
    )

steps-whole : (ns : List Node) (i : ℕ) → length ns ≤ i → take i ns ≡ ns
steps-whole ns i h = grind (arith, common_steps)

pub steps-all : (ns : List Node) (i : ℕ) (steps : List Step) → length ns ≤ i → steps ≡ map step_of (take i ns)
    → steps ≡ map step_of ns
steps-all ns i steps l e = e ∙ ap (map step_of) (steps-whole ns i l)
