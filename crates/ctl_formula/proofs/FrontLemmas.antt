-- A node's formula, given the parts before it.
use Rattle.std.proofs.Common.{◌≡◌, ℕ, zero, suc, ◌<◌, ◌≤◌, true, arith, refl, sym, ap, ◌∙◌, List, [], ◌∷◌}
use Rattle.std.proofs.Common.{◌++◌, length, take, drop}
use Rattle.std.proofs.lemmas.Grind.{common_steps}
use Rattle.ctl_formula.specs.Plain.{Plain}
use Rattle.ctl_formula.specs.declared.node.Node.{Node}
use Rattle.ctl_formula.specs.Tables.{plain_of, below}
use Rattle.ctl_formula.proofs.TableLemmas.{plain_of-front}

front-length : (fs : List Plain) (i : ℕ) → i ≤ length fs → length (take i fs) ≡ i
front-length fs i h = grind (arith, common_steps)

parts-joined : (fs : List Plain) (i : ℕ) → fs ≡ take i fs ++ drop i fs
parts-joined [] zero = refl
parts-joined [] (suc i) = refl
parts-joined (f ∷ fs) zero = refl
parts-joined (f ∷ fs) (suc i) = ap (λ z. f ∷ z) (parts-joined fs i)

pub node-front : (fs : List Plain) (i : ℕ) (n : Node) → i < length fs → below i n ≡ true
    → plain_of (take i fs) n ≡ plain_of fs n
node-front fs i n h b =
    let l : length (take i fs) ≡ i = front-length fs i (omega (arith, h)) in
    let b' : below (length (take i fs)) n ≡ true = ap (λ z. below z n) l ∙ b in
    sym (plain_of-front n (take i fs) (drop i fs) b') ∙ ap (λ z. plain_of z n) (sym (parts-joined fs i))
