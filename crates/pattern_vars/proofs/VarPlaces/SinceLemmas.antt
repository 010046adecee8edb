-- The variables of links from a number on.
use Rattle.std.proofs.Common.{◌≡◌, ℕ, zero, suc, ◌+◌, ◌-◌, ◌<◌, sym, ap, ◌∙◌, arith, List, [], ◌∷◌, ◌++◌, length, get_or, drop, append_assoc}
use Rattle.std.proofs.lemmas.List.{drop_more}
use Rattle.smpl_terms.specs.declared.var.Var.{Var}
use Rattle.pattern_vars.specs.VarPlaces.Scopes.{joined}

drop-over : (n : ℕ) (xs ys : List Var) → drop n (xs ++ ys) ≡ drop n xs ++ drop (n - length xs) ys
drop-over zero xs ys = ap (λ (k : ℕ). xs ++ drop k ys) (let none : 0 ≡ 0 - length xs = omega arith in none)
drop-over (suc n) [] ys = ap (λ (k : ℕ). drop k ys) (let all : suc n ≡ suc n - 0 = omega arith in all)
drop-over (suc n) (x ∷ xs) ys =
    drop-over n xs ys ∙ ap (λ (k : ℕ). drop n xs ++ drop k ys) (let less : n - length xs ≡ suc n - suc (length xs) = omega arith in less)

joined-here : (links : List (List Var)) (i : ℕ) (link : List Var) → i < length links → link ≡ get_or links i link
    → joined (drop i links) ≡ link ++ joined (drop (i + 1) links)
joined-here links i link l q =
    ap joined (drop_more links i link l ∙ ap (λ (z : List Var). z ∷ drop (i + 1) links) (sym q))

-- those of one more link are found
pub since-step : (links : List (List Var)) (i : ℕ) (link last : List Var) (left after : ℕ) (old new whole : List Var) → i < length links
    → link ≡ get_or links i link → new ≡ old ++ drop left link → after ≡ left - length link
    → old ++ drop left (joined (drop i links) ++ last) ≡ whole → new ++ drop after (joined (drop (i + 1) links) ++ last) ≡ whole
since-step links i link last left after old new whole l q n a h =
    let more = joined (drop (i + 1) links) in
    let rest = more ++ last in
    ap (λ (z : List Var). z ++ drop after rest) n ∙ append_assoc old (drop left link) (drop after rest)
    ∙ ap (λ (k : ℕ). old ++ (drop left link ++ drop k rest)) a ∙ ap (λ (z : List Var). old ++ z) (sym (drop-over left link rest))
    ∙ ap (λ (z : List Var). old ++ drop left z) (sym (append_assoc link more last))
    ∙ ap (λ (z : List Var). old ++ drop left (z ++ last)) (sym (joined-here links i link l q)) ∙ h
