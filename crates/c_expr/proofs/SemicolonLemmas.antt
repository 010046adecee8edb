-- Whether branches have a `;`, as the code's answers cite it.
use Rattle.std.proofs.Common.{◌≡◌, ℕ, zero, suc, ◌-◌, ◌+◌, ◌≤◌, ◌<◌, List, [], ◌∷◌, drop, length, reverse, get_or, refl, subst, ap, sym, ◌∙◌, arith}
use Rattle.std.proofs.lemmas.List.{drop_more, drop_all}
use Rattle.std.specs.Prelude.{Bool}
use Rattle.c_terms.specs.declared.token.Token.{Token}
use Rattle.c_rows.specs.declared.branches.Group.{Group}
use Rattle.c_rows.specs.declared.branches.Group.TheVariants as groups
use Rattle.c_rows.specs.Look.{group, semicolon_from, has_semicolon}
use Rattle.c_expr.specs.Semicolons.{flag_at, flags_behind, passed}

flags-behind : (bs : List Bool) (d : ℕ) → flag_at (flags_behind bs) d ≡ flag_at bs (suc d)
flags-behind [] d = refl
flags-behind (b ∷ bs) d = refl

-- The list says whether the branch has a `;`, in any number of groups.
abbrev pub TellsBranches : List Bool → List Token → Type 0
TellsBranches bs ts = (d : ℕ) → flag_at bs d ≡ has_semicolon d ts

semicolon-none : (d : ℕ) → has_semicolon d [] ≡ Bool.false
unfolding has_semicolon
semicolon-none d = refl

semicolon-cons : (t : Token) (ts : List Token) (d : ℕ) → has_semicolon d (t ∷ ts) ≡ semicolon_from (group t) d (λ e. has_semicolon e ts)
unfolding has_semicolon
semicolon-cons t ts d = refl

tells-from : (u : Group) (ts : List Token) (bs : List Bool) → TellsBranches bs ts → (d : ℕ)
    → flag_at (passed u bs) d ≡ semicolon_from u d (λ e. has_semicolon e ts)
tells-from groups.Opening ts bs h d = flags-behind bs d ∙ h (suc d)
tells-from groups.Closing ts bs h zero = refl
tells-from groups.Closing ts bs h (suc d) = h d
tells-from groups.Parting ts bs h zero = refl
tells-from groups.Parting ts bs h (suc d) = flags-behind bs d ∙ h (suc d)
tells-from groups.Semicolon ts bs h zero = refl
tells-from groups.Semicolon ts bs h (suc d) = flags-behind bs d ∙ h (suc d)
tells-from groups.Plain ts bs h d = h d

tells-more : (t : Token) (ts : List Token) (bs : List Bool) → TellsBranches bs ts → TellsBranches (passed (group t) bs) (t ∷ ts)
tells-more t ts bs h d = tells-from (group t) ts bs h d ∙ sym (semicolon-cons t ts d)

-- one token more, from the last one backwards
pub branches_next : (tokens : List Token) (i : ℕ) (t : Token) (u : Group) (old new : List Bool) → 0 < i → i ≤ length tokens
    → t ≡ get_or tokens (i - 1) t → u ≡ group t → new ≡ passed u old
    → TellsBranches old (drop i tokens) → TellsBranches new (drop (i - 1) tokens)
branches_next tokens i t u old new pos fits is g n h =
    let v : Token = get_or tokens (i - 1) t in
    let us : List Token = drop (i - 1 + 1) tokens in
    let here : drop (i - 1) tokens ≡ v ∷ us = drop_more tokens (i - 1) t (omega arith) in
    let up : i ≡ i - 1 + 1 = omega arith in
    let before : TellsBranches old us = subst (λ (k : ℕ). TellsBranches old (drop k tokens)) up h in
    let same : u ≡ group v = g ∙ ap group is in
    let all : TellsBranches (passed u old) (v ∷ us) = subst (λ (x : Group). TellsBranches (passed x old) (v ∷ us)) (sym same) (tells-more v us old before) in
    subst (λ (ts : List Token). TellsBranches new ts) (sym here) (subst (λ (bs : List Bool). TellsBranches bs (v ∷ us)) (sym n) all)

pub branches_start : (tokens : List Token) (items : List Bool) → items ≡ [] → TellsBranches (reverse items) (drop (length tokens) tokens)
branches_start tokens items e =
    subst (λ (xs : List Bool). TellsBranches (reverse xs) (drop (length tokens) tokens)) (sym e)
    (subst (λ (ts : List Token). TellsBranches [] ts) (sym (drop_all (length tokens) tokens (omega arith))) (λ d. sym (semicolon-none d)))
