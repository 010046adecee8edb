-- How a range is seen, as the code's answers cite it.
use Rattle.std.proofs.Common.{◌≡◌, ℕ, zero, suc, ◌+◌, ◌-◌, ◌≤◌, ◌<◌, List, [], ◌∷◌, length, drop, set, get_or, eqb-true, refl, subst, ap, sym, ◌∙◌, arith}
use Rattle.std.proofs.lemmas.List.{drop_more, drop_all, drop-set, drop-set-lt, length-set}
use Rattle.std.specs.Prelude.{Bool, true, false, not, ◌==◌, Some, slice_get, if◌then◌else◌}
use Rattle.c_terms.specs.declared.token.Token.{Token}
use Rattle.c_terms.specs.declared.tree.Tree.{Tree}
use Rattle.c_rows.specs.declared.class.Class.{Class}
use Rattle.c_rows.specs.declared.class.Class.TheVariants as class
use Rattle.c_rows.specs.declared.kind.Kind.TheVariants as kind
use Rattle.c_rows.specs.Seen.{Seen, front}
use Rattle.c_rows.specs.Spells.{Spells}
use Rattle.c_rows.specs.Words.{ends_member}
use Rattle.c_rows.specs.Range.{NoMember, AreSeenAs, IsSeenAs, leads_member}
use Rattle.c_rows.specs.Look.{Names, look, class_of}
use Rattle.c_rows.specs.Scan.{ends_as_member}
use Rattle.c_rows.proofs.Checks.{member_stops}
use Rattle.c_expr.specs.Steps.{OnlyTree, NoTreeAt, HasLevels}
use Rattle.c_expr.specs.Sight.{decided, led, leads_before, Marked}

pub no_member : (ss : List Seen) → NoTreeAt 1000 kind.AssignLevel ss → NoMember ss
no_member ss none u ys d e l = none u ys d (member_stops false (front ys) e) l

pub found_member : (ss ys : List Seen) (t : Tree) (n : ℕ) (b : Bool) → Spells kind.AssignLevel ss t ys
    → OnlyTree 1000 kind.AssignLevel ss t ys → HasLevels t n 1000 → b ≡ ends_member (front ys)
    → decided (not b) (NoMember ss)
found_member ss ys t n true d one deep e = λ none. none t ys d (sym e) (omega (arith, deep.0, deep.1))
found_member ss ys t n false d one deep e = λ u zs d' e' l.
    let same = one u zs d' (member_stops false (front zs) e') l in
    let yes : ends_member (front ys) ≡ true = ap (λ (xs : List Seen). ends_member (front xs)) same.1 ∙ e' in
    let never : false ≡ true = e ∙ yes in
    let no : ⊥ = cc in absurd no

-- ---- from the last token backwards

pub sight_start : (names : Names) (leads : Bool) (tokens : List Token) (seen : List Seen) → length seen ≡ length tokens
    → AreSeenAs names leads (drop (length tokens) tokens) (drop (length tokens) seen)
sight_start names leads tokens seen e =
    subst (λ (ts : List Token). AreSeenAs names leads ts (drop (length tokens) seen)) (sym (drop_all (length tokens) tokens (omega arith)))
    (subst (λ (ss : List Seen). AreSeenAs names leads [] ss) (sym (drop_all (length tokens) seen (omega (arith, e)))) tt)

at_place : (xs : List Token) (j : ℕ) (t : Token) → j < length xs → t ≡ get_or xs j t → slice_get xs j ≡ Some t
at_place [] j t h e = absurd (omega arith)
at_place (x ∷ xs) zero t h e = ap Some (sym e)
at_place (x ∷ xs) (suc j) t h e = at_place xs j t (omega arith) e

leads_at : (xs : List Token) (i : ℕ) (t : Token) → 0 < i → i ≤ length xs → t ≡ get_or xs (i - 1) t → leads_before xs i ≡ leads_member t
leads_at xs i t pos fits e = pick (i == 0) refl
  where
    pick : (b : Bool) → (i == 0) ≡ b → (if b then false else led (slice_get xs (i - 1))) ≡ leads_member t
    pick true z = let no : i ≡ 0 = eqb-true i 0 z in absurd (omega (arith, no))
    pick false z = ap led (at_place xs (i - 1) t (omega arith) e)

look-cons : (names : Names) (t : Token) (ts : List Token) → look names (t ∷ ts) ≡ class_of names t.kind t.text ts (look names ts)
unfolding look
look-cons names t ts = refl

abbrev mark : Token → Class → Bool → Seen
mark t c b = record { token = t; class = c; typed = b }

seen_here : (names : Names) (leads : Bool) (t : Token) (ts : List Token) (class : Class) (typed ends : Bool) (ss : List Seen)
    → class ≡ look names (t ∷ ts) → ends ≡ ends_as_member names (t ∷ ts)
    → Marked typed leads ends (mark t class false ∷ ss) → IsSeenAs names leads t ts (mark t class typed) ss
seen_here names leads t ts class typed ends ss e z m =
    let m' : Marked typed leads (ends_as_member names (t ∷ ts)) (mark t class false ∷ ss) =
    subst (λ (b : Bool). Marked typed leads b (mark t class false ∷ ss)) z m in
    record { token = refl; class = e; marked = m'.only; unmarked_else = m'.all }

turn_at : (names : Names) (tokens : List Token) (seen : List Seen) (j : ℕ) (t : Token) (class : Class) (typed leads ends : Bool)
    → length seen ≡ length tokens → j < length tokens → t ≡ get_or tokens j t
    → class ≡ look names (t ∷ drop (j + 1) tokens) → ends ≡ ends_as_member names (t ∷ drop (j + 1) tokens)
    → Marked typed leads ends (drop j (set seen j (mark t class false)))
    → AreSeenAs names (leads_member t) (drop (j + 1) tokens) (drop (j + 1) seen)
    → AreSeenAs names leads (drop j tokens) (drop j (set (set seen j (mark t class false)) j (mark t class typed)))
turn_at names tokens seen j t class typed leads ends even h e c z m right =
    let ts : drop j tokens ≡ t ∷ drop (j + 1) tokens = drop_more tokens j t h ∙ ap (λ (x : Token). x ∷ drop (j + 1) tokens) (sym e) in
    let a : Seen = mark t class false in
    let b : Seen = mark t class typed in
    let later : drop (j + 1) (set seen j a) ≡ drop (j + 1) seen = drop-set-lt (j + 1) seen j a (omega arith) in
    let first : drop j (set seen j a) ≡ a ∷ drop (j + 1) seen = drop-set seen j a (omega (arith, even)) in
    let long : length (set seen j a) ≡ length seen = length-set seen j a in
    let second : drop j (set (set seen j a) j b) ≡ b ∷ drop (j + 1) seen =
    drop-set (set seen j a) j b (omega (arith, even, long)) ∙ ap (λ (ss : List Seen). b ∷ ss) later in
    let here : IsSeenAs names leads t (drop (j + 1) tokens) b (drop (j + 1) seen) =
    seen_here names leads t (drop (j + 1) tokens) class typed ends (drop (j + 1) seen) c z (subst (λ (ss : List Seen). Marked typed leads ends ss) first m) in
    subst (λ (us : List Token). AreSeenAs names leads us (drop j (set (set seen j a) j b))) (sym ts)
    (subst (λ (ss : List Seen). AreSeenAs names leads (t ∷ drop (j + 1) tokens) ss) (sym second) (here, right))

one_item : (xs : List Token) (j : ℕ) (t u : Token) → j < length xs → t ≡ get_or xs j t → u ≡ get_or xs j u → t ≡ u
one_item [] j t u h e f = absurd (omega arith)
one_item (x ∷ xs) zero t u h e f = e ∙ sym f
one_item (x ∷ xs) (suc j) t u h e f = one_item xs j t u (omega arith) e f

look-nil : (names : Names) → look names [] ≡ class.End
unfolding look
look-nil names = refl

pub look_end : (names : Names) (tokens : List Token) → class.End ≡ look names (drop (length tokens) tokens)
look_end names tokens = sym (look-nil names) ∙ ap (look names) (sym (drop_all (length tokens) tokens (omega arith)))

pub same_length : (seen : List Seen) (j n : ℕ) (a b : Seen) → length seen ≡ n → length (set (set seen j a) j b) ≡ n
same_length seen j n a b e = length-set (set seen j a) j b ∙ length-set seen j a ∙ e

pub sight_next : (names : Names) (tokens rest : List Token) (i : ℕ) (t : Token) (class next : Class) → i ≤ length tokens → 0 < i
    → t ≡ get_or tokens (i - 1) t → rest ≡ drop (i - 1 + 1) tokens
    → class ≡ class_of names t.kind t.text rest next → next ≡ look names (drop i tokens) → class ≡ look names (drop (i - 1) tokens)
sight_next names tokens rest i t class next fits pos e r c n =
    let up : i ≡ i - 1 + 1 = omega arith in
    let n' : next ≡ look names (drop (i - 1 + 1) tokens) = n ∙ ap (λ (k : ℕ). look names (drop k tokens)) up in
    let ts : drop (i - 1) tokens ≡ t ∷ drop (i - 1 + 1) tokens =
    drop_more tokens (i - 1) t (omega arith) ∙ ap (λ (x : Token). x ∷ drop (i - 1 + 1) tokens) (sym e) in
    c ∙ ap (λ (us : List Token). class_of names t.kind t.text us next) r
    ∙ ap (class_of names t.kind t.text (drop (i - 1 + 1) tokens)) n' ∙ sym (look-cons names t (drop (i - 1 + 1) tokens)) ∙ ap (look names) (sym ts)

pub sight_turn : (names : Names) (tokens rest : List Token) (seen : List Seen) (i : ℕ) (t u v : Token) (class next : Class)
    (a b : Seen) (typed leads ends : Bool) (view : List Seen)
    → length seen ≡ length tokens → i ≤ length tokens → 0 < i
    → t ≡ get_or tokens (i - 1) t → u ≡ get_or tokens (i - 1) u → v ≡ get_or tokens (i - 1) v → rest ≡ drop (i - 1 + 1) tokens
    → class ≡ class_of names t.kind t.text rest next → next ≡ look names (drop i tokens)
    → a ≡ mark u class false → b ≡ mark v class typed → view ≡ drop (i - 1) (set seen (i - 1) a)
    → ends ≡ ends_as_member names (drop (i - 1) tokens) → Marked typed leads ends view → leads ≡ leads_before tokens (i - 1)
    → AreSeenAs names (leads_before tokens i) (drop i tokens) (drop i seen)
    → AreSeenAs names (leads_before tokens (i - 1)) (drop (i - 1) tokens) (drop (i - 1) (set (set seen (i - 1) a) (i - 1) b))
sight_turn names tokens rest seen i t u v class next a b typed leads ends view even fits pos e eu ev r c n ea eb w z m l right =
    let up : i ≡ i - 1 + 1 = omega arith in
    let a' : a ≡ mark t class false = ea ∙ ap (λ (x : Token). mark x class false) (one_item tokens (i - 1) u t (omega arith) eu e) in
    let b' : b ≡ mark t class typed = eb ∙ ap (λ (x : Token). mark x class typed) (one_item tokens (i - 1) v t (omega arith) ev e) in
    let n' : next ≡ look names (drop (i - 1 + 1) tokens) = n ∙ ap (λ (k : ℕ). look names (drop k tokens)) up in
    let c' : class ≡ look names (t ∷ drop (i - 1 + 1) tokens) =
    c ∙ ap (λ (ts : List Token). class_of names t.kind t.text ts next) r
    ∙ ap (class_of names t.kind t.text (drop (i - 1 + 1) tokens)) n' ∙ sym (look-cons names t (drop (i - 1 + 1) tokens)) in
    let ts : drop (i - 1) tokens ≡ t ∷ drop (i - 1 + 1) tokens =
    drop_more tokens (i - 1) t (omega arith) ∙ ap (λ (x : Token). x ∷ drop (i - 1 + 1) tokens) (sym e) in
    let z' : ends ≡ ends_as_member names (t ∷ drop (i - 1 + 1) tokens) = z ∙ ap (ends_as_member names) ts in
    let m' : Marked typed leads ends (drop (i - 1) (set seen (i - 1) (mark t class false))) =
    subst (λ (x : Seen). Marked typed leads ends (drop (i - 1) (set seen (i - 1) x))) a' (subst (λ (ss : List Seen). Marked typed leads ends ss) w m) in
    let right' : AreSeenAs names (leads_member t) (drop (i - 1 + 1) tokens) (drop (i - 1 + 1) seen) =
    subst (λ (k : ℕ). AreSeenAs names (leads_member t) (drop k tokens) (drop k seen)) up
    (subst (λ (y : Bool). AreSeenAs names y (drop i tokens) (drop i seen)) (leads_at tokens i t pos fits e) right) in
    let all = turn_at names tokens seen (i - 1) t class typed leads ends even (omega arith) e c' z' m' right' in
    subst (λ (y : Bool). AreSeenAs names y (drop (i - 1) tokens) (drop (i - 1) (set (set seen (i - 1) a) (i - 1) b))) l
    (subst (λ (x : Seen). AreSeenAs names leads (drop (i - 1) tokens) (drop (i - 1) (set (set seen (i - 1) x) (i - 1) b))) (sym a')
    (subst (λ (x : Seen). AreSeenAs names leads (drop (i - 1) tokens) (drop (i - 1) (set (set seen (i - 1) (mark t class false)) (i - 1) x))) (sym b') all))
