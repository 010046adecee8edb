-- Choices of one form of each child.
use Rattle.std.proofs.Common.{◌≡◌, ◌<◌, ◌≤◌, List, [], ◌∷◌, ◌++◌, length, map, refl, sym, ap, ◌∙◌, append_assoc, arith, length-append, ℕ, ◌+◌, ◌*◌}
use Rattle.std.proofs.Math.Nat.{zero-mul, suc-mul, add_comm}
use Rattle.std.proofs.lemmas.List.{length-map}
use Rattle.c_terms.specs.declared.tree.Tree.{Tree}
use Rattle.c_terms.specs.Trees.{join}
use Rattle.iso_expand.specs.IsoForms.Forms.{choices}
use Rattle.iso_expand.specs.IsoForms.Stepped.{longer, grown, grown_by}
use Rattle.iso_expand.proofs.IsoForms.ListLemmas.{append_empty}

abbrev Choice : Type 0
Choice = List Tree

-- each of some choices after one
abbrev behind : Choice → List Choice → List Choice
behind cs ds = map (λ d. cs ++ d) ds

-- each of some choices after each of others
abbrev pairs : List Choice → List Choice → List Choice
pairs [] ds = []
pairs (cs ∷ css) ds = behind cs ds ++ pairs css ds

behind-append : (cs : Choice) (ds es : List Choice) → behind cs (ds ++ es) ≡ behind cs ds ++ behind cs es
behind-append cs [] es = refl
behind-append cs (d ∷ ds) es = ap (λ (x : List Choice). (cs ++ d) ∷ x) (behind-append cs ds es)

pairs-append : (css bss ds : List Choice) → pairs (css ++ bss) ds ≡ pairs css ds ++ pairs bss ds
pairs-append [] bss ds = refl
pairs-append (cs ∷ css) bss ds =
    ap (λ (x : List Choice). behind cs ds ++ x) (pairs-append css bss ds) ∙ sym (append_assoc (behind cs ds) (pairs css ds) (pairs bss ds))

behind-behind : (cs : Choice) (t : Tree) (ds : List Choice) → behind (cs ++ t ∷ []) ds ≡ behind cs (map (λ d. t ∷ d) ds)
behind-behind cs t [] = refl
behind-behind cs t (d ∷ ds) =
    ap (λ (x : Choice). x ∷ behind (cs ++ t ∷ []) ds) (append_assoc cs (t ∷ []) d) ∙ ap (λ (x : List Choice). (cs ++ t ∷ d) ∷ x) (behind-behind cs t ds)

longer-pairs : (cs : Choice) (ts : List Tree) (ds : List Choice) → pairs (longer cs ts) ds ≡ behind cs (join (map (λ t. map (λ d. t ∷ d) ds) ts))
longer-pairs cs [] ds = refl
longer-pairs cs (t ∷ ts) ds =
    ap (λ (x : List Choice). behind (cs ++ t ∷ []) ds ++ x) (longer-pairs cs ts ds)
    ∙ ap (λ (x : List Choice). x ++ behind cs (join (map (λ t. map (λ d. t ∷ d) ds) ts))) (behind-behind cs t ds)
    ∙ sym (behind-append cs (map (λ d. t ∷ d) ds) (join (map (λ t. map (λ d. t ∷ d) ds) ts)))

grown-pairs : (css : List Choice) (ts : List Tree) (more : List (List Tree)) → pairs (grown css ts) (choices more) ≡ pairs css (choices (ts ∷ more))
grown-pairs [] ts more = refl
grown-pairs (cs ∷ css) ts more =
    pairs-append (longer cs ts) (grown css ts) (choices more)
    ∙ ap (λ (x : List Choice). x ++ pairs (grown css ts) (choices more)) (longer-pairs cs ts (choices more))
    ∙ ap (λ (x : List Choice). behind cs (choices (ts ∷ more)) ++ x) (grown-pairs css ts more)

pairs-empty : (css : List Choice) → pairs css ([] ∷ []) ≡ css
pairs-empty [] = refl
pairs-empty (cs ∷ css) = ap (λ (x : Choice). x ∷ pairs css ([] ∷ [])) (append_empty cs) ∙ ap (λ (x : List Choice). cs ∷ x) (pairs-empty css)

grown_by-pairs : (css : List Choice) (fss : List (List Tree)) → grown_by css fss ≡ pairs css (choices fss)
grown_by-pairs css [] = sym (pairs-empty css)
grown_by-pairs css (ts ∷ more) = grown_by-pairs (grown css ts) more ∙ grown-pairs css ts more

behind-nothing : (ds : List Choice) → behind [] ds ≡ ds
behind-nothing [] = refl
behind-nothing (d ∷ ds) = ap (λ (x : List Choice). d ∷ x) (behind-nothing ds)

-- grown child by child, they are the choices
pub grown-choices : (fss : List (List Tree)) → grown_by ([] ∷ []) fss ≡ choices fss
grown-choices fss = grown_by-pairs ([] ∷ []) fss ∙ append_empty (behind [] (choices fss)) ∙ behind-nothing (choices fss)

-- ---- their number

longer-length : (cs : Choice) (ts : List Tree) → length (longer cs ts) ≡ length ts
longer-length cs ts = length-map ts (λ t. cs ++ t ∷ [])

-- some choice is made longer by each tree
pub grown-ways : (css : List Choice) (ts : List Tree) → 0 < length css → length ts ≤ length (grown css ts)
grown-ways [] ts h = absurd (omega arith)
grown-ways (cs ∷ css) ts h = omega (arith, length-append (longer cs ts) (grown css ts), longer-length cs ts)

-- each choice is made longer by some tree
pub grown-choices_length : (css : List Choice) (ts : List Tree) → 0 < length ts → length css ≤ length (grown css ts)
grown-choices_length [] ts h = omega arith
grown-choices_length (cs ∷ css) ts h =
    omega (arith, length-append (longer cs ts) (grown css ts), longer-length cs ts, grown-choices_length css ts h)

-- each list has a member
abbrev pub AllSome : List (List Tree) → Type 0
AllSome [] = Unit {0}
AllSome (ts ∷ more) = (0 < length ts) × AllSome more

pub grown_by-length : (css : List Choice) (fss : List (List Tree)) → AllSome fss → length css ≤ length (grown_by css fss)
grown_by-length css [] h = omega arith
grown_by-length css (ts ∷ more) h =
    omega (arith, grown-choices_length css ts h.0, grown_by-length (grown css ts) more h.1)

-- there are as many as there are pairs
pub grown-length : (css : List Choice) (ts : List Tree) → length (grown css ts) ≡ length css * length ts
grown-length [] ts = sym (zero-mul (length ts))
grown-length (cs ∷ css) ts =
    length-append (longer cs ts) (grown css ts) ∙ ap (λ (n : ℕ). n + length (grown css ts)) (longer-length cs ts)
    ∙ ap (λ (n : ℕ). length ts + n) (grown-length css ts) ∙ add_comm (length ts) (length css * length ts) ∙ sym (suc-mul (length css) (length ts))

-- ---- one choice more, and one tree more

pub longer-append : (cs : Choice) (ts us : List Tree) → longer cs (ts ++ us) ≡ longer cs ts ++ longer cs us
longer-append cs [] us = refl
longer-append cs (t ∷ ts) us = ap (λ (x : List Choice). (cs ++ t ∷ []) ∷ x) (longer-append cs ts us)

grown-append : (css bss : List Choice) (ts : List Tree) → grown (css ++ bss) ts ≡ grown css ts ++ grown bss ts
grown-append [] bss ts = refl
grown-append (cs ∷ css) bss ts =
    ap (λ (x : List Choice). longer cs ts ++ x) (grown-append css bss ts) ∙ sym (append_assoc (longer cs ts) (grown css ts) (grown bss ts))

-- one more choice, with the trees and then with the last
pub grown-more : (css : List Choice) (cs : Choice) (ts : List Tree) (t : Tree)
    → (grown css (ts ++ t ∷ []) ++ longer cs ts) ++ (cs ++ t ∷ []) ∷ [] ≡ grown (css ++ cs ∷ []) (ts ++ t ∷ [])
grown-more css cs ts t =
    append_assoc (grown css (ts ++ t ∷ [])) (longer cs ts) ((cs ++ t ∷ []) ∷ [])
    ∙ ap (λ (x : List Choice). grown css (ts ++ t ∷ []) ++ x) (sym (longer-append cs ts (t ∷ [])) ∙ sym (append_empty (longer cs (ts ++ t ∷ []))))
    ∙ sym (grown-append css (cs ∷ []) (ts ++ t ∷ []))

pub grown-by_none : (css : List Choice) → grown css [] ≡ []
grown-by_none [] = refl
grown-by_none (cs ∷ css) = grown-by_none css
