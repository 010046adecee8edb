-- Tokens that count, in lists of tokens and of elements.
use Rattle.std.proofs.Common.{◌≡◌, refl, sym, ap, ◌∙◌, List, [], ◌∷◌, ◌++◌, append_assoc, Bool, true, false, if◌then◌else◌}
use Rattle.std.proofs.lemmas.List.{append-nil}
use Rattle.std.proofs.lemmas.Bool.{false≢true}
use Rattle.c_terms.specs.declared.token.Token.{Token}
use Rattle.c_terms.specs.declared.token.TokenKind.{TokenKind}
use Rattle.c_terms.specs.declared.token.TokenKind.TheVariants as kind
use Rattle.c_terms.specs.declared.tree.Tree.{Tree}
use Rattle.c_terms.specs.Trees.{leaves}
use Rattle.c_terms.proofs.Induct.{tree_cases}
use Rattle.c_terms.proofs.SameLemmas.{out-Leaf, out-Branch}
use Rattle.c_terms.proofs.TreeLemmas.{leaves-Leaf}
use Rattle.smpl_patch.specs.declared.elem.Elem.{Elem}
use Rattle.smpl_patch.specs.Bodies.{element, body}
use Rattle.sound_laws.specs.SmplLeaves.Leaves.{is_code, code, element_tokens, body_tokens}
use Rattle.sound_laws.specs.SmplLeaves.Shapes.{is_sign_kind, is_sign_in, is_sign}

-- ---- tokens that count

pub code-by : (b : Bool) (t : Token) (xs ys : List Token) → (if b then t ∷ xs ++ ys else xs ++ ys) ≡ (if b then t ∷ xs else xs) ++ ys
code-by true t xs ys = refl
code-by false t xs ys = refl

pub code-append : (xs ys : List Token) → code (xs ++ ys) ≡ code xs ++ code ys
code-append [] ys = refl
code-append (t ∷ xs) ys =
    ap (λ l. if is_code t.kind then t ∷ l else l) (code-append xs ys) ∙ code-by (is_code t.kind) t (code xs) (code ys)

-- two lists, one after the other
pub code-both : (xs ys us vs : List Token) → code xs ≡ code us → code ys ≡ code vs → code (xs ++ ys) ≡ code (us ++ vs)
code-both xs ys us vs e h = code-append xs ys ∙ ((λ i. e i ++ h i) ∙ sym (code-append us vs))

pub body-append : (xs ys : List Elem) → body_tokens (body (xs ++ ys)) ≡ body_tokens (body xs) ++ body_tokens (body ys)
body-append [] ys = refl
body-append (x ∷ xs) ys =
    ap (λ l. element_tokens (element x) ++ l) (body-append xs ys)
    ∙ sym (append_assoc (element_tokens (element x)) (body_tokens (body xs)) (body_tokens (body ys)))

-- one element
pub alone : (x : Elem) → body_tokens (body (x ∷ [])) ≡ element_tokens (element x)
alone x = append-nil (element_tokens (element x))

pub sign-kind : (k : TokenKind) → is_sign_kind k ≡ true → is_code k ≡ false
sign-kind kind.Pat h = refl
sign-kind kind.Name h = absurd (false≢true h)
sign-kind kind.Keyword h = absurd (false≢true h)
sign-kind kind.Number h = absurd (false≢true h)
sign-kind kind.Char h = absurd (false≢true h)
sign-kind kind.Str h = absurd (false≢true h)
sign-kind kind.Punct h = absurd (false≢true h)
sign-kind kind.Stray h = absurd (false≢true h)
sign-kind (kind.Meta m) h = absurd (false≢true h)
sign-kind kind.Dots h = absurd (false≢true h)

pub one-uncounted : (a : Token) → is_code a.kind ≡ false → code (a ∷ []) ≡ []
one-uncounted a h = rw h refl

abbrev pub SignLost : Tree → Type 0
SignLost t = is_sign t ≡ true → code (leaves t) ≡ []

-- a sign doesn't count
pub sign-lost : (t : Tree) → SignLost t
sign-lost = tree_cases SignLost
    (λ a h. ap code (leaves-Leaf a) ∙ one-uncounted a (sign-kind a.kind (ap is_sign_in (sym (out-Leaf a)) ∙ h)))
    (λ l cs h. absurd (false≢true (ap is_sign_in (sym (out-Branch l cs)) ∙ h)))
