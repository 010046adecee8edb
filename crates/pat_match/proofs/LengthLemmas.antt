-- How many members a list has, and lists that are too long.
use Rattle.std.proofs.Common.{◌≡◌, ℕ, suc, zero, ◌<◌, Bool, false, ◌&&◌, ◌||◌, refl, sym, ap, ◌∙◌, arith, List, [], ◌∷◌, map}
use Rattle.std.proofs.Common.{length, take, drop, get_or, Option, Some, None, length-drop}
use Rattle.std.proofs.lemmas.Grind.{common_steps}
use Rattle.std.specs.List.{list_any}
use Rattle.c_terms.specs.declared.token.Token.{Token}
use Rattle.c_terms.specs.declared.label.Label.{Label}
use Rattle.c_terms.specs.declared.list.Member.{Member}
use Rattle.c_terms.specs.declared.tree.Tree.{Tree, out-Tree}
use Rattle.c_terms.specs.Lists.{comma, members, members_from}
use Rattle.c_types.specs.Tables.{ItemTypes}
use Rattle.smpl_terms.specs.Environments.{Environment}
use Rattle.smpl_patch.specs.declared.pattern.VarDecl.{VarDecl}
use Rattle.smpl_patch.specs.declared.pattern.PatToken.{PatToken}
use Rattle.pat_match.specs.Runs.{takes, comma_fits, list_fits, runs_from, is_wild}
use Rattle.pat_match.specs.Fitting.{piece, leaf_of, fits_tree}
use Rattle.pat_match.proofs.CountLemmas.{drop_at, none_below}
use Rattle.pat_match.proofs.RowLemmas.{at_comma, at_member, takes_single, single_none, and_false}

-- the number of members, with one fewer child

less_at : (before : Option Token) (t : Tree) (ts : List Tree) (o : Option Token) → comma t ≡ o → length (members_from before (t ∷ ts))
    ≡ length (elim o as (λ o. List Member) [ None ↦ record { comma = before; tree = t } ∷ members_from None ts | Some c ↦ members_from (Some c) ts ])
less_at before t ts o e = ap (λ o. length
    (elim o as (λ o. List Member) [ None ↦ record { comma = before; tree = t } ∷ members_from None ts | Some c ↦ members_from (Some c) ts ])) e

less_member : (before : Option Token) (t : Tree) (ts : List Tree) → comma t ≡ None → length (members_from before (t ∷ ts)) ≡ suc (length (members_from None ts))
less_member before t ts e = less_at before t ts None e

less_comma : (before : Option Token) (t : Tree) (ts : List Tree) (c : Token) → comma t ≡ Some c
    → length (members_from before (t ∷ ts)) ≡ length (members_from (Some c) ts)
less_comma before t ts c e = less_at before t ts (Some c) e

-- the comma before the first doesn't count
any_before : (a b : Option Token) (ts : List Tree) → length (members_from a ts) ≡ length (members_from b ts)
any_before a b [] = refl
any_before a b (t ∷ ts) = by (comma t) refl
  where
    by : (o : Option Token) → comma t ≡ o → length (members_from a (t ∷ ts)) ≡ length (members_from b (t ∷ ts))
    by None e = less_member a t ts e ∙ sym (less_member b t ts e)
    by (Some c) e = less_comma a t ts c e ∙ sym (less_comma b t ts c e)

pub count_comma : (ts : List Tree) (i j : ℕ) (t : Tree) (c : Token) → j ≡ suc i → i < length ts → t ≡ get_or ts i t → comma t ≡ Some c
    → length (members (drop i ts)) ≡ length (members (drop j ts))
count_comma ts i j t c n lt g e =
    ap (λ us. length (members us)) (drop_at ts i t lt g) ∙ less_comma None t (drop (suc i) ts) c e ∙ any_before (Some c) None (drop (suc i) ts)
    ∙ ap (λ k. length (members (drop k ts))) (sym n)

pub count_member : (ts : List Tree) (i j : ℕ) (t : Tree) → j ≡ suc i → i < length ts → t ≡ get_or ts i t → comma t ≡ None
    → length (members (drop i ts)) ≡ suc (length (members (drop j ts)))
count_member ts i j t n lt g e =
    ap (λ us. length (members us)) (drop_at ts i t lt g) ∙ less_member None t (drop (suc i) ts) e ∙ ap (λ k. suc (length (members (drop k ts)))) (sym n)

-- more members than children, each of which takes at most one

left_false : (a b : Bool) → (a || b) ≡ false → a ≡ false
left_false a b h = grind (arith, common_steps)

right_false : (a b : Bool) → (a || b) ≡ false → b ≡ false
right_false a b h = grind (arith, common_steps)

module _ (decls : List VarDecl) (tokens : List PatToken) (types : ItemTypes) (label : Label) (env : Environment) where
  abbrev wild_in : List Tree → Bool
  wild_in fs = list_any (λ f. is_wild label (leaf_of (out-Tree f))) fs

  abbrev from : Option Token → List Tree → List Member → Bool
  from before fs ms = runs_from decls tokens env label before (map (piece decls tokens types env) fs) ms

  -- this many members are too few or too many for the child, or leave too many for the children after it
  not_so_many : (before : Option Token) (f : Tree) (fs : List Tree) (ms : List Member)
      → is_wild label (leaf_of (out-Tree f)) ≡ false → suc (length fs) < length ms
      → ((b : Option Token) (ns : List Member) → length fs < length ns → from b fs ns ≡ false)
      → (k : ℕ) → k < suc (length ms) → (takes decls tokens env label before (piece decls tokens types env f) (take k ms) && from None fs (drop k ms)) ≡ false
  not_so_many before f fs ms w lt rest zero less =
      let t = takes_single decls tokens types label env before f (take 0 ms) w in
      let s = single_none (fits_tree decls tokens types env f) ms 0 less (λ n. omega (arith, n)) in
      rw (t, s) (ap (λ x. x && from None fs (drop 0 ms)) (and_false (comma_fits decls tokens env before (take 0 ms))))
  not_so_many before f fs ms w lt rest (suc zero) less =
      let r = rest None (drop 1 ms) (omega (arith, length-drop 1 ms)) in
      ap (λ b. takes decls tokens env label before (piece decls tokens types env f) (take 1 ms) && b) r
      ∙ and_false (takes decls tokens env label before (piece decls tokens types env f) (take 1 ms))
  not_so_many before f fs ms w lt rest (suc (suc k)) less =
      let t = takes_single decls tokens types label env before f (take (suc (suc k)) ms) w in
      let s = single_none (fits_tree decls tokens types env f) ms (suc (suc k)) less (λ n. omega (arith, n)) in
      rw (t, s) (ap (λ x. x && from None fs (drop (suc (suc k)) ms)) (and_false (comma_fits decls tokens env before (take (suc (suc k)) ms))))

  one_room : (before : Option Token) (f : Tree) (fs : List Tree) (ms : List Member) → is_wild label (leaf_of (out-Tree f)) ≡ false → suc (length fs) < length ms
      → ((b : Option Token) (ns : List Member) → length fs < length ns → from b fs ns ≡ false) → (o : Option Token)
      → comma f ≡ o → from before (f ∷ fs) ms ≡ false
  one_room before f fs ms w lt rest (Some c) e =
      at_comma decls tokens types label env before f fs ms c e ∙ ap (λ b. comma_fits decls tokens env before [] && b) (rest (Some c) ms (omega arith))
      ∙ and_false (comma_fits decls tokens env before [])
  one_room before f fs ms w lt rest None e =
      at_member decls tokens types label env before f fs ms e ∙ none_below _ (suc (length ms)) (not_so_many before f fs ms w lt rest)

  no_room : (fs : List Tree) → wild_in fs ≡ false → (before : Option Token) (ms : List Member) → length fs < length ms → from before fs ms ≡ false
  no_room [] h before [] lt = absurd (omega arith)
  no_room [] h before (m ∷ ms) lt = refl
  no_room (f ∷ fs) h before ms lt = one_room before f fs ms (left_false _ _ h) (omega arith) (no_room fs (right_false _ _ h)) (comma f) refl

  pub too_long : (fs ts : List Tree) → wild_in fs ≡ false → length fs < length (members ts)
      → list_fits decls tokens env label (map (piece decls tokens types env) fs) ts ≡ false
  too_long fs ts h lt = no_room fs h None (members ts) lt
