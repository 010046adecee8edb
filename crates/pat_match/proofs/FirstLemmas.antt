-- The first token of a run of members.
use Rattle.std.proofs.Common.{◌≡◌, ℕ, suc, ◌<◌, Bool, true, ◌&&◌, refl, sym, ap, ap₂, ◌∙◌, List, [], ◌∷◌, ◌++◌, map, drop}
use Rattle.std.proofs.Common.{length, get_or, Option, Some, None, slice_get}
use Rattle.c_terms.specs.declared.token.Token.{Token}
use Rattle.c_terms.specs.declared.token.TokenKind.TheVariants as kind
use Rattle.c_terms.specs.declared.label.Label.{Label}
use Rattle.c_terms.specs.declared.list.Member.{Member}
use Rattle.c_terms.specs.declared.tree.Tree.{Tree}
use Rattle.c_terms.specs.declared.tree.Tree.TheVariants.{Leaf}
use Rattle.c_terms.specs.Trees.{leaves, join}
use Rattle.c_terms.specs.Lists.{comma_kids, more_kids, run_kids, run}
use Rattle.c_terms.proofs.TreeLemmas.{leaves-Leaf, leaves-Branch}
use Rattle.smpl_terms.specs.Environments.{Environment}
use Rattle.smpl_patch.specs.declared.pattern.VarDecl.{VarDecl}
use Rattle.smpl_patch.specs.declared.pattern.PatToken.{PatToken}
use Rattle.pat_match.specs.Tokens.{id_of, first_id, run_is, stands}
use Rattle.pat_match.specs.Runs.{run_fits}
use Rattle.pat_match.specs.Rows.{or_else, first_of_member, first_of_members, first_of_run}
use Rattle.pat_match.proofs.CountLemmas.{drop_at}

abbrev first_in : List Token → Option ℕ
first_in ts = id_of (slice_get ts 0)

abbrev first_of_kids : List Tree → Option ℕ
first_of_kids ts = first_in (join (map leaves ts))

first_append : (xs ys : List Token) → first_in (xs ++ ys) ≡ or_else (first_in xs) (first_in ys)
first_append [] ys = refl
first_append (x ∷ xs) ys = refl

kids_next : (t : Tree) (ts : List Tree) → first_of_kids (t ∷ ts) ≡ or_else (first_id t) (first_of_kids ts)
kids_next t ts = first_append (leaves t) (join (map leaves ts))

one_more : (o : Option Token) (t : Tree) (ts : List Tree) (r : Option ℕ) → first_of_kids ts ≡ r
    → first_of_kids (comma_kids o ++ t ∷ ts) ≡ or_else (or_else (id_of o) (first_id t)) r
one_more None t ts r e = kids_next t ts ∙ ap (or_else (first_id t)) e
one_more (Some c) t ts r e =
    kids_next (Leaf c) (t ∷ ts) ∙ ap (λ ls. or_else (first_in ls) (first_of_kids (t ∷ ts))) (leaves-Leaf c)

members_first : (ms : List Member) → first_of_kids (more_kids ms) ≡ first_of_members ms
members_first [] = refl
members_first (m ∷ ms) = one_more m.comma m.tree (more_kids ms) (first_of_members ms) (members_first ms)

pub run_first : (l : Label) (ms : List Member) → first_of_run ms ≡ first_id (run l ms)
run_first l [] = sym (ap first_in (leaves-Branch l []))
run_first l (m ∷ ms) = sym (ap first_in (leaves-Branch l (run_kids (m ∷ ms))) ∙ kids_next m.tree (more_kids ms)
    ∙ ap (or_else (first_id m.tree)) (members_first ms))

-- one fewer member
pub members_at : (ms : List Member) (i : ℕ) (m : Member) → i < length ms → m ≡ get_or ms i m
    → first_of_members (drop i ms) ≡ or_else (first_of_member m) (first_of_members (drop (suc i) ms))
members_at ms i m lt e = ap first_of_members (drop_at ms i m lt e)

-- dots that take a run
pub dots_fit : (decls : List VarDecl) (tokens : List PatToken) (env : Environment) (label : Label) (a : Token)
    (ms : List Member) (all : Bool) (first : Option ℕ)
    → a.kind ≡ kind.Dots → all ≡ true → first ≡ first_of_run ms → (all && stands decls tokens env a first) ≡ run_fits decls tokens env label (Some a) ms
dots_fit decls tokens env label a ms all first k e f =
    ap₂ (λ b o. b && stands decls tokens env a o) e (f ∙ run_first label ms)
    ∙ ap (λ k. run_is decls env k a (run label ms) && stands decls tokens env a (first_id (run label ms))) (sym k)
