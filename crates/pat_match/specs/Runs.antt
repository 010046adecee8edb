-- When a list of a pattern fits: its members take runs of the file's members.
use Rattle.std.specs.Prelude.{ℕ, suc, zero, Bool, true, false, cond, ◌&&◌, ◌||◌, nat_le, nat_lt, nat_eq, Option, Some, None}
use Rattle.std.specs.Prelude.{List, [], ◌∷◌, ◌++◌, take, drop, length, slice_get}
use Rattle.c_terms.specs.declared.token.Token.{Token}
use Rattle.c_terms.specs.declared.token.TokenKind.{TokenKind}
use Rattle.c_terms.specs.declared.token.TokenKind.TheVariants as kind
use Rattle.c_terms.specs.declared.token.MetaKind.{MetaKind}
use Rattle.c_terms.specs.declared.token.MetaKind.TheVariants as meta
use Rattle.c_terms.specs.declared.label.Label.{Label}
use Rattle.c_terms.specs.declared.label.Label.TheVariants as label
use Rattle.c_terms.specs.declared.list.Member.{Member}
use Rattle.c_terms.specs.declared.tree.Tree.{Tree}
use Rattle.c_terms.specs.Trees.{leaves}
use Rattle.c_terms.specs.Lists.{is_comma, members, run}
use Rattle.smpl_patch.specs.declared.pattern.VarDecl.{VarDecl}
use Rattle.smpl_patch.specs.declared.pattern.PatToken.{PatToken}
use Rattle.smpl_terms.specs.Environments.{Environment}
use Rattle.pat_match.specs.Tokens.{id_of, first_id, is_bare, run_is, stands}

-- A pattern token, and the file's tokens that it is aligned with.
abbrev pub Pair : Type 0
Pair = Token × List Token

-- What a parent must know of a child of a form: its token if it is a leaf, which subtrees it fits, and what is aligned if it
-- fits one.
pub record Piece : Type 0 where
  pub token : Option Token
  pub fits : Tree → Bool
  pub pairs : Tree → List Pair

-- the token, if it is a comma
abbrev pub as_comma : Option Token → Option Token
as_comma None = None
as_comma (Some a) = cond (is_comma a) (Some a) None

abbrev pub is_bare_comma : List PatToken → Option Token → Bool
is_bare_comma tokens None = true
is_bare_comma tokens (Some a) = is_bare (slice_get tokens a.id)

abbrev pub is_arguments : Label → Bool
is_arguments label.Args = true
is_arguments _ = false

abbrev pub is_parameters : Label → Bool
is_parameters label.Params = true
is_parameters _ = false

-- a metavariable of this kind stands for runs of a list with this label
abbrev pub is_list_kind : MetaKind → Label → Bool
is_list_kind meta.ExprList l = is_arguments l
is_list_kind meta.Params l = is_parameters l
is_list_kind _ l = false

-- dots, and a list variable of the list's own kind, take any run of members
abbrev pub is_wild_kind : Label → TokenKind → Bool
is_wild_kind l kind.Dots = true
is_wild_kind l (kind.Meta k) = is_list_kind k l
is_wild_kind l _ = false

abbrev pub is_wild : Label → Option Token → Bool
is_wild l None = false
is_wild l (Some a) = is_wild_kind l a.kind

-- any other member takes a run of one member that it fits
abbrev pub single_fits : (Tree → Bool) → List Member → Bool
single_fits test [] = false
single_fits test (m ∷ []) = test m.tree
single_fits test (m ∷ n ∷ ms) = false

-- for some number below n
abbrev pub some_below : (ℕ → Bool) → ℕ → Bool
some_below test zero = false
some_below test (suc n) = some_below test n || test n

-- from the left, no number differs, or the first that differs is less
abbrev pub is_left : List ℕ → List ℕ → Bool
is_left [] ks = true
is_left (j ∷ js) [] = false
is_left (j ∷ js) (k ∷ ks) = nat_lt j k || (nat_eq j k && is_left js ks)

-- the least number below n that passes, or n if there is none
abbrev pub least : (ℕ → Bool) → ℕ → ℕ
least test zero = zero
least test (suc n) = cond (some_below test n) (least test n) n

abbrev pub token_list : Option Token → List Token
token_list None = []
token_list (Some a) = a ∷ []

-- the comma before the first of the members
abbrev pub comma_tokens : List Member → List Token
comma_tokens [] = []
comma_tokens (m ∷ ms) = token_list m.comma

abbrev pub comma_pairs : Option Token → List Member → List Pair
comma_pairs None ms = []
comma_pairs (Some a) ms = (a, comma_tokens ms) ∷ []

-- a run is aligned as a whole, the commas between its members included
abbrev pub wild_pairs : Label → Option Token → List Member → List Pair
wild_pairs l None ms = []
wild_pairs l (Some a) ms = (a, leaves (run l ms)) ∷ []

abbrev pub single_pairs : (Tree → List Pair) → List Member → List Pair
single_pairs pairs [] = []
single_pairs pairs (m ∷ ms) = pairs m.tree

abbrev pub taken_pairs : Label → Option Token → Piece → List Member → List Pair
taken_pairs l before p ms =
    comma_pairs before ms ++ cond (is_wild l p.token) (wild_pairs l p.token ms) (single_pairs p.pairs ms)

module _ (decls : List VarDecl) (tokens : List PatToken) (env : Environment) where
  -- a pattern comma is aligned with the comma before the first member of the run
  abbrev pub comma_fits : Option Token → List Member → Bool
  comma_fits None ms = true
  comma_fits (Some a) [] = stands decls tokens env a None
  comma_fits (Some a) (m ∷ ms) = stands decls tokens env a (id_of m.comma)

  -- dots or a list variable take the run
  abbrev pub run_fits : Label → Option Token → List Member → Bool
  run_fits l None ms = false
  run_fits l (Some a) ms = run_is decls env a.kind a (run l ms) && stands decls tokens env a (first_id (run l ms))

  -- the pattern's member, with the pattern comma before it, takes the run
  abbrev pub takes : Label → Option Token → Piece → List Member → Bool
  takes l before p ms =
      comma_fits before ms && cond (is_wild l p.token) (run_fits l p.token ms) (single_fits p.fits ms)

  -- The pattern's members take runs of the file's members, one after another, and no member is left. A comma that no
  -- pattern member follows is aligned with nothing.
  abbrev pub runs_from : Label → Option Token → List Piece → List Member → Bool
  runs_from l before [] [] = comma_fits before []
  runs_from l before [] (m ∷ ms) = false
  runs_from l before (p ∷ ps) ms = elim (as_comma p.token) as (λ o. Bool) [
    | None ↦ some_below (λ k. takes l before p (take k ms) && runs_from l None ps (drop k ms)) (suc (length ms))
    | Some c ↦ comma_fits before [] && runs_from l (Some c) ps ms
  ]

  abbrev pub list_fits : Label → List Piece → List Tree → Bool
  list_fits l ps us = runs_from l None ps (members us)

  -- how many members the first of these pattern members takes: as few as it can
  abbrev pub fewest : Label → Option Token → Piece → List Piece → List Member → ℕ
  fewest l before p ps ms =
      least (λ k. takes l before p (take k ms) && runs_from l None ps (drop k ms)) (suc (length ms))

  -- how many members each member of the pattern takes in the leftmost alignment: from the left, each as few as it can
  abbrev pub leftmost : Label → Option Token → List Piece → List Member → List ℕ
  leftmost l before [] ms = []
  leftmost l before (p ∷ ps) ms = elim (as_comma p.token) as (λ o. List ℕ) [
    | None ↦ fewest l before p ps ms ∷ leftmost l None ps (drop (fewest l before p ps ms) ms)
    | Some c ↦ leftmost l (Some c) ps ms
  ]

  -- the pattern's members take these numbers of members, and no member is left
  abbrev pub runs_align : Label → Option Token → List Piece → List Member → List ℕ → Bool
  runs_align l before [] [] [] = comma_fits before []
  runs_align l before [] [] (k ∷ ks) = false
  runs_align l before [] (m ∷ ms) ks = false
  runs_align l before (p ∷ ps) ms ks = elim (as_comma p.token) as (λ o. Bool) [
    | None ↦ elim ks as (λ ks. Bool) [
      | [] ↦ false
      | k ∷ ks ↦ nat_le k (length ms) && (takes l before p (take k ms) && runs_align l None ps (drop k ms) ks)
    ]
    | Some c ↦ comma_fits before [] && runs_align l (Some c) ps ms ks
  ]

  -- what is aligned if the pattern's members take these numbers of members
  abbrev pub runs_pairs : Label → Option Token → List Piece → List Member → List ℕ → List Pair
  runs_pairs l before [] ms ks = comma_pairs before []
  runs_pairs l before (p ∷ ps) ms ks = elim (as_comma p.token) as (λ o. List Pair) [
    | None ↦ elim ks as (λ ks. List Pair) [
      | [] ↦ []
      | k ∷ ks ↦ taken_pairs l before p (take k ms) ++ runs_pairs l None ps (drop k ms) ks
    ]
    | Some c ↦ comma_pairs before [] ++ runs_pairs l (Some c) ps ms ks
  ]

  abbrev pub list_pairs : Label → List Piece → List Tree → List Pair
  list_pairs l ps us = runs_pairs l None ps (members us) (leftmost l None ps (members us))
