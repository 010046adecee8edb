-- Rows: for each number of members that a list's first children may have taken, the environments in which the other
-- children fit the members that follow.
use Rattle.std.specs.Prelude.{◌≡◌, ℕ, suc, zero, ◌+◌, ◌-◌, ◌<◌, Bool, false, ◌&&◌, nat_eq, nat_le, Option, None, Some, List, []}
use Rattle.std.specs.Prelude.{◌∷◌, map, take, drop, length, slice_index_or}
use Rattle.std.specs.List.{list_any, list_all}
use Rattle.c_terms.specs.declared.token.Token.{Token}
use Rattle.c_terms.specs.declared.label.Label.{Label}
use Rattle.c_terms.specs.declared.list.Member.{Member}
use Rattle.c_terms.specs.declared.tree.Tree.{Tree, out-Tree}
use Rattle.c_terms.specs.Lists.{comma}
use Rattle.smpl_terms.specs.declared.var.Var.{Var}
use Rattle.smpl_terms.specs.Environments.{Environment}
use Rattle.env_sets.specs.Sets.{Entries, set_denotes, set_vars}
use Rattle.c_types.specs.Tables.{ItemTypes}
use Rattle.smpl_patch.specs.declared.pattern.VarDecl.{VarDecl}
use Rattle.smpl_patch.specs.declared.pattern.PatToken.{PatToken}
use Rattle.pat_match.specs.declared.rows.RowEntry.{RowEntry}
use Rattle.pat_match.specs.Tokens.{id_of, first_id}
use Rattle.pat_match.specs.Runs.{is_wild, comma_fits, run_fits, single_fits, takes, some_below, runs_from}
use Rattle.pat_match.specs.Fitting.{piece, fits_tree, leaf_of}

-- the comma directly before the i-th of the trees
abbrev pub comma_before : List Tree → ℕ → Option Token
comma_before ts zero = None
comma_before [] (suc i) = None
comma_before (t ∷ ts) (suc zero) = comma t
comma_before (t ∷ ts) (suc (suc i)) = comma_before ts (suc i)

-- the first of the trees takes any run
abbrev pub first_is_wild : Label → List Tree → Bool
first_is_wild l [] = false
first_is_wild l (f ∷ fs) = is_wild l (leaf_of (out-Tree f))

abbrev pub or_else : Option ℕ → Option ℕ → Option ℕ
or_else None b = b
or_else (Some a) b = Some a

-- the id of the first of a member's tokens, the comma before it included
abbrev pub first_of_member : Member → Option ℕ
first_of_member m = or_else (id_of m.comma) (first_id m.tree)

abbrev pub first_of_members : List Member → Option ℕ
first_of_members [] = None
first_of_members (m ∷ ms) = or_else (first_of_member m) (first_of_members ms)

-- the id of the first token of a run
abbrev pub first_of_run : List Member → Option ℕ
first_of_run [] = None
first_of_run (m ∷ ms) = or_else (first_id m.tree) (first_of_members ms)

-- the environment is among those for this many members
abbrev pub row_at : List RowEntry → ℕ → Environment → Bool
row_at row n env = list_any (λ e. nat_eq e.taken n && set_denotes e.set env) row

-- and for some number of members from n to count
abbrev pub tail_at : ℕ → List RowEntry → ℕ → Environment → Bool
tail_at count row n env = list_any (λ e. nat_le n e.taken && (nat_le e.taken count && set_denotes e.set env)) row

-- the environment is in the n-th of the sets
abbrev pub set_at : List Entries → ℕ → Environment → Bool
set_at sets n env = set_denotes (slice_index_or sets n []) env

abbrev pub row_vars : (Var → Bool) → List RowEntry → Bool
row_vars test row = list_all (λ e. set_vars test e.set) row

-- if no child is left, all members are taken
abbrev pub last_at : Bool → ℕ → ℕ → Bool
last_at bare n m = bare && nat_eq n m

module _ (decls : List VarDecl) (tokens : List PatToken) (types : ItemTypes) (label : Label) where
  -- the child takes some run after n members, and the row fits what follows
  abbrev pub step_at : Option Token → Tree → List Member → List RowEntry → ℕ → Environment → Bool
  step_at before form ms row n env = some_below
      (λ k. takes decls tokens env label before (piece decls tokens types env form) (take k (drop n ms)) && row_at row (n + k) env)
      (suc (length (drop n ms)))

  -- what one entry of the row adds if the child takes any run
  abbrev pub wild_entry : Option Token → Tree → List Member → ℕ → Environment → RowEntry → Bool
  wild_entry before form ms n env e = nat_le n e.taken && (nat_le e.taken (length ms)
      && ((comma_fits decls tokens env before (take (e.taken - n) (drop n ms))
      && run_fits decls tokens env label (leaf_of (out-Tree form)) (take (e.taken - n) (drop n ms))) && set_denotes e.set env))

  -- and if it takes one member
  abbrev pub single_entry : Option Token → Tree → List Member → ℕ → Environment → RowEntry → Bool
  single_entry before form ms n env e = nat_eq e.taken (suc n) && (nat_le e.taken (length ms)
      && ((comma_fits decls tokens env before (take 1 (drop n ms))
      && single_fits (fits_tree decls tokens types env form) (take 1 (drop n ms))) && set_denotes e.set env))

  abbrev pub IsStep : Option Token → Tree → List Member → List RowEntry → List RowEntry → Type 0
  IsStep before form ms row r = (n : ℕ) → n < suc (length ms) → (env : Environment) → row_at r n env ≡ step_at before form ms row n env

  -- these children fit what follows
  abbrev pub fits_from : Option Token → List Tree → List Member → Environment → Bool
  fits_from before forms ms env = runs_from decls tokens env label before (map (piece decls tokens types env) forms) ms

  abbrev pub IsRow : Option Token → List Tree → List Member → List RowEntry → Type 0
  IsRow before forms ms row = (n : ℕ) → n < suc (length ms) → (env : Environment) → row_at row n env ≡ fits_from before forms (drop n ms) env
