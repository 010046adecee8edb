-- Rows with one more entry and one more child.
use Rattle.std.proofs.Common.{◌≡◌, ℕ, suc, zero, ◌+◌, ◌-◌, ◌<◌, ◌≤◌, Bool, true, false, ◌&&◌, ◌||◌, nat_eq, nat_lt, nat_le}
use Rattle.std.proofs.Common.{refl, sym, ap, ap₂, ◌∙◌, subst, arith, List, [], ◌∷◌, map, length, take, drop, get_or, Option}
use Rattle.std.proofs.Common.{Some, None, slice_get, length-drop}
use Rattle.std.proofs.lemmas.Bool.Decides.{nat_tests}
use Rattle.std.proofs.lemmas.Grind.{common_steps}
use Rattle.std.specs.List.{list_any}
use Rattle.c_terms.specs.declared.token.Token.{Token}
use Rattle.c_terms.specs.declared.token.TokenKind.{TokenKind}
use Rattle.c_terms.specs.declared.token.TokenKind.TheVariants as kind
use Rattle.c_terms.specs.declared.label.Label.{Label}
use Rattle.c_terms.specs.declared.list.Member.{Member}
use Rattle.c_terms.specs.declared.tree.Tree.{Tree, out-Tree}
use Rattle.c_terms.specs.declared.tree.Tree.TheOpen.{Tree-F}
use Rattle.c_terms.specs.Lists.{comma, comma_at, is_punct}
use Rattle.c_types.specs.Tables.{ItemTypes}
use Rattle.smpl_terms.specs.Environments.{Environment}
use Rattle.env_sets.specs.Sets.{set_denotes}
use Rattle.smpl_patch.specs.declared.pattern.VarDecl.{VarDecl}
use Rattle.smpl_patch.specs.declared.pattern.PatToken.{PatToken}
use Rattle.pat_match.specs.declared.rows.RowEntry.{RowEntry}
use Rattle.pat_match.specs.Tokens.{is_bare, stands_at}
use Rattle.pat_match.specs.Runs.{takes, some_below, runs_from, as_comma, single_fits, comma_fits, run_fits, is_bare_comma, is_wild, is_wild_kind}
use Rattle.pat_match.specs.Fitting.{piece, leaf_of, fits_tree}
use Rattle.pat_match.specs.Rows.{comma_before, first_is_wild, row_at, last_at, step_at, wild_entry, single_entry, IsStep, fits_from, IsRow}
use Rattle.pat_match.proofs.Pieces.{piece-token}
use Rattle.pat_match.proofs.CountLemmas.{comma_before_at, drop_at, drop_more, drop_past, some_below-agree, none_below, either_below, one_below, pick_one}

pub any_agree : {X : Type 0} (f g : X → Bool) (xs : List X) → ((x : X) → f x ≡ g x) → list_any f xs ≡ list_any g xs
any_agree f g [] h = refl
any_agree f g (x ∷ xs) h = let a = h x in let r = any_agree f g xs h in cc

-- what comes after k members is looked up entry by entry
pick : (T : ℕ → Bool) (row : List RowEntry) (n m : ℕ) (env : Environment) → some_below (λ k. T k && row_at row (n + k) env) m
    ≡ list_any (λ e. nat_le n e.taken && (nat_lt e.taken (n + m) && (T (e.taken - n) && set_denotes e.set env))) row
pick T [] n m env = none_below (λ k. T k && false) m (λ k lt. grind (arith, common_steps))
pick T (e ∷ row) n m env =
    either_below T (λ k. nat_eq e.taken (n + k) && set_denotes e.set env) (λ k. row_at row (n + k) env) m
    ∙ ap₂ (λ a b. a || b) (pick_one T (set_denotes e.set env) e.taken n m) (pick T row n m env)

-- what a child takes

layer_comma : (x : Tree-F Tree) → as_comma (leaf_of x) ≡ comma_at x
layer_comma (Tree-F.Leaf a) = refl
layer_comma (Tree-F.Branch l cs) = refl

wild_punct : (l : Label) (k : TokenKind) → is_wild_kind l k ≡ true → is_punct k ≡ false
wild_punct l kind.Punct h = sym h
wild_punct l _ h = refl

wild_layer : (l : Label) (x : Tree-F Tree) → is_wild l (leaf_of x) ≡ true → comma_at x ≡ None
wild_layer l (Tree-F.Leaf a) h = let e = wild_punct l a.kind h in grind (arith, common_steps)
wild_layer l (Tree-F.Branch k cs) h = refl

-- dots and list variables are not commas
pub wild_comma : (l : Label) (f : Tree) → is_wild l (leaf_of (out-Tree f)) ≡ true → comma f ≡ None
wild_comma l f h = wild_layer l (out-Tree f) h

pub single_none : (q : Tree → Bool) (ms : List Member) (k : ℕ) → k < suc (length ms) → (k ≡ 1 → ⊥) → single_fits q (take k ms) ≡ false
single_none q ms zero lt ne = refl
single_none q ms (suc zero) lt ne = absurd (ne refl)
single_none q [] (suc (suc k)) lt ne = absurd (omega arith)
single_none q (m ∷ []) (suc (suc k)) lt ne = absurd (omega arith)
single_none q (m ∷ n ∷ ms) (suc (suc k)) lt ne = refl

pub and_false : (b : Bool) → (b && false) ≡ false
and_false b = grind (arith, common_steps)

module _ (decls : List VarDecl) (tokens : List PatToken) (types : ItemTypes) (label : Label) where
  pub takes_wild : (env : Environment) (before : Option Token) (f : Tree) (run : List Member) → is_wild label (leaf_of (out-Tree f)) ≡ true
      → takes decls tokens env label before (piece decls tokens types env f) run
      ≡ (comma_fits decls tokens env before run && run_fits decls tokens env label (leaf_of (out-Tree f)) run)
  takes_wild env before f run h = let e = piece-token decls tokens types env f in rw (e, h) refl

  pub takes_single : (env : Environment) (before : Option Token) (f : Tree) (run : List Member) → is_wild label (leaf_of (out-Tree f)) ≡ false
      → takes decls tokens env label before (piece decls tokens types env f) run
      ≡ (comma_fits decls tokens env before run && single_fits (fits_tree decls tokens types env f) run)
  takes_single env before f run h = let e = piece-token decls tokens types env f in rw (e, h) refl

  -- the entries of a row together are equivalent to the child and the row
  pub wild_step : (before : Option Token) (f : Tree) (ms : List Member) (row : List RowEntry) (n : ℕ) (env : Environment)
      → is_wild label (leaf_of (out-Tree f)) ≡ true → n ≤ length ms
      → list_any (wild_entry decls tokens types label before f ms n env) row ≡ step_at decls tokens types label before f ms row n env
  wild_step before f ms row n env w le =
      let m = suc (length (drop n ms)) in
      let T : ℕ → Bool = λ k. takes decls tokens env label before (piece decls tokens types env f) (take k (drop n ms)) in
      any_agree _ _ row (λ e.
      let b : nat_le e.taken (length ms) ≡ nat_lt e.taken (n + m) = grind (arith, nat_tests, length-drop n ms) in
      λ i. nat_le n e.taken && (b i && (sym (takes_wild env before f (take (e.taken - n) (drop n ms)) w) i && set_denotes e.set env)))
      ∙ sym (pick T row n m env)

  pub single_step : (before : Option Token) (f : Tree) (ms : List Member) (row : List RowEntry) (n : ℕ) (env : Environment)
      → is_wild label (leaf_of (out-Tree f)) ≡ false → n ≤ length ms
      → list_any (single_entry decls tokens types label before f ms n env) row ≡ step_at decls tokens types label before f ms row n env
  single_step before f ms row n env w le =
      let m = suc (length (drop n ms)) in
      let T : ℕ → Bool = λ k. takes decls tokens env label before (piece decls tokens types env f) (take k (drop n ms)) in
      any_agree _ _ row (λ e. by e (nat_eq e.taken (suc n)) refl) ∙ sym (pick T row n m env)
    where
      by : (e : RowEntry) (b : Bool) → nat_eq e.taken (suc n) ≡ b → single_entry decls tokens types label before f ms n env e
          ≡ (nat_le n e.taken && (nat_lt e.taken (n + suc (length (drop n ms)))
          && (takes decls tokens env label before (piece decls tokens types env f) (take (e.taken - n) (drop n ms)) && set_denotes e.set env)))
      by e true h =
          let s : e.taken - n ≡ 1 = grind (arith, nat_tests) in
          let a : nat_le n e.taken ≡ true = grind (arith, nat_tests) in
          let b : nat_le e.taken (length ms) ≡ nat_lt e.taken (n + suc (length (drop n ms))) = grind (arith, nat_tests, length-drop n ms) in
          let t = takes_single env before f (take 1 (drop n ms)) w in
          rw (h, s, a, b, t) refl
      by e false h = other e h (nat_le n e.taken) refl (nat_lt e.taken (n + suc (length (drop n ms)))) refl
        where
          other : (e : RowEntry) → nat_eq e.taken (suc n) ≡ false → (le : Bool) → nat_le n e.taken ≡ le → (lt : Bool)
              → nat_lt e.taken (n + suc (length (drop n ms))) ≡ lt
              → single_entry decls tokens types label before f ms n env e
              ≡ (nat_le n e.taken && (nat_lt e.taken (n + suc (length (drop n ms)))
              && (takes decls tokens env label before (piece decls tokens types env f) (take (e.taken - n) (drop n ms)) && set_denotes e.set env)))
          other e h false a lt b = rw (h, a) refl
          other e h true a false b = rw (h, a, b) refl
          other e h true a true b =
              let less : e.taken - n < suc (length (drop n ms)) = grind (arith, nat_tests) in
              let none = single_none (fits_tree decls tokens types env f) (drop n ms) (e.taken - n) less (λ s. grind (arith, nat_tests)) in
              let t = takes_single env before f (take (e.taken - n) (drop n ms)) w in
              rw (h, a, b, t, none) (ap (λ x. x && set_denotes e.set env)
              (sym (and_false (comma_fits decls tokens env before (take (e.taken - n) (drop n ms))))))

  -- lists with one fewer child

  pub piece_comma : (env : Environment) (f : Tree) → as_comma (piece decls tokens types env f).token ≡ comma f
  piece_comma env f = ap as_comma (piece-token decls tokens types env f) ∙ layer_comma (out-Tree f)

  abbrev whole : Environment → Option Token → List Tree → List Member → Bool
  whole env before fs ms = runs_from decls tokens env label before (map (piece decls tokens types env) fs) ms

  pub choice : (env : Environment) (before : Option Token) (f : Tree) (fs : List Tree) (ms : List Member) (o : Option Token) → comma f ≡ o
      → whole env before (f ∷ fs) ms ≡ elim o as (λ o. Bool) [
        | None ↦ some_below (λ k. takes decls tokens env label before (piece decls tokens types env f) (take k ms) && whole env None fs (drop k ms))
            (suc (length ms))
        | Some c ↦ comma_fits decls tokens env before [] && whole env (Some c) fs ms
      ]
  choice env before f fs ms o e = ap (λ o. elim o as (λ o. Bool) [
    | None ↦ some_below (λ k. takes decls tokens env label before (piece decls tokens types env f) (take k ms) && whole env None fs (drop k ms))
        (suc (length ms))
    | Some c ↦ comma_fits decls tokens env before [] && whole env (Some c) fs ms
  ]) (piece_comma env f ∙ e)

  pub at_comma : (env : Environment) (before : Option Token) (f : Tree) (fs : List Tree) (ms : List Member) (c : Token) → comma f ≡ Some c
      → whole env before (f ∷ fs) ms ≡ (comma_fits decls tokens env before [] && whole env (Some c) fs ms)
  at_comma env before f fs ms c e = choice env before f fs ms (Some c) e

  pub at_member : (env : Environment) (before : Option Token) (f : Tree) (fs : List Tree) (ms : List Member) → comma f ≡ None
      → whole env before (f ∷ fs) ms ≡ some_below
      (λ k. takes decls tokens env label before (piece decls tokens types env f) (take k ms) && whole env None fs (drop k ms)) (suc (length ms))
  at_member env before f fs ms e = choice env before f fs ms None e

  bare_stands : (env : Environment) (o : Option PatToken) → stands_at decls env o None ≡ is_bare o
  bare_stands env None = refl
  bare_stands env (Some p) = refl

  bare_fits : (env : Environment) (o : Option Token) → comma_fits decls tokens env o [] ≡ is_bare_comma tokens o
  bare_fits env None = refl
  bare_fits env (Some a) = bare_stands env (slice_get tokens a.id)

  comma_row : (env : Environment) (before : Option Token) (f : Tree) (fs : List Tree) (ms : List Member) (c : Token) (b : Bool)
      → comma f ≡ Some c → is_bare_comma tokens before ≡ b
      → whole env before (f ∷ fs) ms ≡ (b && whole env (Some c) fs ms)
  comma_row env before f fs ms c b e g = at_comma env before f fs ms c e ∙ ap (λ o. o && whole env (Some c) fs ms) (bare_fits env before ∙ g)

  -- a comma before the i-th child, and what follows it
  pub comma_next : (fs : List Tree) (i : ℕ) (f : Tree) (c : Token) (ms : List Member) (b : Bool) (env : Environment)
      → i < length fs → f ≡ get_or fs i f → comma f ≡ Some c
      → is_bare_comma tokens (comma_before fs i) ≡ b
      → fits_from decls tokens types label (comma_before fs i) (drop i fs) ms env
      ≡ (b && fits_from decls tokens types label (comma_before fs (suc i)) (drop (suc i) fs) ms env)
  comma_next fs i f c ms b env lt g e bare =
      ap (λ gs. whole env (comma_before fs i) gs ms) (drop_at fs i f lt g) ∙ comma_row env (comma_before fs i) f (drop (suc i) fs) ms c b e bare
      ∙ ap (λ o. b && whole env o (drop (suc i) fs) ms) (sym (comma_before_at fs (suc i) i f refl lt g ∙ e))

  -- a member
  pub member_next : (fs : List Tree) (i : ℕ) (f : Tree) (ms : List Member) (env : Environment) → i < length fs → f ≡ get_or fs i f → comma f ≡ None
      → fits_from decls tokens types label (comma_before fs i) (drop i fs) ms env ≡ some_below
      (λ k. takes decls tokens env label (comma_before fs i) (piece decls tokens types env f) (take k ms)
      && fits_from decls tokens types label (comma_before fs (suc i)) (drop (suc i) fs) (drop k ms) env) (suc (length ms))
  member_next fs i f ms env lt g e =
      ap (λ gs. whole env (comma_before fs i) gs ms) (drop_at fs i f lt g) ∙ at_member env (comma_before fs i) f (drop (suc i) fs) ms e
      ∙ ap (λ o. some_below (λ k. takes decls tokens env label (comma_before fs i) (piece decls tokens types env f) (take k ms)
      && whole env o (drop (suc i) fs) (drop k ms)) (suc (length ms)))
      (sym (comma_before_at fs (suc i) i f refl lt g ∙ e))

  -- rows

  pub row_comma : (fs : List Tree) (i : ℕ) (f : Tree) (c : Token) (ms : List Member) (row : List RowEntry) → i < length fs
      → f ≡ get_or fs i f → comma f ≡ Some c
      → is_bare_comma tokens (comma_before fs i) ≡ true
      → IsRow decls tokens types label (comma_before fs (suc i)) (drop (suc i) fs) ms row
      → IsRow decls tokens types label (comma_before fs i) (drop i fs) ms row
  row_comma fs i f c ms row lt g e bare r = λ n less env. r n less env ∙ sym (comma_next fs i f c (drop n ms) true env lt g e bare)

  pub row_no_comma : (fs : List Tree) (i : ℕ) (f : Tree) (c : Token) (ms : List Member) (row : List RowEntry) → i < length fs
      → f ≡ get_or fs i f → comma f ≡ Some c
      → is_bare_comma tokens (comma_before fs i) ≡ false → row ≡ [] → IsRow decls tokens types label (comma_before fs i) (drop i fs) ms row
  row_no_comma fs i f c ms row lt g e bare r = λ n less env.
      ap (λ x. row_at x n env) r ∙ sym (comma_next fs i f c (drop n ms) false env lt g e bare)

  pub row_member : (fs : List Tree) (i : ℕ) (f : Tree) (ms : List Member) (old row new : List RowEntry) → i < length fs
      → f ≡ get_or fs i f → comma f ≡ None → row ≡ old
      → IsRow decls tokens types label (comma_before fs (suc i)) (drop (suc i) fs) ms old → IsStep decls tokens types label (comma_before fs i) f ms row new
      → IsRow decls tokens types label (comma_before fs i) (drop i fs) ms new
  row_member fs i f ms old row new lt g e same r s = λ n less env.
      s n less env
      ∙ some_below-agree _ _ (suc (length (drop n ms)))
      (λ k lt. ap (λ b. takes decls tokens env label (comma_before fs i) (piece decls tokens types env f) (take k (drop n ms)) && b)
      (ap (λ x. row_at x (n + k) env) same ∙ r (n + k) (omega (arith, length-drop n ms)) env
      ∙ ap (λ xs. fits_from decls tokens types label (comma_before fs (suc i)) (drop (suc i) fs) xs env) (sym (drop_more ms n k))))
      ∙ sym (member_next fs i f (drop n ms) env lt g e)

  nothing_left : (env : Environment) (before : Option Token) (bare : Bool) (ms : List Member) (n : ℕ) → is_bare_comma tokens before ≡ bare → n < suc (length ms)
      → last_at bare (length ms) n ≡ whole env before [] (drop n ms)
  nothing_left env before bare [] zero e lt = let h = bare_fits env before in grind (arith, nat_tests, common_steps)
  nothing_left env before bare [] (suc n) e lt = absurd (omega arith)
  nothing_left env before bare (m ∷ ms) zero e lt = grind (arith, nat_tests, common_steps)
  nothing_left env before bare (m ∷ ms) (suc n) e lt = let h = nothing_left env before bare ms n e (omega arith) in grind (arith, nat_tests, common_steps)

  pub row_last : (before : Option Token) (bare : Bool) (fs : List Tree) (ms : List Member) (count : ℕ) (row : List RowEntry)
      → count ≡ length ms → fs ≡ [] → bare ≡ is_bare_comma tokens before
      → ((n : ℕ) (env : Environment) → row_at row n env ≡ last_at bare count n) → IsRow decls tokens types label before fs ms row
  row_last before bare fs ms count row e f g h = λ n less env.
      h n env ∙ ap (λ k. last_at bare k n) e ∙ nothing_left env before bare ms n (sym g) less ∙ ap (λ gs. whole env before gs (drop n ms)) (sym f)

  pub row_at_number : (fs : List Tree) (i j : ℕ) (ms : List Member) (row : List RowEntry) → i ≡ j
      → IsRow decls tokens types label (comma_before fs i) (drop i fs) ms row
      → IsRow decls tokens types label (comma_before fs j) (drop j fs) ms row
  row_at_number fs i j ms row e h = subst (λ k. IsRow decls tokens types label (comma_before fs k) (drop k fs) ms row) e h

  -- the first children

  pub wild_first : (fs : List Tree) (i : ℕ) (f : Tree) (b : Bool) → i < length fs → f ≡ get_or fs i f
      → first_is_wild label (drop i fs) ≡ b → is_wild label (leaf_of (out-Tree f)) ≡ b
  wild_first fs i f b lt g e = sym (ap (first_is_wild label) (drop_at fs i f lt g)) ∙ e

  -- no member is left for the child
  pub next_none : (fs : List Tree) (i : ℕ) (f : Tree) (ms : List Member) (env : Environment) → i < length fs → f ≡ get_or fs i f → comma f ≡ None
      → is_wild label (leaf_of (out-Tree f)) ≡ false → ms ≡ [] → fits_from decls tokens types label (comma_before fs i) (drop i fs) ms env ≡ false
  next_none fs i f ms env lt g e w n =
      member_next fs i f ms env lt g e
      ∙ none_below _ (suc (length ms)) (λ k less.
      let z : k ≡ 0 = omega (arith, ap length n) in
      let t = takes_single env (comma_before fs i) f (take k ms) w in
      let s : single_fits (fits_tree decls tokens types env f) (take k ms) ≡ false =
      single_none (fits_tree decls tokens types env f) ms k less (λ one. omega (arith, one, z)) in
      rw (t, s) (ap (λ x. x && fits_from decls tokens types label (comma_before fs (suc i)) (drop (suc i) fs) (drop k ms) env)
      (and_false (comma_fits decls tokens env (comma_before fs i) (take k ms)))))

  -- the child takes the next member
  pub next_member : (fs : List Tree) (i : ℕ) (f : Tree) (ms : List Member) (env : Environment) → i < length fs → f ≡ get_or fs i f → comma f ≡ None
      → is_wild label (leaf_of (out-Tree f)) ≡ false → 0 < length ms
      → fits_from decls tokens types label (comma_before fs i) (drop i fs) ms env
      ≡ ((comma_fits decls tokens env (comma_before fs i) (take 1 ms) && single_fits (fits_tree decls tokens types env f) (take 1 ms))
      && fits_from decls tokens types label (comma_before fs (suc i)) (drop (suc i) fs) (drop 1 ms) env)
  next_member fs i f ms env lt g e w n =
      member_next fs i f ms env lt g e
      ∙ one_below _ (suc (length ms)) (omega arith) (λ k less ne.
      let t = takes_single env (comma_before fs i) f (take k ms) w in
      let s = single_none (fits_tree decls tokens types env f) ms k less ne in
      rw (t, s) (ap (λ x. x && fits_from decls tokens types label (comma_before fs (suc i)) (drop (suc i) fs) (drop k ms) env)
      (and_false (comma_fits decls tokens env (comma_before fs i) (take k ms)))))
      ∙ ap (λ x. x && fits_from decls tokens types label (comma_before fs (suc i)) (drop (suc i) fs) (drop 1 ms) env)
      (takes_single env (comma_before fs i) f (take 1 ms) w)

  -- what one entry adds to a row if the child takes the member before those that it has taken
  pub single_put : (before : Option Token) (f : Tree) (ms : List Member) (e : RowEntry) (from n : ℕ) (run : List Member)
      (env : Environment) → from ≡ e.taken - 1 → 0 < e.taken → e.taken ≤ length ms
      → run ≡ take (e.taken - from) (drop from ms)
      → (nat_eq from n && ((comma_fits decls tokens env before run && single_fits (fits_tree decls tokens types env f) run) && set_denotes e.set env))
      ≡ single_entry decls tokens types label before f ms n env e
  single_put before f ms e from n run env g lt le h = by (nat_eq from n) refl
    where
      by : (b : Bool) → nat_eq from n ≡ b → (nat_eq from n
          && ((comma_fits decls tokens env before run && single_fits (fits_tree decls tokens types env f) run) && set_denotes e.set env))
          ≡ single_entry decls tokens types label before f ms n env e
      by true s =
          let same : from ≡ n = grind (arith, nat_tests) in
          let one : e.taken - from ≡ 1 = omega (arith, g, lt) in
          let a : nat_eq e.taken (suc n) ≡ true = grind (arith, nat_tests) in
          let b : nat_le e.taken (length ms) ≡ true = grind (arith, nat_tests) in
          let r : run ≡ take 1 (drop n ms) = h ∙ ap₂ (λ k j. take k (drop j ms)) one same in
          rw (s, a, b, r) refl
      by false s =
          let a : nat_eq e.taken (suc n) ≡ false = grind (arith, nat_tests) in
          rw (s, a) refl

  -- when no child is left
  pub end_fits : (fs : List Tree) (i taken : ℕ) (ms : List Member) (bare : Bool) (env : Environment) → drop i fs ≡ []
      → bare ≡ is_bare_comma tokens (comma_before fs i) → taken ≤ length ms
      → fits_from decls tokens types label (comma_before fs i) (drop i fs) (drop taken ms) env ≡ last_at bare (length ms) taken
  end_fits fs i taken ms bare env e b le =
      ap (λ gs. whole env (comma_before fs i) gs (drop taken ms)) e ∙ sym (nothing_left env (comma_before fs i) bare ms taken (sym b) (omega arith))

  -- what follows a child that takes any run
  pub rest_fits : (fs : List Tree) (i taken : ℕ) (f : Tree) (ms rest : List Member) (row : List RowEntry) (env : Environment)
      → i < length fs → f ≡ get_or fs i f
      → is_wild label (leaf_of (out-Tree f)) ≡ true → rest ≡ drop taken ms → IsRow decls tokens types label (comma_before fs (suc i)) (drop (suc i) fs) rest row
      → step_at decls tokens types label (comma_before fs i) f rest row 0 env
      ≡ fits_from decls tokens types label (comma_before fs i) (drop i fs) (drop taken ms) env
  rest_fits fs i taken f ms rest row env lt g w e r =
      some_below-agree _ _ (suc (length rest))
      (λ k less. let z : 0 + k ≡ k = omega arith in
      ap (λ b. takes decls tokens env label (comma_before fs i) (piece decls tokens types env f) (take k rest) && b)
      (ap (λ j. row_at row j env) z ∙ r k less env))
      ∙ sym (member_next fs i f rest env lt g (wild_comma label f w))
      ∙ ap (λ xs. fits_from decls tokens types label (comma_before fs i) (drop i fs) xs env) e

  -- the same, for a row that counts from the next child on
  pub rest_taken : (fs : List Tree) (i j taken : ℕ) (f : Tree) (ms rest : List Member) (row old : List RowEntry)
      (env : Environment) → j ≡ suc i → old ≡ row → i < length fs → f ≡ get_or fs i f
      → first_is_wild label (drop i fs) ≡ true → rest ≡ drop taken ms → IsRow decls tokens types label (comma_before fs j) (drop j fs) rest row
      → step_at decls tokens types label (comma_before fs i) f rest old 0 env
      ≡ fits_from decls tokens types label (comma_before fs i) (drop i fs) (drop taken ms) env
  rest_taken fs i j taken f ms rest row old env n same lt g w e r =
      ap (λ x. step_at decls tokens types label (comma_before fs i) f rest x 0 env) same
      ∙ rest_fits fs i taken f ms rest row env lt g (wild_first fs i f true lt g w) e (row_at_number fs j (suc i) rest row n r)

  -- a child that takes the next member, from what is known of it
  pub member_taken : (fs : List Tree) (i taken after : ℕ) (f : Tree) (ms run : List Member) (s : Bool) (env : Environment)
      → i < length fs → f ≡ get_or fs i f → comma f ≡ None
      → first_is_wild label (drop i fs) ≡ false → taken < length ms → after ≡ taken + 1 → run ≡ take (after - taken) (drop taken ms)
      → s ≡ (comma_fits decls tokens env (comma_before fs i) run && single_fits (fits_tree decls tokens types env f) run)
      → fits_from decls tokens types label (comma_before fs i) (drop i fs) (drop taken ms) env
      ≡ (s && fits_from decls tokens types label (comma_before fs (suc i)) (drop (suc i) fs) (drop after ms) env)
  member_taken fs i taken after f ms run s env lt g e w less a r h =
      let one : after - taken ≡ 1 = omega (arith, a) in
      let t : run ≡ take 1 (drop taken ms) = r ∙ ap (λ k. take k (drop taken ms)) one in
      let some : 0 < length (drop taken ms) = omega (arith, length-drop taken ms, less) in
      next_member fs i f (drop taken ms) env lt g e (wild_first fs i f false lt g w) some
      ∙ ap₂ (λ xs ns. (comma_fits decls tokens env (comma_before fs i) xs && single_fits (fits_tree decls tokens types env f) xs)
      && fits_from decls tokens types label (comma_before fs (suc i)) (drop (suc i) fs) ns env) (sym t) (drop_more ms taken 1 ∙ ap (λ n. drop n ms) (sym a))
      ∙ ap (λ b. b && fits_from decls tokens types label (comma_before fs (suc i)) (drop (suc i) fs) (drop after ms) env) (sym h)

  -- no child is left, and not all members are taken or a comma is left that isn't bare
  pub none_end : (fs : List Tree) (i taken : ℕ) (ms : List Member) (env : Environment) (o w : Bool) → length fs ≤ i → taken ≤ length ms
      → last_at (is_bare_comma tokens (comma_before fs i)) (length ms) taken ≡ false
      → (o && fits_from decls tokens types label (comma_before fs i) (drop i fs) (drop taken ms) env) ≡ w → false ≡ w
  none_end fs i taken ms env o w le less z h =
      sym (and_false o) ∙ ap (λ b. o && b) (sym (end_fits fs i taken ms (is_bare_comma tokens (comma_before fs i)) env (drop_past fs i le) refl less ∙ z)) ∙ h
