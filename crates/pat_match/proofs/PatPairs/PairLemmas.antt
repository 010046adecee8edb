-- What a form is aligned with: one more branch, one more child and one more member.
use Rattle.std.proofs.Common.{◌≡◌, ℕ, suc, zero, ◌+◌, ◌-◌, ◌<◌, ◌≤◌, Bool, true, false, ◌&&◌, ◌||◌, cond, nat_eq, refl, sym, ap}
use Rattle.std.proofs.Common.{ap₂, ◌∙◌, subst, arith, List, [], ◌∷◌, ◌++◌, map, length, take, drop, get_or, append_assoc}
use Rattle.std.proofs.Common.{append-nil, length-drop, Option, Some, None, inl, inr, ◌⊎◌}
use Rattle.std.proofs.lemmas.List.{map-append}
use Rattle.std.proofs.lemmas.Bool.Decides.{nat_tests}
use Rattle.c_terms.specs.declared.token.Token.{Token}
use Rattle.c_terms.specs.declared.label.Label.{Label}
use Rattle.c_terms.specs.declared.list.Member.{Member}
use Rattle.c_terms.specs.declared.tree.Tree.{Tree, out-Tree}
use Rattle.c_terms.specs.Lists.{comma}
use Rattle.c_types.specs.Tables.{ItemTypes}
use Rattle.smpl_terms.specs.Environments.{Environment}
use Rattle.smpl_patch.specs.declared.pattern.VarDecl.{VarDecl}
use Rattle.smpl_patch.specs.declared.pattern.PatToken.{PatToken}
use Rattle.pat_match.specs.declared.pat_pairs.pairs.AlignedToken.{AlignedToken}
use Rattle.pat_match.specs.Runs.{Pair, Piece, is_wild, is_bare_comma, takes, single_fits, comma_fits, some_below, least}
use Rattle.pat_match.specs.Runs.{leftmost, runs_pairs, comma_pairs, wild_pairs, single_pairs, taken_pairs}
use Rattle.pat_match.specs.Fitting.{piece, all_fit, leaf_of, fits_tree, alignment, first_pairs, every_pairs, zip_pairs}
use Rattle.pat_match.specs.Spots.{own_fit, own_pairs}
use Rattle.pat_match.specs.declared.rows.RowEntry.{RowEntry}
use Rattle.pat_match.specs.Rows.{comma_before, row_at, fits_from, IsRow}
use Rattle.pat_match.specs.PatPairs.Pairs.{numbers, aligned_token, left_pairs, takes_first, IsNext}
use Rattle.pat_match.proofs.Pieces.{piece-token, all_fit_at}
use Rattle.pat_match.proofs.ValueLemmas.{and_left, and_right}
use Rattle.pat_match.proofs.RowLemmas.{piece_comma, comma_next, member_next, next_member, next_none, takes_single, single_none, and_false}
use Rattle.pat_match.proofs.CountLemmas.{drop_at, drop_past, drop_more, comma_before_at}
use Rattle.pat_match.proofs.SpotLemmas.{own_fit_at}
use Rattle.pat_match.proofs.LeftmostLaw.{cases_of, below_intro, least-passes}

pub numbers-append : (a b : List Pair) → numbers (a ++ b) ≡ numbers a ++ numbers b
numbers-append a b = map-append aligned_token a b

-- one more part is found, and the rest is left
pub found_step : (old new : List AlignedToken) (here rest whole : List Pair) → new ≡ old ++ numbers here → whole ≡ here ++ rest
    → new ++ numbers rest ≡ old ++ numbers whole
found_step old new here rest whole e g =
    ap (λ x. x ++ numbers rest) e ∙ append_assoc old (numbers here) (numbers rest)
    ∙ ap (λ x. old ++ x) (sym (numbers-append here rest)) ∙ ap (λ x. old ++ numbers x) (sym g)

-- the least number that passes

pub least_found : (test : ℕ → Bool) (m k : ℕ) → k < m → some_below test k ≡ false → test k ≡ true → least test m ≡ k
least_found test zero k lt none here = absurd (omega arith)
least_found test (suc m) k lt none here = by (cases_of k m lt) (λ less. least_found test m k less none here)
  where
    by : (k < m) ⊎ (k ≡ m) → (k < m → least test m ≡ k) → least test (suc m) ≡ k
    by (inl less) below = ap (λ b. cond b (least test m) m) (below_intro test m k less here) ∙ below less
    by (inr same) below = ap (λ b. cond b (least test m) m) (ap (some_below test) (sym same) ∙ none) ∙ sym same

pub least_none : (test : ℕ → Bool) (m k : ℕ) → m ≤ k → k ≤ m → some_below test k ≡ false → least test (suc m) ≡ m
least_none test m k le ge none =
    let same : m ≡ k = omega (arith, le, ge) in
    ap (λ b. cond b (least test m) m) (ap (some_below test) same ∙ none)

get_or_any : (xs : List Bool) (k : ℕ) (a b : Bool) → k < length xs → get_or xs k a ≡ get_or xs k b
get_or_any [] k a b lt = absurd (omega arith)
get_or_any (x ∷ xs) zero a b lt = refl
get_or_any (x ∷ xs) (suc k) a b lt = get_or_any xs k a b (omega arith)

pub still_none : (test : ℕ → Bool) (k j : ℕ) (b : Bool) → j ≡ suc k → some_below test k ≡ false → b ≡ test k → b ≡ false → some_below test j ≡ false
still_none test k j b n none e off = ap (some_below test) n ∙ ap₂ (λ x y. x || y) none (sym e ∙ off)

least_one : (test : ℕ → Bool) (n : ℕ) → some_below test n ≡ true → ((k : ℕ) → k < n → (k ≡ 1 → ⊥) → test k ≡ false) → least test n ≡ 1
least_one test n some others = by (nat_eq (least test n) 1) refl (least-passes test n some)
  where
    by : (b : Bool) → nat_eq (least test n) 1 ≡ b → (least test n < n) × (test (least test n) ≡ true) → least test n ≡ 1
    by true e r = grind (arith, nat_tests)
    by false e r =
        let ne : least test n ≡ 1 → ⊥ = λ h. grind (arith, nat_tests) in
        let no = others (least test n) r.0 ne in absurd (cc)

-- a child that takes one member takes no other number of them
others_none : (decls : List VarDecl) (tokens : List PatToken) (types : ItemTypes) (l : Label) (env : Environment) (before : Option Token) (f : Tree)
    (ms : List Member) (k : ℕ) (rest : Bool)
    → k < suc (length ms) → (k ≡ 1 → ⊥) → is_wild l (leaf_of (out-Tree f)) ≡ false
    → (takes decls tokens env l before (piece decls tokens types env f) (take k ms) && rest) ≡ false
others_none decls tokens types l env before f ms k rest less ne w =
    let t = takes_single decls tokens types l env before f (take k ms) w in
    let s = single_none (fits_tree decls tokens types env f) ms k less ne in
    rw (t, s) (ap (λ x. x && rest) (and_false (comma_fits decls tokens env before (take k ms))))

module _ (decls : List VarDecl) (tokens : List PatToken) (types : ItemTypes) (env : Environment) where
  -- disjunctions and conjunctions

  pub first_none : (fs : List Tree) (t : Tree) (i j : ℕ) (f : Tree) (w : List Pair) → j ≡ suc i → i < length fs
      → f ≡ get_or fs i f → fits_tree decls tokens types env f t ≡ false
      → first_pairs (map (piece decls tokens types env) (drop i fs)) t ≡ w → first_pairs (map (piece decls tokens types env) (drop j fs)) t ≡ w
  first_none fs t i j f w n lt g off h =
      ap (λ m. first_pairs (map (piece decls tokens types env) (drop m fs)) t) n
      ∙ sym (ap (λ b. cond b (alignment decls tokens types env f t) (first_pairs (map (piece decls tokens types env) (drop (suc i) fs)) t)) off)
      ∙ sym (ap (λ gs. first_pairs (map (piece decls tokens types env) gs) t) (drop_at fs i f lt g)) ∙ h

  pub first_here : (fs : List Tree) (t : Tree) (i : ℕ) (f : Tree) (w : List Pair) → i < length fs → f ≡ get_or fs i f
      → fits_tree decls tokens types env f t ≡ true
      → first_pairs (map (piece decls tokens types env) (drop i fs)) t ≡ w → alignment decls tokens types env f t ≡ w
  first_here fs t i f w lt g on h =
      sym (ap (λ b. cond b (alignment decls tokens types env f t) (first_pairs (map (piece decls tokens types env) (drop (suc i) fs)) t)) on)
      ∙ sym (ap (λ gs. first_pairs (map (piece decls tokens types env) gs) t) (drop_at fs i f lt g)) ∙ h

  pub every_step : (fs : List Tree) (t : Tree) (i j : ℕ) (f : Tree) (old new w : List AlignedToken) → j ≡ suc i → i < length fs → f ≡ get_or fs i f
      → new ≡ old ++ numbers (cond (fits_tree decls tokens types env f t) (alignment decls tokens types env f t) [])
      → old ++ numbers (every_pairs (map (piece decls tokens types env) (drop i fs)) t) ≡ w
      → new ++ numbers (every_pairs (map (piece decls tokens types env) (drop j fs)) t) ≡ w
  every_step fs t i j f old new w n lt g e h =
      ap (λ m. new ++ numbers (every_pairs (map (piece decls tokens types env) (drop m fs)) t)) n
      ∙ found_step old new _ _ _ e (ap (λ gs. every_pairs (map (piece decls tokens types env) gs) t) (drop_at fs i f lt g)) ∙ h

  pub first_past : (fs : List Tree) (t : Tree) (i : ℕ) (w : List Pair) (old : List AlignedToken) → length fs ≤ i
      → first_pairs (map (piece decls tokens types env) (drop i fs)) t ≡ w → old ≡ old ++ numbers w
  first_past fs t i w old le h =
      sym (append-nil old) ∙ ap (λ ps. old ++ numbers ps)
      (sym (ap (λ gs. first_pairs (map (piece decls tokens types env) gs) t) (drop_past fs i le)) ∙ h)

  -- children one by one

  pub all_next : (xs us : List Tree) (i j : ℕ) (x u : Tree) → j ≡ suc i → i < length xs → length xs ≡ length us → x ≡ get_or xs i x → u ≡ get_or us i u
      → all_fit (map (piece decls tokens types env) (drop i xs)) (drop i us) ≡ true
      → all_fit (map (piece decls tokens types env) (drop j xs)) (drop j us) ≡ true
  all_next xs us i j x u n lt len e g h = and_right _ _ (sym (all_fit_at decls tokens types env xs us i j x u n lt len e g) ∙ h)

  zip_at : (xs us : List Tree) (i : ℕ) (x u : Tree) → i < length xs → i < length us → x ≡ get_or xs i x → u ≡ get_or us i u
      → zip_pairs (map (piece decls tokens types env) (drop i xs)) (drop i us)
      ≡ alignment decls tokens types env x u ++ zip_pairs (map (piece decls tokens types env) (drop (suc i) xs)) (drop (suc i) us)
  zip_at xs us i x u lt le e g =
      ap₂ (λ ys vs. zip_pairs (map (piece decls tokens types env) ys) vs) (drop_at xs i x lt e) (drop_at us i u le g)

  pub zip_step : (xs us : List Tree) (i j : ℕ) (x u : Tree) (old new w : List AlignedToken) → j ≡ suc i → i < length xs
      → i < length us → x ≡ get_or xs i x → u ≡ get_or us i u
      → new ≡ old ++ numbers (alignment decls tokens types env x u)
      → old ++ numbers (zip_pairs (map (piece decls tokens types env) (drop i xs)) (drop i us)) ≡ w
      → new ++ numbers (zip_pairs (map (piece decls tokens types env) (drop j xs)) (drop j us)) ≡ w
  zip_step xs us i j x u old new w n lt le e g k h =
      ap (λ m. new ++ numbers (zip_pairs (map (piece decls tokens types env) (drop m xs)) (drop m us))) n
      ∙ found_step old new _ _ _ k (zip_at xs us i x u lt le e g) ∙ h

  -- members of a list

  module _ (l : Label) where
    abbrev left : Option Token → List Tree → List Member → List Pair
    left before fs ms = left_pairs decls tokens types env l before fs ms

    abbrev few : Option Token → Tree → List Tree → List Member → ℕ
    few before f fs ms = least (λ k. takes decls tokens env l before (piece decls tokens types env f) (take k ms)
        && fits_from decls tokens types l None fs (drop k ms) env) (suc (length ms))

    abbrev choice : Option Token → Option Token → Tree → List Tree → List Member → List Pair
    choice o before f fs ms =
        let ps = map (piece decls tokens types env) fs in
        let ks : List ℕ = elim o as (λ o. List ℕ) [
          | None ↦ few before f fs ms ∷ leftmost decls tokens env l None ps (drop (few before f fs ms) ms)
          | Some c ↦ leftmost decls tokens env l (Some c) ps ms
        ] in
        elim o as (λ o. List Pair) [
          | None ↦ elim ks as (λ ks. List Pair) [
            | [] ↦ []
            | k ∷ ks ↦ taken_pairs l before (piece decls tokens types env f) (take k ms) ++ runs_pairs decls tokens env l None ps (drop k ms) ks
          ]
          | Some c ↦ comma_pairs before [] ++ runs_pairs decls tokens env l (Some c) ps ms ks
        ]

    chosen : (before : Option Token) (f : Tree) (fs : List Tree) (ms : List Member) (o : Option Token) → comma f ≡ o
        → left before (f ∷ fs) ms ≡ choice o before f fs ms
    chosen before f fs ms o e = ap (λ o. choice o before f fs ms) (piece_comma decls tokens types l env f ∙ e)

    left_comma : (fs : List Tree) (i : ℕ) (f : Tree) (c : Token) (ms : List Member) → i < length fs → f ≡ get_or fs i f → comma f ≡ Some c
        → left (comma_before fs i) (drop i fs) ms ≡ comma_pairs (comma_before fs i) [] ++ left (comma_before fs (suc i)) (drop (suc i) fs) ms
    left_comma fs i f c ms lt g e =
        ap (λ gs. left (comma_before fs i) gs ms) (drop_at fs i f lt g) ∙ chosen (comma_before fs i) f (drop (suc i) fs) ms (Some c) e
        ∙ ap (λ o. comma_pairs (comma_before fs i) [] ++ left o (drop (suc i) fs) ms) (sym (comma_before_at fs (suc i) i f refl lt g ∙ e))

    left_member : (fs : List Tree) (i : ℕ) (f : Tree) (ms : List Member) (k : ℕ) → i < length fs → f ≡ get_or fs i f → comma f ≡ None
        → k ≡ least (takes_first decls tokens types env l fs i f ms) (suc (length ms))
        → left (comma_before fs i) (drop i fs) ms ≡ taken_pairs l (comma_before fs i) (piece decls tokens types env f) (take k ms)
        ++ left (comma_before fs (suc i)) (drop (suc i) fs) (drop k ms)
    left_member fs i f ms k lt g e h =
        let after : comma_before fs (suc i) ≡ None = comma_before_at fs (suc i) i f refl lt g ∙ e in
        let same : few (comma_before fs i) f (drop (suc i) fs) ms ≡ k =
        ap (λ o. least (λ k. takes decls tokens env l (comma_before fs i) (piece decls tokens types env f) (take k ms)
        && fits_from decls tokens types l o (drop (suc i) fs) (drop k ms) env) (suc (length ms))) (sym after) ∙ sym h in
        ap (λ gs. left (comma_before fs i) gs ms) (drop_at fs i f lt g) ∙ chosen (comma_before fs i) f (drop (suc i) fs) ms None e
        ∙ ap (λ k. taken_pairs l (comma_before fs i) (piece decls tokens types env f) (take k ms) ++ left None (drop (suc i) fs) (drop k ms)) same
        ∙ ap (λ o. taken_pairs l (comma_before fs i) (piece decls tokens types env f) (take k ms) ++ left o (drop (suc i) fs) (drop k ms)) (sym after)

    -- whether the child takes the first k members, and those after it the others
    pub takes_test : (fs : List Tree) (i j k : ℕ) (f : Tree) (ms run : List Member) (row : List RowEntry) (flags : List Bool)
        (b flag : Bool) → j ≡ suc i → k < length ms
        → IsRow decls tokens types l (comma_before fs j) (drop j fs) ms row → length flags ≡ length ms
        → ((n : ℕ) → n < length ms → get_or flags n false ≡ row_at row n env)
        → run ≡ take k ms → flag ≡ get_or flags k flag → b ≡ (takes decls tokens env l (comma_before fs i) (piece decls tokens types env f) run && flag)
        → b ≡ takes_first decls tokens types env l fs i f ms k
    takes_test fs i j k f ms run row flags b flag n lt is_row len is_flag cut here e =
        e ∙ ap₂ (λ xs c. takes decls tokens env l (comma_before fs i) (piece decls tokens types env f) xs && c) cut
        (here ∙ get_or_any flags k flag false (omega (arith, lt, len)) ∙ is_flag k lt ∙ is_row k (omega (arith, lt)) env
        ∙ ap (λ m. fits_from decls tokens types l (comma_before fs m) (drop m fs) (drop k ms) env) n)

    -- the same with the number of the next child

    pub next_fits : (fs : List Tree) (i j taken next : ℕ) (ms : List Member) (old new : List AlignedToken) → j ≡ suc i
        → IsNext decls tokens types env l fs i ms taken next old new
        → fits_from decls tokens types l (comma_before fs j) (drop j fs) (drop next ms) env ≡ true
    next_fits fs i j taken next ms old new n s = ap (λ m. fits_from decls tokens types l (comma_before fs m) (drop m fs) (drop next ms) env) n ∙ s.rest

    pub next_found : (fs : List Tree) (i j taken next : ℕ) (ms : List Member) (old new w : List AlignedToken) → j ≡ suc i
        → IsNext decls tokens types env l fs i ms taken next old new
        → old ++ numbers (left (comma_before fs i) (drop i fs) (drop taken ms)) ≡ w → new ++ numbers (left (comma_before fs j) (drop j fs) (drop next ms)) ≡ w
    next_found fs i j taken next ms old new w n s h =
        ap (λ m. new ++ numbers (left (comma_before fs m) (drop m fs) (drop next ms))) n ∙ sym s.found ∙ h

    pub next_comma : (fs : List Tree) (i taken : ℕ) (f : Tree) (c : Token) (ms : List Member) (old new : List AlignedToken)
        → i < length fs → f ≡ get_or fs i f → comma f ≡ Some c
        → taken ≤ length ms → fits_from decls tokens types l (comma_before fs i) (drop i fs) (drop taken ms) env ≡ true
        → new ≡ old ++ numbers (comma_pairs (comma_before fs i) []) → IsNext decls tokens types env l fs i ms taken taken old new
    next_comma fs i taken f c ms old new lt g e le fits more = record {
      within = le;
      rest = and_right _ _ (sym (comma_next decls tokens types l fs i f c (drop taken ms) (is_bare_comma tokens (comma_before fs i)) env lt g e refl) ∙ fits);
      found = sym (found_step old new _ _ _ more (left_comma fs i f c (drop taken ms) lt g e));
    }

    -- a child takes this many members: what is known of the number, and what is found
    next_taken : (fs : List Tree) (i taken count next : ℕ) (f : Tree) (ms : List Member) (old new : List AlignedToken)
        → i < length fs → f ≡ get_or fs i f → comma f ≡ None
        → taken ≤ length ms → fits_from decls tokens types l (comma_before fs i) (drop i fs) (drop taken ms) env ≡ true
        → count ≡ least (takes_first decls tokens types env l fs i f (drop taken ms)) (suc (length (drop taken ms))) → next ≡ taken + count
        → new ≡ old ++ numbers (taken_pairs l (comma_before fs i) (piece decls tokens types env f) (take count (drop taken ms)))
        → IsNext decls tokens types env l fs i ms taken next old new
    next_taken fs i taken count next f ms old new lt g e le fits few sum more =
        let rest = drop taken ms in
        let some = sym (member_next decls tokens types l fs i f rest env lt g e) ∙ fits in
        let passes = least-passes (takes_first decls tokens types env l fs i f rest) (suc (length rest)) some in
        let less : count < suc (length rest) = subst (λ k. k < suc (length rest)) (sym few) passes.0 in
        let holds : takes_first decls tokens types env l fs i f rest count ≡ true = ap (takes_first decls tokens types env l fs i f rest) few ∙ passes.1 in
        let same : drop count rest ≡ drop next ms = drop_more ms taken count ∙ ap (λ n. drop n ms) (sym sum) in
        record {
          within = omega (arith, sum, less, le, length-drop taken ms);
          rest = ap (λ xs. fits_from decls tokens types l (comma_before fs (suc i)) (drop (suc i) fs) xs env) (sym same) ∙ and_right _ _ holds;
          found = sym (found_step old new _ _ _ more (left_member fs i f rest count lt g e few
              ∙ ap (λ xs. taken_pairs l (comma_before fs i) (piece decls tokens types env f) (take count rest)
              ++ left (comma_before fs (suc i)) (drop (suc i) fs) xs) same));
        }

    pub next_wild : (fs : List Tree) (i taken count next : ℕ) (f : Tree) (ms rest run : List Member)
        (old mid new : List AlignedToken) → i < length fs → f ≡ get_or fs i f → comma f ≡ None
        → is_wild l (leaf_of (out-Tree f)) ≡ true → taken ≤ length ms → fits_from decls tokens types l (comma_before fs i) (drop i fs) (drop taken ms) env
        ≡ true
        → rest ≡ drop taken ms → count ≡ least (takes_first decls tokens types env l fs i f rest) (suc (length rest)) → next ≡ taken + count
        → run ≡ take count rest
        → mid ≡ old ++ numbers (comma_pairs (comma_before fs i) run) → new ≡ mid ++ numbers (wild_pairs l (leaf_of (out-Tree f)) run)
        → IsNext decls tokens types env l fs i ms taken next old new
    next_wild fs i taken count next f ms rest run old mid new lt g e wild le fits r few sum cut here more =
        let here_is : taken_pairs l (comma_before fs i) (piece decls tokens types env f) run ≡ comma_pairs (comma_before fs i) run
        ++ wild_pairs l (leaf_of (out-Tree f)) run =
        ap (λ o. comma_pairs (comma_before fs i) run
        ++ cond (is_wild l o) (wild_pairs l o run) (single_pairs (alignment decls tokens types env f) run)) (piece-token decls tokens types env f)
        ∙ ap (λ b. comma_pairs (comma_before fs i) run
        ++ cond b (wild_pairs l (leaf_of (out-Tree f)) run) (single_pairs (alignment decls tokens types env f) run)) wild in
        let all : new ≡ old ++ numbers (taken_pairs l (comma_before fs i) (piece decls tokens types env f) run) = more
        ∙ found_step old mid _ _ _ here here_is in
        next_taken fs i taken count next f ms old new lt g e le fits
        (few ∙ ap (λ xs. least (takes_first decls tokens types env l fs i f xs) (suc (length xs))) r) sum
        (all ∙ ap (λ xs. old ++ numbers (taken_pairs l (comma_before fs i) (piece decls tokens types env f) xs)) (cut ∙ ap (take count) r))

    single_count : (fs : List Tree) (i : ℕ) (f : Tree) (ms : List Member) → i < length fs → f ≡ get_or fs i f → comma f ≡ None
        → is_wild l (leaf_of (out-Tree f)) ≡ false
        → fits_from decls tokens types l (comma_before fs i) (drop i fs) ms env ≡ true
        → least (takes_first decls tokens types env l fs i f ms) (suc (length ms)) ≡ 1
    single_count fs i f ms lt g e w fits =
        least_one (takes_first decls tokens types env l fs i f ms) (suc (length ms)) (sym (member_next decls tokens types l fs i f ms env lt g e) ∙ fits)
        (λ k less ne. others_none decls tokens types l env (comma_before fs i) f ms k _ less ne w)

    pub next_single : (fs : List Tree) (i taken next : ℕ) (f : Tree) (m : Member) (ms run : List Member)
        (old mid new : List AlignedToken) → i < length fs → f ≡ get_or fs i f → comma f ≡ None
        → is_wild l (leaf_of (out-Tree f)) ≡ false → taken ≤ length ms → fits_from decls tokens types l (comma_before fs i) (drop i fs) (drop taken ms) env
        ≡ true
        → taken < length ms → m ≡ get_or ms taken m → next ≡ taken + 1 → run ≡ take (next - taken) (drop taken ms)
        → mid ≡ old ++ numbers (comma_pairs (comma_before fs i) run) → new ≡ mid ++ numbers (alignment decls tokens types env f m.tree)
        → IsNext decls tokens types env l fs i ms taken next old new
    next_single fs i taken next f m ms run old mid new lt g e wild le fits less here_m sum cut here more =
        let one : next - taken ≡ 1 = omega (arith, sum) in
        let run_is : take 1 (drop taken ms) ≡ m ∷ [] = ap (take 1) (drop_at ms taken m less here_m) in
        let run_one : run ≡ m ∷ [] = cut ∙ ap (λ k. take k (drop taken ms)) one ∙ run_is in
        let here_is : taken_pairs l (comma_before fs i) (piece decls tokens types env f) (m ∷ [])
        ≡ comma_pairs (comma_before fs i) (m ∷ []) ++ alignment decls tokens types env f m.tree =
        ap (λ o. comma_pairs (comma_before fs i) (m ∷ [])
        ++ cond (is_wild l o) (wild_pairs l o (m ∷ [])) (alignment decls tokens types env f m.tree)) (piece-token decls tokens types env f)
        ∙ ap (λ b. comma_pairs (comma_before fs i) (m ∷ [])
        ++ cond b (wild_pairs l (leaf_of (out-Tree f)) (m ∷ [])) (alignment decls tokens types env f m.tree)) wild in
        let mid_is : mid ≡ old ++ numbers (comma_pairs (comma_before fs i) (m ∷ [])) =
        here ∙ ap (λ xs. old ++ numbers (comma_pairs (comma_before fs i) xs)) run_one in
        let all : new ≡ old ++ numbers (taken_pairs l (comma_before fs i) (piece decls tokens types env f) (m ∷ [])) =
        more ∙ found_step old mid _ _ _ mid_is here_is in
        next_taken fs i taken 1 next f ms old new lt g e le fits (sym (single_count fs i f (drop taken ms) lt g e wild fits)) sum
        (all ∙ ap (λ xs. old ++ numbers (taken_pairs l (comma_before fs i) (piece decls tokens types env f) xs)) (sym run_is))

    -- if the rest of a list fits, a member is left for a child that takes one, and the child fits it

    pub member_left : (fs : List Tree) (i taken : ℕ) (f : Tree) (ms : List Member) → i < length fs → f ≡ get_or fs i f → comma f ≡ None
        → is_wild l (leaf_of (out-Tree f)) ≡ false → taken ≤ length ms
        → fits_from decls tokens types l (comma_before fs i) (drop i fs) (drop taken ms) env ≡ true → taken < length ms
    member_left fs i taken f ms lt g e wild le fits = by (drop taken ms) refl (length-drop taken ms)
      where
        by : (rest : List Member) → drop taken ms ≡ rest → length (drop taken ms) ≡ length ms - taken → taken < length ms
        by [] none len = let no = next_none decls tokens types l fs i f (drop taken ms) env lt g e wild none in absurd (cc)
        by (m ∷ rest) some len = omega (arith, le, len, ap length some)

    pub member_fits : (fs : List Tree) (i taken : ℕ) (f : Tree) (m : Member) (ms : List Member) → i < length fs → f ≡ get_or fs i f → comma f ≡ None
        → is_wild l (leaf_of (out-Tree f)) ≡ false → taken < length ms → m ≡ get_or ms taken m
        → fits_from decls tokens types l (comma_before fs i) (drop i fs) (drop taken ms) env ≡ true
        → fits_tree decls tokens types env f m.tree ≡ true
    member_fits fs i taken f m ms lt g e wild less here fits =
        let some : 0 < length (drop taken ms) = omega (arith, length-drop taken ms, less) in
        let all = sym (next_member decls tokens types l fs i f (drop taken ms) env lt g e wild some) ∙ fits in
        sym (ap (single_fits (fits_tree decls tokens types env f)) (ap (take 1) (drop_at ms taken m less here))) ∙ and_right _ _ (and_left _ _ all)

-- as many forms as trees

pub all_fit-even : (f : Tree → Piece) (xs us : List Tree) → all_fit (map f xs) us ≡ true → length xs ≡ length us
all_fit-even f [] [] h = refl
all_fit-even f [] (u ∷ us) h = absurd (cc)
all_fit-even f (x ∷ xs) [] h = absurd (cc)
all_fit-even f (x ∷ xs) (u ∷ us) h = omega (arith, all_fit-even f xs us (and_right _ _ h))

pub own_fit-even : (q : ℕ → Bool) (i : ℕ) (f : Tree → Piece) (xs us : List Tree) → own_fit q i (map f xs) us ≡ true → length xs ≡ length us
own_fit-even q i f [] [] h = refl
own_fit-even q i f [] (u ∷ us) h = absurd (cc)
own_fit-even q i f (x ∷ xs) [] h = absurd (cc)
own_fit-even q i f (x ∷ xs) (u ∷ us) h = omega (arith, own_fit-even q (suc i) f xs us (and_right _ _ h))

-- own children

module _ (decls : List VarDecl) (tokens : List PatToken) (types : ItemTypes) (env : Environment) where
  pub own_next : (q : ℕ → Bool) (xs us : List Tree) (i j : ℕ) (x u : Tree) → j ≡ suc i → i < length xs → length xs ≡ length us
      → x ≡ get_or xs i x → u ≡ get_or us i u
      → own_fit q i (map (piece decls tokens types env) (drop i xs)) (drop i us) ≡ true
      → own_fit q j (map (piece decls tokens types env) (drop j xs)) (drop j us) ≡ true
  own_next q xs us i j x u n lt len e g h =
      ap (λ m. own_fit q m (map (piece decls tokens types env) (drop m xs)) (drop m us)) n
      ∙ and_right _ _ (sym (own_fit_at decls tokens types env q xs us i i x u lt len e g) ∙ h)

  pub own_pairs_step : (q : ℕ → Bool) (xs us : List Tree) (i j : ℕ) (x u : Tree) (old new w : List AlignedToken) → j ≡ suc i
      → i < length xs → i < length us → x ≡ get_or xs i x → u ≡ get_or us i u
      → new ≡ old ++ numbers (cond (q i) (alignment decls tokens types env x u) [])
      → old ++ numbers (own_pairs q i (map (piece decls tokens types env) (drop i xs)) (drop i us)) ≡ w
      → new ++ numbers (own_pairs q j (map (piece decls tokens types env) (drop j xs)) (drop j us)) ≡ w
  own_pairs_step q xs us i j x u old new w n lt le e g k h =
      ap (λ m. new ++ numbers (own_pairs q m (map (piece decls tokens types env) (drop m xs)) (drop m us))) n
      ∙ found_step old new _ _ _ k (ap₂ (λ ys vs. own_pairs q i (map (piece decls tokens types env) ys) vs) (drop_at xs i x lt e) (drop_at us i u le g)) ∙ h
