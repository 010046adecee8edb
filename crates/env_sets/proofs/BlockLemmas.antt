-- Entries that are stored in blocks.
use Rattle.std.proofs.Common.{◌≡◌, ℕ, suc, zero, ◌-◌, ◌<◌, ◌≤◌, Bool, true, false, ◌&&◌, ◌||◌, eqb, refl, sym, ap, ◌∙◌, subst}
use Rattle.std.proofs.Common.{arith, List, [], ◌∷◌, ◌++◌, length, get_or, take, drop, append_assoc, append-nil}
use Rattle.std.specs.declared.cmp.Ordering.TheVariants.{Less, Greater}
use Rattle.std.proofs.lemmas.Grind.{flat_map-append}
use Rattle.std.proofs.lemmas.Bool.Decides.{nat_tests}
use Rattle.std.proofs.lemmas.List.{take_all}
use Rattle.std.proofs.lemmas.List.Folds.{list_any-append, list_all-append}
use Rattle.smpl_terms.specs.declared.var.Var.{Var}
use Rattle.smpl_terms.specs.Environments.{Environment}
use Rattle.env_sets.specs.declared.bounds.Bound.{Bound}
use Rattle.env_sets.specs.Sets.{Entries, entry_denotes, entry_vars, set_denotes, set_vars}
use Rattle.env_sets.specs.Ascending.{side, MayFollow, FirstMayFollow, Ascend}
use Rattle.env_sets.specs.Blocks.{all_entries, AreInOrder, LastMayPrecede, LastIsBefore, FirstIsAfter}
use Rattle.env_sets.proofs.AscendingLemmas.{before_misses, after_misses, all_after, neither}

-- lists of blocks
pub all_append : (bs cs : List Entries) → all_entries (bs ++ cs) ≡ all_entries bs ++ all_entries cs
all_append bs cs = flat_map-append (λ b. b) bs cs

pub all_push : (bs : List Entries) (b : Entries) → all_entries (bs ++ b ∷ []) ≡ all_entries bs ++ b
all_push bs b = all_append bs (b ∷ []) ∙ ap (λ es. all_entries bs ++ es) (append-nil b)

pub all_more : (bs : List Entries) (i : ℕ) (b : Entries) → i < length bs → b ≡ get_or bs i b
    → all_entries (take (suc i) bs) ≡ all_entries (take i bs) ++ b
all_more [] i b lt at = absurd (omega arith)
all_more (c ∷ bs) zero b lt at = append-nil c ∙ sym at
all_more (c ∷ bs) (suc i) b lt at =
    ap (λ es. c ++ es) (all_more bs i b (omega arith) at) ∙ sym (append_assoc c (all_entries (take i bs)) b)

pub all_split : (bs : List Entries) (i : ℕ) (b : Entries) → i < length bs → b ≡ get_or bs i b
    → all_entries bs ≡ all_entries (take i bs) ++ (b ++ all_entries (drop (suc i) bs))
all_split [] i b lt at = absurd (omega arith)
all_split (c ∷ bs) zero b lt at = ap (λ d. d ++ all_entries bs) (sym at)
all_split (c ∷ bs) (suc i) b lt at =
    ap (λ es. c ++ es) (all_split bs i b (omega arith) at)
    ∙ sym (append_assoc c (all_entries (take i bs)) (b ++ all_entries (drop (suc i) bs)))

pub some_entry : (bs : List Entries) (i : ℕ) (b : Entries) → i < length bs → b ≡ get_or bs i b → 0 < length b
    → 0 < length (all_entries bs)
some_entry [] i b lt at some = absurd (omega arith)
some_entry ([] ∷ bs) zero b lt at some = absurd (omega (arith, ap length at))
some_entry ((e ∷ es) ∷ bs) zero b lt at some = omega arith
some_entry ([] ∷ bs) (suc i) b lt at some = some_entry bs i b (omega arith) at some
some_entry ((e ∷ es) ∷ bs) (suc i) b lt at some = omega arith

-- what several lists stand for
pub denotes-append : (es fs : Entries) (env : Environment) → set_denotes (es ++ fs) env ≡ (set_denotes es env || set_denotes fs env)
denotes-append es fs env = list_any-append (λ e. entry_denotes e env) es fs

pub vars-append : (es fs : Entries) (t : Var → Bool) → set_vars t (es ++ fs) ≡ (set_vars t es && set_vars t fs)
vars-append es fs t = list_all-append (λ e. entry_vars t e) es fs

-- parts of what ascends
pub ascend_front : (xs ys : Entries) → Ascend (xs ++ ys) → Ascend xs
ascend_front [] ys a = tt
ascend_front (x ∷ []) ys a = (tt, tt)
ascend_front (x ∷ z ∷ xs) ys a = (a.0, ascend_front (z ∷ xs) ys a.1)

pub ascend_back : (xs ys : Entries) → Ascend (xs ++ ys) → Ascend ys
ascend_back [] ys a = a
ascend_back (x ∷ xs) ys a = ascend_back xs ys a.1

follow_over : (p m : List (Var × Bound)) (es : Entries) → MayFollow p m → FirstMayFollow m es → FirstMayFollow p es
follow_over p m [] f g = tt
follow_over p m (e ∷ es) f g = λ env. (λ h. (f env).0 ((g env).0 h), λ h. (g env).1 ((f env).1 h))

ascend_without_one : (xs ys : Entries) (m : List (Var × Bound)) → Ascend (xs ++ m ∷ ys) → Ascend (xs ++ ys)
ascend_without_one [] ys m a = a.1
ascend_without_one (x ∷ []) ys m a = (follow_over x m ys a.0 a.1.0, a.1.1)
ascend_without_one (x ∷ z ∷ xs) ys m a = (a.0, ascend_without_one (z ∷ xs) ys m a.1)

pub ascend_without : (xs ms ys : Entries) → Ascend (xs ++ (ms ++ ys)) → Ascend (xs ++ ys)
ascend_without xs [] ys a = a
ascend_without xs (m ∷ ms) ys a = ascend_without xs ms ys (ascend_without_one xs (ms ++ ys) m a)

pub ascend_with : (xs ys : Entries) (e : List (Var × Bound)) → Ascend (xs ++ ys) → LastMayPrecede xs e
    → FirstMayFollow e ys → Ascend (xs ++ e ∷ ys)
ascend_with [] ys e a l f = (f, a)
ascend_with (x ∷ []) ys e a l f = (l, (f, a.1))
ascend_with (x ∷ z ∷ xs) ys e a l f = (a.0, ascend_with (z ∷ xs) ys e a.1 l f)

-- entries before an environment, and after it
last_before : (x : List (Var × Bound)) (xs : Entries) (env : Environment) → Ascend (x ∷ xs) → LastIsBefore env (x ∷ xs)
    → side x env ≡ Less
last_before x [] env a h = h
last_before x (z ∷ xs) env a h = (a.0 env).0 (last_before z xs env a.1 h)

pub front_misses_env : (xs : Entries) (env : Environment) → Ascend xs → LastIsBefore env xs → set_denotes xs env ≡ false
front_misses_env [] env a h = refl
front_misses_env (x ∷ []) env a h = neither (entry_denotes x env) false (before_misses x env h) refl
front_misses_env (x ∷ z ∷ xs) env a h =
    neither (entry_denotes x env) (set_denotes (z ∷ xs) env) (before_misses x env (last_before x (z ∷ xs) env a h))
    (front_misses_env (z ∷ xs) env a.1 h)

pub back_misses_env : (ys : Entries) (env : Environment) → Ascend ys → FirstIsAfter env ys → set_denotes ys env ≡ false
back_misses_env [] env a h = refl
back_misses_env (y ∷ ys) env a h =
    neither (entry_denotes y env) (set_denotes ys env) (after_misses y env h) (all_after ys y env a.0 a.1 h)

-- the last entry and the first
pub last_is_before : (xs es : Entries) (n : ℕ) (y : List (Var × Bound)) (env : Environment) → suc n ≡ length es
    → y ≡ get_or es n y → side y env ≡ Less → LastIsBefore env (xs ++ es)
last_is_before [] [] n y env last at h = absurd (omega (arith, last))
last_is_before [] (e ∷ []) zero y env last at h = ap (λ z. side z env) (sym at) ∙ h
last_is_before [] (e ∷ []) (suc n) y env last at h = absurd (omega (arith, last))
last_is_before [] (e ∷ f ∷ es) zero y env last at h = absurd (omega (arith, last))
last_is_before [] (e ∷ f ∷ es) (suc n) y env last at h = last_is_before [] (f ∷ es) n y env (omega (arith, last)) at h
last_is_before (x ∷ []) [] n y env last at h = absurd (omega (arith, last))
last_is_before (x ∷ []) (e ∷ es) n y env last at h = last_is_before [] (e ∷ es) n y env last at h
last_is_before (x ∷ z ∷ xs) es n y env last at h = last_is_before (z ∷ xs) es n y env last at h

pub last_may_precede : (xs es : Entries) (n : ℕ) (y e : List (Var × Bound)) → suc n ≡ length es
    → y ≡ get_or es n y → MayFollow y e → LastMayPrecede (xs ++ es) e
last_may_precede [] [] n y e last at h = absurd (omega (arith, last))
last_may_precede [] (d ∷ []) zero y e last at h = subst (λ z. MayFollow z e) at h
last_may_precede [] (d ∷ []) (suc n) y e last at h = absurd (omega (arith, last))
last_may_precede [] (d ∷ f ∷ es) zero y e last at h = absurd (omega (arith, last))
last_may_precede [] (d ∷ f ∷ es) (suc n) y e last at h = last_may_precede [] (f ∷ es) n y e (omega (arith, last)) at h
last_may_precede (x ∷ []) [] n y e last at h = absurd (omega (arith, last))
last_may_precede (x ∷ []) (d ∷ es) n y e last at h = last_may_precede [] (d ∷ es) n y e last at h
last_may_precede (x ∷ z ∷ xs) es n y e last at h = last_may_precede (z ∷ xs) es n y e last at h

pub first_is_after : (es fs : Entries) (y : List (Var × Bound)) (env : Environment) → 0 < length es
    → y ≡ get_or es 0 y → side y env ≡ Greater → FirstIsAfter env (es ++ fs)
first_is_after [] fs y env some at h = absurd (omega arith)
first_is_after (e ∷ es) fs y env some at h = ap (λ z. side z env) (sym at) ∙ h

pub first_may_follow : (es fs : Entries) (e y : List (Var × Bound)) → 0 < length es
    → y ≡ get_or es 0 y → MayFollow e y → FirstMayFollow e (es ++ fs)
first_may_follow [] fs e y some at h = absurd (omega arith)
first_may_follow (d ∷ es) fs e y some at h = subst (λ z. MayFollow e z) at h

-- blocks in order
pub blocks_ascend : (bs : List Entries) → AreInOrder bs → Ascend (all_entries bs)
unfolding AreInOrder
blocks_ascend bs h = h

pub blocks_in_order : (bs : List Entries) → Ascend (all_entries bs) → AreInOrder bs
unfolding AreInOrder
blocks_in_order bs h = h

pub no_blocks_in_order : (bs : List Entries) → bs ≡ [] → AreInOrder bs
unfolding AreInOrder
no_blocks_in_order bs h = subst (λ cs. Ascend (all_entries cs)) (sym h) tt

pub all_more_at : (bs : List Entries) (i m : ℕ) (b : Entries) → i < length bs → b ≡ get_or bs i b → m ≡ suc i
    → all_entries (take m bs) ≡ all_entries (take i bs) ++ b
all_more_at bs i m b lt at e = ap (λ k. all_entries (take k bs)) e ∙ all_more bs i b lt at

pub all_more_behind : (es : Entries) (bs : List Entries) (i m : ℕ) (b : Entries) → i < length bs → b ≡ get_or bs i b
    → m ≡ suc i → es ++ all_entries (take m bs) ≡ (es ++ all_entries (take i bs)) ++ b
all_more_behind es bs i m b lt at e =
    ap (λ fs. es ++ fs) (all_more_at bs i m b lt at e) ∙ sym (append_assoc es (all_entries (take i bs)) b)

pub block_ascends : (bs : List Entries) (i : ℕ) (b : Entries) → Ascend (all_entries bs) → i < length bs
    → b ≡ get_or bs i b → Ascend b
block_ascends bs i b a lt at =
    let rest = all_entries (drop (suc i) bs) in
    ascend_front b rest
    (ascend_back (all_entries (take i bs)) (b ++ rest) (subst Ascend (all_split bs i b lt at) a))

pub blocks_miss : (bs : List Entries) (i : ℕ) (b : Entries) (env : Environment) → Ascend (all_entries bs)
    → i < length bs → b ≡ get_or bs i b → ((es : Entries) → FirstIsAfter env (b ++ es))
    → set_denotes (all_entries (take i bs)) env ≡ false → set_denotes (all_entries bs) env ≡ false
blocks_miss bs i b env a lt at f front =
    let rest = all_entries (drop (suc i) bs) in
    let split : all_entries bs ≡ all_entries (take i bs) ++ (b ++ rest) = all_split bs i b lt at in
    ap (λ es. set_denotes es env) split
    ∙ denotes-append (all_entries (take i bs)) (b ++ rest) env
    ∙ neither (set_denotes (all_entries (take i bs)) env) (set_denotes (b ++ rest) env) front
    (back_misses_env (b ++ rest) env (ascend_back (all_entries (take i bs)) (b ++ rest) (subst Ascend split a)) (f rest))

or_middle : (a b c : Bool) → b ≡ true → (a || (b || c)) ≡ true
or_middle true b c h = refl
or_middle false b c h = ap (λ d. d || c) h

pub some_block_holds : (bs : List Entries) (i : ℕ) (b : Entries) (env : Environment) → i < length bs → b ≡ get_or bs i b
    → set_denotes b env ≡ true → set_denotes (all_entries bs) env ≡ true
some_block_holds bs i b env lt at h =
    let rest = all_entries (drop (suc i) bs) in
    ap (λ es. set_denotes es env) (all_split bs i b lt at)
    ∙ denotes-append (all_entries (take i bs)) (b ++ rest) env
    ∙ ap (λ d. set_denotes (all_entries (take i bs)) env || d) (denotes-append b rest env)
    ∙ or_middle (set_denotes (all_entries (take i bs)) env) (set_denotes b env) (set_denotes rest env) h

pub one_more_misses : (bs : List Entries) (i m : ℕ) (b : Entries) (env : Environment) → i < length bs → b ≡ get_or bs i b
    → m ≡ suc i → set_denotes (all_entries (take i bs)) env ≡ false → set_denotes b env ≡ false
    → set_denotes (all_entries (take m bs)) env ≡ false
one_more_misses bs i m b env lt at e front here =
    ap (λ es. set_denotes es env) (all_more_at bs i m b lt at e)
    ∙ denotes-append (all_entries (take i bs)) b env
    ∙ neither (set_denotes (all_entries (take i bs)) env) (set_denotes b env) front here

pub front_blocks_miss : (bs : List Entries) (i m : ℕ) (b : Entries) (env : Environment) → Ascend (all_entries bs)
    → i < length bs → b ≡ get_or bs i b → m ≡ suc i → ((es : Entries) → LastIsBefore env (es ++ b))
    → set_denotes (all_entries (take m bs)) env ≡ false
front_blocks_miss bs i m b env a lt at e f =
    let front = all_entries (take i bs) in
    let rest = all_entries (drop (suc i) bs) in
    ap (λ es. set_denotes es env) (all_more_at bs i m b lt at e)
    ∙ front_misses_env (front ++ b) env
    (ascend_front (front ++ b) rest (subst Ascend (all_split bs i b lt at ∙ sym (append_assoc front b rest)) a)) (f front)

-- blocks around one that is split
pub all_parts : (list before after : List Entries) (block front back : Entries) → list ≡ before ++ block ∷ after
    → block ≡ front ++ back → all_entries list ≡ (all_entries before ++ front) ++ (back ++ all_entries after)
all_parts list before after block front back e g =
    ap all_entries e
    ∙ all_append before (block ∷ after)
    ∙ ap (λ b. all_entries before ++ (b ++ all_entries after)) g
    ∙ ap (λ es. all_entries before ++ es) (append_assoc front back (all_entries after))
    ∙ sym (append_assoc (all_entries before) front (back ++ all_entries after))

pub all_parts_of_three : (list before after : List Entries) (block front rest middle back : Entries) → list ≡ before ++ block ∷ after
    → block ≡ front ++ rest → rest ≡ middle ++ back
    → all_entries list ≡ (all_entries before ++ front) ++ (middle ++ (back ++ all_entries after))
all_parts_of_three list before after block front rest middle back e g h =
    all_parts list before after block front rest e g
    ∙ ap (λ es. (all_entries before ++ front) ++ es)
    (ap (λ b. b ++ all_entries after) h ∙ append_assoc middle back (all_entries after))

-- a block made of two parts, between others
pub all_around : (none front most whole made before after : List Entries) (block : Entries) → none ≡ [] → front ≡ none ++ before
    → all_entries most ≡ all_entries front ++ block → whole ≡ most ++ after → made ≡ whole
    → all_entries made ≡ all_entries before ++ (block ++ all_entries after)
all_around none front most whole made before after block n f m w e =
    ap all_entries (e ∙ w)
    ∙ all_append most after
    ∙ ap (λ es. es ++ all_entries after) (m ∙ ap (λ bs. all_entries bs ++ block) (f ∙ ap (λ bs. bs ++ before) n))
    ∙ append_assoc (all_entries before) block (all_entries after)

pub around_parts : (before front back after block : Entries) → block ≡ front ++ back
    → before ++ (block ++ after) ≡ (before ++ front) ++ (back ++ after)
around_parts before front back after block is =
    ap (λ es. before ++ (es ++ after)) is
    ∙ ap (λ es. before ++ es) (append_assoc front back after)
    ∙ sym (append_assoc before front (back ++ after))

-- blocks beside a split one of whose parts is empty
pub next_block : (P : Entries → Type 0) (back : Entries) (after : List Entries) (b : Entries) → length back ≡ 0
    → 0 < length after → b ≡ get_or after 0 b → ((es : Entries) → P (b ++ es)) → P (back ++ all_entries after)
next_block P [] [] b none some at f = absurd (omega arith)
next_block P [] (c ∷ bs) b none some at f = subst (λ d. P (d ++ all_entries bs)) at (f (all_entries bs))
next_block P (e ∷ es) bs b none some at f = absurd (omega (arith, none))

pub no_block_after : (P : Entries → Type 0) (back : Entries) (after : List Entries) → length back ≡ 0
    → length after ≡ 0 → P [] → P (back ++ all_entries after)
no_block_after P [] [] none nothing h = h
no_block_after P [] (b ∷ bs) none nothing h = absurd (omega (arith, nothing))
no_block_after P (e ∷ es) bs none nothing h = absurd (omega (arith, none))

pub no_block_before : (P : Entries → Type 0) (before : List Entries) (front : Entries) → length before ≡ 0
    → length front ≡ 0 → P [] → P (all_entries before ++ front)
no_block_before P [] [] none nothing h = h
no_block_before P [] (e ∷ es) none nothing h = absurd (omega (arith, nothing))
no_block_before P (b ∷ bs) es none nothing h = absurd (omega (arith, none))

pub follow_along : (a ps b qs : List (Var × Bound)) → ps ≡ a → qs ≡ b → MayFollow ps qs → MayFollow a b
follow_along a ps b qs e f h = subst (λ y. MayFollow a y) f (subst (λ y. MayFollow y qs) e h)

pub front_holds : (all xs front ys : Entries) (env : Environment) → all ≡ (xs ++ front) ++ ys → set_denotes front env ≡ true
    → set_denotes all env ≡ true
front_holds all xs front ys env is h =
    ap (λ es. set_denotes es env) (is ∙ append_assoc xs front ys)
    ∙ denotes-append xs (front ++ ys) env
    ∙ ap (λ d. set_denotes xs env || d) (denotes-append front ys env)
    ∙ or_middle (set_denotes xs env) (set_denotes front env) (set_denotes ys env) h

-- a list, split before one of its members
pub with_first : (list before from after : List Entries) (b : Entries) → list ≡ before ++ from → 1 ≤ length from
    → b ≡ get_or from 0 b → after ≡ take (length from - 1) (drop 1 from) → list ≡ before ++ b ∷ after
with_first list before [] after b e some at is = absurd (omega arith)
with_first list before (c ∷ cs) after b e some at is =
    e ∙ ap (λ d. before ++ d ∷ cs) (sym at)
    ∙ ap (λ ds. before ++ b ∷ ds) (sym (take_all (length (c ∷ cs) - 1) cs (omega arith)) ∙ sym is)

-- what is left of a list and blocks after the front of a list
or_nothing : (b : Bool) → (b || false) ≡ b
or_nothing true = refl
or_nothing false = refl

or_past_front : (f b r : Bool) → (f || (b || r)) ≡ ((f || b) || r)
or_past_front true b r = refl
or_past_front false b r = refl

pub after_step : (own front back left same behind : Entries) (rest : List Entries) (env : Environment) (r : Bool)
    → own ≡ front ++ back → left ≡ same ++ behind → set_denotes front env ≡ set_denotes same env
    → set_denotes (behind ++ all_entries rest) env ≡ (set_denotes back env || r)
    → set_denotes (left ++ all_entries rest) env ≡ (set_denotes own env || r)
after_step own front back left same behind rest env r e f g h =
    ap (λ es. set_denotes (es ++ all_entries rest) env) f
    ∙ ap (λ es. set_denotes es env) (append_assoc same behind (all_entries rest))
    ∙ denotes-append same (behind ++ all_entries rest) env
    ∙ (λ i. sym g i || h i)
    ∙ or_past_front (set_denotes front env) (set_denotes back env) r
    ∙ ap (λ b. b || r) (sym (denotes-append front back env) ∙ ap (λ es. set_denotes es env) (sym e))

pub after_block : (left block : Entries) (rest others : List Entries) (env : Environment) (b : Bool)
    → eqb (length left) 0 ≡ true → rest ≡ block ∷ others → set_denotes (block ++ all_entries others) env ≡ b
    → set_denotes (left ++ all_entries rest) env ≡ b
after_block [] block rest others env b none is h = ap (λ bs. set_denotes (all_entries bs) env) is ∙ h
after_block (e ∷ es) block rest others env b none is h = absurd (grind (arith, nat_tests, none))

pub nothing_left : (left : Entries) (rest : List Entries) (env : Environment) (b : Bool) → eqb (length left) 0 ≡ true
    → all_entries rest ≡ [] → (b || set_denotes (left ++ all_entries rest) env) ≡ b
nothing_left [] rest env b none is = ap (λ es. b || set_denotes es env) is ∙ or_nothing b
nothing_left (e ∷ es) rest env b none is = absurd (grind (arith, nat_tests, none))

pub nothing_of_own : (own : Entries) (env : Environment) (b : Bool) → length own ≤ 0 → b ≡ (set_denotes own env || b)
nothing_of_own [] env b none = refl
nothing_of_own (e ∷ es) env b none = absurd (omega arith)

pub next_of_blocks : (bs : List Entries) (i m : ℕ) (b : Entries) (env : Environment) (whole old new : Bool)
    → i < length bs → b ≡ get_or bs i b → m ≡ suc i → whole ≡ (set_denotes (all_entries (take i bs)) env || old)
    → old ≡ (set_denotes b env || new) → whole ≡ (set_denotes (all_entries (take m bs)) env || new)
next_of_blocks bs i m b env whole old new lt at e f g =
    f ∙ ap (λ d. set_denotes (all_entries (take i bs)) env || d) g
    ∙ or_past_front (set_denotes (all_entries (take i bs)) env) (set_denotes b env) new
    ∙ ap (λ d. d || new)
    (sym (denotes-append (all_entries (take i bs)) b env) ∙ ap (λ es. set_denotes es env) (sym (all_more_at bs i m b lt at e)))
