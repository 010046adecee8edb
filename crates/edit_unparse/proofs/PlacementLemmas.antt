-- The inserts in the order of the tokens at which the edits have them, by the places at which they stand.
use Rattle.std.proofs.Common.{◌≡◌, ◌<◌, ◌≤◌, ◌+◌, ◌*◌, ◌==◌}
use Rattle.std.proofs.Common.{ℕ, suc, Bool, true, false, refl, sym, ap, ◌∙◌, arith, max, subst}
use Rattle.std.proofs.Common.{List, [], ◌∷◌, ◌++◌, append_assoc, length, length-drop, get_or, drop, filter, fold}
use Rattle.std.specs.Prelude.{if◌then◌else◌}
use Rattle.std.proofs.lemmas.Bool.Decides.{Decides-eqb}
use Rattle.std.proofs.lemmas.List.{append-nil, drop-drop, drop_more, get_or-drop}
use Rattle.edit_marks.specs.declared.edit_conflict.edit.Side.TheVariants.{Before, After}
use Rattle.edit_marks.specs.declared.edit_conflict.edit.Edit.{Edit}
use Rattle.edit_marks.specs.declared.edit_conflict.mark.Mark.{Mark}
use Rattle.edit_marks.specs.EditConflict.Marks.{is_at, marks_from}
use Rattle.edit_unparse.specs.declared.tidy.plan.Placed.{Placed}
use Rattle.edit_unparse.specs.declared.tidy.plan.Spot.{Spot}
use Rattle.edit_unparse.specs.Tidy.Places.{inserts_after, inserts_at, inserts_before, inserts_from, run_inserts}
use Rattle.edit_unparse.specs.Tidy.Found.{all_inserts, token_inserts}
use Rattle.edit_unparse.specs.Tidy.Spots.{deepest_from, is_number, spot}
use Rattle.edit_unparse.proofs.PlacedLemmas.{gone_after, gone_before, kept_after, kept_before}
use Rattle.std.proofs.lemmas.List.Elements.{filter-append}

-- a token that is joined to the one before it goes, and so does that
pub record RunsGo (removed joined : List Bool) : Type 0 where
  pub some : (m : ℕ) → get_or joined m false ≡ true → 0 < m
  pub own : (m : ℕ) → get_or joined m false ≡ true → get_or removed m false ≡ true
  pub before : (m : ℕ) → get_or joined (suc m) false ≡ true → get_or removed m false ≡ true

head_at : (j : Bool) (js joined : List Bool) (t : ℕ) → (j ∷ js) ≡ drop t joined → get_or joined t false ≡ j
head_at j js joined t is =
    let same : t + 0 ≡ t = omega arith in
    ap (λ (k : ℕ). get_or joined k false) (sym same) ∙ sym (get_or-drop t joined 0 false) ∙ ap (λ (l : List Bool). get_or l 0 false) (sym is)

tail_at : (j : Bool) (js joined : List Bool) (t : ℕ) → (j ∷ js) ≡ drop t joined → js ≡ drop (t + 1) joined
tail_at j js joined t is = ap (drop 1) is ∙ drop-drop 1 t joined

other : (a b : ℕ) → (a ≡ b → ⊥) → (a == b) ≡ false
other a b differ = by (a == b) refl
  where
    by : (x : Bool) → (a == b) ≡ x → x ≡ false
    by true e = absurd (differ ((Decides-eqb a b).0 e))
    by false e = refl

own_test : (a : ℕ) → (a == a) ≡ true
own_test a = (Decides-eqb a a).1 refl

-- the rest of a run, from a token on
abbrev run_rest : List Edit → List ℕ → Spot → ℕ → List Bool → List Placed
run_rest edits depths at t [] = []
run_rest edits depths at t (false ∷ rest) = []
run_rest edits depths at t (true ∷ rest) = inserts_at edits depths at t ++ run_rest edits depths at (t + 1) rest

run_is : (edits : List Edit) (depths : List ℕ) (at : Spot) (t : ℕ) (js : List Bool)
    → run_inserts edits depths at t js ≡ inserts_at edits depths at t ++ run_rest edits depths at (t + 1) js
run_is edits depths at t [] = sym (append-nil (inserts_at edits depths at t))
run_is edits depths at t (false ∷ js) = sym (append-nil (inserts_at edits depths at t))
run_is edits depths at t (true ∷ js) = ap (λ (l : List Placed). inserts_at edits depths at t ++ l) (run_is edits depths at (t + 1) js)

module _ (edits : List Edit) (removed : List Bool) (depths : List ℕ) (joined : List Bool) (runs : RunsGo removed joined) (n : ℕ) where
  abbrev before : ℕ → ℕ → List Bool → List Placed
  before t start js = filter (is_number (2 * n)) (all_inserts edits removed depths t start js)

  abbrev after : ℕ → ℕ → List Bool → List Placed
  after t start js = filter (is_number (2 * n + 1)) (all_inserts edits removed depths t start js)

  abbrev own_inserts : ℕ → Bool → ℕ → List Placed
  own_inserts t goes home = token_inserts depths goes home (filter (is_at t) (marks_from 0 edits))

  abbrev own_there : ℕ → ℕ → Bool → ℕ → List Placed
  own_there k t goes home = filter (is_number k) (own_inserts t goes home)

  step : (k t start : ℕ) (goes : Bool) (home : ℕ) (js : List Bool)
      → filter (is_number k) (own_inserts t goes home ++ all_inserts edits removed depths (t + 1) start js)
      ≡ own_there k t goes home ++ filter (is_number k) (all_inserts edits removed depths (t + 1) start js)
  step k t start goes home js = filter-append (is_number k) (own_inserts t goes home) (all_inserts edits removed depths (t + 1) start js)

  -- the inserts at a token by its flags
  joined_step : (k t start : ℕ) (js : List Bool) → get_or removed t false ≡ true
      → filter (is_number k) (all_inserts edits removed depths t start (true ∷ js))
      ≡ own_there k t true start ++ filter (is_number k) (all_inserts edits removed depths (t + 1) start js)
  joined_step k t start js goes =
      ap (λ (b : Bool). filter (is_number k) (own_inserts t b (if b then start else t)
      ++ all_inserts edits removed depths (t + 1) start js)) goes
      ∙ step k t start true start js

  first_step : (k t start : ℕ) (js : List Bool) (goes : Bool) → get_or removed t false ≡ goes
      → filter (is_number k) (all_inserts edits removed depths t start (false ∷ js))
      ≡ own_there k t goes t ++ filter (is_number k) (all_inserts edits removed depths (t + 1) t js)
  first_step k t start js goes is =
      ap (λ (b : Bool). filter (is_number k) (own_inserts t b (if b then t else t) ++ all_inserts edits removed depths (t + 1) t js)) is
      ∙ elim goes as (λ b. filter (is_number k) (own_inserts t b (if b then t else t) ++ all_inserts edits removed depths (t + 1) t js)
      ≡ own_there k t b t ++ filter (is_number k) (all_inserts edits removed depths (t + 1) t js)) [
        | true ↦ step k t t true t js
        | false ↦ step k t t false t js
      ]

  -- at a place of another token
  elsewhere_before : (t home : ℕ) (goes : Bool) → (home ≡ n → ⊥) → own_there (2 * n) t goes home ≡ []
  elsewhere_before t home true differ = gone_before edits depths t home n
      ∙ ap (λ (b : Bool). if b then inserts_at edits depths (spot home false) t else []) (other home n differ)
  elsewhere_before t home false differ = kept_before edits depths t home n
      ∙ ap (λ (b : Bool). if b then inserts_from depths Before t (spot home false) 0 edits else []) (other home n differ)

  elsewhere_after : (t home : ℕ) (goes : Bool) → (home ≡ n → ⊥) → own_there (2 * n + 1) t goes home ≡ []
  elsewhere_after t home true differ = gone_after edits depths t home n
  elsewhere_after t home false differ = kept_after edits depths t home n
      ∙ ap (λ (b : Bool). if b then deepest_from (fold max 0 depths) (inserts_from depths After t (spot home true) 0 edits) else []) (other home n differ)

  -- behind the token, where its run isn't open
  off_before : (t start : ℕ) (js : List Bool) → js ≡ drop t joined → n < t → (start ≡ n → ⊥) → before t start js ≡ []
  off_before t start [] is less differ = refl
  off_before t start (true ∷ js) is less differ =
      joined_step (2 * n) t start js (runs.own t (head_at true js joined t is))
      ∙ (λ i. elsewhere_before t start true differ i ++ off_before (t + 1) start js (tail_at true js joined t is) (omega arith) differ i)
  off_before t start (false ∷ js) is less differ =
      first_step (2 * n) t start js (get_or removed t false) refl
      ∙ (λ i. elsewhere_before t t (get_or removed t false) (λ e. omega arith) i
      ++ off_before (t + 1) t js (tail_at false js joined t is) (omega arith) (λ e. omega arith) i)

  off_after : (t start : ℕ) (js : List Bool) → js ≡ drop t joined → n < t → after t start js ≡ []
  off_after t start [] is less = refl
  off_after t start (true ∷ js) is less =
      joined_step (2 * n + 1) t start js (runs.own t (head_at true js joined t is))
      ∙ (λ i. gone_after edits depths t start n i ++ off_after (t + 1) start js (tail_at true js joined t is) (omega arith) i)
  off_after t start (false ∷ js) is less =
      first_step (2 * n + 1) t start js (get_or removed t false) refl
      ∙ (λ i. elsewhere_after t t (get_or removed t false) (λ e. omega arith) i ++ off_after (t + 1) t js (tail_at false js joined t is) (omega arith) i)

  -- behind the token, where its run may be open
  run_before : (t : ℕ) (js : List Bool) → js ≡ drop t joined → n < t → before t n js ≡ run_rest edits depths (spot n false) t js
  run_before t [] is less = refl
  run_before t (true ∷ js) is less =
      joined_step (2 * n) t n js (runs.own t (head_at true js joined t is))
      ∙ (λ i. (gone_before edits depths t n n ∙ ap (λ (b : Bool). if b then inserts_at edits depths (spot n false) t else []) (own_test n)) i
      ++ run_before (t + 1) js (tail_at true js joined t is) (omega arith) i)
  run_before t (false ∷ js) is less =
      first_step (2 * n) t n js (get_or removed t false) refl
      ∙ (λ i. elsewhere_before t t (get_or removed t false) (λ e. omega arith) i
      ++ off_before (t + 1) t js (tail_at false js joined t is) (omega arith) (λ e. omega arith) i)

  -- the run of a token that stays has ended
  closed : (js : List Bool) → js ≡ drop (n + 1) joined → get_or removed n false ≡ false → run_rest edits depths (spot n false) (n + 1) js ≡ []
  closed [] is stays = refl
  closed (false ∷ js) is stays = refl
  closed (true ∷ js) is stays =
      let next : suc n ≡ n + 1 = omega arith in
      let goes : get_or removed n false ≡ true = runs.before n (ap (λ (k : ℕ). get_or joined k false) next ∙ head_at true js joined (n + 1) is) in
      absurd cc

  abbrev want_before : List Placed
  want_before = inserts_before edits depths (get_or removed n false) (get_or joined n false) n (drop (n + 1) joined)

  abbrev want_after : List Placed
  want_after = inserts_after edits depths (get_or removed n false) n

  -- a run starts before its other tokens
  abbrev Started : ℕ → ℕ → Type 0
  Started t start = 0 < t → start < t

  not_start : (t start : ℕ) → Started t start → get_or joined t false ≡ true → start < t
  not_start t start started is = started (runs.some t is)

  here_before : (start : ℕ) (j : Bool) (js : List Bool) → (j ∷ js) ≡ drop n joined → Started n start → before n start (j ∷ js) ≡ want_before
  here_before start true js is started =
      let flag = head_at true js joined n is in
      let goes = runs.own n flag in
      let less = not_start n start started flag in
      joined_step (2 * n) n start js goes
      ∙ (λ i. elsewhere_before n start true (λ e. omega arith) i
      ++ off_before (n + 1) start js (tail_at true js joined n is) (omega arith) (λ e. omega arith) i)
      ∙ sym (λ i. inserts_before edits depths (goes i) (flag i) n (drop (n + 1) joined))
  here_before start false js is started = by (get_or removed n false) refl
    where
      by : (goes : Bool) → get_or removed n false ≡ goes → before n start (false ∷ js) ≡ want_before
      by true goes =
          first_step (2 * n) n start js true goes
          ∙ (λ i. (gone_before edits depths n n n ∙ ap (λ (b : Bool). if b then inserts_at edits depths (spot n false) n else []) (own_test n)) i
          ++ run_before (n + 1) js (tail_at false js joined n is) (omega arith) i)
          ∙ sym (run_is edits depths (spot n false) n js)
          ∙ ap (run_inserts edits depths (spot n false) n) (tail_at false js joined n is)
          ∙ sym (λ i. inserts_before edits depths (goes i) (head_at false js joined n is i) n (drop (n + 1) joined))
      by false stays =
          first_step (2 * n) n start js false stays
          ∙ (λ i. (kept_before edits depths n n n ∙ ap (λ (b : Bool). if b then inserts_from depths Before n (spot n false) 0 edits else []) (own_test n)) i
          ++ (run_before (n + 1) js (tail_at false js joined n is) (omega arith) ∙ closed js (tail_at false js joined n is) stays) i)
          ∙ append-nil (inserts_from depths Before n (spot n false) 0 edits)
          ∙ sym (λ i. inserts_before edits depths (stays i) (head_at false js joined n is i) n (drop (n + 1) joined))

  here_after : (start : ℕ) (j : Bool) (js : List Bool) → (j ∷ js) ≡ drop n joined → after n start (j ∷ js) ≡ want_after
  here_after start true js is =
      let goes = runs.own n (head_at true js joined n is) in
      joined_step (2 * n + 1) n start js goes
      ∙ (λ i. gone_after edits depths n start n i ++ off_after (n + 1) start js (tail_at true js joined n is) (omega arith) i)
      ∙ sym (λ i. inserts_after edits depths (goes i) n)
  here_after start false js is = by (get_or removed n false) refl
    where
      by : (goes : Bool) → get_or removed n false ≡ goes → after n start (false ∷ js) ≡ want_after
      by true goes =
          first_step (2 * n + 1) n start js true goes
          ∙ (λ i. gone_after edits depths n n n i ++ off_after (n + 1) n js (tail_at false js joined n is) (omega arith) i)
          ∙ sym (λ i. inserts_after edits depths (goes i) n)
      by false stays =
          first_step (2 * n + 1) n start js false stays
          ∙ (λ i. (kept_after edits depths n n n
          ∙ ap (λ (b : Bool). if b then deepest_from (fold max 0 depths) (inserts_from depths After n (spot n true) 0 edits) else []) (own_test n)) i
          ++ off_after (n + 1) n js (tail_at false js joined n is) (omega arith) i)
          ∙ append-nil (deepest_from (fold max 0 depths) (inserts_from depths After n (spot n true) 0 edits))
          ∙ sym (λ i. inserts_after edits depths (stays i) n)

  none_left : (t : ℕ) → [] ≡ drop t joined → length joined ≤ t
  none_left t is = omega (arith, ap length is, length-drop t joined)

  step_before : (t start : ℕ) (j : Bool) (js : List Bool)
      → ((s : ℕ) → js ≡ drop (t + 1) joined → Started (t + 1) s → t + 1 ≤ n → n < length joined → before (t + 1) s js ≡ want_before)
      → (j ∷ js) ≡ drop t joined → Started t start → t ≤ n → n < length joined → before t start (j ∷ js) ≡ want_before
  step_before t start j js more is started up within = by (t == n) refl
    where
      less_by : (t == n) ≡ false → t < n
      less_by e = grind (arith, (λ (same : t ≡ n). let yes : (t == n) ≡ true = (Decides-eqb t n).1 same in let both : true ≡ false = sym yes ∙ e in both))

      skip : (x : Bool) → (x ∷ js) ≡ drop t joined → t < n → before t start (x ∷ js) ≡ want_before
      skip true is less =
          let flag = head_at true js joined t is in
          let first = not_start t start started flag in
          joined_step (2 * n) t start js (runs.own t flag)
          ∙ (λ i. elsewhere_before t start true (λ e. omega arith) i
          ++ more start (tail_at true js joined t is) (λ some. omega arith) (omega arith) within i)
      skip false is less =
          first_step (2 * n) t start js (get_or removed t false) refl
          ∙ (λ i. elsewhere_before t t (get_or removed t false) (λ e. omega arith) i
          ++ more t (tail_at false js joined t is) (λ some. omega arith) (omega arith) within i)

      by : (b : Bool) → (t == n) ≡ b → before t start (j ∷ js) ≡ want_before
      by true e =
          let same : t ≡ n = (Decides-eqb t n).0 e in
          subst (λ (x : ℕ). (j ∷ js) ≡ drop x joined → Started x start → before x start (j ∷ js) ≡ want_before) (sym same) (here_before start j js) is started
      by false e = skip j is (less_by e)

  to_before : (t start : ℕ) (js : List Bool) → js ≡ drop t joined → Started t start → t ≤ n → n < length joined → before t start js ≡ want_before
  to_before t start [] is started up within = let past : length joined ≤ t = none_left t is in absurd (omega arith)
  to_before t start (j ∷ js) is started up within = step_before t start j js (λ s e st u w. to_before (t + 1) s js e st u w) is started up within

  step_after : (t start : ℕ) (j : Bool) (js : List Bool)
      → ((s : ℕ) → js ≡ drop (t + 1) joined → t + 1 ≤ n → n < length joined → after (t + 1) s js ≡ want_after)
      → (j ∷ js) ≡ drop t joined → t ≤ n → n < length joined → after t start (j ∷ js) ≡ want_after
  step_after t start j js more is up within = by (t == n) refl
    where
      less_by : (t == n) ≡ false → t < n
      less_by e = grind (arith, (λ (same : t ≡ n). let yes : (t == n) ≡ true = (Decides-eqb t n).1 same in let both : true ≡ false = sym yes ∙ e in both))

      skip : (x : Bool) → (x ∷ js) ≡ drop t joined → t < n → after t start (x ∷ js) ≡ want_after
      skip true is less =
          joined_step (2 * n + 1) t start js (runs.own t (head_at true js joined t is))
          ∙ (λ i. gone_after edits depths t start n i ++ more start (tail_at true js joined t is) (omega arith) within i)
      skip false is less =
          first_step (2 * n + 1) t start js (get_or removed t false) refl
          ∙ (λ i. elsewhere_after t t (get_or removed t false) (λ e. omega arith) i
          ++ more t (tail_at false js joined t is) (omega arith) within i)

      by : (b : Bool) → (t == n) ≡ b → after t start (j ∷ js) ≡ want_after
      by true e =
          let same : t ≡ n = (Decides-eqb t n).0 e in
          subst (λ (x : ℕ). (j ∷ js) ≡ drop x joined → after x start (j ∷ js) ≡ want_after) (sym same) (here_after start j js) is
      by false e = skip j is (less_by e)

  to_after : (t start : ℕ) (js : List Bool) → js ≡ drop t joined → t ≤ n → n < length joined → after t start js ≡ want_after
  to_after t start [] is up within = let past : length joined ≤ t = none_left t is in absurd (omega arith)
  to_after t start (j ∷ js) is up within = step_after t start j js (λ s e u w. to_after (t + 1) s js e u w) is up within

  -- the inserts before the place of a token, and after it
  pub placed_before : n < length joined → before 0 0 joined ≡ want_before
  placed_before within = to_before 0 0 joined refl (λ some. absurd (omega arith)) (omega arith) within

  pub placed_after : n < length joined → after 0 0 joined ≡ want_after
  placed_after within = to_after 0 0 joined refl (omega arith) within

  -- a token behind all of these
  past_before : (t start : ℕ) (js : List Bool) → js ≡ drop t joined → t + length js ≤ n → start ≤ t → before t start js ≡ []
  past_before t start [] is past low = refl
  past_before t start (true ∷ js) is past low =
      joined_step (2 * n) t start js (runs.own t (head_at true js joined t is))
      ∙ (λ i. elsewhere_before t start true (λ e. omega arith) i
      ++ past_before (t + 1) start js (tail_at true js joined t is) (omega arith) (omega arith) i)
  past_before t start (false ∷ js) is past low =
      first_step (2 * n) t start js (get_or removed t false) refl
      ∙ (λ i. elsewhere_before t t (get_or removed t false) (λ e. omega arith) i
      ++ past_before (t + 1) t js (tail_at false js joined t is) (omega arith) (omega arith) i)

  past_after : (t start : ℕ) (js : List Bool) → js ≡ drop t joined → t + length js ≤ n → after t start js ≡ []
  past_after t start [] is past = refl
  past_after t start (true ∷ js) is past =
      joined_step (2 * n + 1) t start js (runs.own t (head_at true js joined t is))
      ∙ (λ i. gone_after edits depths t start n i ++ past_after (t + 1) start js (tail_at true js joined t is) (omega arith) i)
  past_after t start (false ∷ js) is past =
      first_step (2 * n + 1) t start js (get_or removed t false) refl
      ∙ (λ i. elsewhere_after t t (get_or removed t false) (λ e. omega arith) i ++ past_after (t + 1) t js (tail_at false js joined t is) (omega arith) i)

  pub none_before : length joined ≤ n → before 0 0 joined ≡ []
  none_before past = past_before 0 0 joined refl (omega arith) (omega arith)

  pub none_after : length joined ≤ n → after 0 0 joined ≡ []
  none_after past = past_after 0 0 joined refl (omega arith)

-- one token more
pub inserts_more : (edits : List Edit) (removed joined : List Bool) (depths : List ℕ) (token start next home : ℕ) (flag goes : Bool) (marks : List Mark)
    (old new all : List Placed) → token < length joined → flag ≡ get_or joined token false → next ≡ (if flag then start else token)
    → goes ≡ get_or removed token false → home ≡ (if goes then next else token) → marks ≡ filter (is_at token) (marks_from 0 edits)
    → new ≡ old ++ token_inserts depths goes home marks → old ++ all_inserts edits removed depths token start (drop token joined) ≡ all
    → new ++ all_inserts edits removed depths (token + 1) next (drop (token + 1) joined) ≡ all
inserts_more edits removed joined depths token start next home flag goes marks old new all less flag_is next_is goes_is home_is marks_are new_is before =
    let first : ℕ = if get_or joined token false then start else token in
    let gone = get_or removed token false in
    let own = token_inserts depths gone (if gone then first else token) (filter (is_at token) (marks_from 0 edits)) in
    let rest = all_inserts edits removed depths (token + 1) first (drop (token + 1) joined) in
    let next_there : next ≡ first = next_is ∙ ap (λ (b : Bool). if b then start else token) flag_is in
    let home_there : home ≡ (if gone then first else token) = home_is ∙ (λ i. if goes_is i then next_there i else token) in
    (λ i. new_is i ++ all_inserts edits removed depths (token + 1) (next_there i) (drop (token + 1) joined))
    ∙ (λ i. (old ++ token_inserts depths (goes_is i) (home_there i) (marks_are i)) ++ rest)
    ∙ append_assoc old own rest
    ∙ ap (λ (l : List Bool). old ++ all_inserts edits removed depths token start l) (sym (drop_more joined token false less))
    ∙ before
