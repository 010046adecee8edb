-- Blocks, and a file that is read up to some line.
use Rattle.std.proofs.Common.{◌≡◌, ℕ, zero, suc, ◌+◌, ◌-◌, ◌<◌, ◌≤◌, ◌&&◌, ◌||◌, Bool, true, false, true≢false, eqb, List, []}
use Rattle.std.proofs.Common.{◌∷◌, ◌++◌, length, get_or, take, drop, slice_range, IsSome, refl, sym, ap, ◌∙◌, subst}
use Rattle.std.proofs.Common.{append_assoc, arith}
use Rattle.std.proofs.Math.ListN.{drop_of_length-le}
use Rattle.std.proofs.lemmas.List.{append-nil, drop_more, take_more, get_or-drop, length-drop}
use Rattle.smpl_patch.specs.declared.rule.Iso.{Iso}
use Rattle.smpl_lexer.specs.declared.token.PatchToken.{PatchToken}
use Rattle.iso_file.specs.declared.fault.IsoFault.{IsoFault}
use Rattle.iso_file.specs.Lines.{put, groups, filled, AreLinesOf}
use Rattle.iso_file.specs.Blocks.{is_header, header_next, begin, parts, blocks}
use Rattle.iso_file.specs.Isos.{IsIso, IsBlockFault, AreIsos, IsFirstBlockFault, first_word}
use Rattle.iso_file.specs.Stepped.{join, AllFilled, Adds}
use Rattle.iso_file.proofs.Groups.{join_put, filled_join, filled_more}

-- ---- lines that have tokens

pub filled_all : {A : Type 0} (gs : List (List A)) → AllFilled (filled gs)
filled_all [] = tt
filled_all ([] ∷ gs) = filled_all gs
filled_all ((a ∷ g) ∷ gs) = filled_all gs

pub filled_drop : {A : Type 0} (n : ℕ) (ls : List (List A)) → AllFilled ls → AllFilled (drop n ls)
filled_drop zero ls h = h
filled_drop (suc n) [] h = tt
filled_drop (suc n) ([] ∷ ls) h = absurd h
filled_drop (suc n) ((a ∷ l) ∷ ls) h = filled_drop n ls h

pub filled_take : {A : Type 0} (n : ℕ) (ls : List (List A)) → AllFilled ls → AllFilled (take n ls)
filled_take zero ls h = tt
filled_take (suc n) [] h = tt
filled_take (suc n) ([] ∷ ls) h = absurd h
filled_take (suc n) ((a ∷ l) ∷ ls) h = filled_take n ls h

pub filled_range : {A : Type 0} (from to : ℕ) (ls : List (List A)) → AllFilled ls → AllFilled (slice_range ls from to)
filled_range from to ls h = filled_take (to - from) (drop from ls) (filled_drop from ls h)

pub lines_filled : (bytes : List ℕ) (lines : List (List PatchToken)) → AreLinesOf bytes lines → AllFilled lines
lines_filled bytes lines h = subst (λ (ls : List (List PatchToken)). AllFilled ls) (sym h.lines_are) (filled_all (groups 0 h.pieces))

pub word_some : (lines : List (List PatchToken)) → AllFilled lines → 0 < length lines → IsSome (first_word lines)
word_some [] h some = absurd (omega (arith, some))
word_some ([] ∷ ls) h some = absurd h
word_some ((t ∷ ts) ∷ ls) h some = refl

-- ---- isomorphisms of blocks

pub isos_append : (these bs : List (List (List PatchToken))) (xs ys : List Iso) → AreIsos these xs → AreIsos bs ys → AreIsos (these ++ bs) (xs ++ ys)
isos_append [] bs [] ys h k = k
isos_append [] bs (x ∷ xs) ys h k = absurd h
isos_append (a ∷ these) bs [] ys h k = absurd h
isos_append (a ∷ these) bs (x ∷ xs) ys h k = (h.0, isos_append these bs xs ys h.1 k)

-- a fault after blocks without faults
pub fault_in : (done more rest : List (List (List PatchToken))) (isos : List Iso) (f : IsoFault) → AreIsos done isos → IsFirstBlockFault more f
    → IsFirstBlockFault (done ++ (more ++ rest)) f
fault_in done more rest isos f fine w = record {
  before = done ++ w.before;
  block = w.block;
  after = w.after ++ rest;
  all_are = ap (λ (l : List (List (List PatchToken))). done ++ (l ++ rest)) w.all_are
      ∙ ap (λ (l : List (List (List PatchToken))). done ++ l) (append_assoc w.before (w.block ∷ w.after) rest)
      ∙ sym (append_assoc done w.before (w.block ∷ (w.after ++ rest)));
  isos = isos ++ w.isos;
  fine = isos_append done w.before isos w.isos fine w.fine;
  wrong = w.wrong;
}

-- ---- one block, unless it has no lines

pub adds_none : (isos : List Iso) (lines : List (List PatchToken)) → lines ≡ [] → Adds isos (filled (lines ∷ [])) isos
adds_none isos lines none = subst (λ (ls : List (List PatchToken)). Adds isos (filled (ls ∷ [])) isos) (sym none)
    (record { more = []; all_are = sym (append-nil isos); fine = tt })

one_block : (lines : List (List PatchToken)) → 0 < length lines → filled (lines ∷ []) ≡ lines ∷ []
one_block [] some = absurd (omega (arith, some))
one_block (l ∷ ls) some = refl

pub adds_one : (isos all : List Iso) (lines : List (List PatchToken)) (iso : Iso) → 0 < length lines → IsIso lines iso → all ≡ isos ++ iso ∷ []
    → Adds isos (filled (lines ∷ [])) all
adds_one isos all lines iso some is e = subst (λ (bs : List (List (List PatchToken))). Adds isos bs all) (sym (one_block lines some))
    (record { more = iso ∷ []; all_are = e; fine = (is, tt) })

pub fault_one : (lines : List (List PatchToken)) (f : IsoFault) → 0 < length lines → IsBlockFault lines f → IsFirstBlockFault (filled (lines ∷ [])) f
fault_one lines f some wrong = subst (λ (bs : List (List (List PatchToken))). IsFirstBlockFault bs f) (sym (one_block lines some))
    (record { before = []; block = lines; after = []; all_are = refl; isos = []; fine = tt; wrong = wrong })

-- ---- the file so far

join_one : (l : List PatchToken) (gs : List (List (List PatchToken))) → join (l ∷ []) gs ≡ put l gs
join_one l [] = refl
join_one l (g ∷ gs) = refl

-- a block begins here
begin_more : (cur : List (List PatchToken)) (l : List PatchToken) (gs : List (List (List PatchToken)))
    → filled (join cur (begin true (put l gs))) ≡ filled (cur ∷ []) ++ filled (join (l ∷ []) gs)
begin_more cur l gs =
    ap (λ (c : List (List PatchToken)). filled (c ∷ put l gs)) (append-nil cur) ∙ filled_more cur (put l gs)
    ∙ ap (λ (x : List (List (List PatchToken))). filled (cur ∷ []) ++ filled x) (sym (join_one l gs))

parts_at : (seen : Bool) (all : List (List PatchToken)) (i : ℕ) (d : List PatchToken) → i < length all
    → parts seen (drop i all) ≡ begin ((seen || is_header (get_or all i d)) && header_next (drop (i + 1) all))
    (put (get_or all i d) (parts (seen || is_header (get_or all i d)) (drop (i + 1) all)))
parts_at seen all i d within = ap (λ (ls : List (List PatchToken)). parts seen ls) (drop_more all i d within)

one_line : (all : List (List PatchToken)) (i : ℕ) (d : List PatchToken) → i < length all → slice_range all i (i + 1) ≡ get_or all i d ∷ []
one_line all i d within =
    let one : i + 1 - i ≡ 1 = omega arith in
    ap (λ (n : ℕ). take n (drop i all)) one ∙ ap (λ (ls : List (List PatchToken)). take 1 ls) (drop_more all i d within)

line_more : (all : List (List PatchToken)) (start i : ℕ) (d : List PatchToken) → start ≤ i → i < length all
    → slice_range all start (i + 1) ≡ slice_range all start i ++ get_or all i d ∷ []
line_more all start i d order within =
    let n : i + 1 - start ≡ i - start + 1 = omega arith in
    let short : i - start < length (drop start all) = omega (arith, length-drop start all) in
    let place : start + (i - start) ≡ i = omega arith in
    ap (λ (k : ℕ). take k (drop start all)) n ∙ take_more (drop start all) (i - start) d short
    ∙ ap (λ (l : List PatchToken). slice_range all start i ++ l ∷ []) (get_or-drop start all (i - start) d ∙ ap (λ (k : ℕ). get_or all k d) place)

pub record Led (all : List (List PatchToken)) (isos : List Iso) (start i : ℕ) (seen : Bool) : Type 0 where
  pub order : start ≤ i
  pub done : List (List (List PatchToken))
  pub fine : AreIsos done isos
  pub whole : done ++ filled (join (slice_range all start i) (parts seen (drop i all))) ≡ blocks all

pub led_first : (all : List (List PatchToken)) → Led all [] 0 0 false
led_first all = record { order = omega arith; done = []; fine = tt; whole = filled_join (parts false all) }

-- the block before this line
before_line : (all : List (List PatchToken)) (isos : List Iso) (start i : ℕ) (seen : Bool) (d : List PatchToken)
    (led : Led all isos start i seen) → i < length all
    → (seen || is_header (get_or all i d)) && header_next (drop (i + 1) all) ≡ true
    → led.done ++ (filled (slice_range all start i ∷ [])
    ++ filled (join (slice_range all i (i + 1)) (parts (seen || is_header (get_or all i d)) (drop (i + 1) all)))) ≡ blocks all
before_line all isos start i seen d led within begins =
    let l = get_or all i d in
    let s = seen || is_header l in
    let cur = slice_range all start i in
    let rest = parts s (drop (i + 1) all) in
    ap (λ (c : List (List PatchToken)). led.done ++ (filled (cur ∷ []) ++ filled (join c rest))) (one_line all i d within)
    ∙ ap (λ (x : List (List (List PatchToken))). led.done ++ x) (sym (begin_more cur l rest))
    ∙ ap (λ (b : Bool). led.done ++ filled (join cur (begin b (put l rest)))) (sym begins)
    ∙ ap (λ (x : List (List (List PatchToken))). led.done ++ filled (join cur x)) (sym (parts_at seen all i d within))
    ∙ led.whole

pub led_begun : (all : List (List PatchToken)) (isos more : List Iso) (start i : ℕ) (seen : Bool) (d : List PatchToken)
    → Led all isos start i seen → i < length all
    → (seen || is_header (get_or all i d)) && header_next (drop (i + 1) all) ≡ true → Adds isos (filled (slice_range all start i ∷ [])) more
    → Led all more i (i + 1) (seen || is_header (get_or all i d))
led_begun all isos more start i seen d led within begins adds = record {
  order = omega arith;
  done = led.done ++ filled (slice_range all start i ∷ []);
  fine = subst (λ (x : List Iso). AreIsos (led.done ++ filled (slice_range all start i ∷ [])) x) (sym adds.all_are)
      (isos_append led.done (filled (slice_range all start i ∷ [])) isos adds.more led.fine adds.fine);
  whole = append_assoc led.done (filled (slice_range all start i ∷ []))
      (filled (join (slice_range all i (i + 1)) (parts (seen || is_header (get_or all i d)) (drop (i + 1) all))))
      ∙ before_line all isos start i seen d led within begins;
}

pub led_on : (all : List (List PatchToken)) (isos : List Iso) (start i : ℕ) (seen : Bool) (d : List PatchToken) → Led all isos start i seen → i < length all
    → (seen || is_header (get_or all i d)) && header_next (drop (i + 1) all) ≡ false → Led all isos start (i + 1) (seen || is_header (get_or all i d))
led_on all isos start i seen d led within goes =
    let l = get_or all i d in
    let s = seen || is_header l in
    let cur = slice_range all start i in
    let rest = parts s (drop (i + 1) all) in
    let o = led.order in
    record {
      order = omega arith;
      done = led.done;
      fine = led.fine;
      whole = ap (λ (c : List (List PatchToken)). led.done ++ filled (join c rest)) (line_more all start i d o within)
          ∙ ap (λ (x : List (List (List PatchToken))). led.done ++ filled x) (join_put cur l rest)
          ∙ ap (λ (b : Bool). led.done ++ filled (join cur (begin b (put l rest)))) (sym goes)
          ∙ ap (λ (x : List (List (List PatchToken))). led.done ++ filled (join cur x)) (sym (parts_at seen all i d within))
          ∙ led.whole;
    }

pub fault_begun : (all : List (List PatchToken)) (isos : List Iso) (start i : ℕ) (seen : Bool) (d : List PatchToken)
    (f : IsoFault) → Led all isos start i seen → i < length all
    → (seen || is_header (get_or all i d)) && header_next (drop (i + 1) all) ≡ true → IsFirstBlockFault (filled (slice_range all start i ∷ [])) f
    → IsFirstBlockFault (blocks all) f
fault_begun all isos start i seen d f led within begins wrong =
    subst (λ (bs : List (List (List PatchToken))). IsFirstBlockFault bs f) (before_line all isos start i seen d led within begins)
    (fault_in led.done (filled (slice_range all start i ∷ []))
    (filled (join (slice_range all i (i + 1)) (parts (seen || is_header (get_or all i d)) (drop (i + 1) all)))) isos f led.fine wrong)

-- the last block
last_block : (all : List (List PatchToken)) (isos : List Iso) (start i : ℕ) (seen : Bool) (cur : List (List PatchToken))
    (led : Led all isos start i seen) → drop i all ≡ []
    → cur ≡ slice_range all start i → led.done ++ filled (cur ∷ []) ≡ blocks all
last_block all isos start i seen cur led none e =
    ap (λ (c : List (List PatchToken)). led.done ++ filled (c ∷ [])) (e ∙ sym (append-nil (slice_range all start i)))
    ∙ ap (λ (ls : List (List PatchToken)). led.done ++ filled (join (slice_range all start i) (parts seen ls))) (sym none) ∙ led.whole

pub led_last : (all : List (List PatchToken)) (isos more : List Iso) (start i : ℕ) (seen : Bool) (cur : List (List PatchToken))
    → Led all isos start i seen → drop i all ≡ []
    → cur ≡ slice_range all start i → Adds isos (filled (cur ∷ [])) more → AreIsos (blocks all) more
led_last all isos more start i seen cur led none e adds =
    subst (λ (x : List Iso). AreIsos (blocks all) x) (sym adds.all_are)
    (subst (λ (bs : List (List (List PatchToken))). AreIsos bs (isos ++ adds.more)) (last_block all isos start i seen cur led none e)
    (isos_append led.done (filled (cur ∷ [])) isos adds.more led.fine adds.fine))

pub fault_last : (all : List (List PatchToken)) (isos : List Iso) (start i : ℕ) (seen : Bool) (cur : List (List PatchToken))
    (f : IsoFault) → Led all isos start i seen → drop i all ≡ []
    → cur ≡ slice_range all start i → IsFirstBlockFault (filled (cur ∷ [])) f → IsFirstBlockFault (blocks all) f
fault_last all isos start i seen cur f led none e wrong =
    subst (λ (bs : List (List (List PatchToken))). IsFirstBlockFault bs f)
    (ap (λ (bs : List (List (List PatchToken))). led.done ++ bs) (append-nil (filled (cur ∷ []))) ∙ last_block all isos start i seen cur led none e)
    (fault_in led.done (filled (cur ∷ [])) [] isos f led.fine wrong)

pub no_lines : (lines : List (List PatchToken)) → length lines ≡ 0 → lines ≡ []
no_lines [] e = refl
no_lines (l ∷ ls) e = absurd (omega (arith, e))

-- ---- steps, with what the reader knows about them

here_is : (all : List (List PatchToken)) (i : ℕ) (seen here : Bool) (line item : List PatchToken) → line ≡ item → item ≡ get_or all i item
    → here ≡ seen || is_header line → here ≡ seen || is_header (get_or all i item)
here_is all i seen here line item l is h = h ∙ ap (λ (x : List PatchToken). seen || is_header x) (l ∙ is)

begins_is : (all : List (List PatchToken)) (i : ℕ) (seen here begins : Bool) (line item : List PatchToken) → line ≡ item → item ≡ get_or all i item
    → here ≡ seen || is_header line → begins ≡ here && header_next (drop (i + 1) all)
    → (seen || is_header (get_or all i item)) && header_next (drop (i + 1) all) ≡ begins
begins_is all i seen here begins line item l is h b =
    ap (λ (x : Bool). x && header_next (drop (i + 1) all)) (sym (here_is all i seen here line item l is h)) ∙ sym b

pub step_begun : (all : List (List PatchToken)) (isos more : List Iso) (start i : ℕ) (seen here begins : Bool)
    (line item : List PatchToken) → Led all isos start i seen
    → i < length all → line ≡ item → item ≡ get_or all i item → here ≡ seen || is_header line → begins ≡ here && header_next (drop (i + 1) all) → begins ≡ true
    → Adds isos (filled (slice_range all start i ∷ [])) more → Led all more i (i + 1) here
step_begun all isos more start i seen here begins line item led within l is h b sure adds =
    subst (λ (x : Bool). Led all more i (i + 1) x) (sym (here_is all i seen here line item l is h))
    (led_begun all isos more start i seen item led within (begins_is all i seen here begins line item l is h b ∙ sure) adds)

pub step_on : (all : List (List PatchToken)) (isos : List Iso) (start i : ℕ) (seen here begins : Bool) (line item : List PatchToken) → Led all isos start i seen
    → i < length all → line ≡ item → item ≡ get_or all i item → here ≡ seen || is_header line → begins ≡ here && header_next (drop (i + 1) all) → begins ≡ false
    → Led all isos start (i + 1) here
step_on all isos start i seen here begins line item led within l is h b not_here =
    subst (λ (x : Bool). Led all isos start (i + 1) x) (sym (here_is all i seen here line item l is h))
    (led_on all isos start i seen item led within (begins_is all i seen here begins line item l is h b ∙ not_here))

pub step_fault : (all : List (List PatchToken)) (isos : List Iso) (start i : ℕ) (seen here begins : Bool)
    (line item : List PatchToken) (f : IsoFault) → Led all isos start i seen
    → i < length all → line ≡ item → item ≡ get_or all i item → here ≡ seen || is_header line → begins ≡ here && header_next (drop (i + 1) all) → begins ≡ true
    → IsFirstBlockFault (filled (slice_range all start i ∷ [])) f → IsFirstBlockFault (blocks all) f
step_fault all isos start i seen here begins line item f led within l is h b sure wrong =
    fault_begun all isos start i seen item f led within (begins_is all i seen here begins line item l is h b ∙ sure) wrong

pub some_lines : (lines : List (List PatchToken)) → eqb (length lines) 0 ≡ false → 0 < length lines
some_lines [] e = absurd (true≢false e)
some_lines (l ∷ ls) e = omega arith

pub all_read : (all : List (List PatchToken)) (i : ℕ) → length all ≤ i → drop i all ≡ []
all_read all i h = drop_of_length-le all h

pub led_along : (all : List (List PatchToken)) (isos same : List Iso) (start other i : ℕ) (seen : Bool) → isos ≡ same
    → start ≡ other → Led all same other i seen
    → Led all isos start i seen
led_along all isos same start other i seen e s led =
    subst (λ (x : List Iso). Led all x start i seen) (sym e) (subst (λ (n : ℕ). Led all same n i seen) (sym s) led)

-- a range doesn't grow beyond the end
pub end_range : (all : List (List PatchToken)) (start i : ℕ) → length all ≤ i → slice_range all start (length all) ≡ slice_range all start i
end_range all start i h =
    take_all (length all - start) (drop start all) (omega (arith, length-drop start all))
    ∙ sym (take_all (i - start) (drop start all) (omega (arith, h, length-drop start all)))
  where
    take_all : (n : ℕ) (ls : List (List PatchToken)) → length ls ≤ n → take n ls ≡ ls
    take_all zero [] e = refl
    take_all zero (l ∷ ls) e = absurd (omega (arith, e))
    take_all (suc n) [] e = refl
    take_all (suc n) (l ∷ ls) e = ap (λ (x : List (List PatchToken)). l ∷ x) (take_all n ls (omega (arith, e)))
