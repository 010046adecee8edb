-- What single words are, by their bytes.
use Rattle.std.proofs.Common.{◌≡◌, ◌∙◌, refl, sym, ap, subst, arith, ℕ, ◌+◌, ◌<◌, ◌≤◌, ◌==◌, Bool, true, false, not, ◌||◌, cond}
use Rattle.std.proofs.Common.{List, [], ◌∷◌, Some, None}
use Rattle.std.proofs.Common.{zero, suc, le_of_suc-le-suc, take_all, get_or, length, take, drop, map, bytes_eq, fold}
use Rattle.std.specs.Borrow.{Bor}
use Rattle.std.specs.List.{list_any, position_or_len, prefix_len}
use Rattle.std.proofs.lemmas.Bool.{cond-false, cond-true}
use Rattle.c_lexer.specs.Words.{is_in}
use Rattle.run_words.specs.Parts.{End, Awaits, Has, Bare, Plain, Unknown, flag_options, is_option, name_part, named}
use Rattle.run_words.specs.Parts.{option_word, valued_options, value_part}
use Rattle.run_words.specs.Parts.{word_of}
use Rattle.run_words.specs.Forms.{State, after_one, without_value}

-- ---- lists of names and words, as the code has them

pub any_among : (names : List (Bor (List ℕ))) (name : List ℕ) → list_any (λ n. bytes_eq name n.now) names ≡ is_in (map (λ n. n.now) names) name
any_among [] name = refl
any_among (n ∷ names) name = ap (λ (b : Bool). bytes_eq name n.now || b) (any_among names name)

-- all names were looked at, and none is this one
pub none_among : (names : List (Bor (List ℕ))) (name : List ℕ) (n : ℕ) → length names ≤ n
    → list_any (λ o. bytes_eq name o.now) (take n names) ≡ false → false ≡ is_in (map (λ o. o.now) names) name
none_among names name n all none = sym none ∙ (ap (list_any (λ o. bytes_eq name o.now)) (take_all n names all) ∙ any_among names name)

-- one of the names is this one
pub one_among : (names : List (Bor (List ℕ))) (name : List ℕ) (i : ℕ) (d : Bor (List ℕ)) → i < length names → true ≡ bytes_eq name (get_or names i d).now
    → true ≡ is_in (map (λ o. o.now) names) name
one_among [] name i d low e = absurd (omega arith)
one_among (n ∷ ns) name zero d low e = elim (bytes_eq name n.now) as (λ b. true ≡ b → true ≡ (b || is_in (map (λ o. o.now) ns) name)) [
  | true ↦ λ h. refl
  | false ↦ λ h. let wrong : true ≡ false = h in absurd cc
] e
one_among (n ∷ ns) name (suc i) d low e = elim (bytes_eq name n.now) as (λ b. true ≡ (b || is_in (map (λ o. o.now) ns) name)) [
  | true ↦ refl
  | false ↦ one_among ns name i d (le_of_suc-le-suc low) e
]

pub fold_now : (words : List (Bor (List ℕ))) (s : State) → fold (λ t w. after_one t w.now) s words ≡ fold after_one s (map (λ w. w.now) words)
fold_now [] s = refl
fold_now (w ∷ words) s = fold_now words (after_one s w.now)

-- ---- options

pub short_word : (word : List ℕ) → length word < 2 → false ≡ is_option word
short_word [] less = refl
short_word (b ∷ []) less = refl
short_word (b ∷ c ∷ bytes) less = absurd (omega arith)

pub long_word : (word : List ℕ) → 2 ≤ length word → (get_or word 0 0 == 45) ≡ is_option word
long_word [] more = absurd (omega arith)
long_word (b ∷ []) more = absurd (omega arith)
long_word (b ∷ c ∷ bytes) more = refl

pub option_long : (word : List ℕ) → true ≡ is_option word → 2 ≤ length word
option_long [] e = let wrong : true ≡ false = e in absurd cc
option_long (b ∷ []) e = let wrong : true ≡ false = e in absurd cc
option_long (b ∷ c ∷ bytes) e = omega arith

-- ---- the first `=`

any_found : (p : ℕ → Bool) (xs : List ℕ) → position_or_len p xs < length xs → list_any p xs ≡ true
any_found p [] less = absurd (omega arith)
any_found p (x ∷ xs) less = elim (p x) as (λ b. cond (not b) (1 + position_or_len p xs) 0 < length (x ∷ xs) → (b || list_any p xs) ≡ true) [
  | true ↦ λ h. refl
  | false ↦ λ h. any_found p xs (omega (arith, h))
] less

none_found : (p : ℕ → Bool) (xs : List ℕ) → length xs ≤ position_or_len p xs → list_any p xs ≡ false
none_found p [] more = refl
none_found p (x ∷ xs) more = elim (p x) as (λ b. length (x ∷ xs) ≤ cond (not b) (1 + position_or_len p xs) 0 → (b || list_any p xs) ≡ false) [
  | true ↦ λ h. absurd (omega (arith, h))
  | false ↦ λ h. none_found p xs (omega (arith, h))
] more

-- an option by its name, and whether it has a value
named_valued : (name value : List ℕ) → cond (is_in valued_options name) (Bare name) Unknown ≡ without_value (named name (Some value))
named_valued name value = elim (is_in valued_options name) as (λ b. cond b (Bare name) Unknown ≡ without_value (cond b (Has name value) Unknown)) [
  | true ↦ refl
  | false ↦ refl
]

named_bare : (name : List ℕ) → cond (is_in valued_options name) (Awaits name) (cond (is_in flag_options name) (Bare name) Unknown)
    ≡ without_value (named name None)
named_bare name = elim (is_in valued_options name) as (λ b. cond b (Awaits name) (cond (is_in flag_options name) (Bare name) Unknown)
    ≡ without_value (cond b (Awaits name) (cond (is_in flag_options name) (Bare name) Unknown))) [
      | true ↦ refl
      | false ↦ elim (is_in flag_options name) as (λ b. cond b (Bare name) Unknown ≡ without_value (cond b (Bare name) Unknown)) [ true ↦ refl | false ↦ refl ]
    ]

abbrev is_sign : ℕ → Bool
is_sign b = b == 61

pub has_value : (text : List ℕ) (n : ℕ) → n ≡ prefix_len (λ b. not (b == 61)) text → n < length text
    → cond (is_in valued_options (take n text)) (Bare (take n text)) Unknown ≡ without_value (named (name_part text) (value_part text))
has_value text n is less =
    let found : list_any is_sign text ≡ true = any_found is_sign text (subst (λ (k : ℕ). k < length text) is less) in
    ap (λ (k : ℕ). cond (is_in valued_options (take k text)) (Bare (take k text)) Unknown) is
    ∙ (named_valued (name_part text) (drop (position_or_len is_sign text + 1) text)
    ∙ ap (λ (b : Bool). without_value (named (name_part text) (cond b (Some (drop (position_or_len is_sign text + 1) text)) None))) (sym found))

pub has_none : (text : List ℕ) (n : ℕ) → n ≡ prefix_len (λ b. not (b == 61)) text → length text ≤ n
    → cond (is_in valued_options (take n text)) (Awaits (take n text)) (cond (is_in flag_options (take n text)) (Bare (take n text)) Unknown)
    ≡ without_value (named (name_part text) (value_part text))
has_none text n is more =
    let none : list_any is_sign text ≡ false = none_found is_sign text (subst (λ (k : ℕ). length text ≤ k) is more) in
    ap (λ (k : ℕ). cond (is_in valued_options (take k text)) (Awaits (take k text)) (cond (is_in flag_options (take k text)) (Bare (take k text)) Unknown)) is
    ∙ (named_bare (name_part text)
    ∙ ap (λ (b : Bool). without_value (named (name_part text) (cond b (Some (drop (position_or_len is_sign text + 1) text)) None))) (sym none))

-- ---- an option by its second byte and what follows

pub one_sign : (word : List ℕ) → 2 ≤ length word → false ≡ (get_or word 1 0 == 45) → Unknown ≡ without_value (option_word word)
one_sign [] more other = absurd (omega arith)
one_sign (b ∷ []) more other = absurd (omega arith)
one_sign (b ∷ c ∷ []) more other = elim (c == 45) as (λ t. false ≡ t → Unknown ≡ without_value (cond t End Unknown)) [
  | true ↦ λ h. let wrong : false ≡ true = h in absurd cc
  | false ↦ λ h. refl
] other
one_sign (b ∷ c ∷ d ∷ bytes) more other = elim (c == 45) as (λ t. false ≡ t → Unknown ≡ without_value (cond t (named (name_part (d ∷ bytes))
    (value_part (d ∷ bytes))) Unknown)) [
      | true ↦ λ h. let wrong : false ≡ true = h in absurd cc
      | false ↦ λ h. refl
    ] other

pub two_signs : (word : List ℕ) → 2 ≤ length word → true ≡ (get_or word 1 0 == 45) → length (drop 2 word) ≡ 0 → End ≡ without_value (option_word word)
two_signs [] more same none = absurd (omega arith)
two_signs (b ∷ []) more same none = absurd (omega arith)
two_signs (b ∷ c ∷ []) more same none = elim (c == 45) as (λ t. true ≡ t → End ≡ without_value (cond t End Unknown)) [
  | true ↦ λ h. refl
  | false ↦ λ h. let wrong : true ≡ false = h in absurd cc
] same
two_signs (b ∷ c ∷ d ∷ bytes) more same none = let more : length (d ∷ bytes) ≡ 0 = none in absurd (omega arith)

pub long_option : (word : List ℕ) → 2 ≤ length word → true ≡ (get_or word 1 0 == 45) → (length (drop 2 word) ≡ 0 → ⊥)
    → without_value (named (name_part (drop 2 word)) (value_part (drop 2 word))) ≡ without_value (option_word word)
long_option [] more same some = absurd (omega arith)
long_option (b ∷ []) more same some = absurd (omega arith)
long_option (b ∷ c ∷ []) more same some = absurd (some refl)
long_option (b ∷ c ∷ d ∷ bytes) more same some = elim (c == 45) as (λ t. true ≡ t → without_value (named (name_part (d ∷ bytes)) (value_part (d ∷ bytes)))
    ≡ without_value (cond t (named (name_part (d ∷ bytes)) (value_part (d ∷ bytes))) Unknown)) [
      | true ↦ λ h. refl
      | false ↦ λ h. let wrong : true ≡ false = h in absurd cc
    ] same

pub plain_word : (word : List ℕ) → false ≡ is_option word → Plain ≡ without_value (word_of word)
plain_word word e = sym (ap without_value (cond-false (is_option word) (option_word word) Plain (sym e)))

pub option_is : (word : List ℕ) → true ≡ is_option word → without_value (option_word word) ≡ without_value (word_of word)
option_is word e = sym (ap without_value (cond-true (is_option word) (option_word word) Plain (sym e)))
