-- Escapes are read back, and have no control bytes.
use Rattle.std.proofs.Common.{◌≡◌, ℕ, zero, suc, ◌+◌, ◌*◌, ◌/◌, ◌%◌, ◌<◌, ◌==◌, ◌||◌, Bool, true, false, if◌then◌else◌, List}
use Rattle.std.proofs.Common.{[], ◌∷◌, ◌++◌, codes, refl, sym, ap, ◌∙◌, arith}
use Rattle.std.specs.Prelude.{⊤, nat_lt}
use Rattle.std.specs.List.{list_any}
use Rattle.std.proofs.lemmas.Bool.{eqb-true, ltb-true}
use Rattle.outer_io.specs.EscapedNames.Escapes.{hex_digit, is_control, escaped_byte, escaped_name}
use Rattle.outer_io.specs.EscapedNames.Reads.{hex_value, Reading, read_on, read_name}

-- ---- digits

digit-back : (d : ℕ) → d < 16 → hex_value (hex_digit d) ≡ d
digit-back zero h = refl
digit-back (suc zero) h = refl
digit-back (suc (suc zero)) h = refl
digit-back (suc (suc (suc zero))) h = refl
digit-back (suc (suc (suc (suc zero)))) h = refl
digit-back (suc (suc (suc (suc (suc zero))))) h = refl
digit-back (suc (suc (suc (suc (suc (suc zero)))))) h = refl
digit-back (suc (suc (suc (suc (suc (suc (suc zero))))))) h = refl
digit-back (suc (suc (suc (suc (suc (suc (suc (suc zero)))))))) h = refl
digit-back (suc (suc (suc (suc (suc (suc (suc (suc (suc zero))))))))) h = refl
digit-back (suc (suc (suc (suc (suc (suc (suc (suc (suc (suc zero)))))))))) h = refl
digit-back (suc (suc (suc (suc (suc (suc (suc (suc (suc (suc (suc zero))))))))))) h = refl
digit-back (suc (suc (suc (suc (suc (suc (suc (suc (suc (suc (suc (suc zero)))))))))))) h = refl
digit-back (suc (suc (suc (suc (suc (suc (suc (suc (suc (suc (suc (suc (suc zero))))))))))))) h = refl
digit-back (suc (suc (suc (suc (suc (suc (suc (suc (suc (suc (suc (suc (suc (suc zero)))))))))))))) h = refl
digit-back (suc (suc (suc (suc (suc (suc (suc (suc (suc (suc (suc (suc (suc (suc (suc zero))))))))))))))) h = refl
digit-back (suc (suc (suc (suc (suc (suc (suc (suc (suc (suc (suc (suc (suc (suc (suc (suc d)))))))))))))))) h = absurd (omega arith)

digit-shown : (d : ℕ) → d < 16 → is_control (hex_digit d) ≡ false
digit-shown zero h = refl
digit-shown (suc zero) h = refl
digit-shown (suc (suc zero)) h = refl
digit-shown (suc (suc (suc zero))) h = refl
digit-shown (suc (suc (suc (suc zero)))) h = refl
digit-shown (suc (suc (suc (suc (suc zero))))) h = refl
digit-shown (suc (suc (suc (suc (suc (suc zero)))))) h = refl
digit-shown (suc (suc (suc (suc (suc (suc (suc zero))))))) h = refl
digit-shown (suc (suc (suc (suc (suc (suc (suc (suc zero)))))))) h = refl
digit-shown (suc (suc (suc (suc (suc (suc (suc (suc (suc zero))))))))) h = refl
digit-shown (suc (suc (suc (suc (suc (suc (suc (suc (suc (suc zero)))))))))) h = refl
digit-shown (suc (suc (suc (suc (suc (suc (suc (suc (suc (suc (suc zero))))))))))) h = refl
digit-shown (suc (suc (suc (suc (suc (suc (suc (suc (suc (suc (suc (suc zero)))))))))))) h = refl
digit-shown (suc (suc (suc (suc (suc (suc (suc (suc (suc (suc (suc (suc (suc zero))))))))))))) h = refl
digit-shown (suc (suc (suc (suc (suc (suc (suc (suc (suc (suc (suc (suc (suc (suc zero)))))))))))))) h = refl
digit-shown (suc (suc (suc (suc (suc (suc (suc (suc (suc (suc (suc (suc (suc (suc (suc zero))))))))))))))) h = refl
digit-shown (suc (suc (suc (suc (suc (suc (suc (suc (suc (suc (suc (suc (suc (suc (suc (suc d)))))))))))))))) h = absurd (omega arith)

below : (x : ℕ) → is_control x ≡ true → x < 128
below x h = by (nat_lt x 32) refl (x == 127) refl h
  where
    by : (s : Bool) → nat_lt x 32 ≡ s → (t : Bool) → (x == 127) ≡ t → (s || t) ≡ true → x < 128
    by true e t f k = omega (arith, ltb-true x 32 e)
    by false e true f k = omega (arith, eqb-true x 127 f)
    by false e false f k = absurd cc

high-digit : (x : ℕ) → is_control x ≡ true → x / 16 < 16
high-digit x h = omega (arith, below x h)

low-digit : (x : ℕ) → x % 16 < 16
low-digit x = omega arith

whole : (x : ℕ) → x / 16 * 16 + x % 16 ≡ x
whole x = omega arith

-- ---- what is shown is read back

one-back : (x : ℕ) (rest : List ℕ) → read_on Reading.Outside (escaped_byte x ++ rest) ≡ x ∷ read_on Reading.Outside rest
one-back x rest = by (x == 92) refl (x == 10) refl (x == 9) refl (is_control x) refl
  where
    by : (s : Bool) → (x == 92) ≡ s → (n : Bool) → (x == 10) ≡ n → (t : Bool) → (x == 9) ≡ t → (c : Bool) → is_control x ≡ c
        → read_on Reading.Outside ((if s then codes "\\\\" else if n then codes "\\n" else if t then codes "\\t"
        else if c then codes "\\x" ++ hex_digit (x / 16) ∷ hex_digit (x % 16) ∷ [] else x ∷ []) ++ rest) ≡ x ∷ read_on Reading.Outside rest
    by true es n en t et c ec = ap (λ (y : ℕ). y ∷ read_on Reading.Outside rest) (sym (eqb-true x 92 es))
    by false es true en t et c ec = ap (λ (y : ℕ). y ∷ read_on Reading.Outside rest) (sym (eqb-true x 10 en))
    by false es false en true et c ec = ap (λ (y : ℕ). y ∷ read_on Reading.Outside rest) (sym (eqb-true x 9 et))
    by false es false en false et true ec =
        let high = digit-back (x / 16) (high-digit x ec) in
        let low = digit-back (x % 16) (low-digit x) in
        (λ i. (high i * 16 + low i) ∷ read_on Reading.Outside rest) ∙ ap (λ (y : ℕ). y ∷ read_on Reading.Outside rest) (whole x)
    by false es false en false et false ec = ap (λ (b : Bool). if b then read_on Reading.Begun rest else x ∷ read_on Reading.Outside rest) es

pub read-back : (name : List ℕ) → read_name (escaped_name name) ≡ name
read-back [] = refl
read-back (x ∷ xs) = one-back x (escaped_name xs) ∙ ap (λ (l : List ℕ). x ∷ l) (read-back xs)

-- ---- no control byte is shown

abbrev Shown : List ℕ → Type 0
Shown [] = ⊤
Shown (b ∷ bs) = (is_control b ≡ false) × Shown bs

both : (xs ys : List ℕ) → Shown xs → Shown ys → Shown (xs ++ ys)
both [] ys a b = b
both (x ∷ xs) ys a b = (a.0, both xs ys a.1 b)

one-shown : (x : ℕ) → Shown (escaped_byte x)
one-shown x = by (x == 92) (x == 10) (x == 9) (is_control x) refl
  where
    by : (s n t c : Bool) → is_control x ≡ c → Shown (if s then codes "\\\\" else if n then codes "\\n" else if t then codes "\\t"
        else if c then codes "\\x" ++ hex_digit (x / 16) ∷ hex_digit (x % 16) ∷ [] else x ∷ [])
    by true n t c ec = (refl, (refl, tt))
    by false true t c ec = (refl, (refl, tt))
    by false false true c ec = (refl, (refl, tt))
    by false false false true ec = (refl, (refl, (digit-shown (x / 16) (high-digit x ec), (digit-shown (x % 16) (low-digit x), tt))))
    by false false false false ec = (ec, tt)

all-shown : (name : List ℕ) → Shown (escaped_name name)
all-shown [] = tt
all-shown (x ∷ xs) = both (escaped_byte x) (escaped_name xs) (one-shown x) (all-shown xs)

none : (bytes : List ℕ) → Shown bytes → list_any is_control bytes ≡ false
none [] a = refl
none (b ∷ bs) a = λ i. a.0 i || none bs a.1 i

pub none-shown : (name : List ℕ) → list_any is_control (escaped_name name) ≡ false
none-shown name = none (escaped_name name) (all-shown name)
