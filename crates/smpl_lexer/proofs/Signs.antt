-- The bytes with which a sign of patches begins.
use Rattle.std.proofs.Common.{◌≡◌, ℕ, ◌==◌, ◌||◌, Bool, true, false, List, ◌∷◌, refl}
use Rattle.smpl_lexer.specs.Pieces.{sign_length}

neither : (a b c : Bool) → ((a || b) || c) ≡ false → (a ≡ false) × ((b ≡ false) × (c ≡ false))
neither false false false e = (refl, (refl, refl))
neither false false true e = absurd (cc)
neither false true c e = absurd (cc)
neither true b c e = absurd (cc)

-- a sign begins with `.`, `<` or a backslash
pub no_sign : (byte : ℕ) (bytes : List ℕ) → ((byte == 46 || byte == 60) || byte == 92) ≡ false
    → sign_length (byte ∷ bytes) ≡ 0
no_sign byte bytes e =
    let n = neither (byte == 46) (byte == 60) (byte == 92) e in
    rw (n.0, n.1.0, n.1.1) refl
