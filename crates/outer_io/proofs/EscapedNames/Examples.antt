-- The definitions, evaluated.
use Rattle.std.proofs.Common.{◌≡◌, [], ◌∷◌, ◌++◌, refl, codes}
use Rattle.outer_io.specs.EscapedNames.Escapes.{escaped_name}

plain : escaped_name (codes "a b/k-1.c") ≡ codes "a b/k-1.c"
plain = refl

newline : escaped_name (codes "a\nb.c") ≡ codes "a\\nb.c"
newline = refl

tab_and_backslash : escaped_name (9 ∷ 92 ∷ []) ≡ codes "\\t\\\\"
tab_and_backslash = refl

escape : escaped_name (27 ∷ codes "[1m" ++ 127 ∷ 0 ∷ []) ≡ codes "\\x1b[1m\\x7f\\x00"
escape = refl

-- bytes above 127 belong to other characters, and are shown as they are
beyond : escaped_name (195 ∷ 188 ∷ []) ≡ 195 ∷ 188 ∷ []
beyond = refl
