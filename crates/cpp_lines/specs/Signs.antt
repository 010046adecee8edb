-- The tokens that determine what is shown and where items end.
use Rattle.std.specs.Prelude.{ℕ, ◌==◌, List, [], ◌∷◌, if◌then◌else◌, codes}
use Rattle.std.specs.Str.{bytes_eq}
use Rattle.c_lexer.specs.Words.{is_in}
use Rattle.cpp_lines.specs.declared.sign.Bracket.TheVariants.{Paren, Square, Brace}
use Rattle.cpp_lines.specs.declared.sign.Sign.{Sign}
use Rattle.cpp_lines.specs.declared.sign.Sign.TheVariants.{Opening, Closing, Semicolon, Attribute, Marker, Other}

-- names that mark declarations, and don't affect their form
abbrev pub markers : List (List ℕ)
markers = codes "__init" ∷ codes "__exit" ∷ codes "__initdata" ∷ codes "__exitdata" ∷ codes "__user" ∷ codes "__iomem"
    ∷ codes "__kernel" ∷ codes "__force" ∷ codes "__percpu" ∷ codes "__rcu" ∷ codes "__must_check" ∷ codes "__maybe_unused"
    ∷ codes "__always_inline" ∷ codes "__read_mostly" ∷ codes "__packed" ∷ codes "__cold" ∷ codes "__weak" ∷ codes "noinline"
    ∷ codes "asmlinkage" ∷ codes "__inline" ∷ codes "__inline__" ∷ codes "__extension__" ∷ codes "__restrict" ∷ codes "__restrict__" ∷ []

abbrev pub sign_of_byte : ℕ → Sign
sign_of_byte b = if b == 40 then Opening Paren else
    (if b == 41 then Closing Paren else (if b == 91 then Opening Square else
    (if b == 93 then Closing Square else (if b == 123 then Opening Brace else (if b == 125 then Closing Brace else (if b == 59 then Semicolon else Other))))))

abbrev pub sign_of : List ℕ → Sign
sign_of [] = Other
sign_of (b ∷ []) = sign_of_byte b
sign_of (b ∷ c ∷ text) = if bytes_eq (b ∷ c ∷ text) (codes "__attribute__") then Attribute else (if is_in markers (b ∷ c ∷ text) then Marker else Other)
