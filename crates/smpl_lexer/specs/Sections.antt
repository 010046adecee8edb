-- What each line is: the lines before the first rule are `virtual` lines; a rule is a header, declarations, `@@`, and a body.
use Rattle.std.specs.Prelude.{ℕ, ◌==◌, ◌||◌, ◌&&◌, not, Bool, true, false, if◌then◌else◌, List, [], ◌∷◌}
use Rattle.smpl_lexer.specs.declared.section.Section.{Section}
use Rattle.smpl_lexer.specs.declared.section.Section.TheVariants as section
use Rattle.smpl_lexer.specs.declared.section.Role.{Role}
use Rattle.smpl_lexer.specs.declared.section.Role.TheVariants as role

-- the role of a line in a section, by whether the line begins with `@`
abbrev pub role_in : Section → Bool → Role
role_in section.Before false = role.Virtual
role_in section.Before true = role.Header
role_in section.Declarations false = role.Declaration
role_in section.Declarations true = role.Second
role_in section.Body false = role.Body
role_in section.Body true = role.Header

abbrev pub section_after : Role → Section
section_after role.Virtual = section.Before
section_after role.Header = section.Declarations
section_after role.Declaration = section.Declarations
section_after role.Second = section.Body
section_after role.Body = section.Body

abbrev pub minus : ℕ
minus = 45

abbrev pub plus : ℕ
plus = 43

abbrev pub star : ℕ
star = 42

abbrev pub space : ℕ
space = 32

abbrev pub is_sign_byte : ℕ → Bool
is_sign_byte b = b == minus || b == plus || b == star

-- the sign of a body line, or a space if it has none
abbrev pub sign_of : List ℕ → ℕ
sign_of [] = space
sign_of (b ∷ bs) = if is_sign_byte b then b else space

-- the line begins with `++`
abbrev pub is_many : List ℕ → Bool
is_many [] = false
is_many (a ∷ []) = false
is_many (a ∷ b ∷ bs) = a == plus && b == plus

-- the number of bytes in the line's sign
abbrev pub skipped : Role → List ℕ → ℕ
skipped role.Body bytes = if sign_of bytes == space then 0 else (if is_many bytes then 2 else 1)
skipped _ bytes = 0

-- the line is plus code
abbrev pub is_plus : Role → List ℕ → Bool
is_plus role.Body bytes = sign_of bytes == plus
is_plus _ bytes = false

-- the line is of a pattern, which may have the signs of patches
abbrev pub has_signs : Role → List ℕ → Bool
has_signs role.Body bytes = not (sign_of bytes == plus)
has_signs _ bytes = false
