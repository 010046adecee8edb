-- The names that denote types.
use Rattle.std.specs.Prelude.{ℕ, Bool, List, [], ◌∷◌, ◌++◌, if◌then◌else◌, codes}
use Rattle.std.specs.List.{list_any}
use Rattle.c_terms.specs.Same.{same_bytes}

-- whether the name is there
abbrev pub has_name : List (List ℕ) → List ℕ → Bool
has_name names name = list_any (same_bytes name) names

-- a new name is added at the end, and a known one changes nothing
abbrev pub with_name : List (List ℕ) → List ℕ → List (List ℕ)
with_name names name = if has_name names name then names else names ++ name ∷ []

-- the types of C's library and of kernels that are known without a declaration
abbrev pub listed_names : List (List ℕ)
listed_names =
    codes "size_t" ∷ codes "ssize_t" ∷ codes "ptrdiff_t" ∷ codes "off_t" ∷ codes "loff_t" ∷ codes "pid_t" ∷ codes "dev_t" ∷
    codes "time_t" ∷ codes "gfp_t" ∷ codes "bool" ∷ codes "FILE" ∷ codes "va_list" ∷ codes "intptr_t" ∷ codes "uintptr_t" ∷
    codes "int8_t" ∷ codes "int16_t" ∷ codes "int32_t" ∷ codes "int64_t" ∷ codes "uint8_t" ∷ codes "uint16_t" ∷
    codes "uint32_t" ∷ codes "uint64_t" ∷ codes "s8" ∷ codes "s16" ∷ codes "s32" ∷ codes "s64" ∷ codes "u8" ∷
    codes "u16" ∷ codes "u32" ∷ codes "u64" ∷ []
