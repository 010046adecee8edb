-- Headers and `virtual` lines: where a token leads, and where the line can't continue.
use Rattle.std.specs.Prelude.{ℕ, ◌+◌, ◌-◌, ◌==◌, ◌≤◌, ◌||◌, ◌&&◌, not, Bool, true, false, if◌then◌else◌, List, [], ◌∷◌, ◌++◌, Option, Some, None, codes}
use Rattle.smpl_patch.specs.declared.fault.PatchFault.{PatchFault}
use Rattle.smpl_patch.specs.declared.fault.PatchFault.TheVariants.{BadHeader, ScriptRule}
use Rattle.smpl_lexer.specs.declared.places.VirtualPlace.{VirtualPlace}
use Rattle.smpl_lexer.specs.declared.places.VirtualPlace.TheVariants as v
use Rattle.smpl_lexer.specs.declared.places.HeaderPlace.{HeaderPlace}
use Rattle.smpl_lexer.specs.declared.places.HeaderPlace.TheVariants as h
use Rattle.smpl_lexer.specs.declared.token.PatchToken.{PatchToken}
use Rattle.smpl_lexer.specs.Tokens.{is_name, is_word, is_sign, is_at}

-- ---- before the first rule: nothing, or `virtual a, b` with or without `;`

abbrev pub virtual_step : VirtualPlace → PatchToken → Option VirtualPlace
virtual_step v.Start t = if is_word (codes "virtual") t then Some v.Open else None
virtual_step v.Open t = if is_name t then Some v.Named else None
virtual_step v.Named t =
    if is_sign (codes ",") t then Some v.Open
    else (if is_sign (codes ";") t then Some v.Closed else None)
virtual_step v.Closed t = None

abbrev pub virtual_ends : VirtualPlace → Bool
virtual_ends v.Open = false
virtual_ends _ = true

-- ---- headers: `@`, a name or none, `depends on` with names, `!`, `(`, `)`, `||` and `&&`, `exists` or `forall`, `@`

abbrev pub is_rule_name : PatchToken → Bool
is_rule_name t =
    is_name t
    && not (is_word (codes "depends") t || is_word (codes "on") t || is_word (codes "exists") t
    || is_word (codes "forall") t || is_word (codes "ever") t || is_word (codes "never") t)

abbrev pub is_mode : PatchToken → Bool
is_mode t = is_word (codes "exists") t || is_word (codes "forall") t

abbrev pub after_mode : PatchToken → Option HeaderPlace
after_mode t = if is_at t then Some h.Closed else None

abbrev pub after_depends : PatchToken → Option HeaderPlace
after_depends t = if is_mode t then Some h.Moded else after_mode t

abbrev pub after_name : PatchToken → Option HeaderPlace
after_name t = if is_word (codes "depends") t then Some h.Depends else after_depends t

-- how many names, `!` and `(` there may be after `depends on`
abbrev pub most_counted : ℕ
most_counted = 200

-- a name, `!` or `(`, of which this many may still come
abbrev pub counted : ℕ → HeaderPlace → Option HeaderPlace
counted left next = if left == 0 then None else Some next

abbrev pub less : ℕ → ℕ
less left = if left == 0 then 0 else left - 1

abbrev pub rule_name : ℕ → ℕ → PatchToken → Option HeaderPlace
rule_name level left t = if is_rule_name t then counted left (h.Operated level (less left)) else None

abbrev pub operand : ℕ → ℕ → PatchToken → Option HeaderPlace
operand level left t =
    if is_sign (codes "!") t then counted left (h.Operand level (less left))
    else (if is_sign (codes "(") t then counted left (h.Operand (level + 1) (less left))
    else (if is_word (codes "ever") t || is_word (codes "never") t then Some (h.Word level left)
    else rule_name level left t))

abbrev pub operated : ℕ → ℕ → PatchToken → Option HeaderPlace
operated level left t =
    if is_sign (codes "||") t || is_sign (codes "&&") t then Some (h.Operand level left)
    else (if level == 0 then after_depends t
    else (if is_sign (codes ")") t then Some (h.Operated (level - 1) left) else None))

abbrev pub header_step : HeaderPlace → PatchToken → Option HeaderPlace
header_step h.Start t = if is_at t then Some h.Opened else None
header_step h.Opened t = if is_rule_name t then Some h.Named else after_name t
header_step h.Named t = after_name t
header_step h.Depends t = if is_word (codes "on") t then Some (h.Operand 0 most_counted) else None
header_step (h.Operand level left) t = operand level left t
header_step (h.Word level left) t = rule_name level left t
header_step (h.Operated level left) t = operated level left t
header_step h.Moded t = after_mode t
header_step h.Closed t = None

abbrev pub header_ends : HeaderPlace → Bool
header_ends h.Closed = true
header_ends _ = false

-- the numbers of a place stay small
abbrev pub IsWithin : HeaderPlace → Type 0
IsWithin (h.Operand level left) = level + left ≤ most_counted
IsWithin (h.Word level left) = level + left ≤ most_counted
IsWithin (h.Operated level left) = level + left ≤ most_counted
IsWithin h.Start = Unit {0}
IsWithin h.Opened = Unit {0}
IsWithin h.Named = Unit {0}
IsWithin h.Depends = Unit {0}
IsWithin h.Moded = Unit {0}
IsWithin h.Closed = Unit {0}

-- ---- where a line can't continue: at a token that leads nowhere, or at its end, if it may not end there

abbrev pub stop_at : Bool → ℕ → Option ℕ
stop_at true at = None
stop_at false at = Some at

abbrev pub stop : {P : Type 0} → (P → PatchToken → Option P) → (P → Bool) → P → List PatchToken
    → (end : ℕ) → Option ℕ
stop step ends p [] end = stop_at (ends p) end
stop step ends p (t ∷ ts) end = elim (step p t) as (λ o. Option ℕ) [
  | None ↦ Some t.at
  | Some q ↦ stop step ends q ts end
]

abbrev pub virtual_stop : List PatchToken → (end : ℕ) → Option ℕ
virtual_stop = stop virtual_step virtual_ends v.Start

abbrev pub header_stop : List PatchToken → (end : ℕ) → Option ℕ
header_stop = stop header_step header_ends h.Start

abbrev pub stop_faults : Option ℕ → List PatchFault
stop_faults None = []
stop_faults (Some at) = BadHeader at ∷ []

abbrev pub virtual_faults : List PatchToken → ℕ → List PatchFault
virtual_faults ts end = stop_faults (virtual_stop ts end)

-- rules of script languages
abbrev pub is_script : PatchToken → Bool
is_script t = is_word (codes "script") t || is_word (codes "initialize") t || is_word (codes "finalize") t

abbrev pub has_script : List PatchToken → Bool
has_script (a ∷ t ∷ ts) = is_script t
has_script _ = false

abbrev pub script_faults : Bool → ℕ → List PatchFault
script_faults true start = ScriptRule start ∷ []
script_faults false start = []

abbrev pub header_faults : ℕ → List PatchToken → ℕ → List PatchFault
header_faults start ts end = script_faults (has_script ts) start ++ stop_faults (header_stop ts end)

-- the line `@@`
abbrev pub is_second : List PatchToken → Bool
is_second (a ∷ b ∷ []) = is_at a && is_at b
is_second _ = false

abbrev pub second_faults : Bool → ℕ → List PatchFault
second_faults true start = []
second_faults false start = BadHeader start ∷ []

-- the names of a `virtual` line
abbrev pub texts_of_names : List PatchToken → List (List ℕ)
texts_of_names [] = []
texts_of_names (t ∷ ts) = if is_name t then t.token.text ∷ texts_of_names ts else texts_of_names ts

abbrev pub virtual_names : List PatchToken → List (List ℕ)
virtual_names [] = []
virtual_names (t ∷ ts) = texts_of_names ts
