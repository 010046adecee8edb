-- The tokens of a body, and the clauses among them: `when any`, `when strict` and `when != code`. A clause directly follows
-- dots, the end of a nest, or another clause. Code extends to the end of its line, and may have clauses of its own, whose
-- code then extends to the end of that line too.
use Rattle.std.specs.Prelude.{ℕ, zero, suc, ◌==◌, ◌||◌, not, Bool, true, false, if◌then◌else◌, List, [], ◌∷◌, ◌++◌, map, length, Option, Some, None, codes}
use Rattle.c_terms.specs.declared.token.Token.{Token}
use Rattle.smpl_meta.specs.declared.patterns.Placed.{Placed}
use Rattle.smpl_meta.specs.Patterns.{is_word, is_differs, is_host_of}
use Rattle.smpl_body.specs.declared.smpl_when.clauses.WhenFlags.{WhenFlags}
use Rattle.smpl_body.specs.declared.smpl_when.cutting.Code.{Code}
use Rattle.smpl_body.specs.declared.smpl_when.cutting.Where.{Where}
use Rattle.smpl_body.specs.declared.smpl_when.cutting.Where.TheVariants.{Free, After, When}
use Rattle.smpl_body.specs.declared.smpl_when.cutting.OpenCode.{OpenCode}
use Rattle.smpl_body.specs.declared.smpl_when.cutting.Cutting.{Cutting}

-- ---- what the clauses of each token say

-- no clause
abbrev pub unsaid : Placed → WhenFlags
unsaid p = record { any = false; strict = false; codes = [] }

abbrev pub say_any : WhenFlags → WhenFlags
say_any s = record { any = true; strict = s.strict; codes = s.codes }

abbrev pub say_strict : WhenFlags → WhenFlags
say_strict s = record { any = s.any; strict = true; codes = s.codes }

-- the code with this number is added
abbrev pub say_code : ℕ → WhenFlags → WhenFlags
say_code k s = record { any = s.any; strict = s.strict; codes = s.codes ++ k ∷ [] }

-- the list with another item at a place
abbrev pub changed : (WhenFlags → WhenFlags) → ℕ → List WhenFlags → List WhenFlags
changed f n [] = []
changed f zero (s ∷ ss) = f s ∷ ss
changed f (suc n) (s ∷ ss) = s ∷ changed f n ss

-- ---- where a token goes

abbrev pub begun : List Placed → Cutting
begun ps = record { main = []; codes = []; inner = None; said = map unsaid ps; words = []; broken = false; next = Free }

abbrev pub next_of : Placed → Where
next_of p = if is_host_of p.token.kind p.token.text then After p.token.id else Free

abbrev pub with_token : OpenCode → Token → OpenCode
with_token o t = record { line = o.line; back = o.back; code = record { host = o.code.host; nested = o.code.nested; tokens = o.code.tokens ++ t ∷ [] } }

-- after the tokens of the code that is open, or else after those of the body
abbrev pub put_by : Option OpenCode → Cutting → Placed → Cutting
put_by None c p = record { main = c.main ++ p.token ∷ []; codes = c.codes; inner = None; said = c.said; words = c.words; broken = c.broken; next = next_of p }
put_by (Some o) c p = record {
  main = c.main;
  codes = c.codes;
  inner = Some (with_token o p.token);
  said = c.said;
  words = c.words;
  broken = c.broken;
  next = next_of p;
}

abbrev pub put : Cutting → Placed → Cutting
put c p = put_by c.inner c p

-- a word of a clause
abbrev pub put_word : Cutting → Placed → Where → Cutting
put_word c p next = record {
  main = c.main;
  codes = c.codes;
  inner = c.inner;
  said = c.said;
  words = c.words ++ p.token.id ∷ [];
  broken = c.broken;
  next = next;
}

abbrev pub with_said : Cutting → List WhenFlags → Cutting
with_said c said = record { main = c.main; codes = c.codes; inner = c.inner; said = said; words = c.words; broken = c.broken; next = c.next }

abbrev pub with_broken : Cutting → Cutting
with_broken c = record { main = c.main; codes = c.codes; inner = c.inner; said = c.said; words = c.words; broken = true; next = c.next }

-- the code that is open, which ends here
abbrev pub open_codes : Option OpenCode → List Code
open_codes None = []
open_codes (Some o) = o.code ∷ []

-- the line to whose end code extends, and the token of the body whose clauses that line follows
abbrev pub opened : Option OpenCode → (host line : ℕ) → OpenCode
opened None host line = record { line = line; back = host; code = record { host = host; nested = false; tokens = [] } }
opened (Some o) host line = record { line = o.line; back = o.back; code = record { host = host; nested = true; tokens = [] } }

-- after `when !=`: the code that is open ends, since the new code takes the rest of the line
abbrev pub with_code : Cutting → (host line : ℕ) → Cutting
with_code c host line =
    let all = c.codes ++ open_codes c.inner in
    record {
      main = c.main;
      codes = all;
      inner = Some (opened c.inner host line);
      said =
          changed (say_code (length all)) host c.said;
      words = c.words;
      broken = c.broken;
      next = Free;
    }

-- directly after dots, a nest or a clause
abbrev pub after : Cutting → ℕ → Placed → Cutting
after c host p = if is_word (codes "when") p then put_word c p (When host p.line) else put c p

-- directly after `when`
abbrev pub behind_when : Cutting → (host line : ℕ) → Placed → Cutting
behind_when c host line p =
    if not (p.line == line) then after (with_broken c) host p
    else (if is_word (codes "any") p then put_word (with_said c (changed say_any host c.said)) p (After host)
    else (if is_word (codes "strict") p then put_word (with_said c (changed say_strict host c.said)) p (After host)
    else (if is_differs p then with_code (put_word c p Free) host line else after (with_broken c) host p)))

abbrev pub step_by : Where → Cutting → Placed → Cutting
step_by Free c p = put c p
step_by (After host) c p = after c host p
step_by (When host line) c p = behind_when c host line p

-- ---- the end of a line

abbrev pub is_when : Where → Bool
is_when (When host line) = true
is_when _ = false

-- code that is open ends, and so does a `when` in it that nothing follows
abbrev pub ended_by : Option OpenCode → Cutting → Cutting
ended_by None c = c
ended_by (Some o) c = record {
  main = c.main;
  codes = c.codes ++ o.code ∷ [];
  inner = None;
  said = c.said;
  words = c.words;
  broken = c.broken || is_when c.next;
  next = After o.back;
}

-- no code is open, or the open code continues in this line
abbrev pub goes_on : Option OpenCode → ℕ → Bool
goes_on None line = true
goes_on (Some o) line = o.line == line

-- a token in another line ends the code that is open
abbrev pub turned : Cutting → ℕ → Cutting
turned c line = if goes_on c.inner line then c else ended_by c.inner c

abbrev pub step : Cutting → Placed → Cutting
step c p = let d = turned c p.line in step_by d.next d p

abbrev pub steps : Cutting → List Placed → Cutting
steps c [] = c
steps c (p ∷ ps) = steps (step c p) ps

-- the tokens end, and so does a `when` that nothing follows
abbrev pub finished : Cutting → Cutting
finished c = let d = ended_by c.inner c in if is_when d.next then with_broken d else d

-- the body, split
abbrev pub cut : List Placed → Cutting
cut ps = finished (steps (begun ps) ps)
