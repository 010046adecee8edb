-- What clauses say of each token, clause by clause.
use Rattle.std.proofs.Common.{◌≡◌, ℕ, zero, suc, ◌+◌, ◌<◌, ◌≢◌, Bool, true, false, ◌||◌, List, [], ◌∷◌, ◌++◌, length, refl, sym}
use Rattle.std.proofs.Common.{ap, ◌∙◌, arith, append_assoc, map}
use Rattle.std.specs.Prelude.{◌==◌, if◌then◌else◌}
use Rattle.std.proofs.lemmas.List.{append-nil}
use Rattle.smpl_meta.specs.declared.patterns.Placed.{Placed}
use Rattle.smpl_body.specs.declared.smpl_when.clauses.WhenFlags.{WhenFlags}
use Rattle.smpl_body.specs.declared.smpl_when.cutting.Code.{Code}
use Rattle.smpl_body.specs.SmplWhen.Cutting.{changed, say_any, say_strict, say_code, unsaid}
use Rattle.smpl_body.specs.SmplWhen.Grammar.{Parts, has, numbers_at, said_at, said_from, with_any, with_strict, with_code, nothing}

-- each item by its number
abbrev pub mapped : (ℕ → WhenFlags → WhenFlags) → ℕ → List WhenFlags → List WhenFlags
mapped f n [] = []
mapped f n (s ∷ ss) = f n s ∷ mapped f (suc n) ss

-- what parts add, with the pieces of code numbered from k
abbrev pub said_more : ℕ → Parts → ℕ → WhenFlags → WhenFlags
said_more k r n s = record { any = s.any || has n r.anys; strict = s.strict || has n r.stricts; codes = s.codes ++ numbers_at n k r.codes }

pub same_said : {a b : WhenFlags} → a.any ≡ b.any → a.strict ≡ b.strict → a.codes ≡ b.codes → a ≡ b
same_said {a} {b} e f g =
    ap (λ (x : Bool). let s : WhenFlags = record { any = x; strict = a.strict; codes = a.codes } in s) e
    ∙ ap (λ (x : Bool). let s : WhenFlags = record { any = b.any; strict = x; codes = a.codes } in s) f
    ∙ ap (λ (x : List ℕ). let s : WhenFlags = record { any = b.any; strict = b.strict; codes = x } in s) g

pub or-assoc : (a b c : Bool) → (a || b) || c ≡ a || (b || c)
or-assoc true b c = refl
or-assoc false b c = refl

pub or-true : (a : Bool) → a || true ≡ true
or-true true = refl
or-true false = refl

pub or-false : (a : Bool) → a || false ≡ a
or-false true = refl
or-false false = refl

eqb-same : (n : ℕ) → (n == n) ≡ true
eqb-same n = grind arith

eqb-other : (n m : ℕ) → n ≢ m → (n == m) ≡ false
eqb-other n m h = grind (arith, h)

pub mapped-alike : (f g : ℕ → WhenFlags → WhenFlags) → ((n : ℕ) (s : WhenFlags) → f n s ≡ g n s) → (n : ℕ) (ss : List WhenFlags) → mapped f n ss ≡ mapped g n ss
mapped-alike f g h n [] = refl
mapped-alike f g h n (s ∷ ss) = ap (λ (x : WhenFlags). x ∷ mapped f (suc n) ss) (h n s) ∙ ap (λ (l : List WhenFlags). g n s ∷ l) (mapped-alike f g h (suc n) ss)

pub mapped-twice : (f g : ℕ → WhenFlags → WhenFlags) (n : ℕ) (ss : List WhenFlags) → mapped f n (mapped g n ss) ≡ mapped (λ m s. f m (g m s)) n ss
mapped-twice f g n [] = refl
mapped-twice f g n (s ∷ ss) = ap (λ (l : List WhenFlags). f n (g n s) ∷ l) (mapped-twice f g (suc n) ss)

-- after the place of a change both say the same
mapped-past : (f g : ℕ → WhenFlags → WhenFlags) (host : ℕ) → ((n : ℕ) → n ≢ host → (s : WhenFlags) → f n s ≡ g n s)
    → (n : ℕ) (ss : List WhenFlags) → host < n → mapped f n ss ≡ mapped g n ss
mapped-past f g host h n [] lt = refl
mapped-past f g host h n (s ∷ ss) lt =
    ap (λ (x : WhenFlags). x ∷ mapped f (suc n) ss) (h n (omega arith) s)
    ∙ ap (λ (l : List WhenFlags). g n s ∷ l) (mapped-past f g host h (suc n) ss (omega arith))

pub mapped-changed : (f g : ℕ → WhenFlags → WhenFlags) (e : WhenFlags → WhenFlags) (host : ℕ) → ((s : WhenFlags) → f host (e s) ≡ g host s)
    → ((n : ℕ) → n ≢ host → (s : WhenFlags) → f n s ≡ g n s) → (n m : ℕ) (ss : List WhenFlags) → host ≡ n + m
    → mapped f n (changed e m ss) ≡ mapped g n ss
mapped-changed f g e host here other n m [] at = refl
mapped-changed f g e host here other n zero (s ∷ ss) at =
    let is : host ≡ n = omega arith in
    let front : f n (e s) ≡ g n s = rw (← is) (here s) in
    ap (λ (x : WhenFlags). x ∷ mapped f (suc n) ss) front ∙ ap (λ (l : List WhenFlags). g n s ∷ l) (mapped-past f g host other (suc n) ss (omega arith))
mapped-changed f g e host here other n (suc m) (s ∷ ss) at =
    ap (λ (x : WhenFlags). x ∷ mapped f (suc n) (changed e m ss)) (other n (omega arith) s)
    ∙ ap (λ (l : List WhenFlags). g n s ∷ l) (mapped-changed f g e host here other (suc n) m ss (omega arith))

-- ---- the three clauses

has-here : (n : ℕ) (ns : List ℕ) → has n (n ∷ ns) ≡ true
has-here n ns = ap (λ (x : Bool). x || has n ns) (eqb-same n)

has-other : (n m : ℕ) (ns : List ℕ) → n ≢ m → has n (m ∷ ns) ≡ has n ns
has-other n m ns h = ap (λ (x : Bool). x || has n ns) (eqb-other n m h)

pub said-any : (k host : ℕ) (w a : Placed) (r : Parts) (ss : List WhenFlags)
    → mapped (said_more k r) 0 (changed say_any host ss) ≡ mapped (said_more k (with_any host w a r)) 0 ss
said-any k host w a r ss =
    mapped-changed (said_more k r) (said_more k (with_any host w a r)) say_any host
    (λ s. same_said (sym (ap (λ (x : Bool). s.any || x) (has-here host r.anys) ∙ or-true s.any)) refl refl)
    (λ n h s. same_said (ap (λ (x : Bool). s.any || x) (sym (has-other n host r.anys h))) refl refl)
    0 host ss (omega arith)

pub said-strict : (k host : ℕ) (w a : Placed) (r : Parts) (ss : List WhenFlags)
    → mapped (said_more k r) 0 (changed say_strict host ss) ≡ mapped (said_more k (with_strict host w a r)) 0 ss
said-strict k host w a r ss =
    mapped-changed (said_more k r) (said_more k (with_strict host w a r)) say_strict host
    (λ s. same_said refl (sym (ap (λ (x : Bool). s.strict || x) (has-here host r.stricts) ∙ or-true s.strict)) refl)
    (λ n h s. same_said refl (ap (λ (x : Bool). s.strict || x) (sym (has-other n host r.stricts h))) refl)
    0 host ss (omega arith)

-- ---- parts one after another

has-append : (n : ℕ) (ms ns : List ℕ) → has n (ms ++ ns) ≡ has n ms || has n ns
has-append n [] ns = refl
has-append n (m ∷ ms) ns = ap (λ (x : Bool). (n == m) || x) (has-append n ms ns) ∙ sym (or-assoc (n == m) (has n ms) (has n ns))

numbers-front : (b : Bool) (k : ℕ) (xs ys : List ℕ) → (if b then k ∷ (xs ++ ys) else xs ++ ys) ≡ (if b then k ∷ xs else xs) ++ ys
numbers-front true k xs ys = refl
numbers-front false k xs ys = refl

pub numbers-append : (n k : ℕ) (cs ds : List Code) → numbers_at n k (cs ++ ds) ≡ numbers_at n k cs ++ numbers_at n (k + length cs) ds
numbers-append n k [] ds = ap (λ (j : ℕ). numbers_at n j ds) (omega arith)
numbers-append n k (c ∷ cs) ds =
    let moved : numbers_at n (suc k) (cs ++ ds) ≡ numbers_at n (suc k) cs ++ numbers_at n (k + suc (length cs)) ds =
    numbers-append n (suc k) cs ds ∙ ap (λ (j : ℕ). numbers_at n (suc k) cs ++ numbers_at n j ds) (omega arith)
    in
    ap (λ (l : List ℕ). if n == c.host then k ∷ l else l) moved
    ∙ numbers-front (n == c.host) k (numbers_at n (suc k) cs) (numbers_at n (k + suc (length cs)) ds)

-- the piece of code that begins has the number k; the pieces in it follow, and then those after it
pub said-code : (k : ℕ) (nested : Bool) (host : ℕ) (w d : Placed) (c r : Parts) (ss : List WhenFlags)
    → mapped (said_more (suc k + length c.codes) r) 0 (mapped (said_more (suc k) c) 0 (changed (say_code k) host ss))
    ≡ mapped (said_more k (with_code nested host w d c r)) 0 ss
said-code k nested host w d c r ss =
    let j = suc k + length c.codes in
    let f : ℕ → WhenFlags → WhenFlags = λ n s. said_more j r n (said_more (suc k) c n s) in
    let g : ℕ → WhenFlags → WhenFlags = said_more k (with_code nested host w d c r) in
    let rest : (n : ℕ) → numbers_at n (suc k) (c.codes ++ r.codes) ≡ numbers_at n (suc k) c.codes ++ numbers_at n j r.codes =
    λ n. numbers-append n (suc k) c.codes r.codes in
    let anys : (n : ℕ) (s : WhenFlags) → (s.any || has n c.anys) || has n r.anys ≡ s.any || has n (c.anys ++ r.anys) =
    λ n s. or-assoc s.any (has n c.anys) (has n r.anys) ∙ ap (λ (x : Bool). s.any || x) (sym (has-append n c.anys r.anys)) in
    let stricts : (n : ℕ) (s : WhenFlags) → (s.strict || has n c.stricts) || has n r.stricts ≡ s.strict || has n (c.stricts ++ r.stricts) =
    λ n s. or-assoc s.strict (has n c.stricts) (has n r.stricts) ∙ ap (λ (x : Bool). s.strict || x) (sym (has-append n c.stricts r.stricts)) in
    let parted : (n : ℕ) (front : List ℕ) → (front ++ numbers_at n (suc k) c.codes) ++ numbers_at n j r.codes ≡ front
    ++ numbers_at n (suc k) (c.codes ++ r.codes) =
    λ n front. append_assoc front (numbers_at n (suc k) c.codes) (numbers_at n j r.codes) ∙ ap (λ (l : List ℕ). front ++ l) (sym (rest n)) in
    mapped-twice (said_more j r) (said_more (suc k) c) 0 (changed (say_code k) host ss)
    ∙ mapped-changed f g (say_code k) host
    (λ s. same_said (anys host s) (stricts host s)
    (parted host (s.codes ++ k ∷ []) ∙ append_assoc s.codes (k ∷ []) (numbers_at host (suc k) (c.codes ++ r.codes))
    ∙ ap (λ (x : Bool). s.codes ++ (if x then k
    ∷ numbers_at host (suc k) (c.codes ++ r.codes) else numbers_at host (suc k) (c.codes ++ r.codes))) (sym (eqb-same host))))
    (λ n h s. same_said (anys n s) (stricts n s)
    (parted n s.codes
    ∙ ap (λ (x : Bool). s.codes ++ (if x then k
    ∷ numbers_at n (suc k) (c.codes ++ r.codes) else numbers_at n (suc k) (c.codes ++ r.codes))) (sym (eqb-other n host h))))
    0 host ss (omega arith)

pub said-nothing : (k n : ℕ) (ss : List WhenFlags) → mapped (said_more k nothing) n ss ≡ ss
said-nothing k n [] = refl
said-nothing k n (s ∷ ss) =
    ap (λ (x : WhenFlags). x ∷ mapped (said_more k nothing) (suc n) ss) (same_said (or-false s.any) (or-false s.strict) (append-nil s.codes))
    ∙ ap (λ (l : List WhenFlags). s ∷ l) (said-nothing k (suc n) ss)

-- of tokens about which nothing was said
pub said-begun : (r : Parts) (n : ℕ) (ps : List Placed) → mapped (said_more 0 r) n (map unsaid ps) ≡ said_from n ps r
said-begun r n [] = refl
said-begun r n (p ∷ ps) = ap (λ (l : List WhenFlags). said_at n r ∷ l) (said-begun r (suc n) ps)
