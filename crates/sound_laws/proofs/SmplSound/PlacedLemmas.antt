-- The tokens of a rule's patterns: they are numbered from 0, those that are metavariables are declared, and there are no more
-- of them than the lines have.
use Rattle.std.proofs.Common.{◌≡◌, ℕ, suc, ◌+◌, ◌<◌, ◌≤◌, ◌==◌, Bool, true, false, ◌&&◌, not, refl, sym, ap, ◌∙◌, subst, arith}
use Rattle.std.proofs.Common.{true≢false, List, [], ◌∷◌, ◌++◌, length, Option, Some, None, if◌then◌else◌, nat_lt}
use Rattle.std.specs.List.{list_all}
use Rattle.std.specs.Str.{bytes_eq}
use Rattle.std.proofs.lemmas.List.{length-append}
use Rattle.std.proofs.lemmas.Bool.Decides.{nat_tests}
use Rattle.c_terms.specs.declared.token.Token.{Token}
use Rattle.c_terms.specs.declared.token.TokenKind.{TokenKind}
use Rattle.c_terms.specs.declared.token.TokenKind.TheVariants as token
use Rattle.c_terms.specs.declared.token.MetaKind.{MetaKind}
use Rattle.c_terms.specs.declared.token.MetaKind.TheVariants as meta
use Rattle.smpl_terms.specs.declared.var.Var.{Var as Variable}
use Rattle.smpl_patch.specs.declared.pattern.VarDecl.{VarDecl}
use Rattle.smpl_patch.specs.declared.pattern.VarKind.{VarKind}
use Rattle.smpl_patch.specs.declared.pattern.VarKind.TheVariants.{Meta, Position}
use Rattle.smpl_patch.specs.Sound.{same_kind, declares_name, is_declared}
use Rattle.smpl_lexer.specs.declared.token.PatchToken.{PatchToken}
use Rattle.smpl_lexer.specs.declared.text.BodyLine.{BodyLine}
use Rattle.smpl_lexer.specs.Tokens.{is_name}
use Rattle.smpl_meta.specs.declared.patterns.Placed.{Placed}
use Rattle.smpl_meta.specs.Known.{var_named}
use Rattle.smpl_meta.specs.Patterns.{meta_of, declared_meta, kind_by, made, with_position, at_position, put, put_tokens, put_line, put_lines, pattern_tokens}
use Rattle.sound_laws.specs.SmplFormed.Bodies.{tokens_of, CountFrom}
use Rattle.sound_laws.proofs.SmplSound.BoolLemmas.{both-true, front-true, back-true, or-left, or-right}
use Rattle.sound_laws.proofs.SmplSound.TextLemmas.{tokens_in}
use Rattle.sound_laws.proofs.SmplSound.LineLemmas.{is_meta, unmarked, AllLines, Unmarked}

-- ---- a metavariable that is made

same_meta : (k : MetaKind) → same_kind (Meta k) (Meta k) ≡ true
same_meta meta.Expr = refl
same_meta meta.ExprList = refl
same_meta meta.Ident = refl
same_meta meta.Constant = refl
same_meta meta.Typ = refl
same_meta meta.Params = refl
same_meta meta.Stmt = refl

kind_is : (q : VarKind) (k : MetaKind) → (elim q as (λ q. Option MetaKind) [ Meta m ↦ Some m | Position ↦ None ]) ≡ Some k → same_kind q (Meta k) ≡ true
kind_is (Meta m) k e = let same : m ≡ k = cc in ap (λ (x : MetaKind). same_kind (Meta x) (Meta k)) same ∙ same_meta k
kind_is Position k e = let no : ⊥ = cc in absurd no

named_by : (d : VarDecl) (ds : List VarDecl) (name : List ℕ) (k : MetaKind) (b : Bool) → bytes_eq d.var.name name ≡ b
    → meta_of (if b then Some d else var_named name ds) ≡ Some k
    → (meta_of (var_named name ds) ≡ Some k → declares_name ds name k ≡ true) → declares_name (d ∷ ds) name k ≡ true
named_by d ds name k true is e more =
    or-left (bytes_eq d.var.name name && same_kind d.kind (Meta k)) (declares_name ds name k)
    (both-true (bytes_eq d.var.name name) (same_kind d.kind (Meta k)) is (kind_is d.kind k e))
named_by d ds name k false is e more = or-right (bytes_eq d.var.name name && same_kind d.kind (Meta k)) (declares_name ds name k) (more e)

named_declared : (ds : List VarDecl) (name : List ℕ) (k : MetaKind) → meta_of (var_named name ds) ≡ Some k → declares_name ds name k ≡ true
named_declared [] name k e = let no : ⊥ = cc in absurd no
named_declared (d ∷ ds) name k e = named_by d ds name k (bytes_eq d.var.name name) refl e (named_declared ds name k)

raw_declared : (vars : List VarDecl) (k : TokenKind) (text : List ℕ) → not (is_meta k) ≡ true → is_declared vars k text ≡ true
raw_declared vars (token.Meta k) text h = absurd (true≢false (sym h))
raw_declared vars _ text h = refl

module _ (vars : List VarDecl) where
  pub meta_by : (t : PatchToken) (k : MetaKind) (b : Bool)
      → (if b then meta_of (var_named t.token.text vars) else None) ≡ Some k → declares_name vars t.token.text k ≡ true
  meta_by t k true e = named_declared vars t.token.text k e
  meta_by t k false e = let no : ⊥ = cc in absurd no

  made_by : (t : PatchToken) (o : Option MetaKind) → declared_meta vars t ≡ o → not (is_meta t.token.kind) ≡ true
      → is_declared vars (kind_by o t.token.kind) t.token.text ≡ true
  made_by t None e h = raw_declared vars t.token.kind t.token.text h
  made_by t (Some k) e h = meta_by t k (is_name t) e

  pub made_declared : (id : ℕ) (t : PatchToken) → not (is_meta t.token.kind) ≡ true → is_declared vars (made vars id t).kind (made vars id t).text ≡ true
  made_declared id t h = made_by t (declared_meta vars t) refl h

  -- ---- tokens one after another

  abbrev pub IsDeclared : Token → Bool
  IsDeclared t = is_declared vars t.kind t.text

  record Put (n : ℕ) (ps : List Placed) : Type 0 where
    count : CountFrom 0 ps
    known : list_all IsDeclared (tokens_of ps) ≡ true
    short : length ps ≤ n

  count_last : (n : ℕ) (ps : List Placed) (p : Placed) → CountFrom n ps → p.token.id ≡ n + length ps → CountFrom n (ps ++ p ∷ [])
  count_last n [] p c e = (omega (arith, e), tt)
  count_last n (q ∷ ps) p c e = (c.0, count_last (suc n) ps p c.1 (omega (arith, e)))

  known_last : (ps : List Placed) (p : Placed) → list_all IsDeclared (tokens_of ps) ≡ true → IsDeclared p.token ≡ true
      → list_all IsDeclared (tokens_of (ps ++ p ∷ [])) ≡ true
  known_last [] p k h = both-true (IsDeclared p.token) true h refl
  known_last (q ∷ ps) p k h =
      both-true (IsDeclared q.token) (list_all IsDeclared (tokens_of (ps ++ p ∷ []))) (front-true (IsDeclared q.token) (list_all IsDeclared (tokens_of ps)) k)
      (known_last ps p (back-true (IsDeclared q.token) (list_all IsDeclared (tokens_of ps)) k) h)

  put_more : (sign line n : ℕ) (out : List Placed) (t : PatchToken) → not (is_meta t.token.kind) ≡ true → Put n out → Put (suc n) (put vars sign line out t)
  put_more sign line n out t h p =
      let one : Placed = record { token = made vars (length out) t; at = t.at; sign = sign; line = line; positions = [] } in
      record {
        count = count_last 0 out one p.count (omega arith);
        known = known_last out one p.known (made_declared (length out) t h);
        short = omega (arith, p.short, length-append out (one ∷ []));
      }

  count_position : (v : Variable) (n : ℕ) (ps : List Placed) → CountFrom n ps → CountFrom n (with_position v ps)
  count_position v n [] c = tt
  count_position v n (p ∷ []) c = (c.0, tt)
  count_position v n (p ∷ q ∷ ps) c = (c.0, count_position v (suc n) (q ∷ ps) c.1)

  known_position : (v : Variable) (ps : List Placed) → tokens_of (with_position v ps) ≡ tokens_of ps
  known_position v [] = refl
  known_position v (p ∷ []) = refl
  known_position v (p ∷ q ∷ ps) = ap (λ (l : List Token). p.token ∷ l) (known_position v (q ∷ ps))

  long_position : (v : Variable) (ps : List Placed) → length (with_position v ps) ≡ length ps
  long_position v [] = refl
  long_position v (p ∷ []) = refl
  long_position v (p ∷ q ∷ ps) = ap suc (long_position v (q ∷ ps))

  put_position : (n : ℕ) (v : Variable) (out : List Placed) → Put n out → Put (suc (suc n)) (with_position v out)
  put_position n v out p = record {
    count = count_position v 0 out p.count;
    known =
        ap (list_all IsDeclared) (known_position v out) ∙ p.known;
    short = omega (arith, p.short, long_position v out);
  }

  more_put : (n m : ℕ) (ps : List Placed) → n ≤ m → Put n ps → Put m ps
  more_put n m ps h p = record { count = p.count; known = p.known; short = omega (arith, p.short, h) }

  as_put : (n m : ℕ) (ps : List Placed) → n ≡ m → Put n ps → Put m ps
  as_put n m ps e p = subst (λ (k : ℕ). Put k ps) e p

  tokens_put : (sign line n : ℕ) (out : List Placed) (ts : List PatchToken) → unmarked ts ≡ true → Put n out
      → Put (n + length ts) (put_tokens vars sign line out ts)
  tokens_put sign line n out [] h p = as_put n (n + 0) out (omega arith) p
  tokens_put sign line n out (t ∷ []) h p =
      as_put (suc n) (n + 1) _ (omega arith) (put_more sign line n out t (front-true (not (is_meta t.token.kind)) true h) p)
  tokens_put sign line n out (t ∷ u ∷ ts) h p =
      let ht = front-true (not (is_meta t.token.kind)) (unmarked (u ∷ ts)) h in
      let rest = back-true (not (is_meta t.token.kind)) (unmarked (u ∷ ts)) h in
      by (at_position vars out t u)
      (λ v. as_put (suc (suc n) + length ts) (n + suc (suc (length ts))) _ (omega arith)
      (tokens_put sign line (suc (suc n)) (with_position v out) ts (back-true (not (is_meta u.token.kind)) (unmarked ts) rest) (put_position n v out p)))
      (as_put (suc n + suc (length ts)) (n + suc (suc (length ts))) _ (omega arith)
      (tokens_put sign line (suc n) (put vars sign line out t) (u ∷ ts) rest (put_more sign line n out t ht p)))
    where
      by : (o : Option Variable) → ((v : Variable) → Put (n + suc (suc (length ts))) (put_tokens vars sign line (with_position v out) ts))
          → Put (n + suc (suc (length ts))) (put_tokens vars sign line (put vars sign line out t) (u ∷ ts))
          → Put (n + suc (suc (length ts))) (elim o as (λ q. List Placed) [
            | Some v ↦
                put_tokens vars sign line (with_position v out) ts
            | None ↦ put_tokens vars sign line (put vars sign line out t) (u ∷ ts)
          ])
      by None two one = one
      by (Some v) two one = two v

  line_put : (sign line n : ℕ) (out : List Placed) (ts : List PatchToken) (b : Bool) → unmarked ts ≡ true → Put n out
      → Put (n + length ts) (if b then out else put_tokens vars sign line out ts)
  line_put sign line n out ts true h p = more_put n (n + length ts) out (omega arith) p
  line_put sign line n out ts false h p = tokens_put sign line n out ts h p

  lines_put : (line n : ℕ) (out : List Placed) (ls : List BodyLine) → AllLines Unmarked ls → Put n out → Put (n + tokens_in ls) (put_lines vars line out ls)
  lines_put line n out [] h p = as_put n (n + 0) out (omega arith) p
  lines_put line n out (l ∷ ls) h p =
      as_put (n + length l.tokens + tokens_in ls) (n + tokens_in (l ∷ ls)) _ (omega arith)
      (lines_put (suc line) (n + length l.tokens) (put_line vars line out l) ls h.1 (line_put l.sign line n out l.tokens (l.sign == 43) h.0 p))

  pub record ArePlaced (ls : List BodyLine) (ps : List Placed) : Type 0 where
    pub count : CountFrom 0 ps
    pub known : list_all IsDeclared (tokens_of ps) ≡ true
    pub short : length ps ≤ tokens_in ls

  pub are_placed : (ls : List BodyLine) → AllLines Unmarked ls → ArePlaced ls (pattern_tokens vars ls)
  are_placed ls h = let p = lines_put 0 0 [] ls h (record { count = tt; known = refl; short = omega arith }) in
      record { count = p.count; known = p.known; short = omega (arith, p.short) }

  -- each has a number below so many, too
  numbered : (n m : ℕ) (ps : List Placed) → CountFrom n ps → n + length ps ≤ m → list_all IsDeclared (tokens_of ps) ≡ true
      → list_all (λ (t : Token). nat_lt t.id m && IsDeclared t) (tokens_of ps) ≡ true
  numbered n m [] c le k = refl
  numbered n m (p ∷ ps) c le k =
      let low : nat_lt p.token.id m ≡ true = lower p.token.id m (omega (arith, c.0, le)) in
      both-true (nat_lt p.token.id m && IsDeclared p.token) (list_all (λ (t : Token). nat_lt t.id m && IsDeclared t) (tokens_of ps))
      (both-true (nat_lt p.token.id m) (IsDeclared p.token) low (front-true (IsDeclared p.token) (list_all IsDeclared (tokens_of ps)) k))
      (numbered (suc n) m ps c.1 (omega (arith, le)) (back-true (IsDeclared p.token) (list_all IsDeclared (tokens_of ps)) k))
    where
      lower : (a b : ℕ) → a < b → nat_lt a b ≡ true
      lower a b h = grind (arith, nat_tests)

  pub all_numbered : (m : ℕ) (ls : List BodyLine) (ps : List Placed) → ArePlaced ls ps → length ps ≤ m
      → list_all (λ (t : Token). nat_lt t.id m && is_declared vars t.kind t.text) (tokens_of ps) ≡ true
  all_numbered m ls ps a le = numbered 0 m ps a.count (omega (arith, le)) a.known
