-- The lists of a rule are short.
use Rattle.std.proofs.Common.{◌≡◌, ℕ, suc, ◌+◌, ◌<◌, ◌≤◌, ◌==◌, Bool, true, false, ◌&&◌, nat_lt, refl, sym, ap, ◌∙◌, subst}
use Rattle.std.proofs.Common.{arith, List, [], ◌∷◌, ◌++◌, map, length, Option, Some, None, if◌then◌else◌}
use Rattle.std.specs.List.{list_all}
use Rattle.std.proofs.lemmas.List.{length-append, length-map}
use Rattle.std.proofs.lemmas.Bool.Decides.{nat_tests}
use Rattle.c_terms.specs.Trees.{join, width}
use Rattle.smpl_terms.specs.declared.var.Var.{Var as Variable}
use Rattle.smpl_patch.specs.declared.pattern.VarDecl.{VarDecl}
use Rattle.smpl_patch.specs.declared.pattern.PatToken.{PatToken}
use Rattle.smpl_patch.specs.declared.pattern.Pattern.{Pattern}
use Rattle.smpl_patch.specs.declared.pattern.PlusLine.{PlusLine}
use Rattle.smpl_patch.specs.declared.pattern.PlusBlock.{PlusBlock}
use Rattle.smpl_patch.specs.declared.elem.Elem.{Elem}
use Rattle.smpl_patch.specs.declared.rule.Rule.{Rule}
use Rattle.smpl_patch.specs.declared.rule.Patch.{Patch}
use Rattle.smpl_patch.specs.Bodies.{body as plain}
use Rattle.smpl_patch.specs.Shapes.{patterns_body, lengths_body}
use Rattle.smpl_patch.specs.Sound.{lengths_block, lengths}
use Rattle.smpl_lexer.specs.declared.token.PatchToken.{PatchToken}
use Rattle.smpl_lexer.specs.declared.text.BodyLine.{BodyLine}
use Rattle.smpl_lexer.specs.declared.text.RuleText.{RuleText}
use Rattle.smpl_lexer.specs.Texts.{most_bytes}
use Rattle.smpl_meta.specs.declared.head.RuleHead.{RuleHead}
use Rattle.smpl_meta.specs.declared.patterns.Placed.{Placed}
use Rattle.smpl_meta.specs.Patterns.{made, with_position, at_position, put, put_tokens, put_line, put_lines}
use Rattle.smpl_plus.specs.Blocks.{Block, ArePlusLines}
use Rattle.smpl_body.specs.Bodies.{IsBody}
use Rattle.smpl_file.specs.Exports.{is_exported, exports_of}
use Rattle.smpl_file.specs.Patches.{IsRule, IsSpelled}
use Rattle.sound_laws.specs.SmplSound.Parts.{EachPasses}
use Rattle.sound_laws.proofs.SmplSound.BoolLemmas.{both-true, front-true, back-true}
use Rattle.sound_laws.proofs.SmplSound.TextLemmas.{tokens_in}
use Rattle.sound_laws.proofs.SmplSound.LineLemmas.{AllLines}
use Rattle.sound_laws.proofs.SmplSound.CountLemmas.{Counted, AllFew, tokens_count}
use Rattle.sound_laws.proofs.SmplSound.PatchLemmas.{KeepPositions}
use Rattle.sound_laws.proofs.SmplSound.PlusLemmas.{at_block, at_token, WhenPlus, anchored_pass}
use Rattle.sound_laws.proofs.SmplSound.RuleLemmas.{OfText, HasVars, SmallLaw, ps, placed, short, as-long, patch-has, as-passes}

abbrev is_small : ℕ → Bool
is_small n = nat_lt n 4294967296

small : (n : ℕ) → n ≤ 1048576 → is_small n ≡ true
small n h = let s : n < 4294967296 = omega arith in grind (arith, nat_tests)

-- ---- lists of lengths

all_append : (xs ys : List ℕ) → list_all is_small xs ≡ true → list_all is_small ys ≡ true → list_all is_small (xs ++ ys) ≡ true
all_append [] ys h g = g
all_append (x ∷ xs) ys h g = both-true (is_small x) (list_all is_small (xs ++ ys))
    (front-true (is_small x) (list_all is_small xs) h) (all_append xs ys (back-true (is_small x) (list_all is_small xs) h) g)

all_join : {A : Type 0} (f : A → List ℕ) (xs : List A) → list_all (λ a. list_all is_small (f a)) xs ≡ true → list_all is_small (join (map f xs)) ≡ true
all_join f [] h = refl
all_join f (x ∷ xs) h =
    all_append (f x) (join (map f xs)) (front-true (list_all is_small (f x)) (list_all (λ a. list_all is_small (f a)) xs) h)
    (all_join f xs (back-true (list_all is_small (f x)) (list_all (λ a. list_all is_small (f a)) xs) h))

-- ---- declarations

exports_short : (vs : List Variable) (ds : List VarDecl) → length (exports_of vs ds) ≤ length ds
exports_short vs [] = omega arith
exports_short vs (d ∷ ds) = by (is_exported vs d) (exports_short vs ds)
  where
    by : (b : Bool) → length (exports_of vs ds) ≤ length ds → length (if b then d.var ∷ exports_of vs ds else exports_of vs ds) ≤ suc (length ds)
    by true h = omega (arith, h)
    by false h = omega (arith, h)

vars_small : (n : ℕ) (ds : List VarDecl) → n ≤ 1048576 → AllFew n ds
    → list_all (λ (d : VarDecl). list_all is_small (length d.not_names ∷ length d.not_places ∷ [])) ds ≡ true
vars_small n [] h a = refl
vars_small n (d ∷ ds) h a =
    both-true (list_all is_small (length d.not_names ∷ length d.not_places ∷ []))
    (list_all (λ (e : VarDecl). list_all is_small (length e.not_names ∷ length e.not_places ∷ [])) ds)
    (both-true (is_small (length d.not_names)) (is_small (length d.not_places) && true) (small (length d.not_names) (omega (arith, a.0.0, h)))
    (both-true (is_small (length d.not_places)) true (small (length d.not_places) (omega (arith, a.0.1, h))) refl))
    (vars_small n ds h a.1)

-- ---- positions

abbrev AllAt : ℕ → List Placed → Type 0
AllAt n [] = Unit {0}
AllAt n (p ∷ ps) = (length p.positions ≤ n) × AllAt n ps

more_at : (n m : ℕ) (ps : List Placed) → n ≤ m → AllAt n ps → AllAt m ps
more_at n m [] h a = tt
more_at n m (p ∷ ps) h a = (omega (arith, a.0, h), more_at n m ps h a.1)

position_at : (v : Variable) (n : ℕ) (ps : List Placed) → AllAt n ps → AllAt (suc n) (with_position v ps)
position_at v n [] a = tt
position_at v n (p ∷ []) a = (omega (arith, a.0, length-append p.positions (v ∷ [])), tt)
position_at v n (p ∷ q ∷ ps) a = (omega (arith, a.0), position_at v n (q ∷ ps) a.1)

last_at : (n : ℕ) (ps : List Placed) (p : Placed) → AllAt n ps → length p.positions ≤ n → AllAt n (ps ++ p ∷ [])
last_at n [] p a h = (h, tt)
last_at n (q ∷ ps) p a h = (a.0, last_at n ps p a.1 h)

module _ (vars : List VarDecl) where
  put_at : (sign line n : ℕ) (out : List Placed) (t : PatchToken) → AllAt n out → AllAt n (put vars sign line out t)
  put_at sign line n out t a = last_at n out (record { token = made vars (length out) t; at = t.at; sign = sign; line = line; positions = [] }) a (omega arith)

  as_at : (n m : ℕ) (ps : List Placed) → n ≡ m → AllAt n ps → AllAt m ps
  as_at n m ps e a = subst (λ (k : ℕ). AllAt k ps) e a

  tokens_at : (sign line n : ℕ) (out : List Placed) (ts : List PatchToken) → AllAt n out → AllAt (n + length ts) (put_tokens vars sign line out ts)
  tokens_at sign line n out [] a = as_at n (n + 0) out (omega arith) a
  tokens_at sign line n out (t ∷ []) a = more_at n (n + 1) (put vars sign line out t) (omega arith) (put_at sign line n out t a)
  tokens_at sign line n out (t ∷ u ∷ ts) a =
      by (at_position vars out t u)
      (λ v. more_at (suc n + length ts) (n + suc (suc (length ts))) (put_tokens vars sign line (with_position v out) ts)
      (omega arith) (tokens_at sign line (suc n) (with_position v out) ts (position_at v n out a)))
      (more_at (n + suc (length ts)) (n + suc (suc (length ts))) (put_tokens vars sign line (put vars sign line out t) (u ∷ ts))
      (omega arith) (tokens_at sign line n (put vars sign line out t) (u ∷ ts) (put_at sign line n out t a)))
    where
      by : (o : Option Variable) → ((v : Variable) → AllAt (n + suc (suc (length ts))) (put_tokens vars sign line (with_position v out) ts))
          → AllAt (n + suc (suc (length ts))) (put_tokens vars sign line (put vars sign line out t) (u ∷ ts))
          → AllAt (n + suc (suc (length ts))) (elim o as (λ q. List Placed) [
            | Some v ↦
                put_tokens vars sign line (with_position v out) ts
            | None ↦ put_tokens vars sign line (put vars sign line out t) (u ∷ ts)
          ])
      by None two one = one
      by (Some v) two one = two v

  line_at : (sign line n : ℕ) (out : List Placed) (ts : List PatchToken) (b : Bool) → AllAt n out
      → AllAt (n + length ts) (if b then out else put_tokens vars sign line out ts)
  line_at sign line n out ts true a = more_at n (n + length ts) out (omega arith) a
  line_at sign line n out ts false a = tokens_at sign line n out ts a

  lines_at : (line n : ℕ) (out : List Placed) (ls : List BodyLine) → AllAt n out → AllAt (n + tokens_in ls) (put_lines vars line out ls)
  lines_at line n out [] a = as_at n (n + 0) out (omega arith) a
  lines_at line n out (l ∷ ls) a =
      as_at (n + length l.tokens + tokens_in ls) (n + tokens_in (l ∷ ls)) (put_lines vars line out (l ∷ ls)) (omega arith)
      (lines_at (suc line) (n + length l.tokens) (put_line vars line out l) ls (line_at l.sign line n out l.tokens (l.sign == 43) a))

positions_small : (n : ℕ) (ts : List PatToken) (qs : List Placed) → n ≤ 1048576
    → map (λ (t : PatToken). t.positions) ts ≡ map (λ (p : Placed). p.positions) qs → AllAt n qs
    → list_all (λ (t : PatToken). is_small (length t.positions)) ts ≡ true
positions_small n [] qs h e a = refl
positions_small n (t ∷ ts) [] h e a = let no : ⊥ = cc in absurd no
positions_small n (t ∷ ts) (q ∷ qs) h e a =
    let here : t.positions ≡ q.positions = cc in
    let there : map (λ (u : PatToken). u.positions) ts ≡ map (λ (p : Placed). p.positions) qs = cc in
    both-true (is_small (length t.positions)) (list_all (λ (u : PatToken). is_small (length u.positions)) ts)
    (small (length t.positions) (omega (arith, ap length here, a.0, h))) (positions_small n ts qs h there a.1)

-- ---- plus code

abbrev Narrow : BodyLine → Type 0
Narrow l = length l.tokens ≤ 1048576

all_narrow : (n : ℕ) (ls : List BodyLine) → tokens_in ls ≤ n → n ≤ 1048576 → AllLines (WhenPlus Narrow) ls
all_narrow n [] h le = tt
all_narrow n (l ∷ ls) h le = ((λ e. omega (arith, h, le)), all_narrow n ls (omega (arith, h)) le)

abbrev few_block : PlusBlock → Bool
few_block c = list_all is_small (length c.lines ∷ map (λ (l : PlusLine). length l.tokens) c.lines)

lines_long : (vars : List VarDecl) (ls : List BodyLine) (qs : List PlusLine) → ArePlusLines vars ls qs → length qs ≡ length ls
lines_long vars [] [] a = refl
lines_long vars [] (p ∷ qs) a = absurd a
lines_long vars (l ∷ ls) [] a = absurd a
lines_long vars (l ∷ ls) (p ∷ qs) a = ap suc (lines_long vars ls qs a.1)

lines_small : (vars : List VarDecl) (ls : List BodyLine) (qs : List PlusLine) → ArePlusLines vars ls qs → AllLines Narrow ls
    → list_all is_small (map (λ (l : PlusLine). length l.tokens) qs) ≡ true
lines_small vars [] [] a h = refl
lines_small vars [] (p ∷ qs) a h = absurd a
lines_small vars (l ∷ ls) [] a h = absurd a
lines_small vars (l ∷ ls) (p ∷ qs) a h =
    both-true (is_small (length p.tokens)) (list_all is_small (map (λ (k : PlusLine). length k.tokens) qs))
    (small (length p.tokens) (omega (arith, ap length a.0.tokens, length-map l.tokens (made vars 0), h.0))) (lines_small vars ls qs a.1 h.1)

block_few : (vars : List VarDecl) (b : Block) (c : PlusBlock) → ArePlusLines vars b.lines c.lines → AllLines Narrow b.lines
    → length b.lines ≤ 1048576 → few_block c ≡ true
block_few vars b c a h le =
    both-true (is_small (length c.lines)) (list_all is_small (map (λ (l : PlusLine). length l.tokens) c.lines))
    (small (length c.lines) (omega (arith, lines_long vars b.lines c.lines a, le)))
    (lines_small vars b.lines c.lines a h)

option_few : (o : Option PlusBlock) → at_block few_block o ≡ true → list_all is_small (lengths_block o) ≡ true
option_few None h = refl
option_few (Some c) h = h

tokens_small : (ts : List PatToken) → list_all (λ (t : PatToken). is_small (length t.positions)) ts ≡ true → list_all (at_token few_block) ts ≡ true
    → list_all (λ (t : PatToken). list_all is_small (length t.positions ∷ lengths_block t.before ++ lengths_block t.after)) ts ≡ true
tokens_small [] p b = refl
tokens_small (t ∷ ts) p b =
    let here = front-true (at_token few_block t) (list_all (at_token few_block) ts) b in
    both-true (list_all is_small (length t.positions ∷ lengths_block t.before ++ lengths_block t.after))
    (list_all (λ (u : PatToken). list_all is_small (length u.positions ∷ lengths_block u.before ++ lengths_block u.after)) ts)
    (both-true (is_small (length t.positions)) (list_all is_small (lengths_block t.before ++ lengths_block t.after))
    (front-true (is_small (length t.positions)) (list_all (λ (u : PatToken). is_small (length u.positions)) ts) p)
    (all_append (lengths_block t.before) (lengths_block t.after)
    (option_few t.before (front-true (at_block few_block t.before) (at_block few_block t.after) here))
    (option_few t.after (back-true (at_block few_block t.before) (at_block few_block t.after) here))))
    (tokens_small ts (back-true (is_small (length t.positions))
    (list_all (λ (u : PatToken). is_small (length u.positions)) ts) p) (back-true (at_token few_block t) (list_all (at_token few_block) ts) b))

-- ---- rules

abbrev pub FewLaw : Type 0
FewLaw = (qs : List Placed) (es : List Elem) → length qs < 2147483648 → IsBody qs es
    → list_all (λ n. nat_lt n 4294967296) (length es ∷ lengths_body (plain es)) ≡ true

abbrev pub NarrowLaw : Type 0
NarrowLaw = (qs : List Placed) (es : List Elem) → length qs < 2147483648 → IsBody qs es
    → list_all (λ (p : Pattern). list_all (λ n. nat_lt n 4294967296) (length p.forms ∷ map width p.forms)) (patterns_body (plain es)) ≡ true

rule-few : FewLaw → NarrowLaw → KeepPositions
    → (known : List Variable) (n : ℕ) (t : RuleText) (h : RuleHead) (x : Rule) (earlier : List RuleHead) → IsRule known n t h x
    → HasVars earlier n t.decls h.vars → OfText t
    → list_all (λ m. nat_lt m 4294967296) (lengths x) ≡ true
rule-few law narrow keep known n t h x earlier made' vars of =
    let qs = ps known n t h x made' of in
    let s = short known n t h x made' of in
    let b = law qs x.body s made'.body in
    let le : length t.decls ≤ 1048576 = of.few.decls in
    let counted : Counted (length t.decls) x.vars =
    subst (λ (ds : List VarDecl). Counted (length t.decls) ds) (sym (made'.vars ∙ vars.are)) (tokens_count earlier n t.decls vars.answers vars.read) in
    let exports : length x.exports ≤ length x.vars = omega (arith, ap length made'.exports, ap length made'.vars, exports_short known h.vars) in
    let positions = positions_small (0 + tokens_in t.body) x.tokens qs (omega (arith, of.few.body))
    (keep h.vars n t.body x.tokens made'.tokens) (lines_at h.vars 0 0 [] t.body tt) in
    let blocks = anchored_pass Narrow h.vars few_block 1048576 (block_few h.vars) n t.body x.tokens made'.tokens
    (all_narrow most_bytes t.body of.few.body (omega arith)) of.short in
    let vs = join (map (λ (d : VarDecl). length d.not_names ∷ length d.not_places ∷ []) x.vars) in
    let ts = join (map (λ (p : PatToken). length p.positions ∷ lengths_block p.before ++ lengths_block p.after) x.tokens) in
    let fs = join (map (λ (p : Pattern). length p.forms ∷ map width p.forms) (patterns_body (plain x.body))) in
    let es = lengths_body (plain x.body) in
    let front = length x.vars ∷ length x.exports ∷ length x.body ∷ length x.tokens ∷ es in
    let head : list_all is_small front ≡ true =
    both-true (is_small (length x.vars)) (list_all is_small (length x.exports ∷ length x.body ∷ length x.tokens ∷ es))
    (small (length x.vars) (omega (arith, counted.long, le)))
    (both-true (is_small (length x.exports)) (list_all is_small (length x.body ∷ length x.tokens ∷ es))
    (small (length x.exports) (omega (arith, exports, counted.long, le)))
    (both-true (is_small (length x.body)) (list_all is_small (length x.tokens ∷ es)) (front-true (is_small (length x.body)) (list_all is_small es) b)
    (both-true (is_small (length x.tokens)) (list_all is_small es)
    (small (length x.tokens) (omega (
      arith,
      as-long known n t h x made' of keep,
      (placed known n t h x made' of).short,
      of.few.body,
    ))) (back-true (is_small (length x.body)) (list_all is_small es) b))))
    in
    all_append (front ++ vs ++ ts) fs
    (all_append (front ++ vs) ts
    (all_append front vs head (all_join (λ (d : VarDecl). length d.not_names ∷ length d.not_places ∷ []) x.vars
    (vars_small (length t.decls) x.vars le counted.each)))
    (all_join (λ (p : PatToken). length p.positions ∷ lengths_block p.before ++ lengths_block p.after) x.tokens (tokens_small x.tokens positions blocks)))
    (all_join (λ (p : Pattern). length p.forms ∷ map width p.forms) (patterns_body (plain x.body)) (narrow qs x.body s made'.body))

pub patch-few : FewLaw → NarrowLaw → KeepPositions → SmallLaw → (bytes : List ℕ) (patch : Patch) → IsSpelled bytes patch
    → EachPasses (λ earlier r. list_all (λ m. nat_lt m 4294967296) (lengths r)) [] patch.rules
patch-few law narrow keep small' bytes patch s =
    as-passes (λ r. list_all (λ m. nat_lt m 4294967296) (lengths r)) [] patch.rules
    (patch-has (λ r. list_all (λ m. nat_lt m 4294967296) (lengths r) ≡ true) (rule-few law narrow keep) small' bytes patch s)
