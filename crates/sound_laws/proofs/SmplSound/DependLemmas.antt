-- What rules depend on are earlier rules.
use Rattle.std.proofs.Common.{◌≡◌, ℕ, suc, ◌+◌, ◌<◌, nat_lt, Bool, true, false, ◌&&◌, refl, sym, ap, ◌∙◌, List, [], ◌∷◌, length}
use Rattle.std.proofs.Common.{Option, Some, None, if◌then◌else◌, arith}
use Rattle.std.specs.Str.{bytes_eq}
use Rattle.std.proofs.lemmas.Bool.Decides.{nat_tests}
use Rattle.smpl_patch.specs.declared.rule.Dep.{Dep}
use Rattle.smpl_patch.specs.declared.rule.Dep.TheVariants as dep
use Rattle.smpl_patch.specs.declared.rule.Dep.TheVariants.{rolls-Always, rolls-Had, rolls-Ever, rolls-Defined, rolls-Not, rolls-Both, rolls-Either}
use Rattle.smpl_patch.specs.declared.rule.Dep.TheFolds.{fold-roll-Dep}
use Rattle.smpl_patch.specs.Sound.{dep_step, is_below}
use Rattle.smpl_lexer.specs.declared.token.PatchToken.{PatchToken}
use Rattle.smpl_meta.specs.declared.head.RuleHead.{RuleHead}
use Rattle.smpl_meta.specs.Known.{number_from}
use Rattle.smpl_meta.specs.Heads.{plain_dep, ever_dep, Level, Spells, DependsOn}
use Rattle.smpl_meta.specs.Heads.Spells.{either, one_both, both, one_prefix, negated, group, name, ever, never}

number-by : (b : Bool) (n m k : ℕ) (q : Option ℕ) → (q ≡ Some m → m < (n + 1) + k) → (if b then Some n else q) ≡ Some m → m < n + suc k
number-by true n m k q h e = let f : n ≡ m = cc in omega arith
number-by false n m k q h e = let f : m < (n + 1) + k = h e in omega arith

number-within : (n m : ℕ) (x : List ℕ) (hs : List RuleHead) → number_from n x hs ≡ Some m → m < n + length hs
number-within n m x [] e = absurd (cc)
number-within n m x (h ∷ hs) e = number-by (bytes_eq h.name x) n m (length hs) (number_from (n + 1) x hs) (number-within (n + 1) m x hs) e

less : (m n : ℕ) → m < n → nat_lt m n ≡ true
less m n h = grind (arith, nat_tests)

both-true : (a b : Bool) → a ≡ true → b ≡ true → (a && b) ≡ true
both-true true b e f = f
both-true false b e f = e

-- ---- what a condition's parts say

module _ (n : ℕ) where
  at-always : is_below n dep.Always ≡ true
  at-always = ap (is_below n) (sym rolls-Always) ∙ fold-roll-Dep Bool (dep_step n) _

  at-had : (m : ℕ) → is_below n (dep.Had m) ≡ nat_lt m n
  at-had m = ap (is_below n) (sym (rolls-Had m)) ∙ fold-roll-Dep Bool (dep_step n) _

  at-ever : (m : ℕ) → is_below n (dep.Ever m) ≡ nat_lt m n
  at-ever m = ap (is_below n) (sym (rolls-Ever m)) ∙ fold-roll-Dep Bool (dep_step n) _

  at-defined : (x : List ℕ) → is_below n (dep.Defined x) ≡ true
  at-defined x = ap (is_below n) (sym (rolls-Defined x)) ∙ fold-roll-Dep Bool (dep_step n) _

  at-not : (a : Dep) → is_below n (dep.Not a) ≡ is_below n a
  at-not a = ap (is_below n) (sym (rolls-Not a)) ∙ fold-roll-Dep Bool (dep_step n) _

  at-both : (a b : Dep) → is_below n (dep.Both a b) ≡ (is_below n a && is_below n b)
  at-both a b = ap (is_below n) (sym (rolls-Both a b)) ∙ fold-roll-Dep Bool (dep_step n) _

  at-either : (a b : Dep) → is_below n (dep.Either a b) ≡ (is_below n a && is_below n b)
  at-either a b = ap (is_below n) (sym (rolls-Either a b)) ∙ fold-roll-Dep Bool (dep_step n) _

module _ (earlier : List RuleHead) where
  abbrev Below : Dep → Type 0
  Below d = is_below (length earlier) d ≡ true

  plain-below : (x : List ℕ) (o : Option ℕ) → number_from 0 x earlier ≡ o → Below (plain_dep x o)
  plain-below x None e = at-defined (length earlier) x
  plain-below x (Some m) e = let w : m < 0 + length earlier = number-within 0 m x earlier e in at-had (length earlier) m ∙ less m (length earlier) (omega arith)

  ever-below : (x : List ℕ) (o : Option ℕ) → number_from 0 x earlier ≡ o → Below (ever_dep x o)
  ever-below x None e = at-defined (length earlier) x
  ever-below x (Some m) e = let w : m < 0 + length earlier = number-within 0 m x earlier e in at-ever (length earlier) m ∙ less m (length earlier) (omega arith)

  spelled-below : (l : Level) (xs zs : List PatchToken) (d : Dep) → Spells earlier l xs d zs → Below d
  spelled-below _ xs zs _ (either {a = a} {b = b} t p e q) =
      at-either (length earlier) a b ∙ both-true (is_below (length earlier) a) (is_below (length earlier) b) (spelled-below _ _ _ _ p) (spelled-below _ _ _ _ q)
  spelled-below _ xs zs _ (one_both p) = spelled-below _ _ _ _ p
  spelled-below _ xs zs _ (both {a = a} {b = b} t p e q) =
      at-both (length earlier) a b ∙ both-true (is_below (length earlier) a) (is_below (length earlier) b) (spelled-below _ _ _ _ p) (spelled-below _ _ _ _ q)
  spelled-below _ xs zs _ (one_prefix p) = spelled-below _ _ _ _ p
  spelled-below _ xs zs _ (negated {a = a} t e p) = at-not (length earlier) a ∙ spelled-below _ _ _ _ p
  spelled-below _ xs zs _ (group t u e p f) = spelled-below _ _ _ _ p
  spelled-below _ xs zs _ (name t e) = plain-below t.token.text (number_from 0 t.token.text earlier) refl
  spelled-below _ xs zs _ (ever w t e f) = ever-below t.token.text (number_from 0 t.token.text earlier) refl
  spelled-below _ xs zs _ (never w t e f) =
      at-not (length earlier) (ever_dep t.token.text (number_from 0 t.token.text earlier)) ∙ ever-below t.token.text (number_from 0 t.token.text earlier) refl

  pub depends-below : (ts : List PatchToken) (d : Dep) → DependsOn earlier ts d → Below d
  depends-below [] d e = ap (is_below (length earlier)) e ∙ at-always (length earlier)
  depends-below (t ∷ ts) d p = spelled-below Level.Either (t ∷ ts) [] d p
