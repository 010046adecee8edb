-- The trees of a body and of its pieces of code.
use Rattle.std.proofs.Common.{◌≡◌, ◌≤◌, ◌<◌, ◌+◌, ℕ, zero, suc, false, true, refl, sym, ap, ◌∙◌, arith, subst, List, [], ◌∷◌}
use Rattle.std.proofs.Common.{◌++◌, length, drop, get_or, drop-cons, append_assoc}
use Rattle.std.proofs.lemmas.List.{append-nil}
use Rattle.std.proofs.lemmas.Bool.{false≢true}
use Rattle.c_terms.specs.declared.tree.Tree.{Tree}
use Rattle.smpl_meta.specs.declared.patterns.Placed.{Placed}
use Rattle.smpl_body.specs.declared.smpl_when.cutting.Code.{Code}
use Rattle.smpl_body.specs.declared.smpl_when.cutting.Cutting.{Cutting}
use Rattle.smpl_body.specs.SmplWhen.Cutting.{cut}
use Rattle.smpl_body.specs.Spelled.{body_forms, code_forms, IsRead, AreRead}
use Rattle.smpl_body.specs.Bodies.{Spells, fits}
use Rattle.smpl_body.specs.SoFar.{WithCodes, AllSpell}
use Rattle.smpl_body.proofs.OnceLemmas.{OneTree, read-once, all-once}

-- ---- pieces of code, one after another

abbrev pub Into : (now first : List Tree) → (some all : List Code) → Type 0
Into now first some all = (ts : List Tree) → WithCodes now ts some → WithCodes first ts all

abbrev pub From : (some all : List Code) → Type 0
From some all = ((ts : List Tree) → AreRead some ts → ⊥) → (ts : List Tree) → AreRead all ts → ⊥

one-more : (codes : List Code) (i : ℕ) (c : Code) → i < length codes → c ≡ get_or codes i c → drop i codes ≡ c ∷ drop (i + 1) codes
one-more codes i c lt at =
    let one : i + 1 ≡ suc i = omega arith in
    rw one (drop-cons codes i c lt ∙ ap (λ x. x ∷ drop (suc i) codes) (sym at))

with-one : (now more ts : List Tree) (t : Tree) (c : Code) (cs : List Code) → more ≡ now ++ t ∷ [] → IsRead code_forms c.tokens t
    → WithCodes more ts cs → WithCodes now ts (c ∷ cs)
with-one now more ts t c cs e is w = record {
  trees = t ∷ w.trees;
  is = w.is ∙ ap (λ l. l ++ w.trees) e ∙ append_assoc now (t ∷ []) w.trees;
  are = (is, w.are);
}

pub codes-into : (codes : List Code) (i : ℕ) (c : Code) (now more first : List Tree) (t : Tree) → i < length codes → c ≡ get_or codes i c
    → more ≡ now ++ t ∷ [] → IsRead code_forms c.tokens t → Into now first (drop i codes) codes → Into more first (drop (i + 1) codes) codes
codes-into codes i c now more first t lt at e is into = λ ts w.
    into ts (subst (λ (cs : List Code). WithCodes now ts cs) (sym (one-more codes i c lt at)) (with-one now more ts t c (drop (i + 1) codes) e is w))

rest-none : (c : Code) (cs : List Code) → ((ts : List Tree) → AreRead cs ts → ⊥) → (ts : List Tree) → AreRead (c ∷ cs) ts → ⊥
rest-none c cs refuted [] are = are
rest-none c cs refuted (t ∷ ts) are = refuted ts are.1

here-none : (c : Code) (cs : List Code) → ((t : Tree) → IsRead code_forms c.tokens t → ⊥) → (ts : List Tree) → AreRead (c ∷ cs) ts → ⊥
here-none c cs refuted [] are = are
here-none c cs refuted (t ∷ ts) are = refuted t are.0

pub codes-from : (codes : List Code) (i : ℕ) (c : Code) → i < length codes → c ≡ get_or codes i c → From (drop i codes) codes → From (drop (i + 1) codes) codes
codes-from codes i c lt at from = λ refuted.
    from (λ ts are. rest-none c (drop (i + 1) codes) refuted ts (subst (λ (cs : List Code). AreRead cs ts) (one-more codes i c lt at) are))

-- a piece of code that has no tree
pub codes-none : (codes : List Code) (i : ℕ) (c : Code) → i < length codes → c ≡ get_or codes i c → ((t : Tree) → IsRead code_forms c.tokens t → ⊥)
    → From (drop i codes) codes → (ts : List Tree) → AreRead codes ts → ⊥
codes-none codes i c lt at refuted from =
    from (λ ts are. here-none c (drop (i + 1) codes) refuted ts (subst (λ (cs : List Code). AreRead cs ts) (one-more codes i c lt at) are))

drop-all : (n : ℕ) (xs : List Code) → length xs ≤ n → drop n xs ≡ []
drop-all zero [] h = refl
drop-all zero (x ∷ xs) h = absurd (omega (arith, h))
drop-all (suc n) [] h = refl
drop-all (suc n) (x ∷ xs) h = drop-all n xs (omega (arith, h))

-- the pieces of code end
pub codes-end : (codes : List Code) (i : ℕ) (now first : List Tree) → length codes ≤ i → Into now first (drop i codes) codes → WithCodes first now codes
codes-end codes i now first h into =
    into now (subst (λ (cs : List Code). WithCodes now now cs) (sym (drop-all i codes h)) (record { trees = []; is = sym (append-nil now); are = tt }))

-- ---- the whole

-- the body, and the pieces of code after it
pub all-spell : (ps : List Placed) (c : Cutting) (t : Tree) (first all : List Tree) → c ≡ cut ps → c.broken ≡ false → IsRead body_forms c.main t
    → first ≡ t ∷ [] → WithCodes first all c.codes → fits ps c all ≡ true → AllSpell ps all
all-spell ps c t first all e whole body f w fit =
    let is : all ≡ t ∷ w.trees = w.is ∙ ap (λ l. l ++ w.trees) f in
    record {
      body = t;
      codes = w.trees;
      is = is;
      spells = record {
        clauses = subst (λ (d : Cutting). d.broken ≡ false) e whole;
        body = subst (λ (d : Cutting). IsRead body_forms d.main t) e body;
        code = subst (λ (d : Cutting). AreRead d.codes w.trees) e w.are;
        fit = subst (λ (d : Cutting). fits ps d (t ∷ w.trees) ≡ true) e (subst (λ (ts : List Tree). fits ps c ts ≡ true) is fit);
      };
    }

abbrev pub NoneSpell : List Placed → Type 0
NoneSpell ps = (t : Tree) (cs : List Tree) → Spells ps t cs → ⊥

pub none-broken : (ps : List Placed) (c : Cutting) → c ≡ cut ps → c.broken ≡ true → NoneSpell ps
none-broken ps c e h = λ t cs s. false≢true (sym (subst (λ (d : Cutting). d.broken ≡ false) (sym e) s.clauses) ∙ h)

pub none-body : (ps : List Placed) (c : Cutting) → c ≡ cut ps → ((t : Tree) → IsRead body_forms c.main t → ⊥) → NoneSpell ps
none-body ps c e refuted = λ t cs s. refuted t (subst (λ (d : Cutting). IsRead body_forms d.main t) (sym e) s.body)

pub none-codes : (ps : List Placed) (c : Cutting) → c ≡ cut ps → ((ts : List Tree) → AreRead c.codes ts → ⊥) → NoneSpell ps
none-codes ps c e refuted = λ t cs s. refuted cs (subst (λ (d : Cutting). AreRead d.codes cs) (sym e) s.code)

-- the trees that spell the rest don't fit
pub none-fit : (law : OneTree) (ps : List Placed) (c : Cutting) (t : Tree) (first all : List Tree) → c ≡ cut ps → IsRead body_forms c.main t
    → first ≡ t ∷ [] → WithCodes first all c.codes → fits ps c all ≡ false → NoneSpell ps
none-fit law ps c t first all e body f w refuted = λ u us s.
    let is : all ≡ t ∷ w.trees = w.is ∙ ap (λ l. l ++ w.trees) f in
    let one : t ≡ u = read-once law body_forms c.main t u body (subst (λ (d : Cutting). IsRead body_forms d.main u) (sym e) s.body) in
    let more : w.trees ≡ us = all-once law c.codes w.trees us w.are (subst (λ (d : Cutting). AreRead d.codes us) (sym e) s.code) in
    let same : all ≡ u ∷ us = is ∙ (λ i. one i ∷ more i) in
    let fit : fits ps c (u ∷ us) ≡ true = subst (λ (d : Cutting). fits ps d (u ∷ us) ≡ true) (sym e) s.fit in
    false≢true (sym refuted ∙ ap (fits ps c) same ∙ fit)
