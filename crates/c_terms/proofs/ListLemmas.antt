-- Runs of members, with one more member.
use Rattle.std.proofs.Common.{◌≡◌, ℕ, zero, suc, ◌+◌, ◌<◌, refl, sym, ap, ◌∙◌, arith, List, [], ◌∷◌, ◌++◌, length, take, get_or, append_assoc}
use Rattle.std.proofs.Math.Seq.{take-suc}
use Rattle.c_terms.specs.declared.tree.Tree.{Tree}
use Rattle.c_terms.specs.declared.list.Member.{Member}
use Rattle.c_terms.specs.Lists.{comma_kids, more_kids, run_kids}

more_kids-push : (ms : List Member) (m : Member) → more_kids (ms ++ m ∷ []) ≡ more_kids ms ++ (comma_kids m.comma ++ m.tree ∷ [])
more_kids-push [] m = refl
more_kids-push (x ∷ ms) m =
    ap (λ ts. comma_kids x.comma ++ x.tree ∷ ts) (more_kids-push ms m)
    ∙ sym (append_assoc (comma_kids x.comma) (x.tree ∷ more_kids ms) (comma_kids m.comma ++ m.tree ∷ []))

later : (ms : List Member) (i : ℕ) (m : Member) → 0 < i → i < length ms → m ≡ get_or ms i m
    → run_kids (take (suc i) ms) ≡ (run_kids (take i ms) ++ comma_kids m.comma) ++ m.tree ∷ []
later [] i m h k e = absurd (omega (arith, k))
later (x ∷ ms) zero m h k e = absurd (omega (arith, h))
later (x ∷ ms) (suc j) m h k e =
    let last : take (suc j) ms ≡ take j ms ++ m ∷ [] = take-suc ms j m (omega (arith, k)) ∙ ap (λ y. take j ms ++ y ∷ []) (sym e) in
    ap (λ rest. x.tree ∷ more_kids rest) last ∙ ap (λ ts. x.tree ∷ ts) (more_kids-push (take j ms) m)
    ∙ sym (append_assoc (x.tree ∷ more_kids (take j ms)) (comma_kids m.comma) (m.tree ∷ []))

pub run-next : (ms : List Member) (i : ℕ) (m : Member) (kids : List Tree) → 0 < i → i < length ms → m ≡ get_or ms i m
    → kids ≡ run_kids (take i ms) ++ comma_kids m.comma → kids ++ m.tree ∷ [] ≡ run_kids (take (i + 1) ms)
run-next ms i m kids h k e f = let one : i + 1 ≡ suc i = omega arith in rw (one, f) (sym (later ms i m h k e))

pub run-first : (ms : List Member) (i : ℕ) (m : Member) (kids : List Tree) → i ≡ 0 → i < length ms → m ≡ get_or ms i m
    → kids ≡ run_kids (take i ms) → kids ++ m.tree ∷ [] ≡ run_kids (take (i + 1) ms)
run-first [] i m kids z k e f = absurd (omega (arith, k))
run-first (x ∷ ms) zero m kids z k e f = rw f (ap (λ (y : Member). y.tree ∷ []) e)
run-first (x ∷ ms) (suc i) m kids z k e f = absurd (omega (arith, z))
