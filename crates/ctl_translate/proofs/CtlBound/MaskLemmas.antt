-- What the parts of a table say about a variable, given by a bit of their masks.
use Rattle.std.proofs.Common.{◌≡◌, ℕ, ◌+◌, ◌<◌, ◌≤◌, true, nat_lt, arith, sym, ap, subst, ◌∙◌, List, [], ◌∷◌, ◌++◌, map}
use Rattle.std.proofs.Common.{length, take, get_or, Some}
use Rattle.std.specs.Prelude.{slice_get, slice_index}
use Rattle.std.proofs.lemmas.List.{map_more, get_or-map, length-map, map-append}
use Rattle.std.proofs.lemmas.Option.{slice_get-get_or}
use Rattle.std.proofs.lemmas.Grind.{common_steps}
use Rattle.std.proofs.lemmas.Bool.Decides.{nat_tests}
use Rattle.smpl_terms.specs.declared.var.Var.{Var}
use Rattle.ctl_formula.specs.Plain.{Plain}
use Rattle.ctl_formula.specs.Plain as plain
use Rattle.ctl_formula.specs.declared.node.Node.{Node}
use Rattle.ctl_formula.specs.declared.node.Node.TheVariants as node
use Rattle.ctl_formula.specs.Bounds.{Surely}
use Rattle.ctl_formula.specs.Tables.{at, plain_of, plains, below}
use Rattle.ctl_formula.proofs.TableLemmas.{at-node, length-plains, lt-true}
use Rattle.ctl_formula.proofs.FrontLemmas.{node-front}
use Rattle.ctl_translate.specs.declared.ctl_bound.masks.Binds.{Binds}
use Rattle.ctl_translate.specs.declared.ctl_bound.masks.Masks.{Masks}
use Rattle.ctl_translate.specs.declared.ctl_bound.steps.Step.{Step}
use Rattle.ctl_translate.specs.declared.ctl_bound.steps.Step.TheVariants as step
use Rattle.ctl_translate.specs.CtlBound.Binding.{binds_at}
use Rattle.ctl_translate.specs.CtlBound.Bits.{is_bit, bit_binds}
use Rattle.ctl_translate.specs.CtlBound.Naming.{names, AreNamed}
use Rattle.ctl_translate.specs.CtlBound.Steps.{step_of, of_true, said_at, AreOrdered, says}
use Rattle.ctl_translate.proofs.CtlBound.StepLemmas.{below-step, ordered-steps, said-part, says-node}

-- masks without a bit
abbrev pub no_masks : Masks
no_masks = record { holding = 0; failing = 0; guarded = 0 }

-- what is known about one of the parts
pub part : (h : Masks → Binds) (known : List Masks) (i : ℕ) (m : Masks) → nat_lt i (length known) ≡ true
    → h (get_or known i m) ≡ said_at (map h known) i
part h known i m l = sym (get_or-map h known i m of_true (lt-true i (length known) l))

-- what is known about one more part
known-more : (h : Masks → Binds) (g : Plain → Binds) (ns : List Node) (i : ℕ) (ks more : List Masks) (m : Masks) (n : Node)
    → i < length ns → below i n ≡ true → at (plains ns) i ≡ plain_of (plains ns) n → more ≡ ks ++ m ∷ []
    → map h ks ≡ map g (take i (plains ns)) → h m ≡ g (plain_of (take i (plains ns)) n)
    → map h more ≡ map g (take (i + 1) (plains ns))
known-more h g ns i ks more m n l b e a s r =
    let there : i < length (plains ns) = omega (arith, l, length-plains ns) in
    let whole : map g (take (i + 1) (plains ns)) ≡ map g (take i (plains ns)) ++ g (at (plains ns) i) ∷ []
    = map_more g (plains ns) i plain.True there in
    let here : h m ≡ g (at (plains ns) i) = r ∙ ap g (node-front (plains ns) i n there b ∙ sym e) in
    ap (map h) a ∙ map-append h ks (m ∷ []) ∙ ap (λ z. z ++ h m ∷ []) s
    ∙ ap (λ z. map g (take i (plains ns)) ++ z ∷ []) here ∙ sym whole

-- the same, given what its step says
pub step-more : (sure : Surely) (x : Var) (k : ℕ) (ns : List Node) (steps : List Step) (named : List ℕ) (i : ℕ)
    (ks slice more : List Masks) (m : Masks) → i < length steps → AreOrdered steps → steps ≡ map step_of ns
    → AreNamed sure x k ns named → slice ≡ ks
    → bit_binds m k ≡ says (map (λ z. bit_binds z k) slice) (is_bit (slice_index named i) k) (get_or steps i step.True)
    → more ≡ ks ++ m ∷ [] → map (λ z. bit_binds z k) ks ≡ map (binds_at sure x) (take i (plains ns))
    → map (λ z. bit_binds z k) more ≡ map (binds_at sure x) (take (i + 1) (plains ns))
step-more sure x k ns steps named i ks slice more m l o copied marked v says-step a known =
    let within : i < length ns = omega (arith, l, ap length copied, length-map ns step_of) in
    let n = get_or ns i node.True in
    let node-here : slice_get ns i ≡ Some n = slice_get-get_or ns i node.True within in
    let own = is_bit (slice_index named i) k in
    let s = get_or steps i step.True in
    let fs = take i (plains ns) in
    let step-is : s ≡ step_of n
    = ap (λ z. get_or z i step.True) copied ∙ get_or-map step_of ns i node.True step.True within in
    let P : List Step → Type 0 = λ z. AreOrdered z in
    let in-order = subst P copied o in
    let said : bit_binds m k ≡ binds_at sure x (plain_of fs n)
    = says-step ∙ ap (λ z. says z own s) (ap (map (λ z. bit_binds z k)) v ∙ known)
    ∙ ap (λ z. says (map (binds_at sure x) fs) z s) (marked i n node-here)
    ∙ ap (says (map (binds_at sure x) fs) (names sure n x)) step-is ∙ says-node sure x fs n in
    known-more (λ z. bit_binds z k) (binds_at sure x) ns i ks more m n within (below-step ns in-order i n node-here)
    (at-node ns i n (ordered-steps ns in-order) node-here) a known said

take-all : (fs : List Plain) (i : ℕ) → length fs ≤ i → take i fs ≡ fs
take-all fs i h = grind (arith, common_steps)

-- what is known about all parts
known-all : (h : Masks → Binds) (g : Plain → Binds) (ns : List Node) (i : ℕ) (ks : List Masks) → length ns ≤ i
    → map h ks ≡ map g (take i (plains ns)) → map h ks ≡ map g (plains ns)
known-all h g ns i ks l e = e ∙ ap (map g) (take-all (plains ns) i (omega (arith, l, length-plains ns)))

-- what is known about the root
pub root-known : (sure : Surely) (x : Var) (k : ℕ) (ns : List Node) (steps : List Step) (i : ℕ) (ks : List Masks)
    (root : ℕ) (m : Masks) → length steps ≤ i → length ks ≡ i → root < length steps → steps ≡ map step_of ns
    → m ≡ get_or ks root m → map (λ z. bit_binds z k) ks ≡ map (binds_at sure x) (take i (plains ns))
    → bit_binds m k ≡ binds_at sure x (at (plains ns) root)
root-known sure x k ns steps i ks root m l n r copied e known =
    let within : nat_lt root (length ks) ≡ true = grind (arith, nat_tests) in
    let len : length ns ≤ i = omega (arith, l, ap length copied, length-map ns step_of) in
    let all = known-all (λ z. bit_binds z k) (binds_at sure x) ns i ks len known in
    ap (λ z. bit_binds z k) e ∙ part (λ z. bit_binds z k) ks root m within
    ∙ ap (λ z. said_at z root) all ∙ said-part sure x (plains ns) root
