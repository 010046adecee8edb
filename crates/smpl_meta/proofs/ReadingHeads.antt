-- Heads that are read one after another.
use Rattle.std.proofs.Common.{◌≡◌, ℕ, ◌+◌, ◌<◌, List, [], ◌∷◌, ◌++◌, length, take, Option, Some, refl, sym, subst, ap, ◌∙◌, get_or, append_assoc, slice_get}
use Rattle.std.specs.Prelude.{IfSome}
use Rattle.std.proofs.lemmas.List.{take_more, append-nil}
use Rattle.std.proofs.lemmas.Option.{slice_get_read}
use Rattle.smpl_patch.specs.declared.fault.PatchFault.{PatchFault}
use Rattle.smpl_lexer.specs.declared.text.RuleText.{RuleText}
use Rattle.smpl_lexer.specs.declared.text.PatchText.{PatchText}
use Rattle.smpl_meta.specs.declared.head.RuleHead.{RuleHead}
use Rattle.smpl_meta.specs.Heads.{IsHead, IsHeadFault, AreHeads, IsFirstHeadFault}

-- one more rule, read after all heads before it
more_heads : (text : PatchText) (earlier : List RuleHead) (rs : List RuleText) (hs : List RuleHead) (r : RuleText) (h : RuleHead)
    → AreHeads text earlier rs hs → IsHead text.virtuals (earlier ++ hs) (length (earlier ++ hs)) r h → AreHeads text earlier (rs ++ r ∷ []) (hs ++ h ∷ [])
more_heads text earlier [] [] r h are is =
    (subst (λ (l : List RuleHead). IsHead text.virtuals l (length l) r h) (append-nil earlier) is, tt)
more_heads text earlier [] (g ∷ hs) r h are is = absurd are
more_heads text earlier (q ∷ rs) [] r h are is = absurd are
more_heads text earlier (q ∷ rs) (g ∷ hs) r h are is =
    let same : (earlier ++ g ∷ []) ++ hs ≡ earlier ++ g ∷ hs = append_assoc earlier (g ∷ []) hs in
    (are.0, more_heads text (earlier ++ g ∷ []) rs hs r h are.1 (subst (λ (l : List RuleHead). IsHead text.virtuals l (length l) r h) (sym same) is))

pub heads-more : (text : PatchText) (rules : List RuleText) (i : ℕ) (virtuals : List (List ℕ)) (hs : List RuleHead) (r : RuleText) (h : RuleHead)
    → i < length rules → r ≡ get_or rules i r → virtuals ≡ text.virtuals → length hs ≡ i → AreHeads text [] (take i rules) hs
    → IsHead virtuals hs i r h → AreHeads text [] (take (i + 1) rules) (hs ++ h ∷ [])
heads-more text rules i virtuals hs r h within e same count are is =
    let is-here : IsHead text.virtuals hs i r h = subst (λ (v : List (List ℕ)). IsHead v hs i r h) same is in
    let is-there : IsHead text.virtuals hs (length hs) r h = subst (λ (n : ℕ). IsHead text.virtuals hs n r h) (sym count) is-here in
    let longer : take (i + 1) rules ≡ take i rules ++ r ∷ [] = take_more rules i r within ∙ ap (λ (y : RuleText). take i rules ++ y ∷ []) (sym e) in
    subst (λ (l : List RuleText). AreHeads text [] l (hs ++ h ∷ [])) (sym longer) (more_heads text [] (take i rules) hs r h are is-there)

-- a rule's fault is the first one if the rules before it have none
pub fault-here : (text : PatchText) (rules : List RuleText) (i : ℕ) (virtuals : List (List ℕ)) (hs : List RuleHead) (r : RuleText) (f : PatchFault)
    → rules ≡ text.rules → i < length rules → r ≡ get_or rules i r → virtuals ≡ text.virtuals → AreHeads text [] (take i rules) hs
    → IsHeadFault virtuals hs r f → IsFirstHeadFault text f
fault-here text rules i virtuals hs r f all within e same are wrong =
    let within-text : i < length text.rules = subst (λ (l : List RuleText). i < length l) all within in
    let here : IsHeadFault text.virtuals hs r f = subst (λ (v : List (List ℕ)). IsHeadFault v hs r f) same wrong in
    let get : slice_get text.rules i ≡ Some r =
    subst (λ (l : List RuleText). slice_get l i ≡ Some r) all (slice_get_read rules (length rules) i r refl within e) in
    record {
      rule = i;
      within = within-text;
      heads = hs;
      before = subst (λ (l : List RuleText). AreHeads text [] (take i l) hs) all are;
      here = subst (λ (o : Option RuleText). IfSome o (λ r. IsHeadFault text.virtuals hs r f)) (sym get) here;
    }
