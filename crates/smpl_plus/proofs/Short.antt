-- The bodies of small texts are short.
use Rattle.std.proofs.Common.{◌≡◌, ℕ, ◌<◌, ◌≤◌, ◌^◌, List, length, All, get_or, sym, subst, arith, lit<}
use Rattle.std.proofs.lemmas.List.Elements.{All-get_or, All-weaker}
use Rattle.smpl_lexer.specs.declared.text.BodyLine.{BodyLine}
use Rattle.smpl_lexer.specs.declared.text.RuleText.{RuleText}
use Rattle.smpl_lexer.specs.declared.text.PatchText.{PatchText}
use Rattle.smpl_lexer.specs.Texts.{most_bytes, IsSmallRule, IsSmall}
use Rattle.smpl_plus.specs.Anchors.{IsShort}

short_by : (most : ℕ) (body : List BodyLine) → most < 2 ^ 31 → length body ≤ most
    → All (λ (l : BodyLine). length l.text ≤ most) body → IsShort body
short_by most body fits count texts = record {
  count = omega (arith, fits, count);
  lines = All-weaker (λ (l : BodyLine). length l.text ≤ most) (λ (l : BodyLine). length l.text < 2 ^ 31) (λ l h. omega (arith, h, fits)) body texts;
}

small-short : (r : RuleText) → IsSmallRule r → IsShort r.body
small-short r small = short_by most_bytes r.body (lit< tt) small.lines small.texts

pub body-short : (text : PatchText) (n : ℕ) (r : RuleText) → IsSmall text → n < length text.rules → r ≡ get_or text.rules n r
    → IsShort r.body
body-short text n r small within is =
    small-short r (subst (λ (x : RuleText). IsSmallRule x) (sym is) (All-get_or IsSmallRule text.rules n r within small.each))
