-- The text of a page, joined with what is still to be written.
use Rattle.std.specs.Prelude.{ℕ, ◌≡◌, Bool, false, List, ◌++◌, drop, Option, None, Some, option_map}
use Rattle.c_show.specs.declared.page.Role.{Role}
use Rattle.c_show.specs.declared.page.LastToken.{LastToken}
use Rattle.c_show.specs.declared.page.Page.{Page}
use Rattle.c_terms.specs.declared.token.TokenKind.TheVariants.{Name}
use Rattle.c_show.specs.Show.{Shown, is_parted, joined}

abbrev pub left : Page → Option Shown
left d = option_map (λ (l : LastToken). record { kind = l.kind; text = drop d.start d.text.items; role = l.role }) d.last

abbrev pub parted_from : Option Shown → List ℕ → Role → Bool
parted_from None text role = false
parted_from (Some t) text role = is_parted t (record { kind = Name; text = text; role = role })

-- whether a space separates a token from the last one
abbrev pub is_parted_from : Page → List ℕ → Role → Bool
is_parted_from d text role = parted_from (left d) text role

abbrev pub text_with : Page → List Shown → List ℕ
text_with d tokens = d.text.items ++ joined (left d) tokens

-- these tokens were written
pub record Writes (old new : Page) (tokens : List Shown) : Type 0 where
  pub text : (more : List Shown) → text_with new more ≡ text_with old (tokens ++ more)
