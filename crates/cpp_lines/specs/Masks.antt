-- What is known of the tokens before a place, the nearest first.
use Rattle.std.specs.Prelude.{ℕ, ◌≡◌, List, nat_lt}
use Rattle.cpp_lines.specs.declared.sign.Sign.{Sign}
use Rattle.cpp_lines.specs.declared.mask.Mask.{Mask}
use Rattle.cpp_lines.specs.Shown.{follows_attribute, is_enclosed}

pub record Tells (tokens : List Sign) (mask : Mask) : Type 0 where
  pub enclosed : (closed : ℕ) → is_enclosed closed tokens ≡ nat_lt closed mask.depth
  pub last : mask.after_attribute ≡ follows_attribute tokens
