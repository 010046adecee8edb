-- What is known of the tokens of an item so far, the nearest first.
use Rattle.std.specs.Prelude.{List}
use Rattle.cpp_lines.specs.declared.sign.Sign.{Sign}
use Rattle.cpp_lines.specs.declared.item.ItemSoFar.{ItemSoFar}
use Rattle.cpp_lines.specs.Items.{depth, body_of, may_precede_body}

abbrev pub so_far : List Sign → ItemSoFar
so_far tokens = record { depth = depth tokens; body = body_of tokens; before_body = may_precede_body tokens }
