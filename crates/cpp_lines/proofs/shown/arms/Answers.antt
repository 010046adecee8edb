use Rattle.cpp_lines.proofs.Rising.{shown_rise}
use Rattle.cpp_lines.proofs.shown.arms.Goals as goal

pub invariant_of-result : goal.invariant_of-result
invariant_of-result c = record {
  rise = shown_rise c.args.lexed c.in_ok-shown.shown.items c.in_ok-shown.ensures.shown;
  short = c.in_ok-shown.ensures.short;
}
