use Rattle.std.proofs.Common.{◌≡◌, ◌+◌, ◌∙◌, sym, ap, List, Bool, length}
use Rattle.iso_file.specs.Sides.{sides_in, arrows_in}
use Rattle.iso_file.proofs.Arrows.{one_more}
use Rattle.iso_file.proofs.block.under.Goals as goal

pub check_block-requires : goal.check_block-requires
check_block-requires c =
    let s : c.as_slice-2.result.now ≡ sides_in c.args.tokens.now = cc (c.as_slice-2.ensures, c.in_ok-both.ensures.sides) in
    let a : c.as_slice-3.result.now ≡ arrows_in c.args.tokens.now = cc (c.as_slice-3.ensures, c.in_ok-both.ensures.both) in
    ap length s ∙ one_more c.args.tokens.now ∙ ap (λ (l : List Bool). length l + 1) (sym a)
