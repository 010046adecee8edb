use Rattle.c_expr.proofs.MemoLemmas.{right_memo}
use Rattle.c_expr.proofs.memo.Memo.keep.Goals as goal

pub returns-in_ok-push : goal.returns-in_ok-push
returns-in_ok-push c = λ from seen right le known. right_memo from seen c.args.self.now.entries.items c.push.new.self.items _
    c.in_ok-push.ensures.items right le known
