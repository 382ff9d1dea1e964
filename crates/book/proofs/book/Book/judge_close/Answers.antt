use Rattle.book.proofs.Closing.{close_granted}
use Rattle.book.proofs.book.Book.judge_close.Goals as goal

pub returns : goal.returns
returns g c =
    close_granted c.args.self.now.contents c.as_slice.result.now _ c.in_ok-admit.ensures c.as_slice.ensures.value c.if-is_empty.ensures
