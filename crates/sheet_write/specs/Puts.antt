-- What putting bytes does to a writer. Assumes nothing.
use Rattle.std.specs.Prelude.{◌≡◌, ℕ, ◌+◌, List, length}
use Rattle.sheet_write.specs.declared.writer.Writer.{Writer}
use Rattle.sheet_write.specs.Writing.{pasted}

-- the bytes stand where the writer stood, it stands after them, and the output is as long as it was
pub record Puts (old new : Writer) (bs : List ℕ) : Type 0 where
  pub at : new.at ≡ old.at + length bs
  pub out : new.out.now ≡ pasted old.at bs old.out.now
  pub len : length new.out.now ≡ length old.out.now
