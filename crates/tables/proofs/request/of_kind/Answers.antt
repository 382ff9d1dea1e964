use Rattle.std.proofs.Common.{rules, ◌≡◌, codes, ap, sym}
use Rattle.tables.specs.Request.{of_kind}
use Rattle.tables.proofs.Readings.{is_binary}
use Rattle.tables.proofs.request.of_kind.Goals as goal

pub returns-in-binary : goal.returns-in-binary
returns-in-binary c = let same : c.args.word.now ≡ codes "binary" = search (rules, is_binary) in ap (λ w. of_kind w c.args.n) (sym same)
