use Rattle.std.proofs.Common.{sym, arith}
use Rattle.sheet.proofs.Digits.{reads_back}
use Rattle.sheet.proofs.Lists.{taken_from}
use Rattle.sheet_write.proofs.laws.numbers_round.Goals as goal

pub returns : goal.returns
returns c = record {
  reads_back = λ limit v rest low high. reads_back limit v rest low (omega arith);
  writes_back = λ limit bytes v size fit e. sym (taken_from limit bytes v size fit e).shortest;
}
