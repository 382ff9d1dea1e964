use Rattle.sheet_write.proofs.Readbacks.{record_reads_back}
use Rattle.sheet_write.proofs.Writebacks.{record_writes_back}
use Rattle.sheet_write.proofs.laws.records_round.Goals as goal

pub returns : goal.returns
returns c = record { reads_back = record_reads_back; writes_back = record_writes_back }
