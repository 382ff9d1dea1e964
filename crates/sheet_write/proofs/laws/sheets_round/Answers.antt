use Rattle.sheet_write.proofs.Rewrites.{read_writes_back}
use Rattle.sheet_write.proofs.Sheets.{headed, sheet_back, one_list, one_sheet}
use Rattle.sheet_write.proofs.laws.sheets_round.Goals as goal

pub returns : goal.returns
returns c = record { headed = headed; reads_back = sheet_back; one_list = one_list; one_sheet = one_sheet; read_writes_back = read_writes_back }
