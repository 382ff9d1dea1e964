use Rattle.std.proofs.Common.{refl}
use Rattle.std.specs.Fmt.{digits}
use Rattle.report.proofs.worked.worked_examples.Goals as goal

pub returns : goal.returns
unfolding digits
returns c = record {
  two_times_two_of_four = refl;
  two_times_three_of_four = refl;
  two_times_eight_of_sixteen = refl;
  inverse_of_two_modulo_31 = refl;
  numbers_written = refl;
  numbers_read = refl;
  numbers_refused = refl;
  sheet_printed = refl;
  square_border = refl;
  square_closed = refl;
  square_clashes = refl;
  square_sound = refl;
  verdict_ends = refl;
  chain_sound = refl;
  short_clashes = refl;
  cofactors_in_order = refl;
  table_of_the_second = refl;
  border_first_arises = refl;
  pairs_in_order = refl;
  readings_entries = refl;
  leading_code_kept = refl;
  refused = refl;
  refusals_numbered = refl;
  faults_printed = refl;
  sheets_printed = refl;
  faults_numbered = refl;
  longest_sheet = refl;
  terms_at_most_32 = refl;
  slots_lent = refl;
  primes_listed = refl;
  binary_sizes_listed = refl;
  pairs_listed_in_turn = refl;
}
