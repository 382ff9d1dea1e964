-- Worked examples of the supplied fields. Assumes nothing.
use Rattle.std.specs.Prelude.{◌≡◌, Some}
use Rattle.field.specs.Supplied.{modulo, binary}

pub record Worked : Type 0 where
  pub two_times_two_of_four : (binary 2).product 2 2 ≡ 3
  pub two_times_three_of_four : (binary 2).product 2 3 ≡ 1
  pub two_times_eight_of_sixteen : (binary 4).product 2 8 ≡ 3
  pub inverse_of_two_modulo_31 : (modulo 31).inverse 2 ≡ Some 16
