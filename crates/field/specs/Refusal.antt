-- The number of each refusal of a field. Assumes nothing.
use Rattle.std.specs.Prelude.{ℕ}
use Rattle.field.specs.declared.refusal.Refusal.{Refusal}
use Rattle.field.specs.declared.refusal.Refusal.TheVariants.{UnknownField}

abbrev pub number_of : Refusal → ℕ
number_of UnknownField = 17
