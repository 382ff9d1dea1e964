-- The field of order 9: residues modulo 3 with a root i of −1. The code a + 3·b stands for a + b·i. Assumes nothing.
use Rattle.std.specs.Prelude.{ℕ, ◌+◌, ◌-◌, ◌*◌, ◌/◌, ◌%◌}
use Rattle.field.specs.Arithmetic.{Arithmetic}
use Rattle.field.specs.Supplied.{on_codes}

abbrev pub re : ℕ → ℕ
re a = a % 3

abbrev pub im : ℕ → ℕ
im a = a / 3

abbrev pub nine_code : ℕ → ℕ → ℕ
nine_code a b = a % 3 + 3 * (b % 3)

abbrev pub nine_sum : ℕ → ℕ → ℕ
nine_sum a b = nine_code (re a + re b) (im a + im b)

abbrev pub nine_negative : ℕ → ℕ
nine_negative a = nine_code (3 - re a) (3 - im a)

-- i² is −1, which is 2 modulo 3
abbrev pub nine_product : ℕ → ℕ → ℕ
nine_product a b = nine_code (re a * re b + 2 * (im a * im b)) (re a * im b + im a * re b)

abbrev pub nine_field : Arithmetic
nine_field = on_codes 9 nine_sum nine_negative nine_product
