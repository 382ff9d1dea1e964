-- Which field a value of the library stands for. Assumes nothing.
use Rattle.std.specs.Prelude.{ℕ}
use Rattle.field.specs.declared.prime.Prime.{Prime}
use Rattle.field.specs.declared.binary.Binary.{Binary}

abbrev pub modulus : Prime → ℕ
modulus f = f.p

abbrev pub size : Binary → ℕ
size f = f.k
