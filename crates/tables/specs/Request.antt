-- What a line of input asks for: a kind of field, a space, and a number in decimal digits. Assumes nothing.
use Rattle.std.specs.Prelude.{ℕ, ◌+◌, ◌-◌, ◌*◌, min, Bool, cond, ◌&&◌, List, [], ◌∷◌, Some, None, Ok, Err, codes, Option, Result, ◌==◌, nat_le}
use Rattle.std.specs.Str.{bytes_eq}
use Rattle.tables.specs.declared.request.Request.{Request}
use Rattle.tables.specs.declared.request.Request.TheVariants.{PrimeField, BinaryField}
use Rattle.tables.specs.declared.request.RequestError.{RequestError}
use Rattle.tables.specs.declared.request.RequestError.TheVariants.{UnknownKind, NoPair}

abbrev pub is_digit : ℕ → Bool
is_digit b = nat_le 48 b && nat_le b 57

-- the number read so far and the digits to come; a number past 65,535 counts as 65,535, which no field has
abbrev pub digits_on : ℕ → List ℕ → Option ℕ
digits_on n [] = Some n
digits_on n (b ∷ bs) = let more = digits_on (min (10 * n + (b - 48)) 65535) bs in cond (is_digit b) more None

abbrev pub decimal_number : List ℕ → Option ℕ
decimal_number [] = None
decimal_number (b ∷ bs) = digits_on 0 (b ∷ bs)

abbrev pub of_kind : List ℕ → ℕ → Result Request RequestError
of_kind word n = cond (bytes_eq word (codes "prime")) (Ok (PrimeField n)) (cond (bytes_eq word (codes "binary")) (Ok (BinaryField n)) (Err UnknownKind))

abbrev pub with_number : List ℕ → Option ℕ → Result Request RequestError
with_number [] o = Err NoPair
with_number (b ∷ bs) None = Err NoPair
with_number (b ∷ bs) (Some n) = of_kind (b ∷ bs) n

-- the bytes before the first space, and those after it where there is one
abbrev pub first_word : List ℕ → List ℕ
first_word [] = []
first_word (b ∷ bs) = cond (b == 32) [] (b ∷ first_word bs)

abbrev pub after_word : List ℕ → List ℕ
after_word [] = []
after_word (b ∷ bs) = cond (b == 32) bs (after_word bs)

abbrev pub request : List ℕ → Result Request RequestError
request line = with_number (first_word line) (decimal_number (after_word line))
