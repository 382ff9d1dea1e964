-- The call that a record of a sheet makes. Assumes nothing.
use Rattle.std.specs.Prelude.{ℕ, zero, suc, ◌+◌, min, List, [], ◌∷◌, length, drop, replicate, slice_index}
use Rattle.algebra.specs.Term.{one}
use Rattle.algebra.specs.Polynomial.{Polynomial}
use Rattle.algebra.specs.declared.Entry.{Entry}
use Rattle.book.specs.Ledger.{Ledger}
use Rattle.run.specs.Calls.{Step, term, close, rule, strike, check, cofactor}
use Rattle.sheet.specs.declared.kind.Kind.{Kind}
use Rattle.sheet.specs.declared.kind.Kind.TheVariants.{Term, Close, Rule, Check, Question, Strike}
use Rattle.sheet.specs.Numbers.{numbers_of, exponents_of}
use Rattle.sheet.specs.Reading.{Seen}

-- a slot that nothing was written to
abbrev pub blank : Entry
blank = record { code = 0; multiplier = one; place = 0 }

-- a check and a question are lent 4,096 slots
abbrev pub slots : List Entry
slots = replicate 4096 blank

-- pairs one after the other, each a code and the exponents of n variables
abbrev pub pairs_from : ℕ → ℕ → List ℕ → Polynomial
pairs_from n zero xs = []
pairs_from n (suc count) xs = (slice_index xs 0, exponents_of n (drop 1 xs)) ∷ pairs_from n count (drop n (drop 1 xs))

-- what a record with the numbers xs asks of a book with n variables and D terms; a row of D codes is lent
abbrev pub call : ℕ → ℕ → Kind → List ℕ → Step
call n D Term xs = term (exponents_of n xs)
call n D Close xs = close
call n D Rule xs = rule (exponents_of n xs) (slice_index xs n) (drop (n + 1) xs)
call n D Check xs = check (replicate D 0) slots
call n D Question xs = cofactor (pairs_from n (slice_index xs 0) (drop 1 xs)) (replicate D 0) slots
call n D Strike xs = strike (exponents_of n xs)

-- a sheet has at most eight variables
abbrev pub step : Ledger → Seen → Step
step L x = call (min x.variables 8) (length L.terms) x.kind (numbers_of x.body)
