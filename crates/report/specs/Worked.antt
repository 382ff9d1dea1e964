-- The worked examples, computed through the definitions that the calls' contracts cite. Assumes nothing.
use Rattle.std.specs.Prelude.{◌≡◌, ℕ, zero, suc, ◌+◌, ◌%◌, Bool, true, false, cond, ◌&&◌, List, [], ◌∷◌, ◌++◌, map, length, take, drop, replicate, Some, Ok, Err, codes, Result, ◌==◌, nat_le}
use Rattle.field.specs.Supplied.{among, primes, modulo, binary_sizes, binary}
use Rattle.algebra.specs.Term.{Term, one}
use Rattle.algebra.specs.Border.{Row, border}
use Rattle.algebra.specs.Clash.{pairs}
use Rattle.algebra.specs.declared.Entry.{Entry}
use Rattle.book.specs.declared.refusal.Refusal.{Refusal}
use Rattle.book.specs.declared.refusal.Refusal.TheVariants.{VariablesOutOfRange, WrongPhase, ExponentPastVariables, TermPresent, TermNotJoined, TooManyTerms, NoTerms, NotOnBorder, WrongLength, CodeOutOfRange, ZeroLeadingCode, RuleMissing, TooManyPairs, DegreeTooHigh, EntriesTooShort, NoSuchVariable}
use Rattle.book.specs.declared.verdict.Verdict.TheVariants.{Consistent, Clashes}
use Rattle.book.specs.Phases.{number_of, beside}
use Rattle.book.specs.Ledger.{new_ledger}
use Rattle.run.specs.declared.call.Answer.{Answer}
use Rattle.run.specs.declared.call.Answer.TheVariants.{Done, Border, Checked, Formed, Counted}
use Rattle.run.specs.Calls.{Step, lay, term, close, rule, strike, check, form, cofactor, table}
use Rattle.run.specs.Runs.{Ran, run}
use Rattle.sheet.specs.declared.fault.RecordFault.TheVariants.{UnknownKind, WrongBody, WrongVariables, ShortOutput}
use Rattle.sheet.specs.declared.fault.SheetFault.TheVariants.{Record, WrongOpening, TooLong}
use Rattle.sheet.specs.Fault.{cause_number, fault_number}
use Rattle.sheet.specs.Number.{Reading, number_bytes, read_number}
use Rattle.sheet.specs.Reading.{open_sheet}
use Rattle.report.specs.Calls.{slots}
use Rattle.report.specs.Running.{report_lines, texts}

-- the term with these exponents of the first two variables
abbrev pub xy : ℕ → ℕ → Term
xy a b = a ∷ b ∷ 0 ∷ 0 ∷ 0 ∷ 0 ∷ 0 ∷ 0 ∷ []

abbrev pub square : List Term
square = xy 0 0 ∷ xy 1 0 ∷ xy 0 1 ∷ xy 1 1 ∷ []

-- the value that is read and 0, or 0 and the number of the fault
abbrev pub outcome : Reading → ℕ × ℕ
outcome (Ok p) = (p.0, 0)
outcome (Err cause) = (0, cause_number cause)

-- x1² = 2 over the residues modulo 3, and the question x1³
abbrev pub worked_sheet : List ℕ
worked_sheet =
    66 ∷ 66 ∷ 49 ∷ 0 ∷ 3 ∷ 1 ∷ (1 ∷ 1 ∷ 0 ∷ 1 ∷ 1 ∷ 1 ∷ 2 ∷ 0 ∷ (3 ∷ 4 ∷ 2 ∷ 1 ∷ 2 ∷ 0 ∷ (4 ∷ 0 ∷ (5 ∷ 3 ∷ 1 ∷ 1 ∷ 3 ∷ []))))

-- a slot that no call here writes
abbrev pub lent : Entry
lent = record { code = 7; multiplier = one; place = 7 }

abbrev pub ten : List Entry
ten = lent ∷ lent ∷ lent ∷ lent ∷ lent ∷ lent ∷ lent ∷ lent ∷ lent ∷ lent ∷ []

abbrev pub eight : List Entry
eight = lent ∷ lent ∷ lent ∷ lent ∷ lent ∷ lent ∷ lent ∷ lent ∷ []

abbrev pub fours : Row
fours = 7 ∷ 7 ∷ 7 ∷ 7 ∷ []

-- S = 1, x1, x2, x1x2 with x1² = 1, x2² = x2, x1²x2 = x2 and the given row for x1x2², then the given calls
abbrev pub square_with : Row → List Step → List Step
square_with r ss =
    lay 2 ∷ (map term square ++
    (close ∷ rule (xy 2 0) 1 (1 ∷ 0 ∷ 0 ∷ 0 ∷ []) ∷ rule (xy 0 2) 1 (0 ∷ 0 ∷ 1 ∷ 0 ∷ []) ∷ rule (xy 2 1) 1 (0 ∷ 0 ∷ 1 ∷ 0 ∷ []) ∷ rule (xy 1 2) 1 r ∷ ss))

-- S = 1, x1, x1x2, which does not hold the divisor x2, with x2 = x1x2, x1² = x1, x1²x2 = x1x2, x1x2² = x1x2
abbrev pub chain : List Step → List Step
chain ss =
    lay 2 ∷ term (xy 0 0) ∷ term (xy 1 0) ∷ term (xy 1 1) ∷ close ∷ rule (xy 0 1) 1 (0 ∷ 0 ∷ 1 ∷ []) ∷ rule (xy 2 0) 1 (0 ∷ 1 ∷ 0 ∷ []) ∷ rule (xy 2 1) 1 (0 ∷ 0 ∷ 1 ∷ []) ∷ rule (xy 1 2) 1 (0 ∷ 0 ∷ 1 ∷ []) ∷ ss

-- S = 1, x1 with x2 = 1, x1² = 0, x1x2 = 0: a clash where only one of the two products is a border term
abbrev pub short : List Step → List Step
short ss = lay 2 ∷ term (xy 0 0) ∷ term (xy 1 0) ∷ close ∷ rule (xy 0 1) 1 (1 ∷ 0 ∷ []) ∷ rule (xy 2 0) 1 (0 ∷ 0 ∷ []) ∷ rule (xy 1 1) 1 (0 ∷ 0 ∷ []) ∷ ss

abbrev pub said : List Ran → List (Result Answer Refusal)
said xs = map (λ (x : Ran). x.1) xs

-- the runs, modulo 3, of the calls after the first k
abbrev pub from : ℕ → List Step → List Ran
from k ss = drop k (run (modulo 3) new_ledger ss)

-- the term with these exponents of the first three variables
abbrev pub xyz : ℕ → ℕ → ℕ → Term
xyz a b d = a ∷ b ∷ d ∷ 0 ∷ 0 ∷ 0 ∷ 0 ∷ 0 ∷ []

-- the four readings (0, 0), (1, 0), (1, 1), (2, 1): x1² = x1 + x2 + 2 x1x2, x2² = x2, x1²x2 = x2, x1x2² = x1x2
abbrev pub readings : List Step → List Step
readings ss =
    lay 2 ∷ (map term square ++
    (close ∷ rule (xy 2 0) 1 (0 ∷ 1 ∷ 1 ∷ 2 ∷ []) ∷ rule (xy 0 2) 1 (0 ∷ 0 ∷ 1 ∷ 0 ∷ []) ∷ rule (xy 2 1) 1 (0 ∷ 0 ∷ 1 ∷ 0 ∷ []) ∷ rule (xy 1 2) 1 (0 ∷ 0 ∷ 0 ∷ 1 ∷ []) ∷ ss))

-- a book that is refused at every turn: calls and what they answer
abbrev pub refused_calls : List (Step × Result Answer Refusal)
refused_calls =
    (form ((7, xyz 25 25 25) ∷ []) [], Err WrongPhase) ∷ (cofactor ((7, xyz 25 25 25) ∷ []) [] [], Err WrongPhase) ∷ (check (7 ∷ []) [], Err WrongPhase) ∷ (rule (xyz 0 0 1) 7 [], Err WrongPhase) ∷ (strike (xyz 0 0 1), Err WrongPhase) ∷ (table 9 (7 ∷ []), Err WrongPhase)
    ∷ (term one, Ok Done) ∷ (term (xy 0 1), Err (ExponentPastVariables 1)) ∷ (term (xy 1 0), Ok Done) ∷ (lay 0, Err VariablesOutOfRange) ∷ (lay 9, Err VariablesOutOfRange) ∷ (lay 2, Ok Done)
    ∷ (close, Err NoTerms) ∷ (term (xy 1 0), Err TermNotJoined) ∷ (term (xyz 0 0 1), Err (ExponentPastVariables 1)) ∷ (term (0 ∷ 0 ∷ 0 ∷ 0 ∷ 0 ∷ 0 ∷ 0 ∷ 1 ∷ []), Err (ExponentPastVariables 1)) ∷ (term one, Ok Done)
    ∷ (term one, Err TermPresent) ∷ (term (xy 0 2), Err TermNotJoined) ∷ (term (xy 1 0), Ok Done) ∷ (rule (xy 0 1) 1 (1 ∷ 0 ∷ []), Err WrongPhase)
    ∷ (close, Ok (Border 3)) ∷ (form [] (7 ∷ 7 ∷ []), Err WrongPhase) ∷ (close, Err WrongPhase) ∷ (term (xyz 0 0 1), Err WrongPhase) ∷ (rule (xyz 0 0 1) 1 [], Err (ExponentPastVariables 1)) ∷ (rule one 1 [], Err NotOnBorder)
    ∷ (rule (xy 0 1) 7 [], Err WrongLength) ∷ (rule (xy 0 1) 3 (5 ∷ 0 ∷ []), Err (CodeOutOfRange 1)) ∷ (rule (xy 0 1) 0 (1 ∷ 3 ∷ []), Err (CodeOutOfRange 3))
    ∷ (rule (xy 0 1) 0 (1 ∷ 0 ∷ []), Err ZeroLeadingCode) ∷ (strike one, Err NotOnBorder) ∷ (strike (xy 2 0), Err (RuleMissing 2))
    ∷ (check (7 ∷ []) [], Err WrongLength) ∷ (check (7 ∷ 7 ∷ []) [], Err (RuleMissing 1))
    ∷ (rule (xy 0 1) 2 (2 ∷ 0 ∷ []), Ok Done) ∷ (check (7 ∷ 7 ∷ []) [], Err (RuleMissing 2)) ∷ (rule (xy 2 0) 1 (0 ∷ 0 ∷ []), Ok Done) ∷ (rule (xy 1 1) 2 (0 ∷ 2 ∷ []), Ok Done)
    ∷ (check (7 ∷ 7 ∷ []) (take 5 eight), Err EntriesTooShort) ∷ (form [] (7 ∷ 7 ∷ []), Err WrongPhase) ∷ (check (7 ∷ 7 ∷ []) (take 6 eight), Ok (Checked Consistent)) ∷ (check (7 ∷ 7 ∷ []) (take 6 eight), Ok (Checked Consistent))
    ∷ (form ((1, one) ∷ (5, xyz 0 0 1) ∷ []) [], Err (ExponentPastVariables 2)) ∷ (form ((5, one) ∷ []) (7 ∷ []), Err WrongLength) ∷ (form ((1, xy 25 0) ∷ (3, one) ∷ []) (7 ∷ 7 ∷ []), Err (CodeOutOfRange 2))
    ∷ (form (replicate 65 (1, xy 25 0)) (7 ∷ 7 ∷ []), Err TooManyPairs) ∷ (form (replicate 64 (1, xy 0 1)) (7 ∷ 7 ∷ []), Ok (Formed false)) ∷ (form ((0, xy 12 12) ∷ (0, xy 12 13) ∷ []) (7 ∷ 7 ∷ []), Err (DegreeTooHigh 2))
    ∷ (cofactor ((0, xy 1 1) ∷ []) (7 ∷ 7 ∷ []) (take 3 eight), Err EntriesTooShort) ∷ (cofactor ((0, xy 1 1) ∷ []) (7 ∷ 7 ∷ []) (take 4 eight), Ok (Counted 0 1))
    ∷ (table 3 (7 ∷ []), Err WrongLength) ∷ (table 3 fours, Err NoSuchVariable) ∷ (table 0 fours, Err NoSuchVariable) ∷ (term one, Err WrongPhase)
    ∷ (strike (xy 0 1), Ok Done) ∷ (table 1 fours, Err WrongPhase) ∷ (strike (xy 0 1), Err (RuleMissing 1)) ∷ (lay 1, Ok Done) ∷ (close, Err NoTerms) ∷ []

-- every refusal, with 5 for its place where it has one
abbrev pub all_refusals : List Refusal
all_refusals =
    VariablesOutOfRange ∷ WrongPhase ∷ ExponentPastVariables 5 ∷ TermPresent ∷ TermNotJoined ∷ TooManyTerms ∷ NoTerms ∷ NotOnBorder ∷ WrongLength ∷ CodeOutOfRange 5
    ∷ ZeroLeadingCode ∷ RuleMissing 5 ∷ TooManyPairs ∷ DegreeTooHigh 5 ∷ EntriesTooShort ∷ NoSuchVariable ∷ []

-- a sheet over the residues modulo 3 with one variable
abbrev pub modulo_3 : List ℕ → List ℕ
modulo_3 records = 66 ∷ 66 ∷ 49 ∷ 0 ∷ 3 ∷ 1 ∷ records

-- 2 x1² = 1 modulo 5, x1² = 2 over the field of order 4, two pairs in one question, and a clash
abbrev pub printing : List (List ℕ × List ℕ)
printing =
    (66 ∷ 66 ∷ 49 ∷ 0 ∷ 5 ∷ 1 ∷ (1 ∷ 1 ∷ 0 ∷ 1 ∷ 1 ∷ 1 ∷ 2 ∷ 0 ∷ (3 ∷ 4 ∷ 2 ∷ 2 ∷ 1 ∷ 0 ∷ (4 ∷ 0 ∷ (5 ∷ 3 ∷ 1 ∷ 1 ∷ 3 ∷ [])))), codes "check sound\nform 0 3 other 1\n")
    ∷ (66 ∷ 66 ∷ 49 ∷ 1 ∷ 2 ∷ 1 ∷ (1 ∷ 1 ∷ 0 ∷ 1 ∷ 1 ∷ 1 ∷ 2 ∷ 0 ∷ (3 ∷ 4 ∷ 2 ∷ 1 ∷ 2 ∷ 0 ∷ (4 ∷ 0 ∷ (5 ∷ 3 ∷ 1 ∷ 1 ∷ 4 ∷ [])))), codes "check sound\nform 3 0 other 2\n")
    ∷ (worked_sheet ++ (5 ∷ 5 ∷ 2 ∷ 1 ∷ 1 ∷ 2 ∷ 0 ∷ (5 ∷ 5 ∷ 2 ∷ 1 ∷ 2 ∷ 1 ∷ 0 ∷ [])), codes "check sound\nform 0 2 other 1\nform 2 1 other 0\nform 0 0 member 1\n")
    ∷ (66 ∷ 66 ∷ 49 ∷ 0 ∷ 3 ∷ 2 ∷ (1 ∷ 2 ∷ 0 ∷ 0 ∷ 1 ∷ 2 ∷ 1 ∷ 0 ∷ 2 ∷ 0 ∷ (3 ∷ 5 ∷ 0 ∷ 1 ∷ 1 ∷ 1 ∷ 0 ∷ (3 ∷ 5 ∷ 2 ∷ 0 ∷ 1 ∷ 0 ∷ 0 ∷ (3 ∷ 5 ∷ 1 ∷ 1 ∷ 1 ∷ 0 ∷ 0 ∷ (4 ∷ 0 ∷ []))))), codes "check clash 1 1 2\n") ∷ []

-- the numbers below n
abbrev pub below : ℕ → List ℕ
below zero = []
below (suc n) = below n ++ n ∷ []

-- a prime has just two divisors
abbrev pub divisors : ℕ → List ℕ → ℕ
divisors n [] = 0
divisors n (d ∷ ds) = cond (n % suc d == 0) 1 0 + divisors n ds

abbrev pub is_prime : ℕ → Bool
is_prime n = divisors n (below n) == 2

-- the terms 1, x1, .. of one variable
abbrev pub powers : ℕ → List Term
powers n = map (λ a. xy a 0) (below n)

-- sheets with a fault, and what is printed of them
abbrev pub faulty : List (List ℕ × List ℕ)
faulty =
    ([], codes "fault record 21 0 0\n") ∷ (66 ∷ 66 ∷ 48 ∷ 0 ∷ 3 ∷ 1 ∷ [], codes "fault record 21 0 0\n") ∷ (66 ∷ 66 ∷ 49 ∷ [], codes "fault number 18 3 0\n")
    ∷ (66 ∷ 66 ∷ 49 ∷ 2 ∷ [], codes "fault book 17 3 0\n") ∷ (66 ∷ 66 ∷ 49 ∷ 0 ∷ 4 ∷ [], codes "fault book 17 4 0\n") ∷ (66 ∷ 66 ∷ 49 ∷ 1 ∷ 5 ∷ 1 ∷ [], codes "fault book 17 4 0\n")
    ∷ (66 ∷ 66 ∷ 49 ∷ 0 ∷ 3 ∷ 128 ∷ 0 ∷ [], codes "fault number 19 5 0\n") ∷ (66 ∷ 66 ∷ 49 ∷ 0 ∷ 3 ∷ 9 ∷ [], codes "fault book 1 5 0\n")
    ∷ (modulo_3 (7 ∷ []), codes "fault record 22 6 1\n") ∷ (modulo_3 (1 ∷ []), codes "fault number 18 7 1\n") ∷ (modulo_3 (1 ∷ 2 ∷ 0 ∷ []), codes "fault record 23 6 1\n")
    ∷ (modulo_3 (1 ∷ 0 ∷ []), codes "fault number 18 8 1\n") ∷ (modulo_3 (1 ∷ 1 ∷ 128 ∷ 1 ∷ []), codes "fault number 18 8 1\n") ∷ (modulo_3 (1 ∷ 2 ∷ 0 ∷ 0 ∷ []), codes "fault record 23 6 1\n")
    ∷ (modulo_3 (1 ∷ 2 ∷ 128 ∷ 2 ∷ []), codes "fault number 20 8 1\n") ∷ (modulo_3 (2 ∷ 0 ∷ 2 ∷ 0 ∷ []), codes "fault book 7 6 1\n") ∷ (modulo_3 (3 ∷ 1 ∷ 2 ∷ []), codes "fault number 18 9 1\n") ∷ (modulo_3 (1 ∷ 1 ∷ 0 ∷ 4 ∷ 0 ∷ 2 ∷ 0 ∷ []), codes "fault book 2 9 2\n")
    ∷ (modulo_3 (3 ∷ 3 ∷ 128 ∷ 2 ∷ 1 ∷ []), codes "fault number 20 8 1\n") ∷ (modulo_3 (5 ∷ 4 ∷ 1 ∷ 1 ∷ 128 ∷ 2 ∷ []), codes "fault number 20 10 1\n") ∷ (modulo_3 (6 ∷ 2 ∷ 128 ∷ 2 ∷ []), codes "fault number 20 8 1\n")
    ∷ (modulo_3 (3 ∷ 4 ∷ 2 ∷ 1 ∷ 172 ∷ 2 ∷ []), codes "fault book 2 6 1\n") ∷ (modulo_3 (5 ∷ 2 ∷ 172 ∷ 2 ∷ []), codes "fault number 18 10 1\n")
    ∷ (modulo_3 (1 ∷ 241 ∷ 255 ∷ 3 ∷ []), codes "fault number 20 7 1\n") ∷ (modulo_3 (1 ∷ 240 ∷ 255 ∷ 3 ∷ []), codes "fault record 23 6 1\n")
    ∷ (modulo_3 (1 ∷ 1 ∷ 0 ∷ 2 ∷ 0 ∷ (3 ∷ 3 ∷ 1 ∷ 1 ∷ 2 ∷ (6 ∷ 1 ∷ 1 ∷ 4 ∷ 0 ∷ []))), codes "fault book 12 19 5\n")
    ∷ (worked_sheet ++ 10 ∷ [], codes "check sound\nform 0 2 other 1\nfault record 22 27 7\n") ∷ []

pub record Worked : Type 0 where
  -- fields
  pub two_times_two_of_four : (binary 2).product 2 2 ≡ 3
  pub two_times_three_of_four : (binary 2).product 2 3 ≡ 1
  pub two_times_eight_of_sixteen : (binary 4).product 2 8 ≡ 3
  pub inverse_of_two_modulo_31 : (modulo 31).inverse 2 ≡ Some 16
  -- numbers: 127 is 7F, 128 is 80 01, 300 is AC 02, 65,535 is FF FF 03; 80 00 is no shortest form, 80 and 80 80 are unfinished, 80 80 80 and a value past 65,535 are too large
  pub numbers_written : map number_bytes (127 ∷ 128 ∷ 300 ∷ 65535 ∷ []) ≡ (127 ∷ []) ∷ (128 ∷ 1 ∷ []) ∷ (172 ∷ 2 ∷ []) ∷ (255 ∷ 255 ∷ 3 ∷ []) ∷ []
  pub numbers_read : map (λ bs. outcome (read_number 65535 bs)) ((127 ∷ []) ∷ (128 ∷ 1 ∷ []) ∷ (172 ∷ 2 ∷ []) ∷ (255 ∷ 255 ∷ 3 ∷ []) ∷ []) ≡ (127, 0) ∷ (128, 0) ∷ (300, 0) ∷ (65535, 0) ∷ []
  pub numbers_refused : map (λ bs. outcome (read_number 65535 bs)) ((128 ∷ 0 ∷ []) ∷ (128 ∷ []) ∷ (128 ∷ 128 ∷ []) ∷ (128 ∷ 128 ∷ 128 ∷ []) ∷ (128 ∷ 128 ∷ 4 ∷ []) ∷ []) ≡ (0, 19) ∷ (0, 18) ∷ (0, 18) ∷ (0, 20) ∷ (0, 20) ∷ []
  -- a sheet
  pub sheet_printed : texts (report_lines worked_sheet) ≡ codes "check sound\nform 0 2 other 1\n"
  -- books
  pub square_border : border 2 square ≡ xy 2 0 ∷ xy 0 2 ∷ xy 2 1 ∷ xy 1 2 ∷ []
  pub square_closed : said (take 6 (run (modulo 3) new_ledger (square_with (0 ∷ 0 ∷ 1 ∷ 0 ∷ []) []))) ≡ Ok Done ∷ Ok Done ∷ Ok Done ∷ Ok Done ∷ Ok Done ∷ Ok (Border 4) ∷ []
  pub square_clashes : from 10 (square_with (0 ∷ 0 ∷ 1 ∷ 0 ∷ []) (check fours ten ∷ form [] fours ∷ [])) ≡
      (check (0 ∷ 0 ∷ 2 ∷ 1 ∷ []) (record { code = 1; multiplier = one; place = 4 } ∷ record { code = 2; multiplier = xy 1 0; place = 2 } ∷ eight), Ok (Checked (Clashes 3 1 2 2))) ∷ (form [] fours, Err WrongPhase) ∷ []
  -- the sound variant, in which the empty polynomial gives zeros, yes and count 0
  pub square_sound : from 10 (square_with (0 ∷ 0 ∷ 0 ∷ 1 ∷ []) (check fours ten ∷ form [] fours ∷ cofactor [] fours [] ∷ [])) ≡
      (check (0 ∷ 0 ∷ 0 ∷ 0 ∷ []) ten, Ok (Checked Consistent)) ∷ (form [] (0 ∷ 0 ∷ 0 ∷ 0 ∷ []), Ok (Formed true)) ∷ (cofactor [] (0 ∷ 0 ∷ 0 ∷ 0 ∷ []) [], Ok (Counted 0 1)) ∷ []
  pub verdict_ends : from 10 (square_with (0 ∷ 0 ∷ 0 ∷ 1 ∷ []) (check fours ten ∷ rule (xy 1 2) 1 (0 ∷ 0 ∷ 0 ∷ 1 ∷ []) ∷ form [] fours ∷ strike (xy 0 2) ∷ check fours ten ∷ [])) ≡
      (check (0 ∷ 0 ∷ 0 ∷ 0 ∷ []) ten, Ok (Checked Consistent)) ∷ (rule (xy 1 2) 1 (0 ∷ 0 ∷ 0 ∷ 1 ∷ []), Ok Done) ∷ (form [] fours, Err WrongPhase) ∷ (strike (xy 0 2), Ok Done) ∷ (check fours ten, Err (RuleMissing 2)) ∷ []
  pub chain_sound : from 9 (chain (check (7 ∷ 7 ∷ 7 ∷ []) eight ∷ form ((1, xy 0 2) ∷ []) (7 ∷ 7 ∷ 7 ∷ []) ∷ [])) ≡
      (check (0 ∷ 0 ∷ 0 ∷ []) eight, Ok (Checked Consistent)) ∷ (form ((1, xy 0 2) ∷ []) (0 ∷ 0 ∷ 1 ∷ []), Ok (Formed false)) ∷ []
  pub short_clashes : said (from 7 (short (check (7 ∷ 7 ∷ []) eight ∷ []))) ≡ Ok (Checked (Clashes 1 1 2 2)) ∷ []
  -- a walk of three steps lists its entries in order, each with the product of the variables to come
  pub cofactors_in_order : from 10 (square_with (0 ∷ 0 ∷ 0 ∷ 1 ∷ []) (check fours ten ∷ cofactor ((2, xy 3 1) ∷ []) fours (lent ∷ lent ∷ lent ∷ lent ∷ lent ∷ lent ∷ lent ∷ lent ∷ eight) ∷ [])) ≡
      (check (0 ∷ 0 ∷ 0 ∷ 0 ∷ []) ten, Ok (Checked Consistent)) ∷ (cofactor ((2, xy 3 1) ∷ []) (0 ∷ 0 ∷ 0 ∷ 2 ∷ []) (record { code = 2; multiplier = xy 1 1; place = 1 } ∷ (lent ∷ lent ∷ lent ∷ lent ∷ lent ∷ lent ∷ lent ∷ eight)), Ok (Counted 1 0)) ∷ []
  pub table_of_the_second : from 11 (square_with (0 ∷ 0 ∷ 0 ∷ 1 ∷ []) (check fours ten ∷ table 2 (fours ++ (fours ++ (fours ++ fours))) ∷ [])) ≡
      (table 2 (0 ∷ 0 ∷ 1 ∷ 0 ∷ (0 ∷ 0 ∷ 0 ∷ 1 ∷ (0 ∷ 0 ∷ 1 ∷ 0 ∷ (0 ∷ 0 ∷ 0 ∷ 1 ∷ [])))), Ok Done) ∷ []
  -- a border term stands where it first arises; the pairs of variables come by the first and then by the second
  pub border_first_arises : border 3 (xyz 0 0 0 ∷ xyz 1 0 0 ∷ xyz 0 1 0 ∷ xyz 0 0 1 ∷ []) ≡ xyz 2 0 0 ∷ xyz 1 1 0 ∷ xyz 1 0 1 ∷ xyz 0 2 0 ∷ xyz 0 1 1 ∷ xyz 0 0 2 ∷ []
  pub pairs_in_order : pairs 4 ≡ (0, 1) ∷ (0, 2) ∷ (0, 3) ∷ (1, 2) ∷ (1, 3) ∷ (2, 3) ∷ []
  -- two entries of one step stand in the order of the terms
  pub readings_entries : from 11 (readings (check fours ten ∷ cofactor ((1, xy 3 0) ∷ []) fours (lent ∷ lent ∷ ten) ∷ [])) ≡
      (cofactor ((1, xy 3 0) ∷ []) (0 ∷ 1 ∷ 0 ∷ 0 ∷ []) (record { code = 1; multiplier = xy 1 0; place = 1 } ∷ record { code = 1; multiplier = one; place = 1 } ∷ record { code = 2; multiplier = one; place = 3 } ∷ (lent ∷ eight)), Ok (Counted 3 0)) ∷ []
  -- 2 x1² = 1 modulo 5 is kept as x1² = 3
  pub leading_code_kept : drop 6 (run (modulo 5) new_ledger (lay 1 ∷ term one ∷ term (xy 1 0) ∷ close ∷ rule (xy 2 0) 2 (1 ∷ 0 ∷ []) ∷ check (7 ∷ 7 ∷ []) eight ∷ form ((1, xy 3 0) ∷ []) (7 ∷ 7 ∷ []) ∷ [])) ≡
      (form ((1, xy 3 0) ∷ []) (0 ∷ 3 ∷ []), Ok (Formed false)) ∷ []
  -- refusals
  pub refused : said (run (modulo 3) new_ledger (map (λ (x : Step × Result Answer Refusal). x.0) refused_calls)) ≡ map (λ (x : Step × Result Answer Refusal). x.1) refused_calls
  pub refusals_numbered : map {B = ℕ × ℕ} (λ r. (number_of r, beside r)) all_refusals ≡
      (1, 0) ∷ (2, 0) ∷ (3, 5) ∷ (4, 0) ∷ (5, 0) ∷ (6, 0) ∷ (7, 0) ∷ (8, 0) ∷ (9, 0) ∷ (10, 5) ∷ (11, 0) ∷ (12, 5) ∷ (13, 0) ∷ (14, 5) ∷ (15, 0) ∷ (16, 0) ∷ []
  -- faults
  pub faults_printed : map (λ (x : List ℕ × List ℕ). texts (report_lines x.0)) faulty ≡ map (λ (x : List ℕ × List ℕ). x.1) faulty
  pub sheets_printed : map (λ (x : List ℕ × List ℕ). texts (report_lines x.0)) printing ≡ map (λ (x : List ℕ × List ℕ). x.1) printing
  pub faults_numbered : map fault_number (TooLong ∷ Record ShortOutput ∷ WrongOpening ∷ Record (UnknownKind 1 1) ∷ Record (WrongBody 1 1) ∷ Record WrongVariables ∷ []) ≡ 25 ∷ 24 ∷ 21 ∷ 22 ∷ 23 ∷ 1 ∷ []
  pub longest_sheet : map (λ n. open_sheet (replicate n 66)) (65535 ∷ 65536 ∷ []) ≡ Err WrongOpening ∷ Err TooLong ∷ []
  -- limits: 32 terms, 4,096 slots, the primes up to 31
  pub terms_at_most_32 : said (drop 1 (run (modulo 3) new_ledger (lay 1 ∷ map term (powers 33)))) ≡ replicate 32 (Ok Done) ++ Err TooManyTerms ∷ []
  pub slots_lent : length slots ≡ 4096
  pub primes_listed : map (among primes) (below 37) ≡ map is_prime (below 37)
  pub binary_sizes_listed : map (among binary_sizes) (below 9) ≡ map (λ k. nat_le 2 k && nat_le k 4) (below 9)
  -- the entries of one pair come before those of the next
  pub pairs_listed_in_turn : from 11 (square_with (0 ∷ 0 ∷ 0 ∷ 1 ∷ []) (check fours ten ∷ cofactor ((1, xy 2 0) ∷ (1, xy 0 2) ∷ []) fours (lent ∷ lent ∷ lent ∷ lent ∷ lent ∷ lent ∷ ten) ∷ [])) ≡
      (cofactor ((1, xy 2 0) ∷ (1, xy 0 2) ∷ []) (1 ∷ 0 ∷ 1 ∷ 0 ∷ []) (record { code = 1; multiplier = one; place = 1 } ∷ record { code = 1; multiplier = one; place = 2 } ∷ (lent ∷ lent ∷ lent ∷ lent ∷ ten)), Ok (Counted 2 0)) ∷ []
