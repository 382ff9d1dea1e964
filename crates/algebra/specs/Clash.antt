-- Commuting maps, and the first place where they do not. Assumes nothing.
use Rattle.std.specs.Prelude.{◌≡◌, ℕ, zero, suc, ◌<◌, true, cond, List, [], ◌∷◌, ◌++◌, map, Some, None, Option}
use Rattle.field.specs.Arithmetic.{Ring}
use Rattle.algebra.specs.Term.{Term, has}
use Rattle.algebra.specs.Border.{Row, System}
use Rattle.algebra.specs.declared.Clash.{Clash}
use Rattle.algebra.specs.declared.Entry.{Entry}
use Rattle.algebra.specs.Walk.{add_rows, unit, mapped, entries, all_zero}

-- MaMb(t): the row of t mapped by b and then by a
abbrev pub twice : Ring → System → ℕ → ℕ → Term → Row
twice R B a b t = mapped R B a (mapped R B b (unit B.terms t))

-- the maps commute on S
abbrev pub Commute : Ring → System → Type 0
Commute R B = (t : Term) → has t B.terms ≡ true → (a b : ℕ) → a < B.variables → b < B.variables → twice R B a b t ≡ twice R B b a t

abbrev pub negative_row : Ring → Row → Row
negative_row R v = map R.negative v

-- MaMb(t) − MbMa(t)
abbrev pub commutator : Ring → System → ℕ → ℕ → Term → Row
commutator R B a b t = add_rows R (twice R B a b t) (negative_row R (twice R B b a t))

abbrev pub negative_entries : Ring → List Entry → List Entry
negative_entries R es = map (λ (e : Entry). record { code = R.negative e.code; multiplier = e.multiplier; place = e.place }) es

-- the walk of t by a and then b, and after it the walk by b and then a with codes negated
abbrev pub commutator_entries : Ring → System → ℕ → ℕ → Term → List Entry
commutator_entries R B a b t =
    entries R B (unit B.terms t) (a ∷ b ∷ []) ++ negative_entries R (entries R B (unit B.terms t) (b ∷ a ∷ []))

-- the pairs a < b of the variables from a on, by a and then by b
abbrev pub pairs_with : ℕ → ℕ → ℕ → List (ℕ × ℕ)
pairs_with a b zero = []
pairs_with a b (suc n) = (a, b) ∷ pairs_with a (suc b) n

abbrev pub pairs_from : ℕ → ℕ → List (ℕ × ℕ)
pairs_from a zero = []
pairs_from a (suc n) = pairs_with a (suc a) n ++ pairs_from (suc a) n

abbrev pub pairs : ℕ → List (ℕ × ℕ)
pairs n = pairs_from 0 n

-- the first pair for which the maps do not commute at t
abbrev pub clash_at : Ring → System → Term → List (ℕ × ℕ) → Option (ℕ × ℕ)
clash_at R B t [] = None
clash_at R B t (x ∷ xs) = let later = clash_at R B t xs in cond (all_zero (commutator R B x.0 x.1 t)) later (Some x)

abbrev pub clash_or : ℕ → Option (ℕ × ℕ) → Option Clash → Option Clash
clash_or k None later = later
clash_or k (Some x) later = Some (record { term = k; a = x.0; b = x.1 })

abbrev pub clash_from : Ring → System → ℕ → List Term → Option Clash
clash_from R B k [] = None
clash_from R B k (t ∷ ts) = let later = clash_from R B (suc k) ts in clash_or k (clash_at R B t (pairs B.variables)) later

-- the first clash, by the terms in order and then by the pairs
abbrev pub first_clash : Ring → System → Option Clash
first_clash R B = clash_from R B 0 B.terms
