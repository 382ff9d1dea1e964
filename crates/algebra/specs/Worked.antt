-- Worked examples, counted modulo 3. Assumes nothing.
use Rattle.std.specs.Prelude.{◌≡◌, ℕ, List, [], ◌∷◌, Some, None}
use Rattle.field.specs.Arithmetic.{Ring, ring}
use Rattle.field.specs.Supplied.{modulo}
use Rattle.algebra.specs.Term.{Term, one}
use Rattle.algebra.specs.Border.{System, Row, border, borders}
use Rattle.algebra.specs.Clash.{first_clash, commutator, commutator_entries}

abbrev pub three : Ring
three = ring (modulo 3)

-- the term with these exponents of the first two variables
abbrev pub xy : ℕ → ℕ → Term
xy a b = a ∷ b ∷ 0 ∷ 0 ∷ 0 ∷ 0 ∷ 0 ∷ 0 ∷ []

abbrev pub square : List Term
square = xy 0 0 ∷ xy 1 0 ∷ xy 0 1 ∷ xy 1 1 ∷ []

-- x1² = 1, x2² = x2, x1²x2 = x2, and the given row for x1x2²
abbrev pub square_with : Row → System
square_with r = record {
  variables = 2;
  terms = square;
  rows = (1 ∷ 0 ∷ 0 ∷ 0 ∷ []) ∷ (0 ∷ 0 ∷ 1 ∷ 0 ∷ []) ∷ (0 ∷ 0 ∷ 1 ∷ 0 ∷ []) ∷ r ∷ [];
}

-- S = 1, x1, x1x2, which does not hold the divisor x2: x2 = x1x2, x1² = x1, x1²x2 = x1x2, x1x2² = x1x2
abbrev pub chain : System
chain = record {
  variables = 2;
  terms = xy 0 0 ∷ xy 1 0 ∷ xy 1 1 ∷ [];
  rows = (0 ∷ 0 ∷ 1 ∷ []) ∷ (0 ∷ 1 ∷ 0 ∷ []) ∷ (0 ∷ 0 ∷ 1 ∷ []) ∷ (0 ∷ 0 ∷ 1 ∷ []) ∷ [];
}

-- S = 1, x1 with x2 = 1, x1² = 0, x1x2 = 0: a clash where only one of the two products is a border term
abbrev pub short : System
short = record { variables = 2; terms = xy 0 0 ∷ xy 1 0 ∷ []; rows = (1 ∷ 0 ∷ []) ∷ (0 ∷ 0 ∷ []) ∷ (0 ∷ 0 ∷ []) ∷ [] }

pub record Worked : Type 0 where
  pub square_border : border 2 square ≡ xy 2 0 ∷ xy 0 2 ∷ xy 2 1 ∷ xy 1 2 ∷ []
  pub square_clashes : first_clash three (square_with (0 ∷ 0 ∷ 1 ∷ 0 ∷ [])) ≡ Some (record { term = 2; a = 0; b = 1 })
  pub square_commutator : commutator three (square_with (0 ∷ 0 ∷ 1 ∷ 0 ∷ [])) 0 1 (xy 0 1) ≡ 0 ∷ 0 ∷ 2 ∷ 1 ∷ []
  pub square_entries : commutator_entries three (square_with (0 ∷ 0 ∷ 1 ∷ 0 ∷ [])) 0 1 (xy 0 1) ≡ record { code = 1; multiplier = one; place = 4 } ∷ record { code = 2; multiplier = xy 1 0; place = 2 } ∷ []
  pub square_sound : first_clash three (square_with (0 ∷ 0 ∷ 0 ∷ 1 ∷ [])) ≡ None
  pub chain_border : borders chain ≡ xy 0 1 ∷ xy 2 0 ∷ xy 2 1 ∷ xy 1 2 ∷ []
  pub chain_sound : first_clash three chain ≡ None
  pub short_border : borders short ≡ xy 0 1 ∷ xy 2 0 ∷ xy 1 1 ∷ []
  pub short_clashes : first_clash three short ≡ Some (record { term = 0; a = 0; b = 1 })
