-- A rule is kept as a row that its leading code times gives back the row given. Assumes nothing.
use Rattle.std.proofs.Common.{◌≡◌, ℕ, zero, suc, ◌<◌, ◌≤◌, Bool, true, false, cond, not, ltb, List, [], ◌∷◌, map, length, Option, unwrap_or, refl, ap, ◌∙◌, arith}
use Rattle.std.proofs.lemmas.Bool.{ltb-true}
use Rattle.field.specs.Arithmetic.{Arithmetic, ring, Lawful}
use Rattle.field.specs.Derived.{Derived}
use Rattle.field.specs.Laws.{derivable, read_code}
use Rattle.algebra.specs.Term.{Term, same, place, next_place}
use Rattle.algebra.specs.Border.{Row}
use Rattle.term.specs.Search.{first_place}
use Rattle.book.specs.Judge.{unfit}
use Rattle.book.specs.Effects.{kept_row}

abbrev pub AllBelow : ℕ → List ℕ → Type 0
AllBelow q [] = Unit {0}
AllBelow q (c ∷ cs) = (c < q) × AllBelow q cs

-- no code is refused, so each is below the order
pub all_fit : (q : ℕ) (cs : List ℕ) → first_place (unfit q) cs ≡ 0 → AllBelow q cs
all_fit q [] e = tt
all_fit q (c ∷ cs) e = go (ltb c q) refl (first_place (unfit q) cs) refl (all_fit q cs) e
  where
    go : (b : Bool) → ltb c q ≡ b → (k : ℕ) → first_place (unfit q) cs ≡ k → (first_place (unfit q) cs ≡ 0 → AllBelow q cs) → cond (not b) 1 (next_place k) ≡ 0 → (c < q) × AllBelow q cs
    go true d zero f later h = (ltb-true c q d, later f)
    go true d (suc k) f later h = absurd (omega arith)
    go false d k f later h = absurd (omega arith)

module _ (A : Arithmetic) (laws : Lawful A) (k : ℕ) (low : 0 < k) (fits : k < A.order) where
  D : Derived (ring A)
  D = derivable (ring A) laws.commutative_ring

  -- the code that the row is scaled by
  inverse_value : (b : ℕ) × (unwrap_or (A.inverse k) 0 ≡ b) × (A.product k b ≡ 1)
  inverse_value = let i = laws.inverse_law k fits low in (i.0, ap (λ (o : Option ℕ). unwrap_or o 0) i.1, i.3)

  one_back : (c : ℕ) → c < A.order → A.product k (A.product c (unwrap_or (A.inverse k) 0)) ≡ c
  one_back c h =
      let b = inverse_value.0 in
      ap (λ v. A.product k (A.product c v)) inverse_value.1
      ∙ D.product_comm k (A.product c b)
      ∙ D.product_assoc c b k
      ∙ ap (A.product c) (D.product_comm b k ∙ inverse_value.2)
      ∙ D.product_one c
      ∙ read_code A.order c h

  pub row_back : (r : Row) → AllBelow A.order r → map (A.product k) (kept_row A k r) ≡ r
  row_back [] h = refl
  row_back (c ∷ r) h = λ i. one_back c h.0 i ∷ row_back r h.1 i
