-- The walks that the code runs, by stored leads and rows, are the walks of the algebra. Assumes nothing.
use Rattle.std.proofs.Common.{◌≡◌, ℕ, ◌<◌, ◌≤◌, Bool, true, false, cond, eqb, List, [], ◌∷◌, ◌++◌, length, get_or, take, sym, refl, ap, ◌∙◌, ⊎_elim, arith}
use Rattle.std.proofs.lemmas.Bool.{cases_Bool, cond-true, cond-false, eqb-true, le-leb, or_parts, both_ways}
use Rattle.field.specs.Arithmetic.{Ring, CommutativeRing}
use Rattle.field.specs.Laws.{derived, read_code, sum_right}
use Rattle.algebra.specs.Term.{Term, times, same, has, place, next_place, spelled, Letters}
use Rattle.algebra.specs.Border.{Row, System, borders, at_place, codes_below, IsRow, LawfulSystem}
use Rattle.algebra.specs.Walk.{zeros, add_rows, scale, unit, image, map_onto, mapped, last_row, entry_at, step_entries, entries}
use Rattle.algebra.proofs.Terms.{same_true, same_refl, same_sym, has_head, has_tail, has_cases, apart}
use Rattle.algebra.proofs.Borders.{Distinct, stands, connected_distinct, product_leads, not_in_border, not_in_set, place_absent}
use Rattle.algebra.proofs.Rows.{zeros_row, add_row, map_length}
use Rattle.algebra.proofs.Basis.{image_length, mapped_row}
use Rattle.row.specs.declared.lead.Lead.{Lead}
use Rattle.row.specs.declared.lead.Lead.TheVariants.{Inside, OnBorder}
use Rattle.row.specs.Sums.{add_multiple, add_at, zeros_like}
use Rattle.row.specs.Leads.{add_led, map_led, advanced}
use Rattle.row.specs.Listing.{led_entry, step_led, walk_row, walk_entries}
use Rattle.book.specs.Leading.{lead, leads_of}

-- stored rows of a system: each longer row begins with the system's row
abbrev pub Stored : System → List Row → Type 0
Stored B stored = (k : ℕ) → k < length (borders B) → (length B.terms ≤ length (get_or stored k [])) × (get_or B.rows k [] ≡ take (length B.terms) (get_or stored k []))

-- stored leads: those of each variable come first in its column
abbrev pub Led : System → List (List Lead) → Type 0
Led B leads = (i : ℕ) → i < B.variables → (more : List Lead) × (get_or leads i [] ≡ leads_of B.terms (borders B) i B.terms ++ more)

-- a row cleared is the row of zeros
pub zeros_like_is : (v : Row) (ts : List Term) → length v ≡ length ts → zeros_like v ≡ zeros ts
zeros_like_is [] [] h = refl
zeros_like_is [] (t ∷ ts) h = absurd (omega arith)
zeros_like_is (a ∷ v) [] h = absurd (omega arith)
zeros_like_is (a ∷ v) (t ∷ ts) h = ap (λ (u : Row). 0 ∷ u) (zeros_like_is v ts (omega arith))

module _ {R : Ring} (laws : CommutativeRing R) where
  -- a multiple of a longer row is added as its front
  add_multiple_is : (v : Row) (c : ℕ) (w : Row) → length v ≤ length w → add_multiple R v c w ≡ add_rows R v (scale R c (take (length v) w))
  add_multiple_is [] c w h = refl
  add_multiple_is (a ∷ v) c [] h = absurd (omega arith)
  add_multiple_is (a ∷ v) c (b ∷ w) h = ap (λ (u : Row). R.sum a (R.product c b) ∷ u) (add_multiple_is v c w (omega arith))

  add_zero_row : (v w : Row) (c : ℕ) → codes_below R.order v → length w ≡ length v → c ≡ 0 → add_rows R v (scale R c w) ≡ v
  add_zero_row [] [] c k h z = refl
  add_zero_row [] (b ∷ w) c k h z = absurd (omega arith)
  add_zero_row (a ∷ v) [] c k h z = absurd (omega arith)
  add_zero_row (a ∷ v) (b ∷ w) c k h z =
      let head : R.sum a (R.product c b) ≡ a =
      ap (λ (x : ℕ). R.sum a (R.product x b)) z ∙ ap (R.sum a) ((derived laws).zero_product b) ∙ (derived laws).sum_zero a ∙ read_code _ a k.0 in
      λ i. head i ∷ add_zero_row v w c k.1 (omega arith) z i

  -- a code is added at the place of a term
  absent_unit : (v : Row) (ts : List Term) (e : Term) (c : ℕ) → codes_below R.order v → length v ≡ length ts → has e ts ≡ false → add_rows R v (scale R c (unit ts e)) ≡ v
  absent_unit [] [] e c k h n = refl
  absent_unit [] (t ∷ ts) e c k h n = absurd (omega arith)
  absent_unit (a ∷ v) [] e c k h n = absurd (omega arith)
  absent_unit (a ∷ v) (t ∷ ts) e c k h n =
      let p = or_parts (same e t) (has e ts) n in
      let head : R.sum a (R.product c (cond (same t e) 1 0)) ≡ a =
      ap (λ (x : ℕ). R.sum a (R.product c x)) (cond-false _ 1 0 (same_sym e t p.0)) ∙ ap (R.sum a) ((derived laws).product_zero c) ∙ (derived laws).sum_zero a ∙ read_code _ a k.0 in
      λ i. head i ∷ absent_unit v ts e c k.1 (omega arith) p.1 i

  add_unit : (v : Row) (ts : List Term) (e : Term) (c : ℕ) → codes_below R.order v → length v ≡ length ts → Distinct ts → has e ts ≡ true → add_at R v (place e ts) c ≡ add_rows R v (scale R c (unit ts e))
  add_unit v [] e c k h d n = absurd (both_ways false refl n)
  add_unit [] (t ∷ ts) e c k h d n = absurd (omega arith)
  add_unit (a ∷ v) (t ∷ ts) e c k h d n = go (same e t) refl (add_unit v ts e c k.1 (omega arith) d.1)
    where
      go : (b : Bool) → same e t ≡ b → (has e ts ≡ true → add_at R v (place e ts) c ≡ add_rows R v (scale R c (unit ts e))) → add_at R (a ∷ v) (place e (t ∷ ts)) c ≡ add_rows R (a ∷ v) (scale R c (unit (t ∷ ts) e))
      go true q rest =
          let p = same_true e t q in
          let here : same t e ≡ true = ap (λ (x : Term). same t x) p ∙ same_refl t in
          let head : R.sum a c ≡ R.sum a (R.product c (cond (same t e) 1 0)) =
          sym (ap (λ (x : ℕ). R.sum a (R.product c x)) (cond-true _ 1 0 here) ∙ ap (R.sum a) ((derived laws).product_one c) ∙ sum_right laws a c) in
          let tail : v ≡ add_rows R v (scale R c (unit ts e)) = sym (absent_unit v ts e c k.1 (omega arith) (ap (λ (x : Term). has x ts) p ∙ d.0)) in
          ap (λ (j : ℕ). add_at R (a ∷ v) j c) (cond-true _ 1 _ q) ∙ (λ i. head i ∷ tail i)
      go false q rest =
          let there : has e ts ≡ true = ⊎_elim (λ p. absurd (apart e t q p)) (λ p. p) (has_cases e t ts n) in
          let s = stands e ts there in
          let head : a ≡ R.sum a (R.product c (cond (same t e) 1 0)) =
          sym (ap (λ (x : ℕ). R.sum a (R.product c x)) (cond-false _ 1 0 (same_sym e t q)) ∙ ap (R.sum a) ((derived laws).product_zero c) ∙ (derived laws).sum_zero a ∙ read_code _ a k.0) in
          ap (λ (j : ℕ). add_at R (a ∷ v) j c) (cond-false _ 1 _ q ∙ ap next_place s.is_place)
          ∙ ap (λ (u : Row). a ∷ u) (ap (λ (j : ℕ). add_at R v j c) (sym s.is_place) ∙ rest there) ∙ ap (λ (x : ℕ). x ∷ add_rows R v (scale R c (unit ts e))) head

  module _ (B : System) (good : LawfulSystem B) (stored : List Row) (holds : Stored B stored) where
    one_led : (i : ℕ) (acc : Row) (c : ℕ) (t : Term) → i < B.variables → IsRow R B.terms acc → has t B.terms ≡ true → cond (eqb c 0) acc (add_led R stored acc c (lead B.terms (borders B) (times i t))) ≡ add_rows R acc (scale R c (image B i t))
    one_led i acc c t h a k = ⊎_elim none some (cases_Bool (eqb c 0))
      where
        long : length (image B i t) ≡ length acc
        long = image_length laws B good i t h k ∙ sym a.0

        none : eqb c 0 ≡ true → cond (eqb c 0) acc (add_led R stored acc c (lead B.terms (borders B) (times i t))) ≡ add_rows R acc (scale R c (image B i t))
        none e = cond-true _ acc _ e ∙ sym (add_zero_row acc (image B i t) c a.1 long (eqb-true c 0 e))

        inside : has (times i t) B.terms ≡ true → add_led R stored acc c (lead B.terms (borders B) (times i t)) ≡ add_rows R acc (scale R c (image B i t))
        inside e =
            ap (add_led R stored acc c) (cond-true _ (Inside (place (times i t) B.terms)) _ e)
            ∙ add_unit acc B.terms (times i t) c a.1 a.0 (connected_distinct B.variables B.terms good.is_connected) e
            ∙ ap (λ (u : Row). add_rows R acc (scale R c u)) (sym (cond-true _ (unit B.terms (times i t)) _ e))

        outside : has (times i t) (borders B) ≡ true → add_led R stored acc c (lead B.terms (borders B) (times i t)) ≡ add_rows R acc (scale R c (image B i t))
        outside e =
            let s = stands (times i t) (borders B) e in
            let out = not_in_set B.variables B.terms (times i t) e in
            let st = holds s.index s.within in
            ap (add_led R stored acc c) (cond-false _ (Inside (place (times i t) B.terms)) (OnBorder (place (times i t) (borders B))) out ∙ ap OnBorder s.is_place)
            ∙ add_multiple_is acc c (get_or stored s.index []) (omega (arith, st.0, a.0))
            ∙ ap (λ (d : ℕ). add_rows R acc (scale R c (take d (get_or stored s.index [])))) a.0
            ∙ ap (λ (u : Row). add_rows R acc (scale R c u))
            (sym st.1 ∙ sym (cond-false _ (unit B.terms (times i t)) _ out ∙ ap (λ (j : ℕ). at_place j B.rows []) s.is_place))

        some : eqb c 0 ≡ false → cond (eqb c 0) acc (add_led R stored acc c (lead B.terms (borders B) (times i t))) ≡ add_rows R acc (scale R c (image B i t))
        some e = cond-false _ acc _ e ∙ ⊎_elim inside outside (product_leads B.variables i B.terms t h k)

    map_led_is : (i : ℕ) → i < B.variables → (acc v : Row) (ts : List Term) (more : List Lead) → IsRow R B.terms acc → ((t : Term) → has t ts ≡ true → has t B.terms ≡ true) → length v ≡ length ts → map_led R stored acc v (leads_of B.terms (borders B) i ts ++ more) ≡ map_onto R B i acc v ts
    map_led_is i h acc [] ts more a within l = refl
    map_led_is i h acc (c ∷ v) [] more a within l = absurd (omega arith)
    map_led_is i h acc (c ∷ v) (t ∷ ts) more a within l =
        let k = within t (has_head t ts) in
        ap (λ (u : Row). map_led R stored u v (leads_of B.terms (borders B) i ts ++ more)) (one_led i acc c t h a k)
        ∙ map_led_is i h (add_rows R acc (scale R c (image B i t))) v ts more (add_row laws B.terms acc (scale R c (image B i t)) a.0 (map_length _ (image B i t) ∙ image_length laws B good i t h k))
        (λ s q. within s (has_tail s t ts q)) (omega arith)

    pub advanced_is : (i : ℕ) → i < B.variables → (v : Row) (more : List Lead) → length v ≡ length B.terms → length B.terms ≤ 32 → advanced R stored (leads_of B.terms (borders B) i B.terms ++ more) v ≡ mapped R B i v
    advanced_is i h v more l few =
        cond-true _ (map_led R stored (zeros_like v) v (leads_of B.terms (borders B) i B.terms ++ more)) v (le-leb (length v) 32 (omega arith))
        ∙ ap (λ (u : Row). map_led R stored u v (leads_of B.terms (borders B) i B.terms ++ more)) (zeros_like_is v B.terms l)
        ∙ map_led_is i h (zeros B.terms) v B.terms more (zeros_row laws B.terms) (λ t q. q) l

    led_entry_is : (i c : ℕ) (m : Term) (t : Term) → i < B.variables → has t B.terms ≡ true → led_entry c m (lead B.terms (borders B) (times i t)) ≡ entry_at c m (place (times i t) (borders B))
    led_entry_is i c m t h k = ⊎_elim inside outside (product_leads B.variables i B.terms t h k)
      where
        inside : has (times i t) B.terms ≡ true → led_entry c m (lead B.terms (borders B) (times i t)) ≡ entry_at c m (place (times i t) (borders B))
        inside e =
            ap (led_entry c m) (cond-true _ (Inside (place (times i t) B.terms)) _ e)
            ∙ ap (entry_at c m) (sym (place_absent (times i t) (borders B) (not_in_border B.variables B.terms (times i t) e)))

        outside : has (times i t) (borders B) ≡ true → led_entry c m (lead B.terms (borders B) (times i t)) ≡ entry_at c m (place (times i t) (borders B))
        outside e =
            let s = stands (times i t) (borders B) e in
            ap (led_entry c m) (cond-false _ (Inside (place (times i t) B.terms)) (OnBorder (place (times i t) (borders B))) (not_in_set B.variables B.terms (times i t) e) ∙ ap OnBorder s.is_place)
            ∙ ap (entry_at c m) (sym s.is_place)

    step_led_is : (i : ℕ) (m : Term) → i < B.variables → (v : Row) (ts : List Term) (more : List Lead) → ((t : Term) → has t ts ≡ true → has t B.terms ≡ true) → length v ≡ length ts → step_led m v (leads_of B.terms (borders B) i ts ++ more) ≡ step_entries B i m v ts
    step_led_is i m h [] ts more within l = refl
    step_led_is i m h (c ∷ v) [] more within l = absurd (omega arith)
    step_led_is i m h (c ∷ v) (t ∷ ts) more within l =
        λ j. cond (eqb c 0) [] (led_entry_is i c m t h (within t (has_head t ts)) j) ++ step_led_is i m h v ts more (λ s q. within s (has_tail s t ts q)) (omega arith) j

    module _ (few : length B.terms ≤ 32) (leads : List (List Lead)) (led : Led B leads) where
      pub column_advanced : (i : ℕ) → i < B.variables → (v : Row) → length v ≡ length B.terms → advanced R stored (get_or leads i []) v ≡ mapped R B i v
      column_advanced i h v l = let r = led i h in ap (λ (ls : List Lead). advanced R stored ls v) r.1 ∙ advanced_is i h v r.0 l few

      pub column_entries : (i : ℕ) (m : Term) → i < B.variables → (v : Row) → length v ≡ length B.terms → step_led m v (get_or leads i []) ≡ step_entries B i m v B.terms
      column_entries i m h v l = let r = led i h in ap (step_led m v) r.1 ∙ step_led_is i m h v B.terms r.0 (λ t q. q) l

      pub walk_row_is : (v : Row) (w : List ℕ) → Letters B.variables w → length v ≡ length B.terms → walk_row R stored leads v w ≡ last_row R B v w
      walk_row_is v [] l h = refl
      walk_row_is v (i ∷ w) l h =
          ap (λ (u : Row). walk_row R stored leads u w) (column_advanced i l.0 v h) ∙ walk_row_is (mapped R B i v) w l.1 (mapped_row laws B good i l.0 v).0

      pub walk_entries_is : (v : Row) (w : List ℕ) → Letters B.variables w → length v ≡ length B.terms → walk_entries R stored leads v w ≡ entries R B v w
      walk_entries_is v [] l h = refl
      walk_entries_is v (i ∷ w) l h =
          λ j. column_entries i (spelled w) l.0 v h j
          ++ (ap (λ (u : Row). walk_entries R stored leads u w) (column_advanced i l.0 v h) ∙ walk_entries_is (mapped R B i v) w l.1 (mapped_row laws B good i l.0 v).0) j
