-- The search for the first clash, and the entries of its witness. Assumes nothing.
use Rattle.std.proofs.Common.{◌≡◌, ℕ, zero, suc, ◌+◌, ◌-◌, ◌*◌, ◌<◌, ◌≤◌, Bool, true, false, cond, eqb, List, [], ◌∷◌, ◌++◌, map, length, get_or, take, drop, set, Some, None, Option, sym, refl, ap, ◌∙◌, append_assoc, append-nil, arith, length-append}
use lib.ListN.{length-replicate}
use borrow.Rule.Slice.PartMut.{put_mid}
use Rattle.std.specs.List.{between}
use Rattle.std.proofs.lemmas.List.{at_drop_more, at_drop_all, drop_all, take_all, take_at, drop_at, get_or_default, get_or-replicate}
use Rattle.std.proofs.lemmas.List.Edits.{map_over_more}
use Rattle.std.proofs.lemmas.Bool.{cond-true, cond-false, or_parts}
use Rattle.field.specs.Arithmetic.{Ring, CommutativeRing}
use Rattle.algebra.specs.Term.{Term, one, times, same, has, place}
use Rattle.algebra.specs.Border.{Row, System, borders, LawfulSystem}
use Rattle.algebra.specs.Walk.{add_rows, unit, mapped, entry_at, step_entries, entries, all_zero}
use Rattle.algebra.specs.declared.Clash.{Clash}
use Rattle.algebra.specs.declared.Entry.{Entry}
use Rattle.algebra.specs.Clash.{twice, negative_row, commutator, negative_entries, commutator_entries, pairs_with, pairs_from, pairs, clash_at, clash_or, clash_from}
use Rattle.algebra.proofs.Terms.{same_true, same_sym}
use Rattle.algebra.proofs.Borders.{Distinct, connected_distinct}
use Rattle.algebra.proofs.Rows.{map_length}
use Rattle.algebra.proofs.Basis.{mapped_row}
use Rattle.term.specs.Letters.{raised}
use Rattle.term.proofs.Letters.{raised_times}
use Rattle.row.specs.declared.lead.Lead.{Lead}
use Rattle.row.specs.Sums.{subtract}
use Rattle.row.specs.Listing.{Listed, listing, listed_all, step_led}
use Rattle.row.proofs.Listing.{listed_all_append, listed_whole}
use Rattle.book.specs.declared.contents.Contents.{Contents}
use Rattle.book.specs.Effects.{written}
use Rattle.book.specs.Kept.{kept, ready, terms_of, ledger}
use Rattle.book.specs.Ledger.{system}
use Rattle.book.proofs.Bridge.{Stored, Led, column_entries}
use Rattle.book.proofs.Ready.{ready_contents}

-- taking a row away is adding its negative
subtract_is : (R : Ring) (v w : Row) → length v ≡ length w → subtract R v w ≡ add_rows R v (negative_row R w)
subtract_is R [] [] h = refl
subtract_is R [] (b ∷ w) h = absurd (omega arith)
subtract_is R (a ∷ v) [] h = absurd (omega arith)
subtract_is R (a ∷ v) (b ∷ w) h = ap (λ (u : Row). R.sum a (R.negative b) ∷ u) (subtract_is R v w (omega arith))

-- the row of a term, mapped by b and then by a
pub twice_mapped : (R : Ring) (B : System) (a b : ℕ) (t : Term) (x y z : Row) → x ≡ unit B.terms t → y ≡ mapped R B b x → z ≡ mapped R B a y → z ≡ twice R B a b t
twice_mapped R B a b t x y z p q r = r ∙ ap (mapped R B a) (q ∙ ap (mapped R B b) p)

pub commutator_subtracted : {R : Ring} → CommutativeRing R → (B : System) → LawfulSystem B → (a b : ℕ) (t : Term) → a < B.variables → b < B.variables → (v w out : Row) → v ≡ twice R B a b t → w ≡ twice R B b a t → out ≡ subtract R v w → out ≡ commutator R B a b t
commutator_subtracted {R} laws B good a b t ha hb v w out p q e =
    e ∙ (λ i. subtract R (p i) (q i))
    ∙ subtract_is R (twice R B a b t) (twice R B b a t) ((mapped_row laws B good a ha (mapped R B b (unit B.terms t))).0 ∙ sym (mapped_row laws B good b hb (mapped R B a (unit B.terms t))).0)

module _ (R : Ring) (B : System) (t : Term) where
  -- the pairs of a with the variables from b on
  abbrev pub with_left : ℕ → ℕ → Option (ℕ × ℕ)
  with_left a b = clash_at R B t (pairs_with a b (B.variables - b))

  with_next : (a b : ℕ) → b < B.variables → with_left a b ≡ cond (all_zero (commutator R B a b t)) (with_left a (b + 1)) (Some (a, b))
  with_next a b h =
      let less : B.variables - b ≡ suc (B.variables - (b + 1)) = omega arith in
      let more : suc b ≡ b + 1 = omega arith in
      ap (λ (n : ℕ). clash_at R B t (pairs_with a b n)) less
      ∙ ap (λ (d : ℕ). cond (all_zero (commutator R B a b t)) (clash_at R B t (pairs_with a d (B.variables - (b + 1)))) (Some (a, b))) more

  pub with_zero : (a b : ℕ) (row : Row) → b < B.variables → row ≡ commutator R B a b t → true ≡ all_zero row → with_left a b ≡ with_left a (b + 1)
  with_zero a b row h e z = with_next a b h ∙ cond-true _ (with_left a (b + 1)) (Some (a, b)) (sym (z ∙ ap all_zero e))

  pub with_found : (a b : ℕ) (row : Row) → b < B.variables → row ≡ commutator R B a b t → false ≡ all_zero row → with_left a b ≡ Some (a, b)
  with_found a b row h e z = with_next a b h ∙ cond-false _ (with_left a (b + 1)) (Some (a, b)) (sym (z ∙ ap all_zero e))

  pub with_none : (a b : ℕ) → B.variables ≤ b → with_left a b ≡ None
  with_none a b h = let end : B.variables - b ≡ 0 = omega arith in ap (λ (n : ℕ). clash_at R B t (pairs_with a b n)) end

  -- a clash in the first of two lists of pairs, or else in the second
  clash_append : (xs ys : List (ℕ × ℕ)) → clash_at R B t xs ≡ None → clash_at R B t (xs ++ ys) ≡ clash_at R B t ys
  clash_append [] ys e = refl
  clash_append (x ∷ xs) ys e = go (all_zero (commutator R B x.0 x.1 t)) e (clash_append xs ys)
    where
      go : (b : Bool) → cond b (clash_at R B t xs) (Some x) ≡ None → (clash_at R B t xs ≡ None → clash_at R B t (xs ++ ys) ≡ clash_at R B t ys) → cond b (clash_at R B t (xs ++ ys)) (Some x) ≡ clash_at R B t ys
      go true n rest = rest n
      go false n rest = let z : ◌≡◌ {A = ℕ} 0 1 = cc in absurd (omega arith)

  clash_before : (xs ys : List (ℕ × ℕ)) (y : ℕ × ℕ) → clash_at R B t xs ≡ Some y → clash_at R B t (xs ++ ys) ≡ Some y
  clash_before [] ys y e = let z : ◌≡◌ {A = ℕ} 0 1 = cc in absurd (omega arith)
  clash_before (x ∷ xs) ys y e = go (all_zero (commutator R B x.0 x.1 t)) e (clash_before xs ys y)
    where
      go : (b : Bool) → cond b (clash_at R B t xs) (Some x) ≡ Some y → (clash_at R B t xs ≡ Some y → clash_at R B t (xs ++ ys) ≡ Some y) → cond b (clash_at R B t (xs ++ ys)) (Some x) ≡ Some y
      go true n rest = rest n
      go false n rest = n

  -- the pairs of the variables from a on
  abbrev pub from_left : ℕ → Option (ℕ × ℕ)
  from_left a = clash_at R B t (pairs_from a (B.variables - a))

  pub from_all : clash_at R B t (pairs B.variables) ≡ from_left 0
  from_all = let all : B.variables ≡ B.variables - 0 = omega arith in ap (λ (n : ℕ). clash_at R B t (pairs_from 0 n)) all

  from_next : (a : ℕ) → a < B.variables → from_left a ≡ clash_at R B t (pairs_with a (a + 1) (B.variables - (a + 1)) ++ pairs_from (a + 1) (B.variables - (a + 1)))
  from_next a h =
      let less : B.variables - a ≡ suc (B.variables - (a + 1)) = omega arith in
      let more : suc a ≡ a + 1 = omega arith in
      ap (λ (n : ℕ). clash_at R B t (pairs_from a n)) less
      ∙ ap (λ (d : ℕ). clash_at R B t (pairs_with a d (B.variables - (a + 1)) ++ pairs_from d (B.variables - (a + 1)))) more

  pub from_passed : (a : ℕ) → a < B.variables → None ≡ with_left a (a + 1) → from_left a ≡ from_left (a + 1)
  from_passed a h e = from_next a h ∙ clash_append (pairs_with a (a + 1) (B.variables - (a + 1))) (pairs_from (a + 1) (B.variables - (a + 1))) (sym e)

  pub from_found : (a : ℕ) (x : ℕ × ℕ) → a < B.variables → Some x ≡ with_left a (a + 1) → from_left a ≡ Some x
  from_found a x h e = from_next a h ∙ clash_before (pairs_with a (a + 1) (B.variables - (a + 1))) (pairs_from (a + 1) (B.variables - (a + 1))) x (sym e)

  pub from_none : (a : ℕ) → B.variables ≤ a → from_left a ≡ None
  from_none a h = let end : B.variables - a ≡ 0 = omega arith in ap (λ (n : ℕ). clash_at R B t (pairs_from a n)) end

module _ (R : Ring) (B : System) where
  -- the terms from j on
  abbrev pub terms_left : ℕ → Option Clash
  terms_left j = clash_from R B j (drop j B.terms)

  terms_next : (j : ℕ) → j < length B.terms → terms_left j ≡ clash_or j (clash_at R B (get_or B.terms j []) (pairs B.variables)) (terms_left (j + 1))
  terms_next j h =
      let more : suc j ≡ j + 1 = omega arith in
      let step : terms_left j ≡ clash_from R B j (get_or B.terms j [] ∷ drop (j + 1) B.terms) = at_drop_more (clash_from R B j) B.terms j [] h in
      step ∙ ap (λ (d : ℕ). clash_or j (clash_at R B (get_or B.terms j []) (pairs B.variables)) (clash_from R B d (drop (j + 1) B.terms))) more

  pub terms_passed : (j : ℕ) → j < length B.terms → None ≡ clash_at R B (get_or B.terms j []) (pairs B.variables) → terms_left j ≡ terms_left (j + 1)
  terms_passed j h e = terms_next j h ∙ ap (λ (o : Option (ℕ × ℕ)). clash_or j o (terms_left (j + 1))) (sym e)

  pub terms_found : (j : ℕ) (x : ℕ × ℕ) → j < length B.terms → Some x ≡ clash_at R B (get_or B.terms j []) (pairs B.variables) → terms_left j ≡ Some (record { term = j; a = x.0; b = x.1 })
  terms_found j x h e = terms_next j h ∙ ap (λ (o : Option (ℕ × ℕ)). clash_or j o (terms_left (j + 1))) (sym e)

  pub terms_none : (j : ℕ) → length B.terms ≤ j → terms_left j ≡ None
  terms_none j h = at_drop_all (clash_from R B j) B.terms j h

-- the two steps of a walk, one after the other
module _ {R : Ring} (laws : CommutativeRing R) (B : System) (good : LawfulSystem B) (stored : List Row) (holds : Stored B stored) (few : length B.terms ≤ 32) (leads : List (List Lead)) (led : Led B leads) where
  raised_one : (j : ℕ) → j < B.variables → raised j one ≡ times j one
  raised_one j h =
      let eight = good.few_variables in
      let small : j < 8 = omega arith in
      let room : get_or one j 0 < 255 = omega (arith, get_or-replicate {A = ℕ} 8 j 0 0 small) in
      raised_times j one (omega (arith, length-replicate {A = ℕ} 8 0, small)) room

  pub walk_listed : (i j : ℕ) (t : Term) → i < B.variables → j < B.variables → (u w : Row) (m : Term) (l₀ l₁ l₂ : Listed) → u ≡ unit B.terms t → m ≡ raised j one → l₁ ≡ listed_all l₀ (step_led m u (get_or leads i [])) → w ≡ mapped R B i u → l₂ ≡ listed_all l₁ (step_led one w (get_or leads j [])) → l₂ ≡ listed_all l₀ (entries R B (unit B.terms t) (i ∷ j ∷ []))
  walk_listed i j t hi hj u w m l₀ l₁ l₂ pu pm p pw q =
      let v = unit B.terms t in
      let first : step_led m u (get_or leads i []) ≡ step_entries B i (times j one) v B.terms =
      (λ k. step_led ((pm ∙ raised_one j hj) k) (pu k) (get_or leads i [])) ∙ column_entries laws B good stored holds few leads led i (times j one) hi v (map_length _ B.terms) in
      let second : step_led one w (get_or leads j []) ≡ step_entries B j one (mapped R B i v) B.terms =
      ap (λ (x : Row). step_led one x (get_or leads j [])) (pw ∙ ap (mapped R B i) pu)
      ∙ column_entries laws B good stored holds few leads led j one hj (mapped R B i v) (mapped_row laws B good i hi v).0 in
      q ∙ (λ k. listed_all ((p ∙ ap (listed_all l₀) first) k) (second k))
      ∙ sym (listed_all_append l₀ (step_entries B i (times j one) v B.terms) (step_entries B j one (mapped R B i v) B.terms))
      ∙ ap (λ (es : List Entry). listed_all l₀ (step_entries B i (times j one) v B.terms ++ es)) (sym (append-nil (step_entries B j one (mapped R B i v) B.terms)))

-- how many entries a step lists
module _ (B : System) (i : ℕ) (m : Term) where
  entry_short : (c k : ℕ) → length (entry_at c m k) ≤ 1
  entry_short c zero = omega arith
  entry_short c (suc k) = omega arith

  code_short : (b : Bool) (c k : ℕ) → length (cond b [] (entry_at c m k)) ≤ 1
  code_short true c k = omega arith
  code_short false c k = entry_short c k

  step_short : (v : Row) (ts : List Term) → length (step_entries B i m v ts) ≤ length ts
  step_short [] ts = omega arith
  step_short (c ∷ v) [] = omega arith
  step_short (c ∷ v) (t ∷ ts) =
      let here = cond (eqb c 0) [] (entry_at c m (place (times i t) (borders B))) in
      omega (arith, length-append here (step_entries B i m v ts), code_short (eqb c 0) c (place (times i t) (borders B)), step_short v ts)

  -- the row of a term that is not there has no codes but 0
  absent_step : (t : Term) (ts : List Term) → has t ts ≡ false → step_entries B i m (unit ts t) ts ≡ []
  absent_step t [] n = refl
  absent_step t (s ∷ ts) n =
      let p = or_parts (same t s) (has t ts) n in
      ap (λ (c : ℕ). cond (eqb c 0) [] (entry_at c m (place (times i s) (borders B))) ++ step_entries B i m (unit ts t) ts) (cond-false _ 1 0 (same_sym t s p.0))
      ∙ absent_step t ts p.1

  -- the row of a term has one code but 0
  unit_step : (t : Term) (ts : List Term) → Distinct ts → length (step_entries B i m (unit ts t) ts) ≤ 1
  unit_step t [] d = omega arith
  unit_step t (s ∷ ts) d = go (same s t) refl (unit_step t ts d.1)
    where
      go : (b : Bool) → same s t ≡ b → length (step_entries B i m (unit ts t) ts) ≤ 1 → length (step_entries B i m (cond b 1 0 ∷ unit ts t) (s ∷ ts)) ≤ 1
      go true e rest =
          let gone : step_entries B i m (unit ts t) ts ≡ [] = absent_step t ts (ap (λ (x : Term). has x ts) (sym (same_true s t e)) ∙ d.0) in
          let here = entry_at 1 m (place (times i s) (borders B)) in
          omega (arith, length-append here (step_entries B i m (unit ts t) ts), entry_short 1 (place (times i s) (borders B)), ap (λ (es : List Entry). length es) gone)
      go false e rest = rest

walk_short : (R : Ring) (B : System) (i j : ℕ) (t : Term) → Distinct B.terms → length (entries R B (unit B.terms t) (i ∷ j ∷ [])) ≤ 1 + length B.terms
walk_short R B i j t d =
    let v = unit B.terms t in
    let first = step_entries B i (times j one) v B.terms in
    let second = step_entries B j one (mapped R B i v) B.terms in
    omega (arith, length-append first (second ++ []), length-append second [], unit_step B i (times j one) t B.terms d, step_short B j one (mapped R B i v) B.terms)

-- two lists of entries one after the other, and the second of them exchanged
module _ (E F slots s₁ s₂ : List Entry) (m e : ℕ) (room : length E + length F ≤ length slots) (p : listing s₁ m ≡ listed_all (listing slots 0) E) (q : listing s₂ e ≡ listed_all (listing s₁ m) F) where
  abbrev rest : List Entry
  rest = drop (length (E ++ F)) slots

  middle_is : m ≡ length E
  middle_is = ap (λ (l : Listed). l.count) (p ∙ listed_whole slots E (omega arith))

  both_listed : listing s₂ e ≡ listing ((E ++ F) ++ rest) (length (E ++ F))
  both_listed = q ∙ ap (λ (l : Listed). listed_all l F) p ∙ sym (listed_all_append (listing slots 0) E F) ∙ listed_whole slots (E ++ F) (omega (arith, length-append E F))

  end_is : e ≡ length E + length F
  end_is = ap (λ (l : Listed). l.count) both_listed ∙ length-append E F

  slots_are : s₂ ≡ E ++ (F ++ rest)
  slots_are = ap (λ (l : Listed). l.slots) both_listed ∙ append_assoc E F rest

  from_middle : drop m s₂ ≡ F ++ rest
  from_middle = ap (drop m) slots_are ∙ drop_at E (F ++ rest) m (sym middle_is)

  second_long : length F ≡ e - m
  second_long = omega (arith, middle_is, end_is)

  between_is : between m e s₂ ≡ F
  between_is = ap (take (e - m)) from_middle ∙ take_at F rest (e - m) second_long

  exchanged : (N : List Entry) → length N ≡ length F → put_mid m (e - m) s₂ N ≡ written (E ++ N) slots
  exchanged N l =
      let same_end : length (E ++ F) ≡ length (E ++ N) = omega (arith, length-append E F, length-append E N, l) in
      (λ k. (ap (take m) slots_are ∙ take_at E (F ++ rest) m (sym middle_is)) k ++ (N ++ (ap (drop (e - m)) from_middle ∙ drop_at F rest (e - m) second_long) k))
      ∙ sym (append_assoc E N rest) ∙ ap (λ (d : ℕ). (E ++ N) ++ drop d slots) same_end

-- what the two walks of a clash leave, and what it becomes with the second negated
pub record Witness (R : Ring) (B : System) (a b : ℕ) (t : Term) (slots s : List Entry) (m e : ℕ) : Type 0 where
  pub ordered : m ≤ e
  pub short : e ≤ 66
  pub within : e ≤ length s
  pub negated : (N : List Entry) → N ≡ negative_entries R (between m e s) → put_mid m (e - m) s N ≡ written (commutator_entries R B a b t) slots
  pub count : e ≡ length (commutator_entries R B a b t)

witness : (R : Ring) (B : System) → LawfulSystem B → length B.terms ≤ 32 → (a b : ℕ) (t : Term) (slots s₁ s₂ : List Entry) (m e : ℕ) → 2 * length B.terms + 2 ≤ length slots → listing s₁ m ≡ listed_all (listing slots 0) (entries R B (unit B.terms t) (a ∷ b ∷ [])) → listing s₂ e ≡ listed_all (listing s₁ m) (entries R B (unit B.terms t) (b ∷ a ∷ [])) → Witness R B a b t slots s₂ m e
witness R B good size a b t slots s₁ s₂ m e long p q =
    let E = entries R B (unit B.terms t) (a ∷ b ∷ []) in
    let F = entries R B (unit B.terms t) (b ∷ a ∷ []) in
    let d = connected_distinct B.variables B.terms good.is_connected in
    let few = walk_short R B a b t d in
    let more = walk_short R B b a t d in
    let room : length E + length F ≤ length slots = omega (arith, few, more, long) in
    let mid = middle_is E F slots s₁ s₂ m e room p q in
    let end = end_is E F slots s₁ s₂ m e room p q in
    let are = slots_are E F slots s₁ s₂ m e room p q in
    let rest = drop (length (E ++ F)) slots in
    record {
      ordered = omega (arith, mid, end);
      short = omega (arith, few, more, end, size);
      within = omega (arith, end, ap (λ (es : List Entry). length es) are, length-append E (F ++ rest), length-append F rest);
      negated = λ N n.
          let is : N ≡ negative_entries R F = n ∙ ap (negative_entries R) (between_is E F slots s₁ s₂ m e room p q) in
          ap (put_mid m (e - m) s₂) is ∙ exchanged E F slots s₁ s₂ m e room p q (negative_entries R F) (map_length _ F);
      count = end ∙ sym (length-append E (negative_entries R F) ∙ ap (λ (n : ℕ). length E + n) (map_length _ F));
    }

pub clash_witness : (R : Ring) (k : Contents) → kept k ≡ true → ready k ≡ true → (x : Clash) (slots s₁ s₂ : List Entry) (m e : ℕ) → 2 * length (terms_of k) + 2 ≤ length slots → listing s₁ m ≡ listed_all (listing slots 0) (entries R (system (ledger k)) (unit (terms_of k) (get_or (terms_of k) x.term [])) (x.a ∷ x.b ∷ [])) → listing s₂ e ≡ listed_all (listing s₁ m) (entries R (system (ledger k)) (unit (terms_of k) (get_or (terms_of k) x.term [])) (x.b ∷ x.a ∷ [])) → Witness R (system (ledger k)) x.a x.b (get_or (terms_of k) x.term []) slots s₂ m e
clash_witness R k h r x slots s₁ s₂ m e long p q =
    let f = ready_contents k h r in
    witness R (system (ledger k)) f.good f.few x.a x.b (get_or (terms_of k) x.term []) slots s₁ s₂ m e long p q

-- a loop that negates the codes of entries
abbrev pub negative_entry : Ring → Entry → Entry
negative_entry R x = record { code = R.negative x.code; multiplier = x.multiplier; place = x.place }

pub negated_more : (R : Ring) (xs ys : List Entry) (i : ℕ) (d : Entry) (c : ℕ) → i < length xs → length ys ≡ length xs → ys ≡ map (negative_entry R) (take i xs) ++ drop i xs → c ≡ R.negative (get_or ys i d).code → set ys i (record { code = c; multiplier = (get_or ys i d).multiplier; place = (get_or ys i d).place }) ≡ map (negative_entry R) (take (i + 1) xs) ++ drop (i + 1) xs
negated_more R xs ys i d c h long e p =
    ap (λ (n : ℕ). set ys i (record { code = n; multiplier = (get_or ys i d).multiplier; place = (get_or ys i d).place })) p
    ∙ map_over_more (negative_entry R) xs ys i (get_or ys i d) h e (get_or_default ys i d (get_or ys i d) (omega arith))

pub negated_all : (R : Ring) (xs ys : List Entry) (i : ℕ) → length xs ≤ i → ys ≡ map (negative_entry R) (take i xs) ++ drop i xs → ys ≡ negative_entries R xs
negated_all R xs ys i h e =
    e ∙ (λ k. map (negative_entry R) (take_all i xs h k) ++ drop_all i xs h k) ∙ append-nil (negative_entries R xs)
