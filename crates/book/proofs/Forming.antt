-- Normal forms one pair after the other, and tables one row after the other. Assumes nothing.
use Rattle.std.proofs.Common.{◌≡◌, ℕ, zero, suc, ◌+◌, ◌-◌, ◌*◌, ◌<◌, ◌≤◌, true, List, [], ◌∷◌, ◌++◌, length, get_or, take, drop, set, replicate, sym, refl, ap, ◌∙◌, subst, append_assoc, append-nil, mul-le-mul_right, suc-mul, zero-mul, add-one, arith}
use borrow.Rule.Slice.PartMut.{put_mid}
use Rattle.std.proofs.lemmas.List.{drop_more, drop_all, take_more, take_all}
use Rattle.std.proofs.lemmas.Slice.{take-put_mid}
use Rattle.field.specs.Arithmetic.{Ring, CommutativeRing}
use Rattle.field.specs.Laws.{derived, sum_right}
use Rattle.algebra.specs.Term.{Term, word, InVariables}
use Rattle.algebra.specs.Polynomial.{Polynomial, Over}
use Rattle.algebra.specs.Border.{Row, System}
use Rattle.algebra.specs.Walk.{zeros, add_rows, unit, mapped, last_row, entries, at_one, form_onto, normal_form, cofactors}
use Rattle.algebra.proofs.Terms.{word_letters}
use Rattle.algebra.proofs.Borders.{first_term}
use Rattle.algebra.proofs.Rows.{add_row, at_one_length, map_length}
use Rattle.algebra.proofs.Basis.{last_row_length, mapped_row}
use Rattle.row.specs.Sums.{add_multiple, zeros_like}
use Rattle.row.specs.Leads.{given_rows}
use Rattle.row.specs.Listing.{Listed, listed_all, walk_row, walk_entries}
use Rattle.row.proofs.Listing.{listed_all_append}
use Rattle.book.specs.declared.contents.Contents.{Contents}
use Rattle.book.specs.Ledger.{system}
use Rattle.book.specs.Effects.{table_rows}
use Rattle.book.specs.Kept.{terms_of, kept, ledger, ready}
use Rattle.book.proofs.Bridge.{zeros_like_is, walk_row_is, walk_entries_is}
use Rattle.book.proofs.Ready.{Ready, ready_contents}

blank : (ts : List Term) (m : ℕ) → length ts ≤ m → take (length ts) (replicate m 0) ≡ zeros ts
blank [] m l = refl
blank (t ∷ ts) zero l = absurd (omega arith)
blank (t ∷ ts) (suc m) l = ap (λ (v : Row). 0 ∷ v) (blank ts m (omega arith))

-- the first codes of an array of zeros with a code at the first place, as the code takes them
abbrev pub begun : ℕ → ℕ → ℕ → Row
begun m n c = take (n - 0) (set (replicate m 0) 0 c)

begun_some : (ts : List Term) (m c : ℕ) → 1 ≤ length ts → length ts ≤ m → take (length ts) (set (replicate m 0) 0 c) ≡ at_one c ts
begun_some [] m c some l = absurd (omega arith)
begun_some (t ∷ ts) zero c some l = absurd (omega arith)
begun_some (t ∷ ts) (suc m) c some l = ap (λ (v : Row). c ∷ v) (blank ts m (omega arith))

begun_is : (ts : List Term) (m n c : ℕ) → 1 ≤ length ts → length ts ≤ m → length ts ≡ n → begun m n c ≡ at_one c ts
begun_is ts m n c some l e = let same : n - 0 ≡ length ts = omega arith in ap (λ (k : ℕ). take k (set (replicate m 0) 0 c)) same ∙ begun_some ts m c some l

-- a pair of a polynomial is over the variables
over_at : (n : ℕ) (p : Polynomial) → Over n p → (i : ℕ) → i < length p → InVariables n (get_or p i (0, [])).1
over_at n [] h i l = absurd (omega arith)
over_at n (x ∷ p) h zero l = h.0
over_at n (x ∷ p) h (suc i) l = over_at n p h.1 i (omega arith)

-- the rows of a table, one list of terms after the other
table_append : (R : Ring) (B : System) (i : ℕ) (ts us : List Term) → table_rows R B i (ts ++ us) ≡ table_rows R B i ts ++ table_rows R B i us
table_append R B i [] us = refl
table_append R B i (t ∷ ts) us = ap (λ (v : Row). mapped R B i (unit B.terms t) ++ v) (table_append R B i ts us) ∙ sym (append_assoc (mapped R B i (unit B.terms t)) (table_rows R B i ts) (table_rows R B i us))

next_row : (j n : ℕ) → (j + 1) * n ≡ j * n + n
next_row j n = ap (λ (m : ℕ). m * n) (add-one j) ∙ suc-mul j n

-- a row of the table ends within it
pub row_within : (j n : ℕ) (table : Row) → j < n → length table ≡ n * n → (j + 1) * n ≤ length table
row_within j n table l e = let most : (j + 1) * n ≤ n * n = mul-le-mul_right n (omega arith) in omega arith

-- The pairs from place i on, added to the row and listed after the entries so far, give what the whole polynomial does.
pub record Formed (R : Ring) (B : System) (p : Polynomial) (start : Listed) (i : ℕ) (row : Row) (now : Listed) : Type 0 where
  pub long : length row ≡ length B.terms
  pub form : form_onto R B row (drop i p) ≡ normal_form R B p
  pub listed : listed_all now (cofactors R B (drop i p)) ≡ listed_all start (cofactors R B p)

-- the first j rows of a table are written
abbrev pub Tabled : Ring → Contents → ℕ → ℕ → Row → Type 0
Tabled R k i j table = take (j * length (terms_of k)) table ≡ table_rows R (system (ledger k)) i (take j (terms_of k))

pub tabled_none : (R : Ring) (k : Contents) (i : ℕ) (table : Row) → Tabled R k i 0 table
tabled_none R k i table = ap (λ (m : ℕ). take m table) (zero-mul (length (terms_of k)))

module _ {R : Ring} (laws : CommutativeRing R) where
  -- a row added once
  add_once : (v w : Row) → length v ≡ length w → add_multiple R v 1 w ≡ add_rows R v w
  add_once [] [] h = refl
  add_once [] (b ∷ w) h = absurd (omega arith)
  add_once (a ∷ v) [] h = absurd (omega arith)
  add_once (a ∷ v) (b ∷ w) h =
      let head : R.sum a (R.product 1 b) ≡ R.sum a b = ap (R.sum a) ((derived laws).one_product b) ∙ sum_right laws a b in
      λ i. head i ∷ add_once v w (omega arith) i

  module _ (k : Contents) (h : kept k ≡ true) (r : ready k ≡ true) where
    abbrev B : System
    B = system (ledger k)

    a : Ready k
    a = ready_contents k h r

    some : 1 ≤ length (terms_of k)
    some =
        let f = first_term k.basis.variables (terms_of k) a.good.is_connected in
        let long = ap (λ (ts : List Term). length ts) f.1 in
        omega arith

    pub formed_none : (p : Polynomial) (start : Listed) (v row : Row) → length v ≡ length (terms_of k) → row ≡ zeros_like v → Formed R B p start 0 row start
    formed_none p start v row l e =
        let is : row ≡ zeros (terms_of k) = e ∙ zeros_like_is v (terms_of k) l in
        record {
          long = ap (λ (w : Row). length w) is ∙ map_length _ (terms_of k);
          form = ap (λ (w : Row). form_onto R B w p) is;
          listed = refl;
        }

    -- one pair more
    pub formed_more : (p : Polynomial) (start : Listed) (i : ℕ) (row : Row) (now : Listed) (last sum : Row) (next : Listed) → Over k.basis.variables p → i < length p → Formed R B p start i row now
        → last ≡ walk_row R (given_rows k.rules.rows) k.border.leads.columns (begun 32 (length (terms_of k)) (get_or p i (0, [])).0) (word (get_or p i (0, [])).1)
        → next ≡ listed_all now (walk_entries R (given_rows k.rules.rows) k.border.leads.columns (begun 32 (length (terms_of k)) (get_or p i (0, [])).0) (word (get_or p i (0, [])).1))
        → sum ≡ add_multiple R row 1 last → Formed R B p start (i + 1) sum next
    formed_more p start i row now last sum next over l f e es s =
        let x = get_or p i (0, []) in
        let first = at_one x.0 (terms_of k) in
        let ls = word_letters k.basis.variables x.1 (over_at k.basis.variables p over i l) in
        let begin : begun 32 (length (terms_of k)) x.0 ≡ first = begun_is (terms_of k) 32 (length (terms_of k)) x.0 some a.few refl in
        let first-long = at_one_length x.0 (terms_of k) in
        let last-is : last ≡ last_row R B first (word x.1) =
        e ∙ ap (λ (v : Row). walk_row R (given_rows k.rules.rows) k.border.leads.columns v (word x.1)) begin
        ∙ walk_row_is laws B a.good (given_rows k.rules.rows) a.stored a.few k.border.leads.columns a.leading first (word x.1) ls first-long in
        let next-is : next ≡ listed_all now (entries R B first (word x.1)) =
        es
        ∙ ap (listed_all now)
        (ap (λ (v : Row). walk_entries R (given_rows k.rules.rows) k.border.leads.columns v (word x.1)) begin
        ∙ walk_entries_is laws B a.good (given_rows k.rules.rows) a.stored a.few k.border.leads.columns a.leading first (word x.1) ls first-long) in
        let last-long = last_row_length laws B a.good first (word x.1) ls first-long in
        let sum_is : sum ≡ add_rows R row (last_row R B first (word x.1)) =
        s ∙ ap (add_multiple R row 1) last-is ∙ add_once row (last_row R B first (word x.1)) (f.long ∙ sym last-long) in
        let left = drop_more p i (0, []) l in
        record {
          long = ap (λ (v : Row). length v) sum_is ∙ (add_row laws (terms_of k) row (last_row R B first (word x.1)) f.long last-long).0;
          form = ap (λ (v : Row). form_onto R B v (drop (i + 1) p)) sum_is ∙ ap (form_onto R B row) (sym left) ∙ f.form;
          listed =
              ap (λ (o : Listed). listed_all o (cofactors R B (drop (i + 1) p))) next-is
              ∙ sym (listed_all_append now (entries R B first (word x.1)) (cofactors R B (drop (i + 1) p)))
              ∙ ap (λ (q : Polynomial). listed_all now (cofactors R B q)) (sym left) ∙ f.listed;
        }

    pub formed_all : (p : Polynomial) (start : Listed) (i : ℕ) (row : Row) (now : Listed) → length p ≤ i → Formed R B p start i row now → (row ≡ normal_form R B p) × (now ≡ listed_all start (cofactors R B p))
    formed_all p start i row now l f =
        let none = sym (drop_all i p l) in
        (ap (form_onto R B row) none ∙ f.form, ap (λ (q : Polynomial). listed_all now (cofactors R B q)) none ∙ f.listed)

    -- one row more
    pub tabled_more : (i j w : ℕ) (table first row : Row) → i < k.basis.variables → j < length (terms_of k) → length table ≡ length (terms_of k) * length (terms_of k) → Tabled R k i j table
        → first ≡ unit (terms_of k) (get_or (terms_of k) j []) → row ≡ mapped R B i first → Tabled R k i (j + 1) (put_mid (j * length (terms_of k)) w table row)
    tabled_more i j w table first row h l long t e m =
        let n = length (terms_of k) in
        let s = get_or (terms_of k) j [] in
        let is : row ≡ mapped R B i (unit (terms_of k) s) = m ∙ ap (mapped R B i) e in
        let row-long : length row ≡ n = ap (λ (v : Row). length v) m ∙ (mapped_row laws B a.good i h first).0 in
        let end = row_within j n table l long in
        let next = next_row j n in
        let more : take (j + 1) (terms_of k) ≡ take j (terms_of k) ++ s ∷ [] = take_more (terms_of k) j [] (omega arith) in
        take-put_mid (j * n) w table row ((j + 1) * n) (omega arith) (omega arith)
        ∙ (λ x. t x ++ (is ∙ sym (append-nil (mapped R B i (unit (terms_of k) s)))) x)
        ∙ sym (table_append R B i (take j (terms_of k)) (s ∷ [])) ∙ ap (table_rows R B i) (sym more)

    pub tabled_all : (i j : ℕ) (table : Row) → length (terms_of k) ≤ j → j ≤ length (terms_of k) → length table ≡ length (terms_of k) * length (terms_of k) → Tabled R k i j table → table ≡ table_rows R B i (terms_of k)
    tabled_all i j table l u long t =
        let n = length (terms_of k) in
        let all : j ≡ n = omega arith in
        let whole : length table ≤ j * n = subst (λ (m : ℕ). length table ≤ m * n) (sym all) (omega arith) in
        sym (take_all (j * n) table whole) ∙ t ∙ ap (table_rows R B i) (take_all j (terms_of k) (omega arith))
