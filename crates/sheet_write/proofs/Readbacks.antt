-- A record that is written reads back. Assumes nothing.
use Rattle.std.proofs.Common.{◌≡◌, ℕ, ◌+◌, ◌-◌, ◌≤◌, true, eqb, ltb, leb, List, [], ◌∷◌, ◌++◌, length, take, drop, Ok, Result, sym, refl, ap, ◌∙◌, subst, append_assoc, arith, length-append}
use Rattle.std.proofs.lemmas.List.{drop_at, take_at}
use Rattle.std.proofs.lemmas.Bool.{leb-true, le-leb, cond-true, cond_both, and_parts}
use Rattle.sheet.specs.declared.fault.RecordFault.{RecordFault}
use Rattle.sheet.specs.declared.kind.Kind.{Kind}
use Rattle.sheet.specs.declared.kind.Kind.TheVariants.{Term, Close, Rule, Check, Question, Strike}
use Rattle.sheet.specs.declared.record.Extent.{Extent}
use Rattle.sheet.specs.Fault.{next}
use Rattle.sheet.specs.Number.{number_bytes}
use Rattle.sheet.specs.Numbers.{numbers_of}
use Rattle.sheet.specs.Body.{total, limit_at, whole_after, number_at, at_place, check_numbers, check_body}
use Rattle.sheet.specs.Record.{read_head, body_of}
use Rattle.sheet.proofs.Bodies.{number_here}
use Rattle.sheet.proofs.Digits.{reads_back, number_some, SomeBytes}
use Rattle.sheet.proofs.Heads.{kind_here, body_inside, next_ok}
use Rattle.sheet.proofs.Lists.{numbers_more}
use Rattle.sheet_write.specs.Writing.{flat, allowed, accepted, record_bytes, write_record}
use Rattle.sheet_write.specs.Laws.{ReadsAs}
use Rattle.sheet_write.proofs.Accepts.{Accepted, accepted_parts, kind_is, kind_low}
use Rattle.sheet_write.proofs.Counts.{Counted, counted_from_right}

-- no limit is past 65,535
pub limit_low : (kind : Kind) (n j : ℕ) → limit_at kind n j ≤ 65535
limit_low Term n j = omega arith
limit_low Close n j = omega arith
limit_low Rule n j = cond_both (ltb j n) 255 65535 (λ l. l ≤ 65535) (λ _. omega arith) (λ _. omega arith)
limit_low Check n j = omega arith
limit_low Question n j = cond_both (eqb j 0) 65535 _ (λ l. l ≤ 65535) (λ _. omega arith) (λ _. cond_both (eqb _ 0) 65535 255 (λ l. l ≤ 65535) (λ _. omega arith) (λ _. omega arith))
limit_low Strike n j = omega arith

-- a number at the front of bytes
pub number_first : (limit v : ℕ) (rest : List ℕ) (byte count : ℕ) → v ≤ limit → limit ≤ 65535 → Ok (v, length (number_bytes v)) ≡ number_at limit (number_bytes v ++ rest) byte count
number_first limit v rest byte count low high = sym (ap (at_place byte count) (reads_back limit v rest low (omega arith)))

pub bytes_some : (v : ℕ) → v ≤ 65535 → 1 ≤ length (number_bytes v)
bytes_some v h = subst SomeBytes (reads_back 65535 v [] h (omega arith)) (number_some 65535 (number_bytes v ++ []))

-- numbers that are counted and allowed are read one by one
module _ (kind : Kind) (n start count : ℕ) where
  pub check_flat : (xs : List ℕ) (turns j whole byte : ℕ) → Counted kind n j whole xs → allowed kind n j xs ≡ true → length (flat xs) ≤ turns → check_numbers kind n start count turns j whole byte (flat xs) ≡ Ok tt
  check_flat [] turns j whole byte counted limits room = cond-true _ _ _ (le-leb whole j counted)
  check_flat (x ∷ xs) turns j whole byte counted limits room =
      let parts = and_parts (leb x (limit_at kind n j)) (allowed kind n (j + 1) xs) limits in
      let low = leb-true x (limit_at kind n j) parts.0 in
      let high = limit_low kind n j in
      let some = bytes_some x (omega arith) in
      let long = length-append (number_bytes x) (flat xs) in
      let size = length (number_bytes x) in
      number_here kind n start count turns (turns - 1) j whole byte (number_bytes x ++ flat xs) (Ok (x, size)) (omega arith) (omega arith) (sym counted.0) (number_first (limit_at kind n j) x (flat xs) byte count low high)
      ∙ ap (λ bs. check_numbers kind n start count (turns - 1) (j + 1) (whole_after kind n j x whole) (byte + size) bs) (drop_at (number_bytes x) (flat xs) size refl)
      ∙ check_flat xs (turns - 1) (j + 1) (whole_after kind n j x whole) (byte + size) counted.1 parts.1 (omega arith)

-- and they are the numbers of their bytes
pub numbers_flat : (kind : Kind) (n : ℕ) (xs : List ℕ) (j : ℕ) → allowed kind n j xs ≡ true → numbers_of (flat xs) ≡ xs
numbers_flat kind n [] j limits = refl
numbers_flat kind n (x ∷ xs) j limits =
    let parts = and_parts (leb x (limit_at kind n j)) (allowed kind n (j + 1) xs) limits in
    let low = leb-true x (limit_at kind n j) parts.0 in
    let high = limit_low kind n j in
    numbers_more (number_bytes x ++ flat xs) x (length (number_bytes x)) (reads_back 65535 x (flat xs) (omega arith) (omega arith))
    ∙ ap (λ bs. x ∷ numbers_of bs) (drop_at (number_bytes x) (flat xs) _ refl)
    ∙ ap (λ ys. x ∷ ys) (numbers_flat kind n xs (j + 1) parts.1)

-- three pieces, and what follows them
module _ (ks ls body rest : List ℕ) where
  abbrev pub pieces : List ℕ
  pieces = ks ++ (ls ++ (body ++ rest))

  pub pieces_are : (ks ++ (ls ++ body)) ++ rest ≡ pieces
  pieces_are = append_assoc ks (ls ++ body) rest ∙ ap (λ bs. ks ++ bs) (append_assoc ls body rest)

  pub past_two : drop (length ks + length ls) pieces ≡ body ++ rest
  past_two = ap (drop (length ks + length ls)) (sym (append_assoc ks ls (body ++ rest))) ∙ drop_at (ks ++ ls) (body ++ rest) (length ks + length ls) (length-append ks ls)

  pub third_piece : take (length body) (drop (length ks + length ls) pieces) ≡ body
  third_piece = ap (take (length body)) past_two ∙ take_at body rest (length body) refl

  pub pieces_long : length pieces ≡ length ks + length ls + length body + length rest
  pieces_long = omega (arith, length-append ks (ls ++ (body ++ rest)), length-append ls (body ++ rest), length-append body rest)

module _ (n k : ℕ) (xs rest : List ℕ) (start count size : ℕ) (a : Accepted n k xs size) where
  abbrev where_it_lies : Extent
  where_it_lies = record { kind = a.kind; from = length (number_bytes k) + length (number_bytes size); to = length (number_bytes k) + length (number_bytes size) + size }

  abbrev whole_bytes : List ℕ
  whole_bytes = pieces (number_bytes k) (number_bytes size) (flat xs) rest

  kind_fits : k ≤ 65535
  kind_fits = omega (arith, kind_is k a.kind a.is_kind, kind_low a.kind)

  head_reads : read_head whole_bytes start count ≡ Ok where_it_lies
  head_reads =
      kind_here whole_bytes start count k (length (number_bytes k)) a.kind (Ok (size, length (number_bytes size)))
      (number_first 65535 k (number_bytes size ++ (flat xs ++ rest)) start count kind_fits (omega arith))
      (sym a.is_kind)
      (number_first 65520 size (flat xs ++ rest) (start + length (number_bytes k)) count a.short (omega arith)
      ∙ ap (λ bs. number_at 65520 bs (start + length (number_bytes k)) count) (sym (drop_at (number_bytes k) (number_bytes size ++ (flat xs ++ rest)) _ refl)))
      ∙ body_inside whole_bytes start count a.kind _ _ (omega (arith, pieces_long (number_bytes k) (number_bytes size) (flat xs) rest, a.is))

  body_is : body_of whole_bytes where_it_lies ≡ flat xs
  body_is =
      let width : where_it_lies.to - where_it_lies.from ≡ length (flat xs) = omega (arith, a.is) in
      ap (λ w. take w (drop where_it_lies.from whole_bytes)) width ∙ third_piece (number_bytes k) (number_bytes size) (flat xs) rest

  body_checks : check_body a.kind n start count (start + where_it_lies.from) (body_of whole_bytes where_it_lies) ≡ Ok tt
  body_checks =
      ap (check_body a.kind n start count (start + where_it_lies.from)) body_is
      ∙ check_flat a.kind n start count xs (length (flat xs)) 0 (total a.kind n 0) _ (counted_from_right a.kind n xs a.right) a.limits (omega arith)

  pub reads_accepted : ReadsAs n k xs whole_bytes start count (length (record_bytes k size xs))
  reads_accepted = record {
    extent = where_it_lies;
    reads = ap (λ (r : Result Extent RecordFault). next r (λ e. next (check_body e.kind n start count (start + e.from) (body_of whole_bytes e)) (λ _. Ok e))) head_reads
        ∙ ap (λ (r : Result (Unit {0}) RecordFault). next r (λ _. Ok where_it_lies)) body_checks;
    kind = a.is_kind;
    numbers = ap numbers_of body_is ∙ numbers_flat a.kind n xs 0 a.limits;
    ends = omega (arith, length-append (number_bytes k) (number_bytes size ++ flat xs), length-append (number_bytes size) (flat xs), a.is);
  }

-- a written record reads back, whatever bytes follow
pub record_reads_back : (n k : ℕ) (xs bytes rest : List ℕ) (start count : ℕ) → write_record n k xs ≡ Ok bytes → ReadsAs n k xs (bytes ++ rest) start count (length bytes)
record_reads_back n k xs bytes rest start count h =
    let found = next_ok (accepted n k xs) (λ size. Ok (record_bytes k size xs)) bytes h in
    let size = found.0 in
    let is : record_bytes k size xs ≡ bytes = cc found.2 in
    let reads = reads_accepted n k xs rest start count size (accepted_parts n k xs size found.1) in
    subst (λ bs. ReadsAs n k xs (bs ++ rest) start count (length bs)) is
    (subst (λ bs. ReadsAs n k xs bs start count (length (record_bytes k size xs))) (sym (pieces_are (number_bytes k) (number_bytes size) (flat xs) rest)) reads)

-- the same of an output that begins with the record
pub reads_where : (n k : ℕ) (xs bytes rest whole : List ℕ) (size start count : ℕ) → write_record n k xs ≡ Ok bytes → whole ≡ bytes ++ rest → size ≡ length bytes → ReadsAs n k xs whole start count size
reads_where n k xs bytes rest whole size start count h e f =
    subst (λ bs. ReadsAs n k xs bs start count size) (sym e) (subst (ReadsAs n k xs (bytes ++ rest) start count) (sym f) (record_reads_back n k xs bytes rest start count h))
