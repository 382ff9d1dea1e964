-- A record that was read is written to the same bytes. Assumes nothing.
use Rattle.std.proofs.Common.{◌≡◌, ℕ, zero, suc, ◌+◌, ◌-◌, ◌≤◌, Bool, true, false, cond, leb, List, [], ◌∷◌, ◌++◌, length, take, drop, IfOk as made, Some, Ok, Err, Result, sym, refl, ap, ◌∙◌, subst, append_assoc, arith, length-drop, take-append-drop}
use Rattle.std.proofs.lemmas.List.{length-take-le, drop-take, take-take}
use Rattle.std.proofs.lemmas.Bool.{leb-true, le-leb, and_from}
use Rattle.sheet.specs.declared.fault.RecordFault.{RecordFault}
use Rattle.sheet.specs.declared.kind.Kind.{Kind}
use Rattle.sheet.specs.declared.record.Extent.{Extent}
use Rattle.sheet.specs.declared.fault.SheetFault.{SheetFault}
use Rattle.sheet.specs.Fault.{in_record, in_sheet, next}
use Rattle.sheet.specs.Number.{Bytes, number_bytes, Reading, read_number}
use Rattle.sheet.specs.Numbers.{listed, numbers_in, numbers_of}
use Rattle.sheet.specs.Body.{kind_of, kind_number, total, limit_at, is_full, whole_after, number_at, check_numbers}
use Rattle.sheet.specs.Record.{known, inside, read_head, read_record, body_of}
use Rattle.sheet.proofs.Bodies.{onward}
use Rattle.sheet.proofs.Heads.{next_ok, record_parts, taken, placed_ok}
use Rattle.sheet.proofs.Lists.{bytes_drop, taken_reads, taken_from}
use Rattle.sheet_write.specs.Writing.{flat, allowed, record_bytes}
use Rattle.sheet_write.specs.Laws.{WritesBack}
use Rattle.sheet_write.proofs.Accepts.{Accepted, accepted_from, known_kind, kind_is, kind_back}
use Rattle.sheet_write.proofs.Counts.{Counted, right_from_counted}
use Rattle.sheet_write.proofs.Readbacks.{limit_low}

-- the other way that led to an answer
pub passed : {A E : Type 0} (b : Bool) (f : E) (r : Result A E) (x : A) → cond b (Err f) r ≡ Ok x → (b ≡ false) × (r ≡ Ok x)
passed true f r x e = let z : ◌≡◌ {A = ℕ} 0 1 = cc in absurd (omega arith)
passed false f r x e = (refl, e)

-- numbers that make up bytes, each counted and allowed
pub record MadeOf (kind : Kind) (n j whole : ℕ) (bytes xs : List ℕ) : Type 0 where
  pub flat_is : flat xs ≡ bytes
  pub counted : Counted kind n j whole xs
  pub limits : allowed kind n j xs ≡ true

module _ (kind : Kind) (n start count : ℕ) where
  pub body_back : (turns j whole byte : ℕ) (bytes : List ℕ) → Bytes bytes → length bytes ≤ turns → check_numbers kind n start count turns j whole byte bytes ≡ Ok tt → MadeOf kind n j whole bytes (numbers_in turns bytes)
  body_back turns j whole byte [] fit room h = record { flat_is = refl; counted = leb-true whole j (taken (leb whole j) _ _ tt h).0; limits = refl }
  body_back zero j whole byte (b ∷ bs) fit room h = absurd (omega arith)
  body_back (suc turns) j whole byte (b ∷ bs) fit room h =
      let bytes : List ℕ = b ∷ bs in
      let free = passed (is_full kind j whole) _ _ tt h in
      let found = next_ok (in_record (number_at (limit_at kind n j) bytes byte count)) (onward kind n start count turns j whole byte bytes) tt free.1 in
      let v = found.0.0 in
      let s = found.0.1 in
      let read = placed_ok byte count (read_number (limit_at kind n j) bytes) (v, s) found.1 in
      let t = taken_from (limit_at kind n j) bytes v s fit read in
      let high = taken_reads (limit_at kind n j) 65535 bytes v s t (limit_low kind n j) (omega arith) in
      let is : numbers_in (suc turns) bytes ≡ v ∷ numbers_in turns (drop s bytes) = ap (λ (r : Reading). listed r (λ p. p.0 ∷ numbers_in turns (drop p.1 bytes))) high in
      let rest = body_back turns (j + 1) (whole_after kind n j v whole) (byte + s) (drop s bytes) (bytes_drop s bytes fit) (omega (arith, length-drop s bytes, t.some)) found.2 in
      subst (MadeOf kind n j whole bytes) (sym is) (record {
        flat_is = (λ i. sym t.shortest i ++ rest.flat_is i) ∙ take-append-drop s bytes;
        counted = (free.0, rest.counted);
        limits = and_from (leb v (limit_at kind n j)) _ (le-leb v (limit_at kind n j) t.allowed) rest.limits;
      })

-- the parts of a head that was read
record Head (bytes : List ℕ) (e : Extent) : Type 0 where
  k : ℕ
  k_size : ℕ
  size : ℕ
  size_size : ℕ
  kind_read : read_number 65535 bytes ≡ Ok (k, k_size)
  is_kind : kind_of k ≡ Some e.kind
  size_read : read_number 65520 (drop k_size bytes) ≡ Ok (size, size_size)
  begins : e.from ≡ k_size + size_size
  ends : e.to ≡ k_size + size_size + size
  in_bytes : e.to ≤ length bytes

head_parts : (bytes : List ℕ) (start count : ℕ) (e : Extent) → read_head bytes start count ≡ Ok e → Head bytes e
head_parts bytes start count e h =
    let one = next_ok (in_record (number_at 65535 bytes start count)) (λ k. next (known start count (kind_of k.0)) (λ kind. next (in_record (number_at 65520 (drop k.1 bytes) (start + k.1) count)) (λ l. inside start count kind (k.1 + l.1) (k.1 + l.1 + l.0) bytes))) e h in
    let k = one.0 in
    let two = next_ok (known start count (kind_of k.0)) (λ kind. next (in_record (number_at 65520 (drop k.1 bytes) (start + k.1) count)) (λ l. inside start count kind (k.1 + l.1) (k.1 + l.1 + l.0) bytes)) e one.2 in
    let three = next_ok (in_record (number_at 65520 (drop k.1 bytes) (start + k.1) count)) (λ l. inside start count two.0 (k.1 + l.1) (k.1 + l.1 + l.0) bytes) e two.2 in
    let l = three.0 in
    let four = taken (leb (k.1 + l.1 + l.0) (length bytes)) (Ok (record { kind = two.0; from = k.1 + l.1; to = k.1 + l.1 + l.0 })) _ e three.2 in
    let same : record { kind = two.0; from = k.1 + l.1; to = k.1 + l.1 + l.0 } ≡ e = cc four.1 in
    record {
      k = k.0;
      k_size = k.1;
      size = l.0;
      size_size = l.1;
      kind_read = placed_ok start count (read_number 65535 bytes) k one.1;
      is_kind = known_kind start count (kind_of k.0) two.0 two.1 ∙ ap (λ (x : Extent). Some x.kind) same;
      size_read = placed_ok (start + k.1) count (read_number 65520 (drop k.1 bytes)) l three.1;
      begins = sym (ap (λ (x : Extent). x.from) same);
      ends = sym (ap (λ (x : Extent). x.to) same);
      in_bytes = omega (arith, leb-true _ _ four.0, ap (λ (x : Extent). x.to) same);
    }

-- a list cut in three
two_cuts : (a b : ℕ) (xs : List ℕ) → take (a + b) xs ≡ take a xs ++ take b (drop a xs)
two_cuts a b xs = sym (take-append-drop a (take (a + b) xs)) ∙ (λ i. take-take a (a + b) xs (omega arith) i ++ drop-take a b xs i)

three_cuts : (a b d : ℕ) (xs : List ℕ) → take (a + b + d) xs ≡ take a xs ++ (take b (drop a xs) ++ take d (drop (a + b) xs))
three_cuts a b d xs = two_cuts (a + b) d xs ∙ ap (λ ts. ts ++ take d (drop (a + b) xs)) (two_cuts a b xs) ∙ append_assoc (take a xs) (take b (drop a xs)) (take d (drop (a + b) xs))

pub bytes_take : (k : ℕ) (bs : List ℕ) → Bytes bs → Bytes (take k bs)
bytes_take zero bs fit i = omega arith
bytes_take (suc k) [] fit i = omega arith
bytes_take (suc k) (b ∷ bs) fit zero = fit 0
bytes_take (suc k) (b ∷ bs) fit (suc i) = bytes_take k bs (λ j. fit (suc j)) i

-- a record that was read is written to the same bytes
pub record_writes_back : (n : ℕ) (bytes : List ℕ) (start count : ℕ) (e : Extent) → Bytes bytes → read_record n bytes start count ≡ Ok e → WritesBack n bytes e
record_writes_back n bytes start count e fit h low high =
    let parts = record_parts n bytes start count e h in
    let head = head_parts bytes start count e parts.0 in
    let body = body_of bytes e in
    let xs = numbers_of body in
    let kind = e.kind in
    let size = head.size in
    let two = head.k_size + head.size_size in
    let width : e.to - e.from ≡ size = omega (arith, head.begins, head.ends) in
    let body_is : body ≡ take size (drop two bytes) = (λ i. take (width i) (drop (head.begins i) bytes)) in
    let long : length body ≡ size = ap length body_is ∙ length-take-le size (drop two bytes) (omega (arith, length-drop two bytes, head.ends, head.in_bytes)) in
    let made = body_back kind n start count (length body) 0 (total kind n 0) (start + e.from) body (bytes_take (e.to - e.from) (drop e.from bytes) (bytes_drop e.from bytes fit)) (omega arith) parts.1 in
    let k-taken = taken_from 65535 bytes head.k head.k_size fit head.kind_read in
    let size-taken = taken_from 65520 (drop head.k_size bytes) size head.size_size (bytes_drop head.k_size bytes fit) head.size_read in
    let accept : Accepted n (kind_number kind) xs size = record {
      kind = kind;
      is_kind = kind_back kind;
      low = low;
      high = high;
      right = right_from_counted kind n xs made.counted;
      limits = made.limits;
      is = sym long ∙ sym (ap length made.flat_is);
      short = size-taken.allowed;
    } in
    let kinds : number_bytes (kind_number kind) ≡ take head.k_size bytes = ap number_bytes (sym (kind_is head.k kind head.is_kind)) ∙ sym k-taken.shortest in
    let whole : record_bytes (kind_number kind) size xs ≡ take e.to bytes =
    (λ i. kinds i ++ (sym size-taken.shortest i ++ (made.flat_is ∙ body_is) i))
    ∙ sym (three_cuts head.k_size head.size_size size bytes)
    ∙ ap (λ t. take t bytes) (sym head.ends) in
    ap (λ (r : Result ℕ RecordFault). next r (λ s. Ok (record_bytes (kind_number kind) s xs))) (accepted_from n (kind_number kind) xs size accept) ∙ ap Ok whole

-- the same of what a call answered
front_ok : (r : Result Extent RecordFault) (e : Extent) → Ok e ≡ in_sheet r → r ≡ Ok e
front_ok (Ok x) e h = cc
front_ok (Err f) e h = let z : ◌≡◌ {A = ℕ} 0 1 = cc in absurd (omega arith)

pub front_writes_back : (n : ℕ) (bytes : List ℕ) (r : Result Extent SheetFault) → Bytes bytes → r ≡ in_sheet (read_record n bytes 0 1) → made r (λ e. WritesBack n bytes e)
front_writes_back n bytes (Ok e) fit h = record_writes_back n bytes 0 1 e fit (front_ok (read_record n bytes 0 1) e h)
front_writes_back n bytes (Err f) fit h = tt
