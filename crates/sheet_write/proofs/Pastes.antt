-- Bytes put into an output from one place on. Assumes nothing.
use Rattle.std.proofs.Common.{◌≡◌, ℕ, ◌+◌, ◌≤◌, List, [], ◌++◌, length, take, drop, Ok, Result, sym, refl, ap, ◌∙◌, append_assoc, zero-add, arith, length-append}
use Rattle.std.proofs.lemmas.Bool.{le-leb, cond-true}
use lib.Seq.{paste}
use Rattle.std.proofs.lemmas.List.{take_all}
use Rattle.std.proofs.lemmas.List.Edits.{sets, sets-eq, paste-paste, length-paste}
use Rattle.sheet.specs.declared.fault.RecordFault.{RecordFault}
use Rattle.sheet.specs.Number.{number_bytes}
use Rattle.sheet.specs.Fault.{next}
use Rattle.sheet_write.specs.declared.writer.Writer.{Writer}
use Rattle.sheet_write.specs.Puts.{Puts}
use Rattle.sheet_write.specs.Writing.{flat, pasted, accepted, record_bytes, write_record, with_room}

pub pasted_sets : (bs : List ℕ) (at : ℕ) (out : List ℕ) → at + length bs ≤ length out → sets out at bs ≡ pasted at bs out
pasted_sets bs at out h = sets-eq bs out at h ∙ ap (λ ts. (take at out ++ ts) ++ drop (at + length bs) out) (sym (take_all (length bs) bs (omega arith)))

-- one piece after another
pub pasted_more : (xs bs out : List ℕ) (at : ℕ) → at ≤ length out → pasted (at + length xs) bs (pasted at xs out) ≡ pasted at (xs ++ bs) out
pasted_more xs bs out at h = paste-paste out at xs bs (length xs) (length bs) refl refl h ∙ ap (paste out at (xs ++ bs)) (sym (length-append xs bs))

pub pasted_front : (bs out : List ℕ) → pasted 0 bs out ≡ bs ++ drop (length bs) out
pasted_front bs out = (λ i. take_all (length bs) bs (omega arith) i ++ drop (zero-add (length bs) i) out)

pub pasted_length : (bs out : List ℕ) (at : ℕ) → at + length bs ≤ length out → length (pasted at bs out) ≡ length out
pasted_length bs out at h = length-paste out at bs (length bs) h (omega arith)

pub pasted_none : (at : ℕ) (out : List ℕ) → at ≤ length out → out ≡ pasted at [] out
pasted_none at out h = pasted_sets [] at out (omega arith)

-- a writer puts one piece after another
pub puts_more : (a b d : Writer) (xs ys : List ℕ) → Puts a b xs → Puts b d ys → a.at ≤ length a.out.now → Puts a d (xs ++ ys)
puts_more a b d xs ys p q h = record {
  at = omega (arith, p.at, q.at, length-append xs ys);
  out = q.out ∙ (λ i. pasted (p.at i) ys (p.out i)) ∙ pasted_more xs ys a.out.now a.at h;
  len = q.len ∙ p.len;
}

-- what it put from the front on
pub puts_front : (a b : Writer) (bs : List ℕ) → a.at ≡ 0 → Puts a b bs → (b.at ≡ length bs) × (b.out.now ≡ bs ++ drop (length bs) a.out.now)
puts_front a b bs e p = (omega (arith, p.at, e), p.out ∙ ap (λ at. pasted at bs a.out.now) e ∙ pasted_front bs a.out.now)

-- a record's kind, length and numbers
pub puts_record : (a b d e : Writer) (k size : ℕ) (xs : List ℕ) → a.at ≡ 0 → Puts a b (number_bytes k) → Puts b d (number_bytes size) → Puts d e (flat xs) → (e.at ≡ length (record_bytes k size xs)) × (e.out.now ≡ record_bytes k size xs ++ drop (length (record_bytes k size xs)) a.out.now)
puts_record a b d e k size xs front p q r =
    let two = puts_more a b d (number_bytes k) (number_bytes size) p q (omega arith) in
    let all = puts_front a e _ front (puts_more a d e (number_bytes k ++ number_bytes size) (flat xs) two r (omega arith)) in
    let is : (number_bytes k ++ number_bytes size) ++ flat xs ≡ record_bytes k size xs = append_assoc (number_bytes k) (number_bytes size) (flat xs) in
    (all.0 ∙ ap length is, all.1 ∙ ap (λ bs. bs ++ drop (length bs) a.out.now) is)

pub written_fits : (n k : ℕ) (xs out : List ℕ) (size : ℕ) → Ok size ≡ accepted n k xs → length (record_bytes k size xs) ≤ length out → next (write_record n k xs) (with_room out) ≡ Ok (record_bytes k size xs)
written_fits n k xs out size e h =
    ap (λ (r : Result ℕ RecordFault). next (next r (λ s. Ok (record_bytes k s xs))) (with_room out)) (sym e)
    ∙ cond-true _ _ _ (le-leb (length (record_bytes k size xs)) (length out) h)

pub written_is : (n k : ℕ) (xs : List ℕ) (size : ℕ) → Ok size ≡ accepted n k xs → write_record n k xs ≡ Ok (record_bytes k size xs)
written_is n k xs size e = ap (λ (r : Result ℕ RecordFault). next r (λ s. Ok (record_bytes k s xs))) (sym e)
